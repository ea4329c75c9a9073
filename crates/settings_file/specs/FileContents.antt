-- The content of a whole settings file.
use Rattle.std.specs.Prelude.{ℕ, ◌+◌, true, ◌==◌, ◌≡◌, ◌⊎◌, ◌||◌, is_ok, is_some, MatchOption, Bool, if◌then◌else◌, List, codes, count_by, length, map, take, string_bytes, bytes_eq, Option, Some, None, Result, Ok, Err}
use Rattle.std.specs.Bool.{⊤}
use Rattle.std.specs.Option.{option_map_or}
use Rattle.toml.specs.Data.{Data, table, Members, no_members, member, get, as_table}
use Rattle.toml.specs.Parse.{parse_document}
use Rattle.settings_file.specs.declared.keys.Key.TheVariants as key
use Rattle.end_settings.specs.declared.Side.{Side}
use Rattle.end_settings.specs.declared.Side.TheVariants as side
use Rattle.settings_file.specs.declared.keys.KeyFault.{KeyFault}
use Rattle.settings_file.specs.declared.keys.ExpectedValue.TheVariants as expected
use Rattle.settings_file.specs.declared.values.Limits.{Limits}
use Rattle.settings_file.specs.declared.values.Settings.{Settings}
use Rattle.settings_file.specs.declared.values.Ends.{Ends}
use Rattle.settings_file.specs.declared.values.Ends.TheVariants as ends
use Rattle.settings_file.specs.declared.Subcommand.{Subcommand}
use Rattle.settings_file.specs.declared.Subcommand.TheVariants as word
use Rattle.settings_file.specs.declared.keys.PresentValue.TheVariants as found
use Rattle.end_settings.specs.EndSettings.{EndSettings}
use Rattle.end_settings.specs.ConfigValue.{settings_of, code_of}
use Rattle.settings_file.specs.declared.keys.SettingsFault.{SettingsFault}
use Rattle.settings_file.specs.declared.keys.SettingsFault.TheVariants as fault
use Rattle.settings_file.specs.declared.keys.ReadFault.{ReadFault}
use Rattle.settings_file.specs.declared.keys.ReadFault.TheVariants as read_fault
use Rattle.settings_file.specs.Keys.{◌>>=◌}
use Rattle.settings_file.specs.Readers.{addresses_at, puts_at}
use Rattle.settings_file.specs.Groups.{IdentitySeen, BeginningSeen, identity_of, beginning_of, limits_of, put_seen}

-- the settings of an end, as plain values
pub record SettingsSeen : Type 0 where
  -- the settings with which it is opened
  pub config : EndSettings
  -- none if one is drawn at random for each opening
  pub first_sn : Option ℕ
  -- its own addresses
  pub local : List (List ℕ)
  -- the addresses of the peer
  pub remote : List (List ℕ)
  -- the telegrams that it is to put
  pub puts : List (ℕ × List ℕ)

-- settings as plain values
abbrev pub settings_seen : Settings → SettingsSeen
settings_seen s =
    record {
      config = settings_of s.config;
      first_sn = s.first_sn;
      local = map string_bytes s.local.items;
      remote = map string_bytes s.remote.items;
      puts = map put_seen s.puts.items;
    }

-- the settings with which an end is opened, and the number of its channels
abbrev pub config_of : IdentitySeen → BeginningSeen → Limits → ℕ → EndSettings
config_of i b l channels =
    record {
      connection = record {
        client = true;
        own = i.id;
        peer = i.peer_id;
        n_sendmax = l.n_sendmax;
        t_max = l.t_max;
        t_h = l.t_heartbeat;
        mwa = l.mwa;
        pdu_limit = l.pdu_limit;
        rule = record { length = code_of b.code; initial_value = b.initial_value };
      };
      addressing = record { protocol = i.protocol; own = i.name; peer = i.peer_name };
      versions = b.versions;
      checksum = b.checksum;
      channels = channels;
      n_maxpacket = l.n_maxpacket;
      q = l.deferral;
      t_seq = l.t_seq;
    }

-- the remote addresses, if there are as many as local ones
abbrev pub as_many : List (List ℕ) → List (List ℕ) → Result (List (List ℕ)) KeyFault
as_many local remote =
    if length local == length remote then Ok remote
    else Err (record { key = key.Remote; expected = expected.Addresses; found = found.Other })

-- the settings in a table whose keys are known, or the first fault
abbrev pub end_of : Side → Data → Result SettingsSeen KeyFault
end_of e d = do
  identity ← identity_of d
  beginning ← beginning_of e d
  limits ← limits_of d
  local ← addresses_at d key.Local
  others ← addresses_at d key.Remote
  remote ← as_many local others
  puts ← puts_at d key.Puts
  Ok (record {
    config = config_of identity beginning limits (length local);
    first_sn = beginning.first_sn;
    local = local;
    remote = remote;
    puts = puts;
  })

-- a fault of a file
pub data Wrong : Type 0 where
  -- it is not TOML
  no_document : Wrong
  -- the table of an end is missing
  no_table : Side → Wrong
  -- a key is unknown
  unknown : Option Side → List ℕ → Wrong
  -- the value of a key is not the one it expects
  at : Option Side → KeyFault → Wrong

-- the keys of the identity of an end
abbrev pub names_identity : List ℕ → Bool
names_identity t = bytes_eq t (codes "id") || bytes_eq t (codes "peer_id") || bytes_eq t (codes "name")
    || bytes_eq t (codes "peer_name") || bytes_eq t (codes "protocol")

-- the keys of the values that an end uses to connect
abbrev pub names_beginning : List ℕ → Bool
names_beginning t = bytes_eq t (codes "version") || bytes_eq t (codes "versions") || bytes_eq t (codes "code")
    || bytes_eq t (codes "checksum") || bytes_eq t (codes "iv") || bytes_eq t (codes "first_sn")

-- the keys of limits
abbrev pub names_limit : List ℕ → Bool
names_limit t = bytes_eq t (codes "n_sendmax") || bytes_eq t (codes "n_maxpacket") || bytes_eq t (codes "q")
    || bytes_eq t (codes "t_max") || bytes_eq t (codes "t_h") || bytes_eq t (codes "t_seq") || bytes_eq t (codes "mwa")
    || bytes_eq t (codes "pdu_limit")

-- the keys of lists
abbrev pub names_list : List ℕ → Bool
names_list t = bytes_eq t (codes "local") || bytes_eq t (codes "remote") || bytes_eq t (codes "puts")

-- the keys that an end has
abbrev pub is_known : List ℕ → Bool
is_known t = names_identity t || names_beginning t || names_limit t || names_list t

-- the first key that no end has
abbrev pub first_unknown : Members → Option (List ℕ)
first_unknown no_members = None
first_unknown (member k d ms) = if is_known k then first_unknown ms else Some k

-- the groups before addresses and telegrams, which need no memory
abbrev pub front_of : Side → Data → Result Limits KeyFault
front_of e d = do
  identity ← identity_of d
  beginning ← beginning_of e d
  limits_of d

-- memory is refused only if these groups are valid
abbrev pub MemoryInEnd : Side → Data → ReadFault → Type 0
MemoryInEnd e d (read_fault.Memory refused) = is_ok (front_of e d) ≡ true
MemoryInEnd e d (read_fault.Key f) = Unit {0}

-- memory is refused only for the text of an unknown key, or if these groups are valid
abbrev pub MemoryInTable : Side → Data → SettingsFault → Type 0
MemoryInTable e d (fault.Memory refused) =
    MatchOption (as_table d) ⊥ (λ ms. (is_some (first_unknown ms) ≡ true) ⊎ (is_ok (front_of e d) ≡ true))
MemoryInTable e d _ = Unit {0}

-- the result of a table, its fault named with the table
abbrev pub with_table : {A : Type 0} → Option Side → Result A KeyFault → Result A Wrong
with_table named (Ok x) = Ok x
with_table named (Err f) = Err (at named f)

-- the settings in a table, all of whose keys must be known
abbrev pub known_settings : Side → Option Side → Data → Members → Result SettingsSeen Wrong
known_settings e named d ms =
    option_map_or (λ k. Err (unknown named k)) (first_unknown ms) (with_table named (end_of e d))

-- the settings in a value, which must be a table
abbrev pub end_settings : Side → Option Side → Data → Result SettingsSeen Wrong
end_settings e named d = option_map_or (known_settings e named d) (as_table d) (Err (no_table e))

-- the settings in a file for one end
abbrev pub file_settings : Side → List ℕ → Result SettingsSeen Wrong
file_settings e text = option_map_or (λ ms. end_settings e None (table ms)) (parse_document text) (Err no_document)

-- the tables that a file for both ends has
abbrev pub is_end : List ℕ → Bool
is_end t = bytes_eq t (codes "il") || bytes_eq t (codes "fe")

-- the first key of a file for both ends that is not one of them
abbrev pub first_strange : Members → Option (List ℕ)
first_strange no_members = None
first_strange (member k d ms) = if is_end k then first_strange ms else Some k

-- the settings in table `il`
abbrev pub il_settings : Data → Result SettingsSeen Wrong
il_settings d = option_map_or (end_settings side.Interlocking (Some side.Interlocking)) (get (codes "il") d)
    (Err (no_table side.Interlocking))

-- the settings in table `fe`
abbrev pub fe_settings : Data → Result SettingsSeen Wrong
fe_settings d = option_map_or (end_settings side.FieldElement (Some side.FieldElement)) (get (codes "fe") d)
    (Err (no_table side.FieldElement))

-- both results, or the first fault
abbrev pub both_or_fault : Result SettingsSeen Wrong → Result SettingsSeen Wrong
    → Result (SettingsSeen × SettingsSeen) Wrong
both_or_fault (Ok x) (Ok y) = Ok (x, y)
both_or_fault (Ok x) (Err e) = Err e
both_or_fault (Err e) r = Err e

-- the settings in both tables, beside which nothing may be
abbrev pub tables_settings : Members → Result (SettingsSeen × SettingsSeen) Wrong
tables_settings ms = option_map_or (λ k. Err (unknown None k)) (first_strange ms)
    (both_or_fault (il_settings (table ms)) (fe_settings (table ms)))

-- the settings in a file for both ends
abbrev pub pair_settings : List ℕ → Result (SettingsSeen × SettingsSeen) Wrong
pair_settings text = option_map_or tables_settings (parse_document text) (Err no_document)

-- the content of a file for the ends of a word, as plain values
pub data EndsSeen : Type 0 where
  -- of an interlocking
  il_seen : SettingsSeen → EndsSeen
  -- of a field element
  fe_seen : SettingsSeen → EndsSeen
  -- of both
  pair_seen : SettingsSeen → SettingsSeen → EndsSeen

-- settings of the ends of a word, as plain values
abbrev pub ends_seen : Ends → EndsSeen
ends_seen (ends.Il s) = il_seen (settings_seen s)
ends_seen (ends.Fe s) = fe_seen (settings_seen s)
ends_seen (ends.Pair s t) = pair_seen (settings_seen s) (settings_seen t)

-- the result, its value seen through `f`
abbrev pub read_all : {A B : Type 0} → (A → B) → Result A Wrong → Result B Wrong
read_all f (Ok x) = Ok (f x)
read_all f (Err e) = Err e

-- the content of a text for the ends of a word, or the first fault
abbrev pub ends_of : Subcommand → List ℕ → Result EndsSeen Wrong
ends_of word.Il text = read_all il_seen (file_settings side.Interlocking text)
ends_of word.Fe text = read_all fe_seen (file_settings side.FieldElement text)
ends_of word.Pair text = read_all (λ both_or_fault. pair_seen both_or_fault.0 both_or_fault.1) (pair_settings text)

-- the fault is that of the result; its line is not compared. Of want of memory nothing is claimed, since parsing any
-- text takes some.
abbrev pub IsWrong : {A : Type 0} → Result A Wrong → SettingsFault → Type 0
IsWrong r (fault.Document line) = r ≡ Err no_document
IsWrong r (fault.NoTable e) = r ≡ Err (no_table e)
IsWrong r (fault.Unknown named k) = r ≡ Err (unknown named (string_bytes k))
IsWrong r (fault.Key named f) = r ≡ Err (at named f)
IsWrong r (fault.Memory e) = ⊤

-- the text is not TOML, or memory was refused
abbrev pub IsNoDocument : List ℕ → SettingsFault → Type 0
IsNoDocument text (fault.Document line) = parse_document text ≡ None
IsNoDocument text (fault.Memory e) = ⊤
IsNoDocument text _ = ⊥

-- the fault is that this key is unknown in this table, or want of memory
abbrev pub MakesUnknown : SettingsFault → Option Side → List ℕ → Type 0
MakesUnknown (fault.Unknown n k) named t = (n ≡ named) × (string_bytes k ≡ t)
MakesUnknown (fault.Memory e) named t = ⊤
MakesUnknown _ named t = ⊥

-- the line, from 1, of a byte of the text: 1 plus the number of line feeds before it
abbrev pub line_at : ℕ → List ℕ → ℕ
line_at place text = 1 + count_by (λ o. o == 10) (take place text)

-- the word that a file is for: both ends if it has the table of one, a field element if it has what only that has, and
-- else an interlocking
abbrev pub word_in : Data → Subcommand
word_in d =
    if is_some (get (codes "il") d) || is_some (get (codes "fe") d) then word.Pair
    else if is_some (get (codes "versions") d) || is_some (get (codes "checksum") d) then word.Fe
    else word.Il

-- the same, of the keys of a table
abbrev pub word_of_members : Members → Subcommand
word_of_members ms = word_in (table ms)
