-- All faults of a settings file.
use Rattle.std.specs.Prelude.{ℕ, Bool, [], ◌∷◌, ◌+◌, ◌==◌, ◌++◌, nat_le, is_some, if◌then◌else◌, List, codes, length, map, string_bytes, Option, Some, None, Result, Ok, Err, option_and_then, option_map}
use Rattle.std.specs.Result.{result_err}
use Rattle.std.specs.Option.{option_map_or}
use Rattle.toml.specs.Data.{Data, table, Members, no_members, member, Items, no_items, item, get, as_array, as_str, as_table}
use Rattle.toml.specs.Parse.{parse_document}
use Rattle.end_settings.specs.declared.Side.{Side}
use Rattle.end_settings.specs.declared.Side.TheVariants as side
use Rattle.settings_file.specs.declared.Subcommand.{Subcommand}
use Rattle.settings_file.specs.declared.Subcommand.TheVariants as word
use Rattle.settings_file.specs.declared.keys.Key.{Key}
use Rattle.settings_file.specs.declared.keys.Key.TheVariants as key
use Rattle.settings_file.specs.declared.keys.KeyFault.{KeyFault}
use Rattle.settings_file.specs.declared.keys.ExpectedValue.TheVariants as expected
use Rattle.settings_file.specs.declared.keys.PresentValue.TheVariants as found
use Rattle.settings_file.specs.declared.keys.SettingsFault.{SettingsFault}
use Rattle.settings_file.specs.declared.keys.SettingsFault.TheVariants as fault
use Rattle.settings_file.specs.declared.all_faults.Finding.{Finding}
use Rattle.settings_file.specs.declared.all_faults.TheConstants.{TEXT_MOST}
use Rattle.settings_file.specs.Keys.{text_of, ◌>>=◌}
use Rattle.settings_file.specs.Readers.{addresses_at, checksum_at, code_at, first_number_at, initial_value_at, name_at, number_at, put_of, puts_at, versions_at}
use Rattle.settings_file.specs.Groups.{limit_at, other_than}
use Rattle.settings_file.specs.FileContents.{Wrong, as_many, at, is_end, is_known, no_document, no_table, unknown}

-- a finding as a plain value
pub record FindingSeen : Type 0 where
  -- the fault; none for want of memory
  pub wrong : Option Wrong
  -- the entry of a list that has it, from 1
  pub entry : Option ℕ
  -- the text that the file has there, if it is short
  pub text : Option (List ℕ)

-- a fault without entry and text
abbrev pub plain_finding : Wrong → FindingSeen
plain_finding w = record { wrong = Some w; entry = None; text = None }

-- a text, if it has at most 80 bytes
abbrev pub short_text : List ℕ → Option (List ℕ)
short_text t = if nat_le (length t) TEXT_MOST then Some t else None

-- the short text of a value
abbrev pub text_in : Data → Option (List ℕ)
text_in d = option_and_then short_text (as_str d)

-- the fault at `peer_id`: its own, or that it equals `id`, if `id` is valid
abbrev pub peer_fault : Data → Result ℕ KeyFault → Result ℕ KeyFault → Option KeyFault
peer_fault d (Ok id) (Ok peer) = result_err (other_than d id peer)
peer_fault d (Err f) (Ok peer) = None
peer_fault d r (Err f) = Some f

-- the fault at `t_h`, which must be below `t_max`, if `t_max` is valid
abbrev pub heartbeat_fault : Data → Result ℕ KeyFault → Option KeyFault
heartbeat_fault d (Ok t_max) = result_err (limit_at d t_max key.THeartbeat)
heartbeat_fault d (Err f) = None

-- the fault at a key that is not a list, independent of those at other keys
abbrev pub fault_at : Side → Data → Key → Option KeyFault
fault_at e d key.Id = result_err (number_at d key.Id 0 4294967295 None)
fault_at e d key.PeerId = peer_fault d (number_at d key.Id 0 4294967295 None) (number_at d key.PeerId 0 4294967295 None)
fault_at e d key.Name = result_err (name_at d key.Name)
fault_at e d key.PeerName = result_err (name_at d key.PeerName)
fault_at e d key.Protocol = result_err (number_at d key.Protocol 0 255 (Some 1))
fault_at e d key.Versions = result_err (versions_at e d)
fault_at e d key.Code = result_err (code_at d key.Code)
fault_at e d key.Checksum = result_err (checksum_at d key.Checksum)
fault_at e d key.InitialValue = result_err (initial_value_at d key.InitialValue)
fault_at e d key.FirstSn = result_err (first_number_at d key.FirstSn)
fault_at e d key.THeartbeat = heartbeat_fault d (limit_at d 0 key.TMax)
fault_at e d k = result_err (limit_at d 0 k)

-- the keys that are not lists, in the order in which they are read; `versions` is also for `version`
abbrev pub plain_keys : List Key
plain_keys = key.Id ∷ key.PeerId ∷ key.Name ∷ key.PeerName ∷ key.Protocol ∷ key.Versions ∷ key.Code ∷ key.Checksum ∷
    key.InitialValue ∷ key.FirstSn
    ∷ key.NSendmax ∷ key.NMaxpacket ∷ key.Deferral ∷ key.TMax ∷ key.THeartbeat ∷ key.TSeq ∷ key.Mwa ∷ key.PduLimit ∷ []

-- a fault at a key, with the short text at that key
abbrev pub at_its_key : Option Side → Data → KeyFault → FindingSeen
at_its_key named d f =
    record { wrong = Some (at named f); entry = None; text = option_and_then text_in (get (text_of f.key) d) }

-- a list of one finding, or of none
abbrev pub if_any : {A : Type 0} → (A → FindingSeen) → Option A → List FindingSeen
if_any tell None = []
if_any tell (Some x) = tell x ∷ []

-- the faults at these keys, in order
abbrev pub faults_at : Side → Option Side → Data → List Key → List FindingSeen
faults_at e named d [] = []
faults_at e named d (k ∷ ks) = if_any (at_its_key named d) (fault_at e d k) ++ faults_at e named d ks

-- the remote addresses, which must be as many as valid local ones
abbrev pub remote_of : Data → Result (List (List ℕ)) KeyFault → Result (List (List ℕ)) KeyFault
    → Result (List (List ℕ)) KeyFault
remote_of d (Ok local) (Ok remote) = as_many local remote
remote_of d (Err f) r = r
remote_of d (Ok local) (Err f) = Err f

-- the faults of `local` and `remote`
abbrev pub address_faults : Option Side → Data → List FindingSeen
address_faults named d = if_any (at_its_key named d) (result_err (addresses_at d key.Local))
    ++ if_any (at_its_key named d) (result_err (remote_of d (addresses_at d key.Local) (addresses_at d key.Remote)))

-- the value is a text that spells a telegram
abbrev pub is_put : Data → Bool
is_put d = is_some (option_and_then put_of (as_str d))

-- an entry of `puts` that is not a telegram, with its number and short text
abbrev pub at_entry : Option Side → ℕ → Data → FindingSeen
at_entry named place d =
    record {
      wrong = Some (at named (record { key = key.Puts; expected = expected.Put; found = found.Other }));
      entry = Some place;
      text = text_in d;
    }

-- the entries that are not telegrams, numbered from `place`
abbrev pub entry_faults : Option Side → ℕ → Items → List FindingSeen
entry_faults named place no_items = []
entry_faults named place (item d ds) =
    (if is_put d then [] else at_entry named place d ∷ []) ++ entry_faults named (place + 1) ds

-- the faults of `puts`: its entries that are not telegrams, or that it is not a list
abbrev pub put_faults : Option Side → Data → List FindingSeen
put_faults named d =
    option_map_or (λ v. option_map_or (entry_faults named 1) (as_array v)
    (if_any (at_its_key named d) (result_err (puts_at d key.Puts)))) (get (text_of key.Puts) d) []

-- the keys of a table that are not known, in order
abbrev pub unknown_in : (List ℕ → Bool) → Option Side → Members → List FindingSeen
unknown_in knows named no_members = []
unknown_in knows named (member k d ms) =
    (if knows k then [] else plain_finding (unknown named k) ∷ []) ++ unknown_in knows named ms

-- the faults of the table of an end
abbrev pub table_findings : Side → Option Side → Data → Members → List FindingSeen
table_findings e named d ms =
    unknown_in is_known named ms ++ faults_at e named d plain_keys ++ address_faults named d ++ put_faults named d

-- the faults of a value that must be the table of an end
abbrev pub end_findings : Side → Option Side → Data → List FindingSeen
end_findings e named d = option_map_or (table_findings e named d) (as_table d) (plain_finding (no_table e) ∷ [])

-- the table of an end in a file for both ends
abbrev pub name_of : Side → List ℕ
name_of side.Interlocking = codes "il"
name_of side.FieldElement = codes "fe"

-- the faults of that table, or that it is missing
abbrev pub required_table_findings : Side → Data → List FindingSeen
required_table_findings e d =
    option_map_or (end_findings e (Some e)) (get (name_of e) d) (plain_finding (no_table e) ∷ [])

-- the faults of a file for both ends
abbrev pub pair_findings : Members → List FindingSeen
pair_findings ms =
    unknown_in is_end None ms ++ required_table_findings side.Interlocking (table ms)
    ++ required_table_findings side.FieldElement (table ms)

-- the faults of a file's table for the ends of a word
abbrev pub members_findings : Subcommand → Members → List FindingSeen
members_findings word.Il ms = end_findings side.Interlocking None (table ms)
members_findings word.Fe ms = end_findings side.FieldElement None (table ms)
members_findings word.Pair ms = pair_findings ms

-- all faults of a text for the ends of a word; of one that is not TOML only that
abbrev pub findings_of : Subcommand → List ℕ → List FindingSeen
findings_of w text = option_map_or (members_findings w) (parse_document text) (plain_finding no_document ∷ [])

-- the fault of a finding as a plain value, without the line
abbrev pub wrong_seen : SettingsFault → Option Wrong
wrong_seen (fault.Document line) = Some no_document
wrong_seen (fault.NoTable e) = Some (no_table e)
wrong_seen (fault.Unknown named k) = Some (unknown named (string_bytes k))
wrong_seen (fault.Key named f) = Some (at named f)
wrong_seen (fault.Memory e) = None

-- a finding as a plain value
abbrev pub finding_seen : Finding → FindingSeen
finding_seen f = record { wrong = wrong_seen f.fault; entry = f.entry; text = option_map string_bytes f.text }
