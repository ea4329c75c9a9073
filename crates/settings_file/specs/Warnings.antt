-- Valid settings with which an end works badly or not at all.
use Rattle.std.specs.Prelude.{ℕ, Bool, true, false, List, [], ◌∷◌, ◌+◌, ◌-◌, ◌*◌, ◌/◌, ◌==◌, ◌&&◌, ◌++◌, Option, Some, None, bytes_eq, nat_le, nat_lt, not, length, slice_index, if◌then◌else◌}
use Rattle.octets.specs.declared.limits.TheConstants.{PAYLOAD_MAX}
use Rattle.end_settings.specs.declared.Side.{Side}
use Rattle.end_settings.specs.declared.Side.TheVariants as side
use Rattle.end_settings.specs.EndSettings.{EndSettings}
use Rattle.settings_file.specs.declared.keys.Key.{Key}
use Rattle.settings_file.specs.declared.keys.Key.TheVariants as key
use Rattle.settings_file.specs.declared.mistakes.Warning.{Warning}
use Rattle.settings_file.specs.declared.mistakes.Warning.TheVariants as warning
use Rattle.settings_file.specs.FileContents.{SettingsSeen}

-- a list of the warning, if the condition holds
abbrev pub if_so : Bool → Warning → List Warning
if_so b w = if b then w ∷ [] else []

-- the address ends in port 0, to which nothing can be sent
abbrev pub names_no_port : List ℕ → Bool
names_no_port t = nat_le 2 (length t) && slice_index t (length t - 2) == 58 && slice_index t (length t - 1) == 48

-- a warning for each address with port 0, numbered from `n`
abbrev pub port_warnings : Key → ℕ → List (List ℕ) → List Warning
port_warnings k n [] = []
port_warnings k n (t ∷ ts) = if_so (names_no_port t) (warning.NoPort k n) ++ port_warnings k (n + 1) ts

-- the text is in the list
abbrev pub contains_text : List ℕ → List (List ℕ) → Bool
contains_text t [] = false
contains_text t (u ∷ us) = if bytes_eq t u then true else contains_text t us

-- a warning for each address that is in the list again, numbered from `n`
abbrev pub repeat_warnings : Key → ℕ → List (List ℕ) → List Warning
repeat_warnings k n [] = []
repeat_warnings k n (t ∷ ts) = if_so (contains_text t ts) (warning.Repeated k n) ++ repeat_warnings k (n + 1) ts

-- the address begins with a bracket, so it is of IPv6
abbrev pub is_v6 : List ℕ → Bool
is_v6 t = nat_lt 0 (length t) && slice_index t 0 == 91

-- one address is of IPv6 and one is not
abbrev pub are_two_kinds : (t u : List ℕ) → Bool
are_two_kinds t u = if is_v6 t then not (is_v6 u) else is_v6 u

-- warnings of channels, numbered from `n`: both addresses are equal, or of two kinds, with that of the peer
abbrev pub channel_warnings : ℕ → List (List ℕ) → List (List ℕ) → List Warning
channel_warnings n [] us = []
channel_warnings n (t ∷ ts) (u ∷ us) =
    if_so (bytes_eq t u) (warning.ToItself n) ++ if_so (are_two_kinds t u) (warning.TwoKinds n (is_v6 u))
    ++ channel_warnings (n + 1) ts us
channel_warnings n (t ∷ ts) [] = []

-- the warnings of all addresses
abbrev pub address_warnings : (local remote : List (List ℕ)) → List Warning
address_warnings local remote =
    port_warnings key.Local 1 local ++ port_warnings key.Remote 1 remote ++ repeat_warnings key.Local 1 local
    ++ repeat_warnings key.Remote 1 remote ++ channel_warnings 1 local remote

-- how many heartbeats confirm the units of a full window
abbrev pub heartbeats_of : (window mwa : ℕ) → ℕ
heartbeats_of window mwa = if mwa == 0 then 0 else window / mwa

-- what can come after one lost datagram, the other units of a window and the heartbeats that confirm units, is more
-- than `q`
abbrev pub exceeds_q : (window mwa q : ℕ) → Bool
exceeds_q window mwa q = nat_lt q ((window - 1) + heartbeats_of window mwa)

-- T_max is below three T_h and T_seq, so a single loss can end the connection
abbrev pub is_t_max_short : (t_max t_h t_seq : ℕ) → Bool
is_t_max_short t_max t_h t_seq = nat_lt t_max (t_h * 3 + t_seq)

-- T_seq at or above T_max: a deferred part is too old. `mwa` at or above the window: the peer waits for a heartbeat.
-- Then the window for `q`, and T_max.
abbrev pub limit_warnings : (t_seq t_max t_h mwa n_sendmax q : ℕ) → List Warning
limit_warnings t_seq t_max t_h mwa n_sendmax q =
    if_so (nat_le t_max t_seq) (warning.LongWait t_seq t_max) ++ if_so (nat_le n_sendmax mwa)
    (warning.RareConfirmation mwa n_sendmax)
    ++ if_so (exceeds_q n_sendmax mwa q) (warning.WideWindow n_sendmax mwa q) ++ if_so (is_t_max_short t_max t_h t_seq)
    (warning.ShortAge t_max t_h t_seq)

-- an interlocking has a checksum, which only a field element sends
abbrev pub is_unsent : Side → List ℕ → Bool
is_unsent side.Interlocking checksum = nat_lt 0 (length checksum)
is_unsent side.FieldElement checksum = false

-- the first sequence number is fixed, and each reopening draws another
abbrev pub number_warnings : Bool → Option ℕ → List Warning
number_warnings keep None = []
number_warnings keep (Some n) = if_so keep (warning.FixedNumber n)

-- equal names, a checksum that is never sent, and a fixed first sequence number of an end that is reopened
abbrev pub identity_warnings : Side → Bool → (own peer checksum : List ℕ) → Option ℕ → List Warning
identity_warnings e keep own peer checksum first_sn =
    if_so (bytes_eq own peer) warning.SameName ++ if_so (is_unsent e checksum) warning.UnsentChecksum
    ++ number_warnings keep first_sn

-- a warning for each telegram whose payload is longer than that of a message, numbered from `n`
abbrev pub long_payloads : ℕ → List (ℕ × List ℕ) → List Warning
long_payloads n [] = []
long_payloads n (p ∷ ps) =
    if_so (nat_lt PAYLOAD_MAX (length p.1)) (warning.LongPayload n (length p.1)) ++ long_payloads (n + 1) ps

-- all warnings for an end of this side, which is reopened after a loss if the flag is true
abbrev pub warnings_of : Side → Bool → SettingsSeen → List Warning
warnings_of e keep s =
    limit_warnings s.config.t_seq s.config.connection.t_max s.config.connection.t_h s.config.connection.mwa
    s.config.connection.n_sendmax s.config.q
    ++ identity_warnings e keep s.config.addressing.own s.config.addressing.peer s.config.checksum s.first_sn
    ++ address_warnings s.local s.remote ++ long_payloads 1 s.puts
