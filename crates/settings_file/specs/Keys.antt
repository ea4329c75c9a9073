-- The keys of a settings file, and the faults of keys.
use Rattle.std.specs.Prelude.{ℕ, List, codes, Result, Ok, Err}
use Rattle.settings_file.specs.declared.keys.Key.{Key}
use Rattle.settings_file.specs.declared.keys.Key.TheVariants as key
use Rattle.settings_file.specs.declared.keys.KeyFault.{KeyFault}

-- the key as it is written in a file
abbrev pub text_of : Key → List ℕ
text_of key.Id = codes "id"
text_of key.PeerId = codes "peer_id"
text_of key.Name = codes "name"
text_of key.PeerName = codes "peer_name"
text_of key.Protocol = codes "protocol"
text_of key.Version = codes "version"
text_of key.Versions = codes "versions"
text_of key.Code = codes "code"
text_of key.Checksum = codes "checksum"
text_of key.InitialValue = codes "iv"
text_of key.FirstSn = codes "first_sn"
text_of key.Local = codes "local"
text_of key.Remote = codes "remote"
text_of key.NSendmax = codes "n_sendmax"
text_of key.NMaxpacket = codes "n_maxpacket"
text_of key.Deferral = codes "q"
text_of key.TMax = codes "t_max"
text_of key.THeartbeat = codes "t_h"
text_of key.TSeq = codes "t_seq"
text_of key.Mwa = codes "mwa"
text_of key.PduLimit = codes "pdu_limit"
text_of key.Puts = codes "puts"

-- the second step, if the first has a value
infixl 10 ◌>>=◌
abbrev pub ◌>>=◌ : {A B : Type 0} → Result A KeyFault → (A → Result B KeyFault) → Result B KeyFault
Ok x >>= f = f x
Err e >>= f = Err e
