-- The grammar of a telegram: its five fields, one after the other.
use Rattle.std.specs.Prelude.{◌≡◌, ◌<◌, ◌≤◌, ◌^◌, ℕ, List, [], ◌∷◌, ◌++◌, length}
use Rattle.byteorder.specs.Endian.{little_bytes}
use Rattle.octets.specs.declared.limits.TheConstants.{PAYLOAD_MAX}
use Rattle.pdi_session.specs.telegram.Names.{IsName, fill_name}
use Rattle.pdi_session.specs.telegram.Tele.{Tele}

-- protocol type, message type, sender, receiver, payload
abbrev pub tele_text : Tele → List ℕ
tele_text t = (t.protocol ∷ []) ++ little_bytes 2 t.kind ++ fill_name t.sender ++ fill_name t.receiver ++ t.payload

-- the bytes are the encoding of the telegram with these fields
pub record TeleText (t : Tele) (octets : List ℕ) : Type 0 where
  -- the protocol type fits one byte
  pub protocol : t.protocol < 256
  -- the message type fits two bytes
  pub kind : t.kind < 256 ^ 2
  -- the sender's name is valid
  pub sender : IsName t.sender
  -- the receiver's name is valid
  pub receiver : IsName t.receiver
  -- the payload has at most 357 bytes
  pub payload : length t.payload ≤ PAYLOAD_MAX
  -- the bytes are exactly the fields in order
  pub spelled : octets ≡ tele_text t
