-- The grammar of a unit: one to three messages, each after its length (the user data of a Data PDU of the safety and
-- retransmission layer).
use Rattle.std.specs.Prelude.{◌≡◌, ◌<◌, ◌≤◌, ℕ, List, [], ◌∷◌, ◌++◌, length, map}
use Rattle.std.specs.List.{All}
use Rattle.arrayvec.specs.ArrayVec.{ArrayVec}
use Rattle.byteorder.specs.Endian.{little_bytes}
use Rattle.octets.specs.declared.limits.TheConstants.{MESSAGE_MIN, MESSAGE_MAX, UNIT_MESSAGES}
use Rattle.std.specs.Borrow.{Bor}

-- a message has 43 to 400 bytes
abbrev pub IsMessage : List ℕ → Type 0
IsMessage message = (MESSAGE_MIN ≤ length message) × (length message ≤ MESSAGE_MAX)

-- each of them has 43 to 400 bytes
abbrev pub AreMessages : List (List ℕ) → Type 0
AreMessages messages = All IsMessage messages

-- a length and its message
abbrev pub piece : List ℕ → List ℕ
piece message = little_bytes 2 (length message) ++ message

-- the pieces of the messages in order
abbrev pub unit_text : List (List ℕ) → List ℕ
unit_text [] = []
unit_text (message ∷ messages) = piece message ++ unit_text messages

-- the bytes are the unit of these messages
pub record UnitText (messages : List (List ℕ)) (octets : List ℕ) : Type 0 where
  -- there is at least one message
  pub some : 0 < length messages
  -- there are at most three
  pub most : length messages ≤ UNIT_MESSAGES
  -- each has 43 to 400 bytes
  pub sized : AreMessages messages
  -- the bytes are exactly their pieces in order
  pub spelled : octets ≡ unit_text messages

-- the messages of a decoded unit as values, without their places in memory
abbrev pub messages_of : ArrayVec (Bor (List ℕ)) → List (List ℕ)
messages_of messages = map (λ (m : Bor (List ℕ)). m.now) messages.items
