-- Reading a unit from the left, and the first fault of bytes that are not a unit.
use Rattle.std.specs.Prelude.{◌≡◌, ◌≢◌, ◌==◌, ◌<◌, ℕ, zero, suc, ◌+◌, Bool, ◌&&◌, nat_le, if◌then◌else◌, List, [], ◌∷◌, ◌++◌, length, take, drop, Result, Ok, Err}
use Rattle.std.specs.Borrow.{Bor}
use Rattle.arrayvec.specs.ArrayVec.{ArrayVec}
use Rattle.byteorder.specs.Endian.{little_number}
use Rattle.octets.specs.declared.limits.TheConstants.{MESSAGE_LENGTH, MESSAGE_MIN, MESSAGE_MAX, UNIT_MESSAGES}
use Rattle.pdi_session.specs.declared.packing.PackFault.{PackFault}
use Rattle.pdi_session.specs.declared.packing.PackFault.TheVariants.{Empty, Length, TooMany}
use Rattle.pdi_session.specs.packing.UnitText.{AreMessages, IsMessage, messages_of, piece, unit_text}

-- the number in the first two bytes, least significant first
abbrev pub length_field : List ℕ → ℕ
length_field octets = little_number 2 octets

-- the bytes start with a length of 43 to 400 and as many bytes after it
abbrev pub is_piece : List ℕ → Bool
is_piece octets =
    nat_le MESSAGE_LENGTH (length octets) && nat_le MESSAGE_MIN (length_field octets)
    && nat_le (length_field octets) MESSAGE_MAX
    && nat_le (MESSAGE_LENGTH + length_field octets) (length octets)

-- the message after the first length
abbrev pub first_message : List ℕ → List ℕ
first_message octets = take (length_field octets) (drop MESSAGE_LENGTH octets)

-- the bytes after the first message
abbrev pub behind_first : List ℕ → List ℕ
behind_first octets = drop (MESSAGE_LENGTH + length_field octets) octets

-- these messages followed by those of a result; a fault stays
abbrev pub after : List (List ℕ) → Result (List (List ℕ)) PackFault → Result (List (List ℕ)) PackFault
after read (Ok messages) = Ok (read ++ messages)
after read (Err fault) = Err fault

-- the messages read from the left, at most as many as there is room for, or the first fault
unfoldable pub pieces_seen : ℕ → List ℕ → Result (List (List ℕ)) PackFault
pieces_seen zero octets = if length octets == 0 then Ok [] else Err TooMany
pieces_seen (suc room) octets =
    if length octets == 0 then Ok []
    else if is_piece octets then after (first_message octets ∷ []) (pieces_seen room (behind_first octets))
    else Err Length

-- the messages of a unit, or the first fault
unfoldable pub unit_seen : List ℕ → Result (List (List ℕ)) PackFault
unit_seen octets = if length octets == 0 then Err Empty else pieces_seen UNIT_MESSAGES octets

-- the bytes start with these messages as complete pieces, and more bytes follow
pub record Goes (messages : List (List ℕ)) (rest octets : List ℕ) : Type 0 where
  -- each message has 43 to 400 bytes
  pub sized : AreMessages messages
  -- the bytes are the pieces and then the rest
  pub spelled : octets ≡ unit_text messages ++ rest
  -- the rest is not empty
  pub some : rest ≢ []

-- the bytes do not start with a complete piece
abbrev pub HoldsNoPiece : List ℕ → Type 0
HoldsNoPiece octets = (message behind : List ℕ) → IsMessage message → octets ≢ piece message ++ behind

-- the fault is the first that these bytes have
abbrev pub FirstFault : List ℕ → PackFault → Type 0
FirstFault octets Empty = octets ≡ []
FirstFault octets Length =
    (messages : List (List ℕ)) × (rest : List ℕ) × (length messages < UNIT_MESSAGES) × Goes messages rest octets
    × HoldsNoPiece rest
FirstFault octets TooMany = (messages : List (List ℕ)) × (rest : List ℕ) × (length messages ≡ UNIT_MESSAGES)
    × Goes messages rest octets

-- a result of the decoder as a value, without its place in memory
abbrev pub seen_of : Result (ArrayVec (Bor (List ℕ))) PackFault → Result (List (List ℕ)) PackFault
seen_of (Ok messages) = Ok (messages_of messages)
seen_of (Err fault) = Err fault
