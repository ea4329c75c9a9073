-- The lines that `show` prints for the messages of a unit.
use Rattle.std.specs.Prelude.{ℕ, ◌+◌, Bool, true, false, ◌&&◌, List, [], ◌∷◌, ◌++◌, codes, Result, Ok, Err}
use Rattle.std.specs.Fmt.{decimal}
use Rattle.std.specs.Int.{w16, to_be_bytes}
use Rattle.hex.specs.Hex.{encode_lower}
use Rattle.pdi_session.specs.declared.packing.PackFault.{PackFault}
use Rattle.pdi_session.specs.packing.FaultNames.{unit_name, unit_number}
use Rattle.pdi_session.specs.packing.Places.{unit_seen}
use Rattle.safe_pdu.specs.declared.Kind.{Kind}
use Rattle.safe_pdu.specs.declared.Kind.TheVariants.{Data, RetrData}
use Rattle.pdi_session.specs.declared.telegram.TeleFault.{TeleFault}
use Rattle.pdi_session.specs.telegram.FaultNames.{telegram_name, telegram_number}
use Rattle.pdi_session.specs.telegram.Places.{tele_seen}
use Rattle.pdi_session.specs.telegram.Tele.{Tele}
use Rattle.pdu_text.specs.Lines.{fault_line, join_pieces, octets_text}

-- message NUMBER
abbrev pub message_label : ℕ → List ℕ
message_label number = join_pieces (codes "message " ∷ decimal number ∷ [])

-- from SENDER to RECEIVER payload
abbrev pub names_text : List ℕ → List ℕ → List ℕ
names_text sender receiver = join_pieces (codes " from " ∷ sender ∷ codes " to " ∷ receiver ∷ codes " payload " ∷ [])

-- a label, and bytes in hex digits
abbrev pub hex_field : List ℕ → List ℕ → List ℕ
hex_field label octets = label ++ encode_lower octets

-- message NUMBER protocol HEX type HEX
abbrev pub telegram_head : ℕ → Tele → List ℕ
telegram_head number t =
    join_pieces (message_label number ∷ hex_field (codes " protocol ") (t.protocol ∷ []) ∷
    hex_field (codes " type ") (to_be_bytes w16 t.kind) ∷ [])

-- the line of a telegram: head, names, and the payload in hex digits
abbrev pub telegram_line : ℕ → Tele → List ℕ
telegram_line number t =
    join_pieces (telegram_head number t ∷ names_text t.sender t.receiver ∷ octets_text t.payload ∷ codes "\n" ∷ [])

-- the line of a decoded message, counted from 1 in its unit: that of the telegram or of the fault
abbrev pub message_line : ℕ → Result Tele TeleFault → List ℕ
message_line number (Ok t) = telegram_line number t
message_line number (Err f) = fault_line (message_label number) (telegram_number f) (telegram_name f)

-- the lines of messages, the first with this number
unfoldable pub message_lines : ℕ → List (List ℕ) → List ℕ
message_lines number [] = []
message_lines number (message ∷ messages) =
    message_line number (tele_seen message) ++ message_lines (number + 1) messages

-- the lines of an unpacked unit, or of its fault
abbrev pub unit_text : Result (List (List ℕ)) PackFault → List ℕ
unit_text (Ok messages) = message_lines 1 messages
unit_text (Err f) = fault_line (codes "unit") (unit_number f) (unit_name f)

-- the lines of a body: those of the unit in a Data or RetrData
abbrev pub unit_lines : Kind → List ℕ → List ℕ
unit_lines Data body = unit_text (unit_seen body)
unit_lines RetrData body = unit_text (unit_seen body)
unit_lines _ body = []

-- the message is a telegram, so its line names no fault
abbrev pub is_telegram : Result Tele TeleFault → Bool
is_telegram (Ok t) = true
is_telegram (Err f) = false

-- each message is a telegram
unfoldable pub are_telegrams : List (List ℕ) → Bool
are_telegrams [] = true
are_telegrams (message ∷ messages) = is_telegram (tele_seen message) && are_telegrams messages

-- the unit unpacks and each message is a telegram
abbrev pub is_clean_unit : Result (List (List ℕ)) PackFault → Bool
is_clean_unit (Ok messages) = are_telegrams messages
is_clean_unit (Err f) = false

-- no line of the body names a fault
abbrev pub is_clean_body : Kind → List ℕ → Bool
is_clean_body Data body = is_clean_unit (unit_seen body)
is_clean_body RetrData body = is_clean_unit (unit_seen body)
is_clean_body _ body = true
