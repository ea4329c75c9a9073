-- The lines of a run: telegrams taken, events refused, and the state of an end.
use Rattle.std.specs.Prelude.{ℕ, List, [], ◌∷◌, codes, Option, Some, None}
use Rattle.std.specs.Fmt.{decimal}
use Rattle.std.specs.Int.{w16, to_be_bytes}
use Rattle.hex.specs.Hex.{encode_lower}
use Rattle.end_settings.specs.declared.Side.{Side}
use Rattle.pdu_text.specs.Lines.{join_pieces, octets_text}
use Rattle.pdu_text.specs.Names.{side_name, state_name, phase_name}
use Rattle.pdu_text.specs.declared.reports.EndReport.{EndReport}

-- END takes TYPE HEX
abbrev pub take_line : Side → ℕ → List ℕ → List ℕ
take_line side kind payload =
    join_pieces (side_name side ∷ codes " takes " ∷ encode_lower (to_be_bytes w16 kind) ∷ codes " " ∷
    octets_text payload ∷ codes "\n" ∷ [])

-- refused NAME
abbrev pub refusal_line : List ℕ → List ℕ
refusal_line name = join_pieces (codes "refused " ∷ name ∷ codes "\n" ∷ [])

-- END STATE PHASE put N taken N
abbrev pub state_line : List ℕ → EndReport → List ℕ
state_line side s =
    join_pieces
    (side ∷ codes " " ∷ state_name s.state ∷ codes " " ∷ phase_name s.phase ∷ codes " put " ∷ decimal s.put ∷
    codes " taken " ∷ decimal s.taken
    ∷ codes "\n" ∷ [])

-- END none
abbrev pub none_line : List ℕ → List ℕ
none_line side = join_pieces (side ∷ codes " none\n" ∷ [])

-- the state of an end, or that it was never opened
abbrev pub report_line : Side → Option EndReport → List ℕ
report_line side None = none_line (side_name side)
report_line side (Some s) = state_line (side_name side) s
