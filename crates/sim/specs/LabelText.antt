-- The text of a label.
use Rattle.std.specs.Prelude.{ℕ, ◌+◌, ◌-◌, ◌^◌, ◌++◌, List, min}
use Rattle.std.specs.Fmt.{decimal}
use Rattle.pdu_text.specs.Names.{side_letter}
use Rattle.sim.specs.declared.label.Label.{Label}

-- The end's letter and the number of the PDU, from 1.
abbrev pub label_text : Label → List ℕ
label_text label = side_letter label.side ++ decimal (min (label.place + 1) (2 ^ 64 - 1))
