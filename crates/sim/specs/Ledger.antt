-- The PDUs of both ends during a script, by their labels, and which of them a line has named.
use Rattle.std.specs.Prelude.{ℕ, Bool, not, List, [], ◌∷◌, ◌++◌, length, Option, filter}
use Rattle.end_settings.specs.declared.Side.{Side}
use Rattle.end_settings.specs.declared.Side.TheVariants.{Interlocking, FieldElement}
use Rattle.sim.specs.MadePdus.{MadePdu, datagram_at, new_pdu, is_named_at, mark_named_at}
use Rattle.sim.specs.declared.label.Label.{Label}

-- The PDUs of both ends.
pub record Ledger : Type 0 where
  pub il : List MadePdu  -- those of the interlocking, in the order of making
  pub fe : List MadePdu  -- those of the field element, in the order of making
  pub order : List Label  -- the labels of both ends, in the order of making

-- No PDU has been made.
abbrev pub no_pdus : Ledger
no_pdus = record { il = []; fe = []; order = [] }

-- The list of an end, of two lists.
abbrev pub list_of_side : Side → List MadePdu → List MadePdu → List MadePdu
list_of_side Interlocking il fe = il
list_of_side FieldElement il fe = fe

-- The PDUs of an end.
abbrev pub pdus_of : Side → Ledger → List MadePdu
pdus_of side l = list_of_side side l.il l.fe

-- The datagram of a PDU, if it has been made.
abbrev pub datagram_of : Label → Ledger → Option (List ℕ)
datagram_of label l = datagram_at label.place (pdus_of label.side l)

-- A line has named the PDU of this label, among these of the interlocking and these of the field element.
abbrev pub is_named_among : List MadePdu → List MadePdu → Label → Bool
is_named_among il fe label = is_named_at label.place (list_of_side label.side il fe)

-- A line has named the PDU of this label.
abbrev pub is_named : Ledger → Label → Bool
is_named l label = is_named_among l.il l.fe label

-- The labels that no line has named yet, in the order of making; `flow` delivers the first one.
abbrev pub unnamed_of : Ledger → List Label
unnamed_of l = filter (λ label. not (is_named l label)) l.order

-- The label of an end's next PDU.
abbrev pub next_label : Side → Ledger → Label
next_label side l = record { side = side; place = length (pdus_of side l) }

-- The ledger with other PDUs of one end.
abbrev pub with_made : Side → List MadePdu → Ledger → Ledger
with_made Interlocking ps l = record l { il = ps }
with_made FieldElement ps l = record l { fe = ps }

-- The ledger after an end made a PDU.
abbrev pub add_pdu : Side → List ℕ → Ledger → Ledger
add_pdu side datagram l =
    record (with_made side (pdus_of side l ++ new_pdu datagram ∷ []) l) { order = l.order ++ next_label side l ∷ [] }

-- The ledger after a line named a PDU; a label that has not been made changes nothing.
abbrev pub mark_named : Label → Ledger → Ledger
mark_named label l = with_made label.side (mark_named_at label.place (pdus_of label.side l)) l
