-- What an end still holds of what was put there, second form, by the PDUs that it made. The first form of "unconfirmed"
-- and "waits" is in Settled.
use Rattle.std.specs.Prelude.{ℕ, ◌+◌, nat_lt, not, ◌&&◌, Bool, true, false, List, [], ◌∷◌, ◌++◌, if◌then◌else◌, Result, Ok, Err}
use Rattle.std.specs.List.{flat_map, list_any}
use Rattle.safe_pdu.specs.declared.Kind.{Kind}
use Rattle.safe_pdu.specs.declared.Kind.TheVariants.{RetrResp, Data, RetrData}
use Rattle.safe_machine.specs.Made.{Made}
use Rattle.pdi_session.specs.declared.packing.PackFault.{PackFault}
use Rattle.pdi_session.specs.packing.Places.{unit_seen}
use Rattle.pdi_session.specs.declared.telegram.TeleFault.{TeleFault}
use Rattle.pdi_session.specs.telegram.Tele.{Tele}
use Rattle.pdi_session.specs.telegram.Places.{tele_seen}
use Rattle.pdi_session.specs.SessionStep.{Item}
use Rattle.pdi_session.specs.Telegrams.{is_reserved}
use Rattle.stack_end.specs.Ends.{EndState}

-- PDUs with a unit: Data and RetrData
abbrev pub has_unit : Kind → Bool
has_unit Data = true
has_unit RetrData = true
has_unit _ = false

-- the PDU that begins a retransmission: RetrResp
abbrev pub begins_again : Kind → Bool
begins_again RetrResp = true
begins_again _ = false

-- the unit of this PDU is open: the peer has not confirmed the PDU, and no retransmission began after it
abbrev pub is_open : (confirmed index : ℕ) → Made → (later : List Made) → Bool
is_open confirmed index m later =
    has_unit m.pdu.kind && (nat_lt confirmed index && not (list_any (λ (l : Made). begins_again l.pdu.kind) later))

-- the open units of PDUs, the first of which has this index
abbrev pub open_from : (confirmed index : ℕ) → List Made → List (List ℕ)
open_from confirmed index [] = []
open_from confirmed index (m ∷ later) =
    (if is_open confirmed index m later then m.pdu.body ∷ [] else []) ++ open_from confirmed (index + 1) later

-- the open units of an end
abbrev pub open_units : EndState → List (List ℕ)
open_units x = open_from x.machine.confirmed 0 x.machine.made

-- the messages of a unit
abbrev pub messages_read : Result (List (List ℕ)) PackFault → List (List ℕ)
messages_read (Ok messages) = messages
messages_read (Err fault) = []

-- the command or status in a message, if it has one
abbrev pub item_read : Result Tele TeleFault → List Item
item_read (Ok t) = if is_reserved t.kind then [] else (t.kind, t.payload) ∷ []
item_read (Err fault) = []

-- the commands or status in messages
abbrev pub items_among : List (List ℕ) → List Item
items_among messages = flat_map (λ m. item_read (tele_seen m)) messages

-- the commands or status that an end still holds: those in open units, then those that wait
abbrev pub held_items : EndState → List Item
held_items x = items_among (flat_map (λ u. messages_read (unit_seen u)) (open_units x) ++ x.session.waiting)
