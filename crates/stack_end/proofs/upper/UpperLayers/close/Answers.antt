use Rattle.stack_end.proofs.Words.{Option, ap, if◌then◌else◌, is_closed, None, ◌∙◌, ClosedByUser, fields_of, turn_then, leave_turn, end_session_turn, Some, Unspecified}
use Rattle.stack_end.specs.Departures.{own_departure}
use Rattle.stack_end.specs.Turns.{departure_turn}
use Rattle.stack_end.specs.declared.departure.Departure.{Departure}
use Rattle.stack_end.proofs.CallParts.{alone-as, alone-then}
use Rattle.stack_end.proofs.upper.UpperLayers.close.Goals as goal

pub returns-clause-does : goal.returns-clause-does
returns-clause-does g c =
    let v = fields_of c.args.self.now in
    let t = leave_turn c.args.now (Some (ClosedByUser, Unspecified)) v in
    let two = alone-then t end_session_turn _ _ _ _ _ c.leave.ensures.does c.settle.ensures.does in
    let three = alone-then (turn_then t end_session_turn) (departure_turn c.own_departure.result) _ _ _ _ _ two
    c.depart.ensures.does in
    let by_cause = λ (q : Option Departure). turn_then (turn_then t end_session_turn) (departure_turn q) in
    let cause = c.own_departure.ensures ∙ ap (λ why. own_departure why c.args.now) (c.user_leaves-why.ensures
    ∙ ap (λ q. if is_closed q then None else Some (ClosedByUser, Unspecified)) c.state.ensures.state) in
    alone-as (by_cause c.own_departure.result)
    (by_cause (own_departure (if is_closed v.machine.connection then None else Some (ClosedByUser, Unspecified))
    c.args.now))
    _ _ _ (ap by_cause cause) three
