use Rattle.stack_end.proofs.Words.{Option, ap, ◌∙◌, fields_of, turn_then, FoldsTo-keeps, machine_turn, refl, end_session_turn, tick_turn}
use Rattle.safe_machine.specs.Deadlines.{overdue}
use Rattle.stack_end.specs.Departures.{own_departure}
use Rattle.stack_end.specs.Turns.{departure_turn}
use Rattle.stack_end.specs.declared.departure.Departure.{Departure}
use Rattle.stack_end.proofs.CallParts.{alone-as, alone-then, machine-went}
use Rattle.stack_end.proofs.upper.UpperLayers.tick.Goals as goal

pub shape_of-self : goal.shape_of-self
shape_of-self g c = FoldsTo-keeps (λ s. s.made.ghost_name) _ (λ s x t h. h.2) _ _ _ c.tick-why.ensures.made

pub shape_of-self-2 : goal.shape_of-self-2
shape_of-self-2 g c = FoldsTo-keeps (λ s. s.numbers.ghost_name) _ (λ s x t h. h.1) _ _ _ c.tick-why.ensures.made

pub shape_of-self-3 : goal.shape_of-self-3
shape_of-self-3 g c = FoldsTo-keeps (λ s. s.channels.ghost_name) _ (λ s x t h. h.0) _ _ _ c.tick-why.ensures.made

pub returns-clause-does : goal.returns-clause-does
returns-clause-does g c =
    let v = fields_of c.args.self.now in
    let t = tick_turn c.args.now v.machine in
    let one = machine-went (λ s. g.C.Channels.told s.channels.now) (λ s. s.numbers.now) (λ s. s.count) (λ s. s.made.now)
    _ (λ s pdu t r. (r.3, r.4, r.5, r.6)) t v _ _ _
    c.tick-why.ensures.left refl refl refl c.tick-why.ensures.made in
    let two = alone-then (machine_turn t v) end_session_turn _ _ _ _ _ one c.settle.ensures.does in
    let three = alone-then (turn_then (machine_turn t v) end_session_turn) (departure_turn c.own_departure.result) _ _ _
    _ _ two c.depart.ensures.does in
    let cause = c.own_departure.ensures ∙ ap (λ why. own_departure why c.args.now) c.tick-why.ensures.why in
    let by_cause = λ (q : Option Departure). turn_then (turn_then (machine_turn t v) end_session_turn)
    (departure_turn q) in
    alone-as (by_cause c.own_departure.result) (by_cause (own_departure (overdue c.args.now v.machine) c.args.now)) _ _
    _ (ap by_cause cause) three
