use Rattle.stack_end.proofs.Words.{upper_turn, ap, Datagram, turn_then, input_and_send_turn, guard_turn, inside_of, None, ◌∙◌}
use Rattle.stack_end.proofs.CallParts.{above-went, alone-told, open-answer, open-went, went-alone, went-then}
use Rattle.stack_end.specs.Turns.{red_event}
use Rattle.stack_end.proofs.layers.Layers.arrive.Goals as goal

pub returns-in_default-clause-does : goal.returns-in_default-clause-does
returns-in_default-clause-does g c =
    let takes = g.T.Taker.takes in
    let now = c.args.now in
    let i = Datagram c.args.octets.now c.args.now in
    let v = inside_of c.args.self.now in
    let t = upper_turn (guard_turn now) v in
    let one = went-alone takes t _ _ _ _ (above-went (guard_turn now) v _ _ _
    (alone-told (guard_turn now v.upper) _ _ _ _ c.report_change.ensures c.guard.ensures.does))
    in
    open-went takes v (turn_then t (input_and_send_turn now i)) c.state.result _ _ _ _ _ c.state.ensures.state
    c.in_default.not-Closed
    (went-then takes t (input_and_send_turn now i) _ _ _ _ _ _ _ _ one c.deliver.ensures.does)

pub returns-in_default-clause-event : goal.returns-in_default-clause-event
returns-in_default-clause-event g c =
    let now = c.args.now in
    let octets = c.args.octets.now in
    let v = inside_of c.args.self.now in
    c.deliver.ensures.event
    ∙ (ap (λ w. red_event now octets (record { red = v.red; upper = w })) c.guard.ensures.does.left
    ∙ open-answer None _ v c.state.result c.state.ensures.state c.in_default.not-Closed)
