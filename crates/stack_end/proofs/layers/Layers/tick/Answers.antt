use Rattle.stack_end.proofs.Words.{upper_turn, ap, false, turn_then, input_and_send_turn, inside_of, RedTick, ◌∙◌}
use Rattle.stack_end.specs.Turns.{expires_deferral, tick_turn}
use Rattle.stack_end.proofs.CallParts.{above-went, alone-told, open-answer, open-went, went-alone, went-then}
use Rattle.stack_end.proofs.layers.Layers.tick.Goals as goal

pub returns-in_default-clause-does : goal.returns-in_default-clause-does
returns-in_default-clause-does g c =
    let takes = g.T.Taker.takes in
    let now = c.args.now in
    let i = RedTick c.args.now in
    let v = inside_of c.args.self.now in
    let t = upper_turn (tick_turn now) v in
    let one = went-alone takes t _ _ _ _ (above-went (tick_turn now) v _ _ _
    (alone-told (tick_turn now v.upper) _ _ _ _ c.report_change.ensures c.tick.ensures.does)) in
    open-went takes v (turn_then t (input_and_send_turn now i)) c.state.result _ _ _ _ _ c.state.ensures.state
    c.in_default.not-Closed
    (went-then takes t (input_and_send_turn now i) _ _ _ _ _ _ _ _ one c.wait.ensures.does)

pub returns-in_default-clause-expired : goal.returns-in_default-clause-expired
returns-in_default-clause-expired g c =
    let v = inside_of c.args.self.now in
    c.wait.ensures.expired
    ∙ (ap (λ w. expires_deferral c.args.now (record { red = v.red; upper = w })) c.tick.ensures.does.left
    ∙ open-answer false _ v c.state.result c.state.ensures.state c.in_default.not-Closed)
