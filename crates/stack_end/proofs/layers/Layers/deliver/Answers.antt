use Rattle.stack_end.proofs.Words.{upper_turn, ap, Datagram, fields_of, turn_then, inside_of, input_turn, None, send_turn, Some, ◌∙◌}
use Rattle.stack_end.proofs.CallParts.{above-went, open-answer, open-went, receives-went, went-alone, went-then}
use Rattle.stack_end.proofs.layers.Layers.deliver.Goals as goal

pub returns-in_default-clause-does : goal.returns-in_default-clause-does
returns-in_default-clause-does g c =
    let takes = g.T.Taker.takes in
    let now = c.args.now in
    let i = Datagram c.args.octets.now c.args.now in
    let v = inside_of c.args.self.now in
    let t = input_turn now i v in
    let one = receives-went takes now i v _ _ _ _ _ _ c.receive-event.ensures.layer c.receive-event.ensures.does in
    let two = went-alone takes _ _ _ _ _
    (above-went (send_turn now) record { red = c.receive-event.new.red; upper = fields_of c.receive-event.new.self } _ _
    _ c.send_waiting.ensures.does) in
    open-went takes v (turn_then t (upper_turn (send_turn now))) c.state.result _ _ _ _ _ c.state.ensures.state
    c.in_default.not-Closed
    (went-then takes t (upper_turn (send_turn now)) _ _ _ _ _ _ _ _ one two)

pub returns-in_default-clause-event : goal.returns-in_default-clause-event
returns-in_default-clause-event g c =
    ap Some c.receive-event.ensures.event
    ∙ open-answer None _ (inside_of c.args.self.now) c.state.result c.state.ensures.state c.in_default.not-Closed
