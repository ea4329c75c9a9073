use Rattle.stack_end.proofs.Words.{upper_turn, false, fields_of, turn_then, inside_of, input_turn, RedTick, send_turn, ◌∙◌}
use Rattle.stack_end.proofs.CallParts.{above-went, open-answer, open-went, receives-went, went-alone, went-then}
use Rattle.stack_end.proofs.layers.Layers.wait.Goals as goal

pub returns-in_default-clause-does : goal.returns-in_default-clause-does
returns-in_default-clause-does g c =
    let takes = g.T.Taker.takes in
    let now = c.args.now in
    let i = RedTick c.args.now in
    let v = inside_of c.args.self.now in
    let t = input_turn now i v in
    let one = receives-went takes now i v _ _ _ _ _ _ c.pass_time.ensures.layer c.pass_time.ensures.does in
    let two = went-alone takes _ _ _ _ _
    (above-went (send_turn now) record { red = c.pass_time.new.red; upper = fields_of c.pass_time.new.self } _ _ _
    c.send_waiting.ensures.does) in
    open-went takes v (turn_then t (upper_turn (send_turn now))) c.state.result _ _ _ _ _ c.state.ensures.state
    c.in_default.not-Closed
    (went-then takes t (upper_turn (send_turn now)) _ _ _ _ _ _ _ _ one two)

pub returns-in_default-clause-expired : goal.returns-in_default-clause-expired
returns-in_default-clause-expired g c =
    c.is_due-expired.ensures ∙ open-answer false _ (inside_of c.args.self.now) c.state.result c.state.ensures.state
    c.in_default.not-Closed
