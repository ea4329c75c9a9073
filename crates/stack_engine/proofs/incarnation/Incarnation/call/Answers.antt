use Rattle.stack_engine.proofs.Words.{call_of, inside}
use Rattle.stack_engine.proofs.code.Histories.{turned-stands}
use Rattle.stack_engine.proofs.incarnation.Incarnation.call.Goals as goal

pub returns-clause-does : goal.returns-clause-does
returns-clause-does g c = λ x h few.
    let d = call_of c.args.call.now c.args.now in
    let t = c.in_ok-step.ensures.turns in
    turned-stands d c.args.self.now _ x c.requires.room.0
    (record { end = t.end; time = t.time; put = t.put; config = t.config }) c.in_ok-step.ensures.refusal
    (c.end_law.ensures.turns d (inside c.args.self.now.end) x h.end.both) h few
