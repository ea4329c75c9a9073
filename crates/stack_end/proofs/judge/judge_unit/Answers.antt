use Rattle.stack_end.proofs.Words.{ap, judge_messages, JudgesDialogue, List, subst, talk, texts_of, unit_seen, ℕ}
use Rattle.pdi_session.specs.packing.UnitText.{messages_of}
use Rattle.stack_end.proofs.CallParts.{judged-unit}
use Rattle.stack_end.proofs.judge.judge_unit.Goals as goal

pub returns-in-Ok-clause-judged : goal.returns-in-Ok-clause-judged
returns-in-Ok-clause-judged g c =
    let s = talk c.args.session.now c.args.waiting.now c.args.taker.now in
    let t = talk c.judge_messages.new.session c.judge_messages.new.waiting c.judge_messages.new.taker in
    judged-unit g.T.Taker.takes (unit_seen c.args.unit.now) (messages_of c.in-Ok.messages) s t c.judge_messages.result
    c.in-Ok.ensures.exact
    (subst (λ (ms : List (List ℕ)). JudgesDialogue g.T.Taker.takes (judge_messages ms) s t c.judge_messages.result)
    (ap texts_of c.deref.ensures.0)
    c.judge_messages.ensures.judged)
