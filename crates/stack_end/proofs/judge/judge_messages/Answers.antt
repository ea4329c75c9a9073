use Rattle.stack_end.proofs.Words.{[], talk}
use Rattle.stack_end.proofs.CallParts.{along-at, along-past, along-stop_at}
use Rattle.stack_end.proofs.judge.judge_messages.Goals as goal

pub returns-in-Some-clause-judged : goal.returns-in-Some-clause-judged
returns-in-Some-clause-judged g c =
    along-stop_at g.T.Taker.takes c.args.messages.now c.loop-message.message-index record { ref_ptr = (0, 0); now = [] }
    (talk c.args.session.now c.args.waiting.now c.args.taker.now)
    (talk c.loop-message.session c.loop-message.waiting c.loop-message.taker)
    (talk c.judge_message-judgement.new.session c.judge_message-judgement.new.waiting
    c.judge_message-judgement.new.taker) c.judge_message-judgement.result.asked
    c.in-Some.leaving c.loop-message-test.true
    c.loop-message.invariant.along c.judge_message-judgement.ensures.judged c.in-Some.is

pub loop-message-preserved : goal.loop-message-preserved
loop-message-preserved g c =
    record {
      few = c.judge_message-judgement.ensures.few;
      along =
          along-at g.T.Taker.takes c.args.messages.now c.loop-message.message-index record {
            ref_ptr = (0, 0);
            now = [];
          }
          (talk c.args.session.now c.args.waiting.now c.args.taker.now)
          (talk c.loop-message.session c.loop-message.waiting c.loop-message.taker)
          (talk c.judge_message-judgement.new.session c.judge_message-judgement.new.waiting
          c.judge_message-judgement.new.taker) c.judge_message-judgement.result.asked
          c.loop-message-test.true
          c.loop-message.invariant.along c.judge_message-judgement.ensures.judged c.in_default.is;
    }

pub returns-clause-judged : goal.returns-clause-judged
returns-clause-judged g c =
    along-past g.T.Taker.takes c.args.messages.now c.loop-message.message-index
    (talk c.args.session.now c.args.waiting.now c.args.taker.now)
    (talk c.loop-message.session c.loop-message.waiting c.loop-message.taker)
    c.loop-message-test.false c.loop-message.invariant.along
