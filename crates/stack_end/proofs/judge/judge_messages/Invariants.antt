use Rattle.stack_end.proofs.Words.{drop, talk, texts_of}
use Rattle.pdi_session.specs.SessionStep.{FewWait}
use Rattle.stack_end.proofs.CallParts.{Along}
use Rattle.stack_end.proofs.judge.judge_messages.Given as goal

abbrev pub invariant-loop-message : goal.invariant-loop-message
invariant-loop-message g l =
    record {
      few : FewWait l.session l.waiting;
      along :
          Along g.T.Taker.takes (texts_of l.messages) (drop l.message-index (texts_of l.messages))
          (talk l.initial.session l.initial.waiting l.initial.taker)
          (talk l.session l.waiting l.taker);
    }
