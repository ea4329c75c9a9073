use Rattle.stack_engine.proofs.Words.{[], ap, arith, Event, event_of, length, length-append, List, sym, ◌∙◌, ◌∷◌}
use Rattle.stack_engine.proofs.code.Histories.{ran-accepted, ran-before, ran-refused}
use Rattle.stack_engine.proofs.pair.Pair.run.Goals.{in-Err+else-is_memory, in-Ok}
use Rattle.stack_engine.proofs.pair.Pair.run.Goals as goal

pub returns-then-is_memory-clause-memory : goal.returns-then-is_memory-clause-memory
returns-then-is_memory-clause-memory g c =
    ran-before c.args.self.now c.loop-event.self c.happen.new.self c.args.events.now c.loop-event.event-index
    c.event-item.result c.in-Err.fault
    c.loop-event-test.true c.event-item.is c.loop-event.invariant.ran (sym c.is_memory.ensures
    ∙ c.if-is_memory.true) c.in-Err.ensures.refusal
    c.in-Err.ensures.err

pub loop-event-preserved : goal.loop-event-preserved
loop-event-preserved g c =
    elim c.match-happen.branch [
      | in-Ok w ↦ record {
        ran = ran-accepted c.args.self.now c.loop-event.self c.happen.new.self c.args.events.now
            c.loop-event.event-index c.event-item.result
            c.loop-event-test.true c.event-item.is c.loop-event.invariant.ran w.in-Ok.ensures.refusal
            w.in-Ok.ensures.ok;
        count = omega (
          arith,
          ap (λ (es : List Event). length es) w.in-Ok.ensures.ok,
          length-append c.loop-event.self (event_of c.event-item.result ∷ []),
          c.loop-event.invariant.count,
          w.count-is,
        );
        within = omega (arith, c.loop-event.invariant.within, w.count-is);
      }
      | in-Err+else-is_memory w ↦ record {
        ran = ran-refused c.args.self.now c.loop-event.self c.happen.new.self c.args.events.now c.loop-event.event-index
            c.event-item.result w.in-Err.fault
            c.loop-event-test.true c.event-item.is c.loop-event.invariant.ran (sym w.if-is_memory.ensures)
            w.in-Err.ensures.refusal w.in-Err.ensures.err;
        count =
            omega (
              arith,
              ap (λ (es : List Event). length es) w.in-Err.ensures.err,
              c.loop-event.invariant.count,
              w.count-is,
            );
        within = omega (arith, c.loop-event.invariant.within, w.count-is);
      }
    ]
