use Rattle.std.proofs.Common.{◌-◌, length, take, drop, refl, arith, inl, inr, length-drop}
use Rattle.rasta_run.proofs.BacklogLemmas.{goes-on, rest-all, step-at, whole-on}
use Rattle.rasta_run.proofs.backlog.pass_all.Goals as goal

pub returns-in-Over-clause-passed : goal.returns-in-Over-clause-passed
returns-in-Over-clause-passed g c =
    record {
      count = c.writes.counter;
      mid = record { writer = c.writes.writer; octets = drop c.writes.gone c.args.octets.now; gate = c.writes.gate };
      goes = c.writes.invariant.goes;
      stops = inr (inl (
        refl,
        step-at _ _ _ c.writes.gone c.pass_once-step.result.1 c.args.octets.now
            (take (length c.args.octets.now - c.writes.gone) (drop c.writes.gone c.args.octets.now))
            _ _ _ _ _ _ (rest-all c.writes.gone c.args.octets.now) c.pass_once-step.ensures.passed c.in-Over.is,
      ));
    }

pub returns-in-Over-clause-whole : goal.returns-in-Over-clause-whole
returns-in-Over-clause-whole g c =
    whole-on _ _ _ c.writes.gone c.pass_once-step.result.1 c.args.octets.now
    (take (length c.args.octets.now - c.writes.gone) (drop c.writes.gone c.args.octets.now))
    (rest-all c.writes.gone c.args.octets.now) c.writes.invariant.whole c.pass_once-step.ensures.whole

pub returns-in-Failed-clause-passed : goal.returns-in-Failed-clause-passed
returns-in-Failed-clause-passed g c =
    record {
      count = c.writes.counter;
      mid = record { writer = c.writes.writer; octets = drop c.writes.gone c.args.octets.now; gate = c.writes.gate };
      goes = c.writes.invariant.goes;
      stops = inr (inr (
        refl,
        step-at _ _ _ c.writes.gone c.pass_once-step.result.1 c.args.octets.now
            (take (length c.args.octets.now - c.writes.gone) (drop c.writes.gone c.args.octets.now))
            _ _ _ _ _ _ (rest-all c.writes.gone c.args.octets.now) c.pass_once-step.ensures.passed c.in-Failed.is,
      ));
    }

pub returns-in-Failed-clause-whole : goal.returns-in-Failed-clause-whole
returns-in-Failed-clause-whole g c =
    whole-on _ _ _ c.writes.gone c.pass_once-step.result.1 c.args.octets.now
    (take (length c.args.octets.now - c.writes.gone) (drop c.writes.gone c.args.octets.now))
    (rest-all c.writes.gone c.args.octets.now) c.writes.invariant.whole c.pass_once-step.ensures.whole

pub writes-preserved : goal.writes-preserved
writes-preserved g c =
    record {
      goes = goes-on _ _ _ _ _ _ _ c.writes.invariant.goes
          (step-at _ _ _ c.writes.gone c.pass_once-step.result.1 c.args.octets.now
          (take (length c.args.octets.now - c.writes.gone) (drop c.writes.gone c.args.octets.now))
          _ _ _ _ _ _ (rest-all c.writes.gone c.args.octets.now) c.pass_once-step.ensures.passed c.in-On.is);
      whole = whole-on _ _ _ c.writes.gone c.pass_once-step.result.1 c.args.octets.now
          (take (length c.args.octets.now - c.writes.gone) (drop c.writes.gone c.args.octets.now))
          (rest-all c.writes.gone c.args.octets.now) c.writes.invariant.whole c.pass_once-step.ensures.whole;
      bound = omega (arith, c.pass_once-step.ensures.bound, length-drop c.writes.gone c.args.octets.now);
    }

pub returns-clause-passed : goal.returns-clause-passed
returns-clause-passed g c =
    record {
      count = c.writes.counter;
      mid = record { writer = c.writes.writer; octets = drop c.writes.gone c.args.octets.now; gate = c.writes.gate };
      goes = c.writes.invariant.goes;
      stops = inl (omega arith, refl, refl);
    }
