use Rattle.std.proofs.Common.{ap, sym, subst, ◌∙◌}
use Rattle.std.specs.Prelude.{ℕ, Option}
use Rattle.stack_end.specs.Deadlines.{earliest}
use Rattle.stack_end.specs.EndValue.{inside}
use Rattle.end_for_callers.specs.Calls.{IsDeadline, StationValue}
use Rattle.end_for_callers.proofs.Watch.{next-open}
use Rattle.end_for_callers.proofs.station.Station.next_deadline.Goals as goal

pub returns : goal.returns
returns c =
    next-open _ _ c.next_deadline.result c.earliest.result c.args.self.now (sym c.lost.ensures ∙ c.if-lost.false)
    (sym c.is_blocked.ensures ∙ c.if-is_blocked.false)
    (subst (λ (s : StationValue). IsDeadline c.next_deadline.result (inside s.end)) c.self.view_is
    (record {
      before = c.next_deadline.ensures.before;
      after = c.next_deadline.ensures.after;
      closed = c.next_deadline.ensures.closed;
    }))
    (c.earliest.ensures ∙ ap (λ (at : Option ℕ). earliest c.next_deadline.result at) c.reopening_time.ensures)
