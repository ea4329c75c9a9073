use Rattle.std.proofs.Common.{ap, rules, sym, ◌∙◌}
use Rattle.stack_end.specs.Ends.Call.{Close}
use Rattle.stack_end.specs.EndValue.{inside}
use Rattle.end_for_callers.specs.Calls.{StationValue}
use Rattle.end_for_callers.proofs.StationBounds.{loses-none, ready-after}
use Rattle.end_for_callers.proofs.Deliveries.{does-alone-after}
use Rattle.end_for_callers.proofs.station.Station.close.Goals as goal

pub returns-clause-does : goal.returns-clause-does
returns-clause-does c =
    rw (← c.self.view_is)
    (does-alone-after (Close c.args.now) c.self.inside.end c.set_aside.new.end c.close.new.self
    c.self.inside.inbox c.self.inside.time c.args.now c.self.inside.reserve c.self.inside.openings
    c.set_aside.ensures.same c.close.ensures.turns c.close.ensures.time)

pub returns-clause-room : goal.returns-clause-room
returns-clause-room c =
    rw (← c.self.view_is)
    (loses-none (Close c.args.now) c.self.inside.reserve c.channels-channels.result
    c.self.inside.end c.set_aside.new.end c.close.new.self
    (c.channels-channels.ensures ∙ ap (λ (s : StationValue). (inside s.end).upper.count) (sym c.self.view_is))
    c.set_aside.ensures.same c.self.invariant.3 c.set_aside.ensures.bounded c.set_aside.ensures.deferred
    c.set_aside.ensures.shares c.close.ensures.turns.sent)

pub invariant_of-self : goal.invariant_of-self
invariant_of-self c =
    let ready = ready-after (Close c.args.now) c.self.inside.reserve
    c.self.inside.end c.set_aside.new.end c.close.new.self
    c.set_aside.ensures.same c.close.ensures.turns.left c.self.invariant.3 in
    (search rules, search rules, search rules, ready)
