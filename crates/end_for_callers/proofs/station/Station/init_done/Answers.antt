use Rattle.std.proofs.Common.{ap, rules, sym, ◌∙◌}
use Rattle.stack_end.specs.Ends.Call.{InitDone}
use Rattle.stack_end.specs.EndValue.{inside}
use Rattle.end_for_callers.specs.Calls.{StationValue}
use Rattle.end_for_callers.proofs.StationBounds.{loses-none, ready-after}
use Rattle.end_for_callers.proofs.Deliveries.{does-alone-after}
use Rattle.end_for_callers.proofs.station.Station.init_done.Goals as goal

pub returns-in-Ok-clause-does : goal.returns-in-Ok-clause-does
returns-in-Ok-clause-does c =
    rw (← c.self.view_is)
    (does-alone-after (InitDone c.args.now) c.self.inside.end c.set_aside.new.end c.init_done.new.self
    c.self.inside.inbox c.self.inside.time c.args.now c.self.inside.reserve c.self.inside.openings
    c.set_aside.ensures.same c.in-Ok.ensures.turns c.in-Ok.ensures.time)

pub returns-in-Ok-clause-room : goal.returns-in-Ok-clause-room
returns-in-Ok-clause-room c =
    rw (← c.self.view_is)
    (loses-none (InitDone c.args.now) c.self.inside.reserve c.channels-channels.result
    c.self.inside.end c.set_aside.new.end c.init_done.new.self
    (c.channels-channels.ensures ∙ ap (λ (s : StationValue). (inside s.end).upper.count) (sym c.self.view_is))
    c.set_aside.ensures.same c.self.invariant.3 c.set_aside.ensures.bounded c.set_aside.ensures.deferred
    c.set_aside.ensures.shares c.in-Ok.ensures.turns.sent)

pub invariant_of-self : goal.invariant_of-self
invariant_of-self c =
    let ready = ready-after (InitDone c.args.now) c.self.inside.reserve
    c.self.inside.end c.set_aside.new.end c.init_done.new.self
    c.set_aside.ensures.same c.in-Ok.ensures.turns.left c.self.invariant.3 in
    (search rules, search rules, search rules, ready)
