use Rattle.std.proofs.Common.{ap, arith, sym, ◌∙◌}
use Rattle.std.proofs.lemmas.Bool.{and_parts, leb-true}
use Rattle.std.specs.Prelude.{nat_le}
use Rattle.octets.specs.declared.limits.TheConstants.{TIME_MAX}
use Rattle.stack_end.specs.Ends.Call.{Deliver}
use Rattle.stack_end.specs.EndValue.{inside}
use Rattle.end_for_callers.specs.Calls.{StationValue}
use Rattle.end_for_callers.proofs.StationBounds.{loses-none, ready-after}
use Rattle.end_for_callers.proofs.Deliveries.{does-after}
use Rattle.end_for_callers.proofs.station.Station.arrive.Goals as goal

pub returns-clause-does : goal.returns-clause-does
returns-clause-does c =
    rw (← c.self.view_is)
    (does-after (Deliver c.args.channel c.args.octets.now c.args.now) c.self.inside.end c.set_aside.new.end c.arrive.new.self c.self.inside.inbox
    c.arrive.new.taker c.self.inside.time c.args.now c.self.inside.reserve c.self.inside.openings
    c.set_aside.ensures.same c.arrive.ensures.turns c.arrive.ensures.time)

pub returns-clause-room : goal.returns-clause-room
returns-clause-room c =
    rw (← c.self.view_is)
    (loses-none (Deliver c.args.channel c.args.octets.now c.args.now) c.self.inside.reserve c.channels-channels.result
    c.self.inside.end c.set_aside.new.end c.arrive.new.self
    (c.channels-channels.ensures ∙ ap (λ (s : StationValue). (inside s.end).upper.count) (sym c.self.view_is))
    c.set_aside.ensures.same c.self.invariant.3 c.set_aside.ensures.bounded c.set_aside.ensures.deferred
    c.set_aside.ensures.shares c.arrive.ensures.turns.sent)

pub invariant_of-self : goal.invariant_of-self
invariant_of-self c =
    let ready = ready-after (Deliver c.args.channel c.args.octets.now c.args.now) c.self.inside.reserve
    c.self.inside.end c.set_aside.new.end c.arrive.new.self
    c.set_aside.ensures.same c.arrive.ensures.turns.left c.self.invariant.3 in
    let late = (and_parts (nat_le c.args.self.now.time c.args.now) (nat_le c.args.now TIME_MAX)
    c.in_ok-may_receive.ensures.time).1 in
    (omega (arith, c.arrive.ensures.time), leb-true c.args.now TIME_MAX late, c.self.invariant.2, ready)
