use Rattle.std.proofs.Common.{◌≡◌, ◌+◌, ◌≤◌, length, take}
use Rattle.stack_engine.specs.PairValue.{events_of, RunsTo}
use Rattle.stack_engine.proofs.pair.Pair.run.Given as goal

abbrev pub invariant-loop-event : goal.invariant-loop-event
invariant-loop-event g l = record {
  ran : RunsTo l.initial.self (take l.event-index (events_of l.events)) l.self;
  count : length l.self ≡ length l.initial.self + l.count;
  within : l.count ≤ l.event-index;
}
