use Rattle.std.proofs.Common.{ap, sym, ◌∙◌}
use Rattle.rasta_run.specs.LineTimes.{from_place}
use Rattle.rasta_run.proofs.BacklogLemmas.{rest-all}
use Rattle.rasta_run.proofs.line_times.from_place.Goals as goal

pub returns-in-Some : goal.returns-in-Some
returns-in-Some c = rest-all c.in-Some.place c.args.line.now ∙ ap (λ p. from_place p c.args.line.now) (sym c.in-Some.is)
