use Rattle.std.proofs.Common.{◌%◌, ◌++◌, refl, inl}
use Rattle.rasta_run.specs.LineTimes.{after_time, utc_text}
use Rattle.rasta_run.proofs.line_times.write_in_utc.Goals as goal

pub returns-in_ok-write_dated-in-Some : goal.returns-in_ok-write_dated-in-Some
returns-in_ok-write_dated-in-Some g c = (
  utc_text c.in-Some.date (c.args.at % 86_400_000) ++ after_time c.args.line.now,
  inl (c.in-Some.date, c.in-Some.ensures.some, refl),
  c.in_ok-write_dated-in-Some.ensures,
)
