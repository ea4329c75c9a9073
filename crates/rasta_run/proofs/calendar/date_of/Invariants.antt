-- The days of the years so far, and the rest, are all days.
use Rattle.std.proofs.Common.{◌≡◌, ◌+◌}
use Rattle.rasta_run.specs.Calendar.{days_of_years}
use Rattle.rasta_run.proofs.calendar.date_of.Given as goal

abbrev pub invariant-years : goal.invariant-years
invariant-years l = days_of_years l.years + l.rest ≡ l.initial.rest
