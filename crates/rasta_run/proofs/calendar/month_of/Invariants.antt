-- The days of the months so far, and the rest, are all days of the year.
use Rattle.std.proofs.Common.{◌≡◌, ◌+◌}
use Rattle.rasta_run.specs.Calendar.{days_of_months}
use Rattle.rasta_run.proofs.calendar.month_of.Given as goal

abbrev pub invariant-months : goal.invariant-months
invariant-months l = days_of_months l.leap l.months + l.rest ≡ l.initial.rest
