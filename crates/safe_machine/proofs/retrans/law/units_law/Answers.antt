use Rattle.safe_machine.proofs.UnitLemmas.{Rises-renumbered, front_first, octets-renumbered}
use Rattle.safe_machine.proofs.retrans.law.units_law.Goals as goal

pub returns-clause-front : goal.returns-clause-front
returns-clause-front c = front_first

pub returns-clause-kept : goal.returns-clause-kept
returns-clause-kept c = octets-renumbered

pub returns-clause-rising : goal.returns-clause-rising
returns-clause-rising c = Rises-renumbered
