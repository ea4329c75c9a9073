use Rattle.pdi_session.proofs.UnitLemmas.{unit_only}
use Rattle.pdi_session.proofs.packing.unit.one_spelling.Goals as goal

pub returns-clause-value : goal.returns-clause-value
returns-clause-value c = λ ms other octets a b. let first = unit_only ms octets a in let second =
    unit_only other octets b in cc

pub returns-clause-read : goal.returns-clause-read
returns-clause-read c = unit_only
