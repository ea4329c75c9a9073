use Rattle.std.proofs.Common.{rules}
use Rattle.std.proofs.lemmas.Slice.{overwrites}
use Rattle.octets.proofs.places.put_u32.Goals as goal

pub returns-clause-rest : goal.returns-clause-rest
returns-clause-rest c = search (rules, overwrites)
