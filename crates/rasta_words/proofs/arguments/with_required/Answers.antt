use Rattle.std.proofs.Common.{rules}
use Rattle.rasta_words.specs.Arguments.{with_required}
use Rattle.rasta_words.proofs.arguments.with_required.Goals as goal

pub returns-clause-app : goal.returns-clause-app
unfolding with_required
returns-clause-app c = search rules
