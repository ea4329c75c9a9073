use Rattle.std.proofs.Common.{rules}
use Rattle.rasta_words.specs.Arguments.{with_last}
use Rattle.rasta_words.proofs.arguments.with_last.Goals as goal

pub returns-clause-app : goal.returns-clause-app
unfolding with_last
returns-clause-app c = search rules
