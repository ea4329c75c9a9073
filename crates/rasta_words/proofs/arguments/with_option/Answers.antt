use Rattle.std.proofs.Common.{rules}
use Rattle.rasta_words.specs.Arguments.{with_option}
use Rattle.rasta_words.proofs.arguments.with_option.Goals as goal

pub returns-clause-app : goal.returns-clause-app
unfolding with_option
returns-clause-app c = search rules
