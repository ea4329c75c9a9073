use Rattle.std.proofs.Common.{rules}
use Rattle.rasta_words.specs.Arguments.{with_flag}
use Rattle.rasta_words.proofs.arguments.with_flag.Goals as goal

pub returns-clause-app : goal.returns-clause-app
unfolding with_flag
returns-clause-app c = search rules
