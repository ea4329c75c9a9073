use Rattle.std.proofs.Common.{rules}
use Rattle.rasta_words.specs.Arguments.{with_operand}
use Rattle.rasta_words.proofs.arguments.with_operand.Goals as goal

pub returns-clause-app : goal.returns-clause-app
unfolding with_operand
returns-clause-app c = search rules
