use Rattle.std.proofs.Common.{rules}
use Rattle.rasta_words.specs.Arguments.{with_command}
use Rattle.rasta_words.proofs.arguments.with_command.Goals as goal

pub returns-clause-app : goal.returns-clause-app
unfolding with_command
returns-clause-app c = search rules
