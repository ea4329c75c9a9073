use Rattle.std.proofs.Common.{refl, subst}
use Rattle.rasta_words.specs.CommandLine.{FindsNone}
use Rattle.rasta_words.specs.Rejections.{IsReason}
use Rattle.rasta_words.proofs.command_line.command.Goals as goal

pub returns-clause-refused : goal.returns-clause-refused
returns-clause-refused g c = (
  subst FindsNone c.in_ok-matches.ensures.rows (c.in-Err.ensures.none refl),
  subst (λ found. IsReason found c.in-Err.rejection) c.in_ok-matches.ensures.rows c.in-Err.ensures.refused,
)
