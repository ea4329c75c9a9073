use Rattle.std.proofs.Common.{ap, ◌∙◌}
use Rattle.safe_machine.specs.Settings.{is_legal}
use Rattle.end_settings.specs.declared.Side.TheVariants.{Interlocking}
use Rattle.end_settings.proofs.EndConfig.is_connection.Goals as goal

pub returns : goal.returns
returns c = c.is_legal.ensures ∙ ap is_legal (c.machine.ensures Interlocking)
