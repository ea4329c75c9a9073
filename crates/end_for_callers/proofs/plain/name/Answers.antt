use Rattle.end_for_callers.proofs.Rows.{no_text}
use Rattle.end_for_callers.proofs.plain.name.Goals as goal

pub returns-in_default : goal.returns-in_default
returns-in_default c = no_text c.args.row.now (rw (← c.text_size-size.ensures) c.in_default.ensures.cases.0)
