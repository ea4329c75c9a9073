use Rattle.std.proofs.Common.{inl, inr, rules}
use Rattle.rasta_words.proofs.command_line.request_by_name.Goals as goal

-- the fourth of the reasons: those of `follow`
pub returns-in-Err-clause-refused : goal.returns-in-Err-clause-refused
returns-in-Err-clause-refused c = inr (inr (inr (inl (search rules, c.in-Err.ensures.refused))))
