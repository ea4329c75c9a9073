use Rattle.std.proofs.Common.{rules, arith}
use Rattle.sim.proofs.MadePdusLemmas.{named_where_kept}
use Rattle.sim.proofs.made_pdus.MadePdus.name.Goals as goal

pub returns-then-place-len : goal.returns-then-place-len
returns-then-place-len g c =
    rw (← c.self.view_is) (named_where_kept c.self.inside.pdus.items c.args.place c.index_mut.result.now (omega arith)
    c.index_mut.ensures.value)
