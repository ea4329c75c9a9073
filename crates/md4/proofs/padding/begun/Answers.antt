use Rattle.md4.proofs.Whole.{begun_is}
use Rattle.md4.proofs.padding.begun.Goals as goal

pub returns : goal.returns
returns c = begun_is c.args.behind.now _ c.requires c.copy_from_slice.ensures.after
