use Rattle.std.proofs.Common.{refl}
use Rattle.md4.specs.Digest.{after_round}
use Rattle.md4.proofs.block.after_first.Goals as goal

pub returns : goal.returns
unfolding after_round
returns c = rw (c.first_four.ensures, c.first_four-v-3.ensures, c.first_four-v-2.ensures, c.first_four-v.ensures) refl
