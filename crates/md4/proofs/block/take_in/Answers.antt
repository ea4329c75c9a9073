use Rattle.std.proofs.Common.{refl, arith}
use Rattle.md4.specs.Digest.{after_block}
use Rattle.md4.proofs.Blocks.{words_are}
use Rattle.md4.proofs.block.take_in.Goals as goal

pub returns : goal.returns
unfolding after_block
returns c =
    let words = words_are c.args.block.now c.read_u32_into.new.dst (omega arith) c.read_u32_into.ensures in
    rw (c.after_third-v.ensures, c.after_second.ensures, c.after_first.ensures, words) refl
