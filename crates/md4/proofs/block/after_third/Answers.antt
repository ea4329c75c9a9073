use Rattle.std.proofs.Common.{refl, arith}
use Rattle.md4.specs.Digest.{third_round, after_round}
use Rattle.md4.proofs.Blocks.{row_of}
use Rattle.md4.proofs.block.after_third.Goals as goal

pub returns : goal.returns
unfolding after_round
returns c =
    let one = c.third_four-v.ensures _ (row_of third_round c.args.w.now _ c.add_constant-w.ensures 0 8 4 12 (omega arith)
    (omega arith) (omega arith) (omega arith)) in
    let two = c.third_four-v-2.ensures _ (row_of third_round c.args.w.now _ c.add_constant-w.ensures 2 10 6 14
    (omega arith) (omega arith) (omega arith) (omega arith)) in
    let three = c.third_four-v-3.ensures _ (row_of third_round c.args.w.now _ c.add_constant-w.ensures 1 9 5 13
    (omega arith) (omega arith) (omega arith) (omega arith)) in
    let four = c.third_four.ensures _ (row_of third_round c.args.w.now _ c.add_constant-w.ensures 3 11 7 15 (omega arith)
    (omega arith) (omega arith) (omega arith)) in
    rw (four, three, two, one) refl
