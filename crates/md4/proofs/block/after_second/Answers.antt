use Rattle.std.proofs.Common.{refl, arith}
use Rattle.md4.specs.Digest.{second_round, after_round}
use Rattle.md4.proofs.Blocks.{row_of}
use Rattle.md4.proofs.block.after_second.Goals as goal

pub returns : goal.returns
unfolding after_round
returns c =
    let one = c.second_four-v.ensures _ (row_of second_round c.args.w.now _ c.add_constant-w.ensures 0 4 8 12
    (omega arith) (omega arith) (omega arith) (omega arith)) in
    let two = c.second_four-v-2.ensures _ (row_of second_round c.args.w.now _ c.add_constant-w.ensures 1 5 9 13
    (omega arith) (omega arith) (omega arith) (omega arith)) in
    let three = c.second_four-v-3.ensures _ (row_of second_round c.args.w.now _ c.add_constant-w.ensures 2 6 10 14
    (omega arith) (omega arith) (omega arith) (omega arith)) in
    let four = c.second_four.ensures _ (row_of second_round c.args.w.now _ c.add_constant-w.ensures 3 7 11 15
    (omega arith) (omega arith) (omega arith) (omega arith)) in
    rw (four, three, two, one) refl
