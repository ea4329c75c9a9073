use Rattle.std.proofs.Common.{◌≡◌, ◌+◌, ◌-◌, ◌*◌, arith, sym, ◌∙◌}
use Rattle.md4.proofs.Pieces.{words_after-next}
use Rattle.md4.proofs.block.take_in_all.Goals as goal

pub blocks-2-preserved : goal.blocks-2-preserved
blocks-2-preserved c =
    let at : 64 * c.blocks-2.i ≡ c.blocks-2.i * 64 = omega arith in
    let width : 64 * c.blocks-2.i + 64 - 64 * c.blocks-2.i ≡ 64 = omega arith in
    c.take_in.ensures ∙ rw (width, at, c.blocks-2.invariant)
    (sym (words_after-next c.args.words.now c.blocks-2.i c.args.blocks.now))
