use Rattle.std.proofs.Common.{◌≡◌, [], drop, refl, arith, length-drop}
use Rattle.std.proofs.lemmas.List.{drop_all, append-nil}
use Rattle.md4.proofs.padding.with_bit_count.Goals as goal
use borrow.Rule.Slice.PartMut.{post_of}

pub returns : goal.returns
returns c =
    let rest : post_of 56 8 c.args.block ≡ [] = drop_all 8 (drop 56 c.args.block)
    (omega (arith, length-drop 56 c.args.block)) in
    rw (rest, append-nil, c.copy_from_slice.ensures.after, c.to_le_bytes.ensures) refl
