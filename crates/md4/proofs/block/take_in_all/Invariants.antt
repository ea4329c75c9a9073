use Rattle.std.proofs.Common.{◌≡◌}
use Rattle.md4.proofs.Pieces.{words_after}
use Rattle.md4.proofs.block.take_in_all.Given as goal

-- the words have taken in the blocks so far
abbrev pub invariant-blocks-2 : goal.invariant-blocks-2
invariant-blocks-2 l = l.words ≡ words_after l.fn.words l.i l.blocks
