use Rattle.std.proofs.Common.{map, take}
use Rattle.std.specs.List.{concat}
use Rattle.md4.specs.Md4.{StandsFor}
use Rattle.md4.proofs.digest_of_pieces.Given as goal

-- exactly the pieces so far have been fed
abbrev pub invariant-loop-piece : goal.invariant-loop-piece
invariant-loop-piece l = StandsFor l.md4 l.fn.iv (concat (map (λ piece. piece.now) (take l.piece-index l.pieces)))
