use Rattle.std.proofs.Common.{refl, []}
use Rattle.md4.proofs.Pieces.{StandsFor-from}
use Rattle.md4.proofs.Md4.new.Goals as goal

pub returns : goal.returns
returns c = StandsFor-from _ c.args.iv [] refl (record { blocks = refl; behind = refl })
