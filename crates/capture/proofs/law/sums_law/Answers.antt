use Rattle.std.proofs.Common.{refl}
use Rattle.capture.proofs.Sums.{counted_law, once_law}
use Rattle.capture.proofs.DatagramSums.{adds_up_law}
use Rattle.capture.proofs.law.sums_law.Goals as goal

pub returns : goal.returns
returns c = record {
  once = once_law;
  counted = counted_law;
  adds_up = adds_up_law;
  limits = (refl, refl, refl, refl, refl, refl, refl, refl);
}
