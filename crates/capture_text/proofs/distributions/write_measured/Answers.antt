use Rattle.std.proofs.KnownBytes.{Appends-trans}
use Rattle.capture_text.specs.Distributions.{measurements_text}
use Rattle.capture_text.proofs.distributions.write_measured.Goals as goal

pub returns : goal.returns
unfolding measurements_text
returns g c =
    Appends-trans _ _ _ _ _ (Appends-trans _ _ _ _ _
    (Appends-trans _ _ _ _ _ c.in_ok-write_distribution.ensures c.in_ok-write_distribution-2.ensures)
    c.in_ok-write_distribution-3.ensures) c.in_ok-write_distribution-4.ensures
