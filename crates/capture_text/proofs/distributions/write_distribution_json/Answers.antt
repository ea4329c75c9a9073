use Rattle.std.proofs.KnownBytes.{Appends-trans}
use Rattle.capture_text.specs.Distributions.{distribution_json}
use Rattle.capture_text.proofs.distributions.write_distribution_json.Goals as goal

pub returns : goal.returns
unfolding distribution_json
returns g c =
    Appends-trans _ _ _ _ _ (Appends-trans _ _ _ _ _
    (Appends-trans _ _ _ _ _ c.in_ok-write_text.ensures c.in_ok-write_greatest_json.ensures)
    c.in_ok-write_counts.ensures) c.in_ok-write_text-2.ensures
