use Rattle.std.proofs.KnownBytes.{Appends-trans}
use Rattle.capture_text.specs.Distributions.{measurements_json}
use Rattle.capture_text.proofs.distributions.write_measured_json.Goals as goal

pub returns : goal.returns
unfolding measurements_json
returns g c =
    Appends-trans _ _ _ _ _ (Appends-trans _ _ _ _ _
    (Appends-trans _ _ _ _ _ (Appends-trans _ _ _ _ _ c.in_ok-write_distribution_json.ensures
    c.in_ok-write_distribution_json-2.ensures) c.in_ok-write_distribution_json-3.ensures)
    c.in_ok-write_distribution_json-4.ensures) c.in_ok-write_text.ensures
