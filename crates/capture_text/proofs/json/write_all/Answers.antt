use Rattle.std.proofs.KnownBytes.{Appends-trans}
use Rattle.capture_text.specs.Json.{all_json}
use Rattle.capture_text.proofs.json.write_all.Goals as goal

pub returns : goal.returns
unfolding all_json
returns g c =
    Appends-trans _ _ _ _ _ (Appends-trans _ _ _ _ _
    (Appends-trans _ _ _ _ _ (Appends-trans _ _ _ _ _ c.in_ok-write_count.ensures c.in_ok-write_numbers.ensures)
    c.in_ok-write_counts.ensures) c.in_ok-write_passed_json.ensures) c.in_ok-write_text.ensures
