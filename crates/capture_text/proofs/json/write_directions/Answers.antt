use Rattle.std.proofs.KnownBytes.{Appends-trans}
use Rattle.capture_text.specs.Json.{directions_json}
use Rattle.capture_text.proofs.json.write_directions.Goals as goal

pub returns : goal.returns
unfolding directions_json
returns g c =
    Appends-trans _ _ _ _ _ (Appends-trans _ _ _ _ _
    (Appends-trans _ _ _ _ _ (Appends-trans _ _ _ _ _ c.in_ok-write_text.ensures c.in_ok-write_direction.ensures)
    c.in_ok-write_text-2.ensures) c.in_ok-write_direction-2.ensures) c.in_ok-write_text-3.ensures
