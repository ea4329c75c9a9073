use Rattle.std.proofs.KnownBytes.{Appends-trans}
use Rattle.capture_text.specs.Json.{direction_json}
use Rattle.capture_text.proofs.json.write_direction.Goals as goal

pub returns : goal.returns
unfolding direction_json
returns g c =
    Appends-trans _ _ _ _ _ (Appends-trans _ _ _ _ _
    (Appends-trans _ _ _ _ _ (Appends-trans _ _ _ _ _
    (Appends-trans _ _ _ _ _ (Appends-trans _ _ _ _ _ c.in_ok-write_ends.ensures c.in_ok-write_openings.ensures)
    c.in_ok-write_window.ensures) c.in_ok-write_kinds.ensures) c.in_ok-write_near.ensures)
    c.in_ok-write_parting.ensures) c.in_ok-write_channels.ensures
