use Rattle.std.proofs.KnownBytes.{Appends-trans}
use Rattle.capture_text.specs.Json.{opening_type_json}
use Rattle.capture_text.proofs.json.write_opened.Goals as goal

pub returns : goal.returns
unfolding opening_type_json
returns g c = Appends-trans _ _ _ _ _ c.in_ok-write_text.ensures c.in_ok-write_opening.ensures
