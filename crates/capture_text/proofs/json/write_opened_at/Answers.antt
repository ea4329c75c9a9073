use Rattle.std.proofs.KnownBytes.{Appends-trans}
use Rattle.capture_text.specs.Json.{opening_time_json}
use Rattle.capture_text.proofs.json.write_opened_at.Goals as goal

pub returns : goal.returns
unfolding opening_time_json
returns g c = Appends-trans _ _ _ _ _ c.in_ok-write_text.ensures c.in_ok-write_time.ensures
