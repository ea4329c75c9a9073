use Rattle.std.proofs.KnownBytes.{Appends-trans}
use Rattle.capture_text.specs.Sentence.{last_pdu_text}
use Rattle.capture_text.proofs.sentence.write_last_heard.Goals as goal

pub returns : goal.returns
unfolding last_pdu_text
returns g c = Appends-trans _ _ _ _ _ c.in_ok-write_text.ensures c.in_ok-write_since.ensures
