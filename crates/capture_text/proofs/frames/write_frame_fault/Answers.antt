use Rattle.capture_text.specs.FaultText.{frame_text}
use Rattle.capture_text.proofs.frames.write_frame_fault.Goals as goal

pub returns : goal.returns
unfolding frame_text
returns g c = rw c.word_of-word.ensures at c.writeln.ensures.bytes
