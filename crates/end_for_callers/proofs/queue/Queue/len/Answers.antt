use Rattle.std.proofs.Common.{◌∙◌, sym}
use Rattle.end_for_callers.proofs.Pieces.{pieces-length}
use Rattle.end_for_callers.proofs.queue.Queue.len.Goals as goal

pub returns : goal.returns
returns g c =
    rw (← c.self.view_is) (c.len-waiting.ensures.len
    ∙ sym (pieces-length c.self.inside.heads.items c.self.inside.octets.items))
