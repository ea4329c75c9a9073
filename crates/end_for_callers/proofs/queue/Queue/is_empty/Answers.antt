use Rattle.std.proofs.Common.{◌∙◌, ap, sym, ◌==◌}
use Rattle.end_for_callers.proofs.Pieces.{pieces-length}
use Rattle.end_for_callers.proofs.queue.Queue.is_empty.Goals as goal

pub returns : goal.returns
returns g c =
    rw (← c.self.view_is)
    (c.is_empty.ensures ∙ ap (λ n. n == 0) (sym (pieces-length c.self.inside.heads.items c.self.inside.octets.items)))
