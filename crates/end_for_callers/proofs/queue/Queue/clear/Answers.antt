use Rattle.end_for_callers.proofs.Pieces.{emptied-is}
use Rattle.end_for_callers.proofs.queue.Queue.clear.Goals as goal

pub returns : goal.returns
returns g c =
    rw (← c.self.view_is)
    (emptied-is c.self.inside.heads c.clear.new.self c.self.inside.octets c.clear-2.new.self c.self.invariant
    c.clear.ensures c.clear-2.ensures)
