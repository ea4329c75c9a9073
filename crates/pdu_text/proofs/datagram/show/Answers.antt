use Rattle.std.proofs.KnownBytes.{Appends-trans}
use Rattle.pdu_text.proofs.datagram.show.Goals as goal

pub returns-in_ok-clean-in-Ok-clause-written : goal.returns-in_ok-clean-in-Ok-clause-written
returns-in_ok-clean-in-Ok-clause-written g c =
    rw (← c.in-Ok.ensures.exact) (Appends-trans _ _ _ _ _ c.in_ok-write_red-in-Ok.ensures
    c.in_ok-clean-in-Ok.ensures.written)
