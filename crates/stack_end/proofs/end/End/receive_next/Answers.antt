use Rattle.stack_end.proofs.Words.{refl, take}
use Rattle.stack_end.proofs.end.End.receive_next.Goals as goal

pub returns-in-Ok-Some-clause-heard : goal.returns-in-Ok-Some-clause-heard
returns-in-Ok-Some-clause-heard g c =
    let size = c.in-Ok-Some.size in
    let buffer = c.request_datagram.new.buffer in
    let asked = rw c.in-Ok-Some.field-0-is at c.in-Ok-Some.ensures.asked in (
      (c.in-Ok-Some.channel, take size buffer),
      (
        size,
        buffer,
        c.request_datagram.new.self,
        refl,
        asked,
        c.arrive.ensures.turns,
        c.arrive.ensures.time,
        c.arrive.ensures.received,
        c.arrive.ensures.recent,
      ),
    )
