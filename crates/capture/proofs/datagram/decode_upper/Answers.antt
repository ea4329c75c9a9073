use Rattle.std.proofs.Common.{rules}
use Rattle.capture.proofs.datagram.decode_upper.Goals as goal

pub returns-in-Ok : goal.returns-in-Ok
returns-in-Ok c = rw (c.in-Ok.ensures.found, c.read_header.ensures) (search rules)
