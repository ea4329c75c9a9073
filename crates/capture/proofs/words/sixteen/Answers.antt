use Rattle.std.proofs.Common.{Some, ap}
use Rattle.capture.proofs.Ipv6.{whole_ipv6, no_ipv6}
use Rattle.capture.proofs.words.sixteen.Goals as goal

pub returns-in-Ok : goal.returns-in-Ok
returns-in-Ok c = rw (whole_ipv6 _ _ c.in-Ok.ensures) (ap Some c.octets.ensures)

pub returns-in-Err : goal.returns-in-Err
returns-in-Err c = rw (no_ipv6 _ (λ groups. c.in-Err.ensures (record { segments = groups })))
