use Rattle.std.proofs.Common.{length}
use Rattle.udp_channels.proofs.sockets.+receive_in_order.Given as goal

abbrev pub decreases-receive_in_order : goal.decreases-receive_in_order
decreases-receive_in_order g l = length l.list.now
