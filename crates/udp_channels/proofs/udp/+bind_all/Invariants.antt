use Rattle.std.proofs.Common.{length}
use Rattle.udp_channels.proofs.udp.+bind_all.Given as goal

abbrev pub decreases-bind_all : goal.decreases-bind_all
decreases-bind_all g l = length l.addresses.now
