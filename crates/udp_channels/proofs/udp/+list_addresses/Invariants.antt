use Rattle.std.proofs.Common.{length}
use Rattle.udp_channels.proofs.udp.+list_addresses.Given as goal

abbrev pub decreases-list_addresses : goal.decreases-list_addresses
decreases-list_addresses g l = length l.own.now
