use Rattle.std.proofs.Common.{rules}
use Rattle.udp_channels.proofs.SocketLemmas.{sends-on}
use Rattle.udp_channels.proofs.sockets.send_on.Goals as goal

pub returns-in-Ok-clause-sent : goal.returns-in-Ok-clause-sent
returns-in-Ok-clause-sent g c =
    sends-on c.args.list.now _ c.if-channel-eq0.false c.if-channel-list.false (search rules) c.send.ensures

pub returns-in-Err-clause-sent : goal.returns-in-Err-clause-sent
returns-in-Err-clause-sent t c =
    sends-on c.args.list.now _ c.if-channel-eq0.false c.if-channel-list.false (search rules) c.send.ensures
