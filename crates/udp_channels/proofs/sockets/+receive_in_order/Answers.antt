use Rattle.std.proofs.Common.{rules}
use Rattle.channels.specs.ChannelHistory.{answers_of}
use Rattle.udp_channels.proofs.SocketLemmas.{asks-came, asks-nothing, asks-refused}
use Rattle.udp_channels.proofs.sockets.+receive_in_order.Goals as goal

pub returns-in-Came-clause-asked : goal.returns-in-Came-clause-asked
returns-in-Came-clause-asked g t c = asks-came c.args.first c.in-Some.ensures.cases.0 c.in-Came.ensures.asked

pub returns-in-Nothing-clause-asked : goal.returns-in-Nothing-clause-asked
returns-in-Nothing-clause-asked g t c =
    asks-nothing c.args.first c.receive_in_order.result c.or_nothing.result c.receive_in_order.new.buffer
    c.receive_in_order.new.list
    c.or_nothing.ensures c.in-Some.ensures.cases.0 (search rules) c.in-Nothing.ensures.asked
    c.receive_in_order.ensures.asked

pub returns-in-Refused-clause-asked : goal.returns-in-Refused-clause-asked
returns-in-Refused-clause-asked g t c =
    asks-refused c.args.first
    (answers_of c.receive_in_order-in-Refused.result c.receive_in_order-in-Refused.new.buffer)
    c.receive_in_order-in-Refused.new.list
    c.in-Some.ensures.cases.0 (search rules) c.in-Refused.ensures.asked c.receive_in_order-in-Refused.ensures.asked
