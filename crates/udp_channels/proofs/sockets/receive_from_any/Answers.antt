use Rattle.std.proofs.Common.{rules, Some, None, [], refl}
use Rattle.channels.specs.ChannelHistory.{answers_of}
use Rattle.udp_channels.proofs.SocketLemmas.{asks-around, asks-on, then-asked, then-joined}
use Rattle.udp_channels.proofs.sockets.receive_from_any.Goals as goal

pub returns-in-Ok-Some-clause-asked : goal.returns-in-Ok-Some-clause-asked
returns-in-Ok-Some-clause-asked g c =
    asks-on c.args.last (Some c.in-Ok-Some.came) c.in-Ok-Some.field-0 c.receive_in_order.new.buffer _ c.args.list.now
    c.split_at_mut-earlier.result.0.now c.split_at_mut-earlier.result.1.now c.split_at_mut-earlier.result.0.now
    c.receive_in_order.new.list
    c.split_at_mut-earlier.ensures.front_len c.split_at_mut-earlier.ensures.front c.split_at_mut-earlier.ensures.back
    c.in-Ok-Some.field-0-is c.in-Ok-Some.ensures.asked (refl, refl)

pub returns-in-Ok-None-clause-asked : goal.returns-in-Ok-None-clause-asked
returns-in-Ok-None-clause-asked g c =
    asks-on c.args.last None c.in-Ok-None.field-0 c.receive_in_order.new.buffer
    (answers_of c.or_nothing.result c.receive_in_order-in-Ok-None.new.buffer) c.args.list.now
    c.split_at_mut-earlier.result.0.now c.split_at_mut-earlier.result.1.now c.receive_in_order-in-Ok-None.new.list c.receive_in_order.new.list
    (search (rules, c.split_at_mut-earlier.ensures.front_len)) c.split_at_mut-earlier.ensures.front
    c.split_at_mut-earlier.ensures.back
    c.in-Ok-None.field-0-is c.in-Ok-None.ensures.asked
    (then-joined g.S.Socket.receives c.receive_in_order-in-Ok-None.result c.or_nothing.result c.receive_in_order-in-Ok-None.new.buffer
    c.split_at_mut-earlier.result.0.now c.receive_in_order-in-Ok-None.new.list c.or_nothing.ensures (search rules)
    c.receive_in_order-in-Ok-None.ensures.asked)

pub returns-in-Err-clause-asked : goal.returns-in-Err-clause-asked
returns-in-Err-clause-asked g c =
    asks-around c.args.last [] (answers_of c.receive_in_order-in-Err.result c.receive_in_order-in-Err.new.buffer) c.args.list.now
    c.split_at_mut-earlier.result.0.now c.split_at_mut-earlier.result.1.now c.receive_in_order-in-Err.new.list c.receive_in_order.new.list
    (search (rules, c.split_at_mut-earlier.ensures.front_len)) c.split_at_mut-earlier.ensures.front
    c.split_at_mut-earlier.ensures.back
    c.in-Err.ensures.asked
    (then-asked g.S.Socket.receives (answers_of c.receive_in_order-in-Err.result c.receive_in_order-in-Err.new.buffer)
    c.split_at_mut-earlier.result.0.now
    c.receive_in_order-in-Err.new.list (search rules) c.receive_in_order-in-Err.ensures.asked)
