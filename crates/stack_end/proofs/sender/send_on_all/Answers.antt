use Rattle.stack_end.proofs.Words.{SendsOne}
use Rattle.std.proofs.Common.{is_ok}
use Rattle.stack_end.proofs.CallParts.{FoldsTo-channel}
use Rattle.stack_end.proofs.sender.send_on_all.Goals as goal

pub loop-channel-preserved : goal.loop-channel-preserved
loop-channel-preserved g c =
    FoldsTo-channel SendsOne c.loop-channel.channel c.args.datagram.now _ _ _ c.loop-channel.invariant
    (is_ok c.send.result, c.send.ensures)
