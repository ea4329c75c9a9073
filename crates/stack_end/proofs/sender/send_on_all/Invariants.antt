use Rattle.stack_end.proofs.Words.{FoldsTo, on_channels, SendsOne}
use Rattle.stack_end.proofs.sender.send_on_all.Given as goal

abbrev pub invariant-loop-channel : goal.invariant-loop-channel
invariant-loop-channel g l = FoldsTo SendsOne (g.C.Channels.told l.initial.channels) (on_channels l.channel l.datagram)
    (g.C.Channels.told l.channels)
