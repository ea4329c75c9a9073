use Rattle.stack_engine.proofs.Words.{ap, KeeperValue}
use Rattle.stack_engine.proofs.code.Numbers.{kept-more}
use Rattle.stack_engine.proofs.keeper.KeeperChannels.send.Goals as goal

pub invariant_of-self-2 : goal.invariant_of-self-2
invariant_of-self-2 g c =
    kept-more c.first_number_with-self-inside.result c.self.inside.datagrams.texts c.add.new.self.texts
    c.args.self.now.datagrams c.args.datagram.now
    c.first_number_with-self-inside.ensures (ap (λ (k : KeeperValue). k.datagrams) c.self.view_is) c.add.ensures.added
