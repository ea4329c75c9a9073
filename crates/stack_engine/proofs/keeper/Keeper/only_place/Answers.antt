use Rattle.stack_engine.proofs.Words.{ap, arith, KeeperValue}
use Rattle.stack_engine.proofs.code.Numbers.{kept-numbered, only-by-number}
use Rattle.stack_engine.proofs.keeper.Keeper.only_place.Goals as goal

pub returns : goal.returns
returns g c =
    only-by-number c.in_ok-first.first c.in_ok-number.number c.args.part.now c.args.self.now.datagrams (omega arith)
    (kept-numbered c.self.inside.first_number c.in_ok-first.first c.self.inside.datagrams.texts
    c.args.self.now.datagrams c.in_ok-first.was c.self.invariant
    (ap (λ (k : KeeperValue). k.datagrams) c.self.view_is)) c.in_ok-number.ensures
