use Rattle.stack_engine.proofs.Words.{ap, arith, KeeperValue}
use Rattle.stack_engine.proofs.code.Numbers.{first-numbered, kept-numbered, next-numbered}
use Rattle.stack_engine.proofs.keeper.Keeper.first_number_with.Goals as goal

pub returns-then-kept-eq0 : goal.returns-then-kept-eq0
returns-then-kept-eq0 g c =
    first-numbered c.in_ok-number.number c.args.self.now.datagrams c.args.datagram.now c.upper_part.result.now
    (omega arith) c.upper_part.ensures
    c.in_ok-number.ensures (omega arith)

pub returns-then-first-place : goal.returns-then-first-place
returns-then-first-place g c =
    next-numbered c.in_ok-first.first c.in_ok-number.number c.in-Ok.place c.args.self.now.datagrams c.args.datagram.now
    c.upper_part.result.now
    (kept-numbered c.self.inside.first_number c.in_ok-first.first c.self.inside.datagrams.texts
    c.args.self.now.datagrams c.in_ok-first.was c.self.invariant
    (ap (λ (k : KeeperValue). k.datagrams) c.self.view_is))
    (omega (arith, c.in-Ok.ensures), omega (arith, c.in-Ok.ensures)) c.upper_part.ensures c.in_ok-number.ensures
    c.if-first-place.true
