use Rattle.std.proofs.Common.{rules, arith}
use Rattle.std.proofs.lemmas.Grind.{common_steps}
use Rattle.sim.proofs.LedgerLemmas.{first_left}
use Rattle.sim.specs.Ledger.{is_named_among}
use Rattle.sim.proofs.labels.first_from.Goals as goal

pub returns-then-not-is_named-clause-first : goal.returns-then-not-is_named-clause-first
returns-then-not-is_named-clause-first g c =
    first_left (is_named_among c.args.il.now c.args.fe.now) c.args.order.now c.loop-place.place c.loop-place.invariant
    (λ within d. grind (arith, common_steps, c.is_named.ensures, c.if-not-is_named.true))

pub returns-clause-first : goal.returns-clause-first
returns-clause-first g c =
    first_left (is_named_among c.args.il.now c.args.fe.now) c.args.order.now _ (search rules)
    (λ within d. absurd (omega arith))
