use Rattle.stack_end.proofs.Words.{can_pack, false, fields_of, Inside, subst, sym, ◌≡◌}
use Rattle.stack_end.proofs.Deliveries.{completes-empties}
use Rattle.stack_end.proofs.end.End.init_done.Goals as goal

pub returns-clause-packs : goal.returns-clause-packs
returns-clause-packs g c =
    subst (λ (i : Inside). can_pack i.upper ≡ false) (sym c.in_ok-init_done.ensures.does.left)
    (completes-empties c.args.now (fields_of c.self.inside.layers.upper) c.self.invariant.some)
