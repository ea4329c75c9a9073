use Rattle.stack_end.proofs.Words.{can_pack, false, fields_of, Inside, inside, PutOut, subst, sym, ◌≡◌}
use Rattle.stack_end.proofs.Deliveries.{puts-empties, puts-out}
use Rattle.stack_end.proofs.end.End.put.Goals as goal

pub returns-clause-packs : goal.returns-clause-packs
returns-clause-packs g c =
    subst (λ (i : Inside). can_pack i.upper ≡ false) (sym c.in_ok-put.ensures.does.left)
    (puts-empties c.args.kind c.args.payload.now c.args.now (fields_of c.self.inside.layers.upper)
    c.self.invariant.some)

pub returns-clause-kept : goal.returns-clause-kept
returns-clause-kept g c =
    let v = fields_of c.self.inside.layers.upper in
    let out = puts-out c.args.kind c.args.payload.now c.args.now v c.in_ok-put.ensures.answer in
    subst (λ q. PutOut c.args.kind c.args.payload.now (inside q).upper (fields_of c.put.new.self.upper)) c.self.view_is
    (subst (λ (i : Inside). PutOut c.args.kind c.args.payload.now v i.upper) (sym c.in_ok-put.ensures.does.left) out)
