use Rattle.stack_engine.proofs.Words.{ap, EarlierRepresent, length, reverse, Some, subst, sym, ℕ, ◌+◌, ◌∙◌, ◌≡◌}
use Rattle.std.proofs.Common.{rules, vec_len}
use Rattle.stack_engine.proofs.code.Histories.{present-made, present-not}
use Rattle.stack_engine.proofs.openings.Openings.latest_maker.Goals as goal

pub returns-in-Some : goal.returns-in-Some
returns-in-Some g c = λ xs h.
    let size : vec_len c.args.self.now.before ≡ length c.args.self.now.before.items = search rules in
    ap (λ (n : ℕ). Some (n + 1)) (c.len.ensures ∙ size)
    ∙ present-made c.args.self.now c.in-Some.present c.args.octets.now xs c.in-Some.is
    (λ x k. sym (c.has_made.ensures x k) ∙ c.if-has_made.true) h

pub returns-in-Some-2 : goal.returns-in-Some-2
returns-in-Some-2 g c = λ xs h.
    present-not c.args.self.now c.in-Some.present c.args.octets.now _ c.in-Some.is (λ x k. sym (c.has_made.ensures x k)
    ∙ c.if-has_made.false)
    (λ ys k. c.latest_maker_of.ensures ys (subst (λ is. EarlierRepresent (reverse is) ys) (sym c.deref.ensures.value)
    k)) xs h
