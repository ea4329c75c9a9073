use Rattle.stack_engine.proofs.Words.{ap, arith, length, Some, subst, suc, sym, take-length, ℕ, ◌-◌, ◌∙◌, ◌≡◌}
use Rattle.stack_engine.proofs.code.Histories.{all-left, found, go-back, IsLeft, none-left}
use Rattle.stack_engine.proofs.openings.latest_maker_of.Goals as goal

pub loop-number-init : goal.loop-number-init
loop-number-init g c = (
  omega arith,
  all-left c.args.octets.now c.args.incarnations.now (length c.args.incarnations.now)
      (take-length c.args.incarnations.now),
)

pub returns-then-has_made : goal.returns-then-has_made
returns-then-has_made g c = λ xs h.
    let n : ℕ = c.loop-number.number - 1 in
    let is : suc n ≡ c.loop-number.number = omega (arith, c.loop-number-test.true) in
    sym (found c.args.octets.now c.args.incarnations.now n c.index-incarnations-number.result
    (omega (arith, is, c.loop-number.invariant.0))
    c.index-incarnations-number.is
    (λ x k. sym (c.has_made.ensures x k) ∙ c.if-has_made.true)
    (subst (IsLeft c.args.octets.now c.args.incarnations.now) (sym is) c.loop-number.invariant.1) xs
    h ∙ ap Some is)

pub loop-number-preserved : goal.loop-number-preserved
loop-number-preserved g c =
    let n : ℕ = c.loop-number.number - 1 in
    let is : suc n ≡ c.loop-number.number = omega (arith, c.loop-number-test.true) in (
      omega (arith, c.loop-number.invariant.0),
      go-back c.args.octets.now c.args.incarnations.now n c.index-incarnations-number.result
          (omega (arith, is, c.loop-number.invariant.0))
          c.index-incarnations-number.is
          (λ x k. sym (c.has_made.ensures x k) ∙ c.if-has_made.false)
          (subst (IsLeft c.args.octets.now c.args.incarnations.now) (sym is) c.loop-number.invariant.1),
    )

pub returns : goal.returns
returns g c = λ xs h.
    let none : c.loop-number.number ≡ 0 = omega (arith, c.loop-number-test.false) in
    sym (none-left c.args.octets.now c.args.incarnations.now
    (subst (IsLeft c.args.octets.now c.args.incarnations.now) none c.loop-number.invariant.1) xs h)
