use Rattle.std.proofs.Common.{◌≢◌, ◌-◌, All, subst, rules, arith, take-take}
use Rattle.std.proofs.lemmas.List.Elements.{All-take, All-more}
use Rattle.capture_text.proofs.line_reader.length_through.Goals as goal

pub loop-size-preserved : goal.loop-size-preserved
loop-size-preserved c =
    (search rules, All-more (λ x. x ≢ 10) _ _ 0 (search rules) c.loop-size.invariant.1 (search rules))

pub returns-clause-before : goal.returns-clause-before
returns-clause-before c =
    let i = c.loop-size.size in
    subst (All (λ x. x ≢ 10)) (take-take (i - 1) i c.args.octets.now (omega arith))
    (All-take (λ x. x ≢ 10) (i - 1) _ c.loop-size.invariant.1)
