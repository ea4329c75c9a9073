use Rattle.std.proofs.Common.{rules, ◌≡◌, inl, inr, ◌∙◌, arith}
use Rattle.std.proofs.lemmas.List.{get_or-set_same, get_or-set_other}
use Rattle.std.proofs.lemmas.Bool.{cases_lt}
use Rattle.md4.proofs.block.add_constant.Goals as goal

pub words-preserved : goal.words-preserved
words-preserved c = (
  search rules,
  λ k low. elim (cases_lt k c.words.i) [
    | inl before ↦ get_or-set_other c.words.sums c.words.i k _ 0 (omega arith) ∙ c.words.invariant.1 k before
    | inr over ↦
        let here : c.words.i ≡ k = omega arith in
        rw (← here) (get_or-set_same c.words.sums c.words.i _ 0 (omega arith))
  ],
)
