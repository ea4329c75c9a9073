-- An end is closed or it is not.
use Rattle.stack_engine.proofs.Words.{ap, Closed, ConnectionState, false, is_closed, refl, sym, true, ◌∙◌, ◌≡◌, ◌≢◌}

pub shut-closed : (c : ConnectionState) → is_closed c ≡ false → c ≢ Closed
shut-closed c h e = true-false (sym (ap is_closed e) ∙ h)
  where
    true-false : true ≡ false → ⊥
    true-false e = cc

pub closed-shut : (c : ConnectionState) → c ≢ Closed → is_closed c ≡ false
closed-shut Closed h = absurd (h refl)
closed-shut _ h = refl

pub closed-of : (c : ConnectionState) → is_closed c ≡ true → c ≡ Closed
closed-of Closed e = refl
closed-of _ e = cc
