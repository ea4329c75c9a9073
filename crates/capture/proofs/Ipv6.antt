-- The reader of std reads exactly the texts of IPv6 addresses.
use Rattle.std.proofs.Common.{◌≡◌, ℕ, List, [], ◌++◌, Option, Some, None, ◌==◌, ◌⊎◌, inl, inr, length, sym, refl, ap, ◌∙◌, subst, ⊎_elim, arith, append-nil}
use Rattle.std.proofs.lemmas.Bool.{cases_Bool}
use Rattle.std.proofs.lemmas.Bool.Decides.{nat_tests}
use Rattle.std.proofs.lemmas.List.{nil_from_length}
use Rattle.std.specs.Net.Grammar.{IsColonHex}
use Rattle.std.specs.Net.Reader.{read_ipv6, whole_value}
use Rattle.std.proofs.NetLemmas.Ipv6.{read_ipv6_complete, read_ipv6_sound, EndsGroups-nil}

pub whole_ipv6 : (text groups : List ℕ) → IsColonHex text groups → whole_value (read_ipv6 text) ≡ Some groups
whole_ipv6 text groups spelled =
    ap whole_value (ap read_ipv6 (sym (append-nil text)) ∙ read_ipv6_complete text groups [] spelled EndsGroups-nil)

option_cases : {A : Type 0} (o : Option A) → (o ≡ None) ⊎ ((x : A) × (o ≡ Some x))
option_cases None = inl refl
option_cases (Some x) = inr (x, refl)

pub no_ipv6 : (text : List ℕ) → ((groups : List ℕ) → ¬ (IsColonHex text groups)) → whole_value (read_ipv6 text) ≡ None
no_ipv6 text never =
    ⊎_elim
    (λ none. ap whole_value none)
    (λ some.
    let sound = read_ipv6_sound text some.0.0 some.0.1 some.1 in
    ap whole_value some.1 ∙ ⊎_elim
    (λ ended. absurd (never some.0.0 (subst (λ t. IsColonHex t some.0.0)
    (sym (sound.1 ∙ ap (λ r. sound.0 ++ r) (nil_from_length some.0.1 (grind (arith, nat_tests)))
    ∙ append-nil sound.0)) sound.2)))
    (λ more. rw more)
    (cases_Bool (length some.0.1 == 0)))
    (option_cases (read_ipv6 text))
