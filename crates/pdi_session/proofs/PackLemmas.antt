-- Packing: one message after another goes from the waiting ones to the unit, until all requested are there.
use Rattle.std.proofs.Common.{◌≡◌, ◌≢◌, ◌≤◌, ◌<◌, ℕ, zero, suc, ◌+◌, ◌-◌, List, ◌∷◌, ◌++◌, length, take, drop, min, refl, sym, ap, ◌∙◌, inl, inr, arith, append_assoc}
use Rattle.std.proofs.lemmas.Bool.{cases_lt}
use Rattle.std.proofs.lemmas.List.{append-nil, drop_all, length-append, length-take, take_min}
use Rattle.std.proofs.lemmas.List.Elements.{All-take}
use Rattle.octets.specs.declared.limits.TheConstants.{UNIT_MESSAGES}
use Rattle.pdi_session.specs.packing.UnitText.{AreMessages, IsMessage, UnitText, piece, unit_text}

pub length-written : (unit message new : List ℕ) → new ≡ unit ++ piece message
    → length new ≡ length unit + 2 + length message
length-written unit message new e = ap length e ∙ length-append unit (piece message) ∙ omega arith

-- what is written and what is still to be taken stay the same together
pub one_written : (left : ℕ) (unit message new : List ℕ) (waiting rest : List (List ℕ)) → 0 < left
    → waiting ≡ message ∷ rest
    → new ≡ unit ++ piece message → new ++ unit_text (take (left - 1) rest) ≡ unit ++ unit_text (take left waiting)
one_written zero unit message new waiting rest some first e = absurd (omega arith)
one_written (suc left) unit message new waiting rest some first e =
    let less : suc left - 1 ≡ left = omega arith in
    rw (less, first, e) (append_assoc unit (piece message) (unit_text (take left rest)))

pub one_left : (left : ℕ) (message : List ℕ) (waiting rest : List (List ℕ)) → 0 < left → waiting ≡ message ∷ rest
    → drop (left - 1) rest ≡ drop left waiting
one_left zero message waiting rest some first = absurd (omega arith)
one_left (suc left) message waiting rest some first = let less : suc left - 1 ≡ left =
    omega arith in rw (less, first) refl

drop_min : (n : ℕ) (xs : List (List ℕ)) → drop (min n (length xs)) xs ≡ drop n xs
drop_min n xs =
    elim (cases_lt n (length xs)) [
      | inl below ↦ let is : min n (length xs) ≡ n = omega arith in rw is refl
      | inr above ↦ let is : min n (length xs) ≡ length xs =
          omega arith in rw is (drop_all (length xs) xs (omega arith) ∙ sym (drop_all n xs above))
    ]

-- at the end
pub all_written : (left count max : ℕ) (unit : List ℕ) (waiting old : List (List ℕ)) → left ≡ 0
    → count ≡ min max (length old) → count ≢ 0
    → max ≤ UNIT_MESSAGES → AreMessages old → unit ++ unit_text (take left waiting) ≡ unit_text (take count old)
    → UnitText (take max old) unit
all_written left count max unit waiting old none is some most sized e =
    let whole : unit ≡ unit_text (take count old) = sym (append-nil unit) ∙ (rw none at e) in
    record {
      some = omega (arith, length-take max old);
      most = omega (arith, length-take max old);
      sized = All-take IsMessage max old sized;
      spelled = whole ∙ ap (λ (n : ℕ). unit_text (take n old)) is ∙ ap unit_text (take_min max old);
    }

pub all_left : (left count max : ℕ) (waiting old : List (List ℕ)) → left ≡ 0 → count ≡ min max (length old)
    → drop left waiting ≡ drop count old
    → waiting ≡ drop max old
all_left left count max waiting old none is e =
    (rw none at e) ∙ ap (λ (n : ℕ). drop n old) is ∙ drop_min max old
