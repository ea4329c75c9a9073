-- The prefix of a line that is kept.
use Rattle.std.proofs.Common.{◌≡◌, ◌≤◌, ◌+◌, ◌-◌, ℕ, zero, suc, min, List, [], ◌∷◌, ◌++◌, length, take, refl, ap, sym, ◌∙◌, arith, take_all, append-nil, Option, Some, None, IfSome}
use Rattle.std.proofs.Math.Seq.{take-append-add}
use Rattle.std.proofs.lemmas.List.{take_min}
use Rattle.capture_text.specs.Lines.{cut_line}

pub take-take_append : (n : ℕ) (xs ys : List ℕ) → take n (take n xs ++ ys) ≡ take n (xs ++ ys)
take-take_append zero xs ys = refl
take-take_append (suc n) [] ys = refl
take-take_append (suc n) (x ∷ xs) ys = ap (λ l. x ∷ l) (take-take_append n xs ys)

-- Cutting before and after an extension is the same as cutting after it.
pub cut_more : (xs ys : List ℕ) → cut_line (cut_line xs ++ ys) ≡ cut_line (xs ++ ys)
cut_more xs ys = take-take_append 8193 xs ys

-- A line within the limit is its own prefix.
pub cut_kept : (xs : List ℕ) → length xs ≤ 8193 → xs ≡ cut_line (xs ++ [])
cut_kept xs short = sym (ap cut_line (append-nil xs) ∙ take_all 8193 xs short)

-- Of a further part, as much is kept as there is room for.
pub keep_front : (xs ys : List ℕ) (size : ℕ) → length xs ≤ 8193 → size ≡ min (length ys) (8193 - length xs)
    → xs ++ take size ys ≡ cut_line (xs ++ ys)
keep_front xs ys size short is =
    let r = 8193 - length xs in
    let room : length xs + r ≡ 8193 = omega (arith, short) in
    let same : size ≡ min r (length ys) = omega (arith, is) in
    ap (λ k. xs ++ take k ys) same ∙ ap (λ l. xs ++ l) (take_min r ys) ∙ sym (take-append-add xs ys r)
    ∙ ap (λ k. take k (xs ++ ys)) room

pub if_some : (known : Option (List ℕ)) (P Q : List ℕ → Type 0) → ((xs : List ℕ) → P xs → Q xs) → IfSome known P
    → IfSome known Q
if_some None P Q weaker h = tt
if_some (Some xs) P Q weaker h = weaker xs h
