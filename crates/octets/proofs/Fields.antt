-- Fields of bytes: the encoding of a number that was read at a place, and the number that an encoding reads as.
use Rattle.std.proofs.Common.{◌≡◌, ◌<◌, ◌≤◌, ℕ, zero, suc, ◌+◌, ◌-◌, ◌*◌, ◌/◌, ◌%◌, ◌^◌, List, ◌++◌, length, take, drop, refl, sym, ap, ◌∙◌, arith, get_or, Fits, w8, drop-cons, append_assoc}
use Rattle.std.proofs.Math.Nat.{pow-succ', div-div-eq-div-mul}
use Rattle.std.proofs.Math.Seq.{take-append-add}
use Rattle.std.proofs.lemmas.List.{take-append-drop, get_or-drop, length-drop, drop-drop, drop-take}
use Rattle.std.specs.Int.{byte_at, bytes_low_first}
use Rattle.byteorder.specs.Endian.{little_bytes, little_number, little_from}
use Rattle.byteorder.specs.Numbers.{little_number-reads_back, little_from-lt}

-- each item of the list is a byte, in the form that the checker uses for slices
abbrev pub FitOctets : List ℕ → Type 0
FitOctets xs = (i : ℕ) → Fits w8 (get_or xs i 0)

byte_at-suc : (i x : ℕ) → byte_at (suc i) x ≡ byte_at i (x / 256)
byte_at-suc zero x = refl
byte_at-suc (suc i) x =
    ap (λ (p : ℕ). x / p % 256) (pow-succ' 256 (suc i))
    ∙ ap (λ (q : ℕ). q % 256) (sym (div-div-eq-div-mul x 256 (256 ^ suc i)))

bytes_low_first-suc : (k i x : ℕ) → bytes_low_first (suc i) k x ≡ bytes_low_first i k (x / 256)
bytes_low_first-suc zero i x = refl
bytes_low_first-suc (suc k) i x = rw (byte_at-suc i x, bytes_low_first-suc k (suc i) x) refl

little_spelled : (k i : ℕ) (xs : List ℕ) → FitOctets xs → i + k ≤ length xs
    → bytes_low_first 0 k (little_from i k xs) ≡ take k (drop i xs)
little_spelled zero i xs fits long = refl
little_spelled (suc k) i xs fits long =
    let tail : ℕ = little_from (suc i) k xs in
    let octet = fits i in
    let low : (get_or xs i 0 + 256 * tail) % 256 ≡ get_or xs i 0 = omega arith in
    let high : (get_or xs i 0 + 256 * tail) / 256 ≡ tail = omega arith in
    let inner : i < length xs = omega arith in
    let rest = little_spelled k (suc i) xs fits (omega arith) in
    rw (drop-cons xs i 0 inner, low, bytes_low_first-suc k 0 (get_or xs i 0 + 256 * tail), high, rest) refl

-- the same for each list from a place on
pub FitOctets-drop : (n : ℕ) (xs : List ℕ) → FitOctets xs → FitOctets (drop n xs)
FitOctets-drop n xs fits i = rw get_or-drop (fits (n + i))

-- the list is the front and then the rest
pub record Splits (whole front rest : List ℕ) : Type 0 where
  pub parts : whole ≡ front ++ rest

pub Splits-then : {whole a mid b rest : List ℕ} → Splits whole a mid → Splits mid b rest → Splits whole (a ++ b) rest
Splits-then {whole} {a} {mid} {b} {rest} p q = record { parts = rw (p.parts, q.parts) (sym (append_assoc a b rest)) }

-- a field of n bytes at a place that reads as x is the encoding of x, followed by the bytes after it
pub field_at : (n place x : ℕ) (xs : List ℕ) → FitOctets xs → place + n ≤ length xs
    → x ≡ little_number n (drop place xs)
    → Splits (drop place xs) (little_bytes n x) (drop (place + n) xs)
field_at n place x xs fits long reads =
    let spelled = little_spelled n 0 (drop place xs) (FitOctets-drop place xs fits)
    (omega (arith, length-drop place xs)) in
    record { parts = rw (reads, spelled, ← drop-drop n place xs) (sym (take-append-drop n (drop place xs))) }

-- a field of n bytes is below 256 ^ n
pub field_below : (n place x : ℕ) (xs : List ℕ) → FitOctets xs → x ≡ little_number n (drop place xs) → x < 256 ^ n
field_below n place x xs fits reads =
    rw reads (little_from-lt 0 n (drop place xs) (λ i. omega (arith, FitOctets-drop place xs fits i)))

-- a field at the start reads as its number
pub field_reads : (n x : ℕ) (xs rest : List ℕ) → x < 256 ^ n → xs ≡ little_bytes n x ++ rest → little_number n xs ≡ x
field_reads n x xs rest fits e = ap (little_number n) e ∙ little_number-reads_back n x rest fits

-- lists that are equal from a place on are equal from each later place on
pub drop_further : (n m : ℕ) (xs ys : List ℕ) → n ≤ m → drop n xs ≡ drop n ys → drop m xs ≡ drop m ys
drop_further n m xs ys le same =
    let sum : m ≡ n + (m - n) = omega arith in
    rw sum (sym (drop-drop (m - n) n xs) ∙ ap (drop (m - n)) same ∙ drop-drop (m - n) n ys)

-- the first n bytes of a text with a header of k bytes, cut after its body, are the header and the body
pub front_is : (k n : ℕ) (header body xs : List ℕ) → xs ≡ header ++ drop k xs → length header ≡ k → n ≡ k + length body
    → body ≡ drop k (take n xs) → take n xs ≡ header ++ body
front_is k n header body xs parts long cut body-is =
    let at : n ≡ length header + length body = omega arith in
    let inside : take (length body) (drop k xs) ≡ body =
    sym (drop-take k (length body) xs) ∙ ap (λ (m : ℕ). drop k (take m xs)) (sym cut) ∙ sym body-is
    in
    ap (take n) parts ∙ ap (λ (m : ℕ). take m (header ++ drop k xs)) at
    ∙ take-append-add header (drop k xs) (length body)
    ∙ ap (λ (b : List ℕ). header ++ b) inside
