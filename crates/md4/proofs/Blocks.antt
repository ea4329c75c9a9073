-- The words of a block and the steps over them, in the order of the code.
use Rattle.std.proofs.Common.{◌≡◌, ℕ, zero, suc, ◌+◌, ◌*◌, ◌%◌, ◌^◌, ◌<◌, List, [], ◌∷◌, ◌++◌, length, take, drop, slice_index, get_or, refl, sym, ap, ◌∙◌, arith}
use Rattle.std.proofs.Math.Nat.{mul-suc}
use Rattle.std.proofs.lemmas.List.{same_lists, get_or_default, get_or-map, drop-drop}
use Rattle.std.specs.Int.{w32, rotate_left}
use Rattle.std.specs.Simd.{first_chunks}
use Rattle.byteorder.specs.Endian.{little_number, little_bytes, IsRead}
use Rattle.byteorder.specs.Numbers.{little_from-take}
use Rattle.md4.specs.Rows.{HasAdded}
use Rattle.md4.specs.Digest.{Round, rotate_sum, four_steps, words_of, octets_of_words}

-- four steps, from the words that each step read
pub four_steps_are : (round : Round) (v row : List ℕ) {fa a fd d fc c fb b : ℕ}
    → fa ≡ round.mixed (slice_index v 1) (slice_index v 2) (slice_index v 3)
    → a ≡ rotate_sum (slice_index v 0) fa (slice_index row 0) round.added (slice_index round.shifts 0)
    → fd ≡ round.mixed a (slice_index v 1) (slice_index v 2)
    → d ≡ rotate_sum (slice_index v 3) fd (slice_index row 1) round.added (slice_index round.shifts 1)
    → fc ≡ round.mixed d a (slice_index v 1)
    → c ≡ rotate_sum (slice_index v 2) fc (slice_index row 2) round.added (slice_index round.shifts 2)
    → fb ≡ round.mixed c d a
    → b ≡ rotate_sum (slice_index v 1) fb (slice_index row 3) round.added (slice_index round.shifts 3)
    → a ∷ b ∷ c ∷ d ∷ [] ≡ four_steps round v row
unfolding four_steps
four_steps_are round v row efa ea efd ed efc ec efb eb = rw (eb, efb, ec, efc, ed, efd, ea, efa) refl

-- a step with the constant added to the word before
stepped-added : (a mixed word added sum shift : ℕ) → sum ≡ (word + added) % 2 ^ 32
    → rotate_sum a mixed sum 0 shift ≡ rotate_sum a mixed word added shift
stepped-added a mixed word added sum shift e =
    let same : (a + mixed + sum + 0) % 2 ^ 32 ≡ (a + mixed + word + added) % 2 ^ 32 = omega arith in
    ap (λ (n : ℕ). rotate_left w32 n shift) same

-- four steps on words with the constant added before
pub added_steps_are : (round : Round) (v words row : List ℕ) {fa a fd d fc c fb b : ℕ} → HasAdded round words row
    → fa ≡ round.mixed (slice_index v 1) (slice_index v 2) (slice_index v 3)
    → a ≡ rotate_sum (slice_index v 0) fa (slice_index row 0) 0 (slice_index round.shifts 0)
    → fd ≡ round.mixed a (slice_index v 1) (slice_index v 2)
    → d ≡ rotate_sum (slice_index v 3) fd (slice_index row 1) 0 (slice_index round.shifts 1)
    → fc ≡ round.mixed d a (slice_index v 1)
    → c ≡ rotate_sum (slice_index v 2) fc (slice_index row 2) 0 (slice_index round.shifts 2)
    → fb ≡ round.mixed c d a
    → b ≡ rotate_sum (slice_index v 1) fb (slice_index row 3) 0 (slice_index round.shifts 3)
    → a ∷ b ∷ c ∷ d ∷ [] ≡ four_steps round v words
added_steps_are round v words row {fa} {a} {fd} {d} {fc} {c} {fb} {b} sums efa ea efd ed efc ec efb eb =
    four_steps_are round v words
    efa (ea ∙ stepped-added (slice_index v 0) fa (slice_index words 0) round.added (slice_index row 0)
    (slice_index round.shifts 0) sums.first)
    efd (ed ∙ stepped-added (slice_index v 3) fd (slice_index words 1) round.added (slice_index row 1)
    (slice_index round.shifts 1) sums.second)
    efc (ec ∙ stepped-added (slice_index v 2) fc (slice_index words 2) round.added (slice_index row 2)
    (slice_index round.shifts 2) sums.third)
    efb (eb ∙ stepped-added (slice_index v 1) fb (slice_index words 3) round.added (slice_index row 3)
    (slice_index round.shifts 3) sums.fourth)

-- a row of four words with the constant added
pub row_of : (round : Round) (words sums : List ℕ)
    → ((k : ℕ) → k < 16 → slice_index sums k ≡ (slice_index words k + round.added) % 2 ^ 32)
    → (i j k l : ℕ) → i < 16 → j < 16 → k < 16 → l < 16
    → HasAdded round (slice_index words i ∷ slice_index words j ∷ slice_index words k ∷ slice_index words l ∷ [])
    (slice_index sums i ∷ slice_index sums j ∷ slice_index sums k ∷ slice_index sums l ∷ [])
row_of round words sums each i j k l li lj lk ll =
    record { first = each i li; second = each j lj; third = each k lk; fourth = each l ll }

length-first_chunks : {X : Type 0} (n k : ℕ) (xs : List X) → length (first_chunks n k xs) ≡ k
length-first_chunks n zero xs = refl
length-first_chunks n (suc k) xs = let rest = length-first_chunks n k (drop n xs) in omega (arith, rest)

-- a chunk of a list, by its place
get_or-first_chunks : {X : Type 0} (n k i : ℕ) (xs : List X) (d : List X) → i < k
    → get_or (first_chunks n k xs) i d ≡ take n (drop (n * i) xs)
get_or-first_chunks n zero i xs d low = absurd (omega arith)
get_or-first_chunks n (suc k) zero xs d low = let none : n * zero ≡ 0 = omega arith in rw none refl
get_or-first_chunks n (suc k) (suc i) xs d low =
    let place : n * suc i ≡ n + n * i = omega (arith, mul-suc n i) in
    get_or-first_chunks n k i (drop n xs) d (omega arith)
    ∙ ap (take n) (drop-drop (n * i) n xs ∙ ap (λ (m : ℕ). drop m xs) (sym place))

-- a word of a block, by its place
get_or-words_of : (block : List ℕ) (i d : ℕ) → i < 16
    → get_or (words_of block) i d ≡ little_number 4 (drop (4 * i) block)
get_or-words_of block i d low =
    let inner : i < length (first_chunks 4 16 block) = rw (length-first_chunks 4 16 block) low in
    get_or-map (little_number 4) (first_chunks 4 16 block) i [] d inner
    ∙ ap (little_number 4) (get_or-first_chunks 4 16 i block [] low)
    ∙ little_from-take 0 4 4 (drop (4 * i) block) (omega arith)

-- sixteen words read from a block are its words
pub words_are : (block words : List ℕ) → length words ≡ 16 → IsRead little_number 4 block words → words ≡ words_of block
words_are block words size read =
    same_lists words (words_of block) size (λ k d low.
    get_or_default words k d 0 low ∙ read k low ∙ sym (get_or-words_of block k d (omega arith)))

-- the bytes of a digest, written word by word
pub spelled_are : (words one two three four : List ℕ) → take 4 one ≡ little_bytes 4 (slice_index words 0)
    → take 8 two ≡ take 4 one ++ little_bytes 4 (slice_index words 1)
    → take 12 three ≡ take 8 two ++ little_bytes 4 (slice_index words 2)
    → take 16 four ≡ take 12 three ++ little_bytes 4 (slice_index words 3)
    → take 16 four ≡ octets_of_words words
spelled_are words one two three four e1 e2 e3 e4 =
    let two_words : take 8 two ≡ little_bytes 4 (slice_index words 0) ++ little_bytes 4 (slice_index words 1) =
    e2 ∙ ap (λ (xs : List ℕ). xs ++ little_bytes 4 (slice_index words 1)) e1 in
    let three_words : take 12 three ≡ (little_bytes 4 (slice_index words 0) ++ little_bytes 4 (slice_index words 1))
    ++ little_bytes 4 (slice_index words 2) =
    e3 ∙ ap (λ (xs : List ℕ). xs ++ little_bytes 4 (slice_index words 2)) two_words in
    e4 ∙ ap (λ (xs : List ℕ). xs ++ little_bytes 4 (slice_index words 3)) three_words
