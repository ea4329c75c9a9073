-- A safety code compared word by word, and the bytes of its words.
use Rattle.std.proofs.Common.{◌≡◌, ◌<◌, ◌≤◌, ◌+◌, ◌-◌, ◌^◌, ◌==◌, ◌&&◌, ℕ, Bool, true, false, List, ◌++◌, length, take, drop, refl, sym, ap, ◌∙◌, arith, length-drop, slice_index}
use Rattle.std.specs.Bool.{Decides}
use Rattle.std.specs.Str.{bytes_eq}
use Rattle.std.proofs.lemmas.Bool.Decides.{Decides-eqb, Decides-and, Decides-like}
use Rattle.std.proofs.lemmas.List.{take-append-drop, take_at, drop_at, take-take, drop-take, take_all, append_assoc}
use Rattle.std.proofs.lemmas.Slice.Eq.{bytes_eq-Decides}
use Rattle.byteorder.specs.Endian.{little_bytes, little_number}
use Rattle.md4.specs.Digest.{digest, octets_of_words}
use Rattle.octets.proofs.Fields.{FitOctets, Splits, field_at, field_reads, FitOctets-drop}
use Rattle.safe_pdu.specs.declared.CodeRule.{CodeRule}
use Rattle.safe_pdu.specs.declared.CodeLength.{CodeLength}
use Rattle.safe_pdu.specs.declared.CodeLength.TheVariants.{Sixteen}
use Rattle.safe_pdu.specs.SafeText.{code_octets, code_over}

-- two tests of the same fact are equal
same_tests : {P : Type 0} (r s : Bool) → Decides r P → Decides s P → r ≡ s
same_tests true true p q = refl
same_tests true false p q = sym (q.1 (p.0 refl))
same_tests false true p q = p.1 (q.0 refl)
same_tests false false p q = refl

-- a comparison in two parts
pub eq_parts : (n : ℕ) (xs a b : List ℕ) → length a ≡ n
    → (bytes_eq (take n xs) a && bytes_eq (drop n xs) b) ≡ bytes_eq xs (a ++ b)
eq_parts n xs a b size =
    same_tests _ _
    (Decides-like _
    (λ h. sym (take-append-drop n xs) ∙ ap (λ (ys : List ℕ). ys ++ drop n xs) h.0 ∙ ap (λ (ys : List ℕ). a ++ ys) h.1)
    (λ e. (ap (take n) e ∙ take_at a b n size, ap (drop n) e ∙ drop_at a b n size))
    (Decides-and _ _ (bytes_eq-Decides (take n xs) a) (bytes_eq-Decides (drop n xs) b)))
    (bytes_eq-Decides xs (a ++ b))

-- a word compared as a number
word_eq : (word : ℕ) (xs : List ℕ) → FitOctets xs → 4 ≤ length xs → word < 256 ^ 4
    → (word == little_number 4 xs) ≡ bytes_eq (take 4 xs) (little_bytes 4 word)
word_eq word xs fits long small =
    same_tests _ _
    (Decides-like _
    (λ e. ap (take 4) (field_at 4 0 word xs fits long e).parts)
    (λ e. sym (field_reads 4 word xs (drop 4 xs) small (sym (take-append-drop 4 xs)
    ∙ ap (λ (ys : List ℕ). ys ++ drop 4 xs) e)))
    (Decides-eqb word (little_number 4 xs)))
    (bytes_eq-Decides (take 4 xs) (little_bytes 4 word))

-- two words compared as numbers
pub words_eq : (first second : ℕ) (xs : List ℕ) → FitOctets xs → 8 ≤ length xs → first < 256 ^ 4 → second < 256 ^ 4
    → (first == little_number 4 xs && second == little_number 4 (drop 4 xs))
    ≡ bytes_eq (take 8 xs) (little_bytes 4 first ++ little_bytes 4 second)
words_eq first second xs fits long small next =
    let front : take 4 (take 8 xs) ≡ take 4 xs = take-take 4 8 xs (omega arith) in
    let behind : drop 4 (take 8 xs) ≡ take 4 (drop 4 xs) = drop-take 4 4 xs in
    rw (
      word_eq first xs fits (omega arith) small,
      word_eq second (drop 4 xs) (FitOctets-drop 4 xs fits)
          (omega (arith, length-drop 4 xs)) next,
      ← front,
      ← behind,
    )
    (eq_parts 4 (take 8 xs) (little_bytes 4 first) (little_bytes 4 second) refl)

-- a code of another length is not equal
pub eq_other_length : (xs ys : List ℕ) → (length xs ≡ length ys → ⊥) → false ≡ bytes_eq xs ys
eq_other_length xs ys other = same_tests false _ (λ h. cc, λ e. absurd (other (ap length e))) (bytes_eq-Decides xs ys)

abbrev two_words : List ℕ → ℕ → List ℕ
two_words words k = little_bytes 4 (slice_index words k) ++ little_bytes 4 (slice_index words (k + 1))

-- a code of sixteen bytes is the four words
sixteen : (rule : CodeRule) (words front : List ℕ) → rule.length ≡ Sixteen
    → octets_of_words words ≡ digest rule.initial_value front
    → code_over rule front ≡ two_words words 0 ++ two_words words 2
sixteen rule words front is spells =
    ap (λ (n : CodeLength). take (code_octets n) (digest rule.initial_value front)) is ∙ ap (take 16) (sym spells)

pub sixteen_eq : (rule : CodeRule) (words front code : List ℕ) → rule.length ≡ Sixteen
    → octets_of_words words ≡ digest rule.initial_value front
    → length code ≡ code_octets rule.length
    → (bytes_eq (take 8 code) (two_words words 0) && bytes_eq (take 8 (drop 8 code)) (two_words words 2))
    ≡ bytes_eq code (code_over rule front)
sixteen_eq rule words front code is spells size =
    let long : length code ≡ 16 = size ∙ ap code_octets is in
    let behind : take 8 (drop 8 code) ≡ drop 8 code = take_all 8 (drop 8 code) (omega (arith, long, length-drop 8 code))
    in
    rw (behind, sixteen rule words front is spells) (eq_parts 8 code (two_words words 0) (two_words words 2) refl)

-- a code of sixteen bytes is written by two words and then two more
pub sixteen_written : (rule : CodeRule) (words front a b : List ℕ) (size : ℕ) → rule.length ≡ Sixteen
    → octets_of_words words ≡ digest rule.initial_value front
    → take (size + 8) a ≡ front ++ little_bytes 4 (slice_index words 0) ++ little_bytes 4 (slice_index words 1)
    → take (size + 8 + 8) b ≡ take (size + 8) a ++ little_bytes 4 (slice_index words 2)
    ++ little_bytes 4 (slice_index words 3)
    → take (size + code_octets rule.length) b ≡ front ++ code_over rule front
sixteen_written rule words front a b size is spells first second =
    let count : code_octets rule.length ≡ 16 = ap code_octets is in
    let sum : size + code_octets rule.length ≡ size + 8 + 8 = omega (arith, count) in
    let w0 : List ℕ = little_bytes 4 (slice_index words 0) in
    let w1 : List ℕ = little_bytes 4 (slice_index words 1) in
    let w2 : List ℕ = little_bytes 4 (slice_index words 2) in
    let w3 : List ℕ = little_bytes 4 (slice_index words 3) in
    let joined : ((front ++ w0 ++ w1) ++ w2) ++ w3 ≡ front ++ (((w0 ++ w1) ++ w2) ++ w3) =
    ap (λ (xs : List ℕ). (xs ++ w2) ++ w3) (append_assoc front w0 w1)
    ∙ ap (λ (xs : List ℕ). xs ++ w3) (append_assoc front (w0 ++ w1) w2)
    ∙ append_assoc front ((w0 ++ w1) ++ w2) w3 in
    ap (λ (n : ℕ). take n b) sum ∙ second ∙ ap (λ (xs : List ℕ). (xs ++ w2) ++ w3) first ∙ joined
    ∙ ap (λ (xs : List ℕ). front ++ xs) (sym (sixteen rule words front is spells))
