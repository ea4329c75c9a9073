-- The digest of a message: the words after its complete blocks, and then one or two blocks that the padding fills.
use Rattle.std.proofs.Common.{◌≡◌, ℕ, suc, ◌+◌, ◌-◌, ◌*◌, ◌/◌, ◌%◌, ◌<◌, ◌≤◌, List, [], ◌∷◌, ◌++◌, length, take, drop, replicate, slice_set, refl, sym, ap, ◌∙◌, arith, length-append, length-drop}
use Rattle.std.specs.Prelude.{fold}
use Rattle.std.proofs.Math.Seq.{set-append_seam}
use Rattle.std.proofs.lemmas.List.{take_all, take-append-drop, length-take-le, append_assoc, take_at, drop-replicate, length-replicate, replicate-append-replicate}
use Rattle.md4.specs.Digest.{after_block, blocks_of, pad, padding_octets, bit_count, digest, octets_of_words}
use Rattle.md4.specs.Md4.{HasTaken}
use Rattle.md4.proofs.Pieces.{words_after, words_after-append, HasTaken-full}

-- the last bytes, the byte 0x80 and zeros
abbrev pub begun : List ℕ → List ℕ
begun behind = behind ++ 0x80 ∷ replicate (63 - length behind) 0

pub begun_is : (behind copied : List ℕ) → length behind < 64 → copied ≡ behind
    → slice_set (copied ++ drop (length behind) (replicate 64 0)) (length behind) 0x80 ≡ begun behind
begun_is behind copied short same =
    let one : 64 - length behind ≡ suc (63 - length behind) = omega arith in
    let zeros : drop {A = ℕ} (length behind) (replicate 64 0) ≡ 0 ∷ replicate (63 - length behind) 0 =
    drop-replicate (length behind) 64 0 ∙ ap (λ (n : ℕ). replicate n 0) one in
    rw (same, zeros) (set-append_seam behind 0 (replicate (63 - length behind) 0) 0x80)

-- its first 56 bytes, if the number of bits has room after the last bytes
take-begun : (behind : List ℕ) → length behind < 56
    → take 56 (begun behind) ≡ behind ++ 0x80 ∷ replicate (55 - length behind) 0
take-begun behind short =
    let front : List ℕ = behind ++ 0x80 ∷ replicate (55 - length behind) 0 in
    let count : 55 - length behind + 8 ≡ 63 - length behind = omega arith in
    let zeros : replicate {A = ℕ} (63 - length behind) 0 ≡ replicate (55 - length behind) 0 ++ replicate 8 0 =
    sym (replicate-append-replicate (55 - length behind) 8 0 ∙ ap (λ (n : ℕ). replicate n 0) count) in
    let size : length front ≡ 56 = omega (
      arith,
      length-append behind (0x80 ∷ replicate (55 - length behind) 0),
      length-replicate {A = ℕ} (55 - length behind) 0,
    ) in
    let whole : begun behind ≡ front ++ replicate 8 0 =
    ap (λ (xs : List ℕ). behind ++ 0x80 ∷ xs) zeros
    ∙ sym (append_assoc behind (0x80 ∷ replicate (55 - length behind) 0) (replicate 8 0)) in
    ap (take 56) whole ∙ take_at front (replicate 8 0) 56 (omega (arith, size))

-- the words after the complete blocks, with the bytes after these as incomplete block
pub all_taken : (iv octets words behind : List ℕ) (size : ℕ) → size ≡ length octets / 64 * 64
    → words ≡ fold after_block iv (blocks_of (take size octets)) → behind ≡ drop size octets
    → HasTaken words behind iv octets
all_taken iv octets words behind size whole taken rest =
    let many = length-drop size octets in
    let short : length behind ≤ length octets % 64 = omega (arith, many, ap length rest) in
    let front : length (take size octets) / 64 ≡ length octets / 64 =
    omega (arith, length-take-le size octets (omega arith)) in
    let same : words_after iv (length octets / 64) octets ≡ words_after iv (length octets / 64) (take size octets) =
    ap (words_after iv (length octets / 64)) (sym (take-append-drop size octets))
    ∙ words_after-append iv (length octets / 64) (take size octets) (drop size octets)
    (omega (arith, length-take-le size octets (omega arith))) in
    record {
      blocks = taken ∙ ap (λ (n : ℕ). words_after iv n (take size octets)) front ∙ sym same;
      behind = take_all (length octets % 64) behind short ∙ rest ∙ ap (λ (n : ℕ). drop n octets) whole;
    }

-- if the last bytes and the number of bits fit into one block, one more block gives the digest
pub digest_by_one : (iv octets words behind block : List ℕ) → HasTaken words behind iv octets
    → length behind ≡ length octets % 64
    → length behind < 56 → block ≡ take 56 (begun behind) ++ bit_count (length octets)
    → octets_of_words (after_block words block) ≡ digest iv octets
unfolding digest
digest_by_one iv octets words behind block taken many short last =
    let zeros : (119 - length octets % 64) % 64 ≡ 55 - length behind = omega arith in
    let fill : List ℕ = 0x80 ∷ replicate (55 - length behind) 0 in
    let tail : List ℕ = fill ++ bit_count (length octets) in
    let parts : block ≡ take (length octets % 64) behind ++ tail =
    last ∙ ap (λ (xs : List ℕ). xs ++ bit_count (length octets)) (take-begun behind short)
    ∙ append_assoc behind fill (bit_count (length octets))
    ∙ ap (λ (xs : List ℕ). xs ++ tail) (sym (take_all (length octets % 64) behind (omega (arith, many)))) in
    let size : length octets % 64 + length tail
    ≡ 64 =
    omega (
      arith,
      many,
      length-append fill (bit_count (length octets)),
      length-replicate {A = ℕ} (55 - length behind) 0,
    ) in
    let whole : pad octets ≡ octets ++ tail =
    ap (λ (n : ℕ). (octets ++ 0x80 ∷ replicate n 0) ++ bit_count (length octets)) zeros
    ∙ append_assoc octets fill (bit_count (length octets)) in
    let all : HasTaken (after_block words block) [] iv (octets ++ tail) =
    HasTaken-full words behind [] iv octets tail block taken size parts in
    ap octets_of_words (all.blocks ∙ ap (λ (xs : List ℕ). fold after_block iv (blocks_of xs)) (sym whole))

-- if they do not, two more blocks give the digest
pub digest_by_two : (iv octets words behind block last : List ℕ) → HasTaken words behind iv octets
    → length behind ≡ length octets % 64 → 56 ≤ length behind → block ≡ begun behind
    → last ≡ replicate 56 0 ++ bit_count (length octets)
    → octets_of_words (after_block (after_block words block) last) ≡ digest iv octets
unfolding digest
digest_by_two iv octets words behind block last taken many long first second =
    let zeros : 63 - length behind + 56 ≡ (119 - length octets % 64) % 64 = omega arith in
    let head : List ℕ = 0x80 ∷ replicate (63 - length behind) 0 in
    let fill : padding_octets (length octets) ≡ head ++ replicate 56 0 =
    ap (λ (xs : List ℕ). 0x80 ∷ xs) (ap (λ (n : ℕ). replicate n 0) (sym zeros)
    ∙ sym (replicate-append-replicate (63 - length behind) 56 0)) in
    let parts : block ≡ take (length octets % 64) behind ++ head =
    first ∙ ap (λ (xs : List ℕ). xs ++ head) (sym (take_all (length octets % 64) behind (omega (arith, many)))) in
    let size : length octets % 64 + length head
    ≡ 64 = omega (arith, many, length-replicate {A = ℕ} (63 - length behind) 0) in
    let one : HasTaken (after_block words block) [] iv (octets ++ head) =
    HasTaken-full words behind [] iv octets head block taken size parts in
    let edge : length (octets ++ head) % 64 ≡ 0 = omega (arith, size, length-append octets head) in
    let wide : length last ≡ 64 = ap length second in
    let two : HasTaken (after_block (after_block words block) last) [] iv ((octets ++ head) ++ last) =
    HasTaken-full (after_block words block) [] [] iv (octets ++ head) last last one (omega (arith, edge, wide))
    (rw edge refl) in
    let whole : pad octets ≡ (octets ++ head) ++ last =
    ap (λ (xs : List ℕ). (octets ++ xs) ++ bit_count (length octets)) fill
    ∙ ap (λ (xs : List ℕ). xs ++ bit_count (length octets)) (sym (append_assoc octets head (replicate 56 0)))
    ∙ append_assoc (octets ++ head) (replicate 56 0) (bit_count (length octets))
    ∙ ap (λ (xs : List ℕ). (octets ++ head) ++ xs) (sym second) in
    ap octets_of_words (two.blocks ∙ ap (λ (xs : List ℕ). fold after_block iv (blocks_of xs)) (sym whole))
