-- How the words and the incomplete block change as a message is fed piece by piece.
use Rattle.std.proofs.Common.{◌≡◌, ℕ, zero, suc, ◌+◌, ◌-◌, ◌*◌, ◌/◌, ◌%◌, ◌^◌, ◌<◌, ◌≤◌, List, [], ◌∷◌, ◌++◌, length, take, drop, refl, sym, ap, ◌∙◌, arith, length-append, length-drop, add-one}
use Rattle.std.specs.Prelude.{fold}
use Rattle.std.specs.Simd.{first_chunks}
use Rattle.std.proofs.Math.Nat.{suc-mul}
use Rattle.std.proofs.lemmas.List.{take-append-le, drop-append-le, take_all, drop_all, drop-drop, append_assoc, append-nil, drop-take, take-take, take-append-drop, length-take-le, take_at}
use Rattle.std.proofs.lemmas.List.Sums.{fold-append}
use Rattle.std.proofs.lemmas.Slice.{take-put_mid}
use Rattle.md4.specs.Digest.{after_block, blocks_of}
use Rattle.md4.specs.Md4.{HasTaken, StandsFor}
use Rattle.md4.specs.declared.Md4.{Md4}
use borrow.Rule.Slice.PartMut.{put_mid, post_of}

-- the words after the first n blocks
abbrev pub words_after : List ℕ → ℕ → List ℕ → List ℕ
words_after iv n xs = fold after_block iv (first_chunks 64 n xs)

-- one more chunk at the end
first_chunks-suc : {X : Type 0} (n k : ℕ) (xs : List X)
    → first_chunks n (suc k) xs ≡ first_chunks n k xs ++ take n (drop (k * n) xs) ∷ []
first_chunks-suc n zero xs = let none : zero * n ≡ 0 = omega arith in rw none refl
first_chunks-suc {X} n (suc k) xs =
    let place : suc k * n ≡ n + k * n = omega (arith, suc-mul k n) in
    ap (λ (rest : List (List X)). take n xs ∷ rest) (first_chunks-suc n k (drop n xs))
    ∙ ap (λ (part : List X). take n xs ∷ first_chunks n k (drop n xs) ++ take n part ∷ []) (drop-drop (k * n) n xs
    ∙ ap (λ (m : ℕ). drop m xs) (sym place))

pub words_after-next : (iv : List ℕ) (n : ℕ) (xs : List ℕ)
    → words_after iv (n + 1) xs ≡ after_block (words_after iv n xs) (take 64 (drop (n * 64) xs))
words_after-next iv n xs =
    rw (add-one, first_chunks-suc 64 n xs) (fold-append after_block iv (first_chunks 64 n xs)
    (take 64 (drop (n * 64) xs) ∷ []))

-- more bytes at the end do not change the chunks before
first_chunks-append : (k : ℕ) (xs ys : List ℕ) → k * 64 ≤ length xs
    → first_chunks 64 k (xs ++ ys) ≡ first_chunks 64 k xs
first_chunks-append zero xs ys fits = refl
first_chunks-append (suc k) xs ys fits =
    let rest : k * 64 ≤ length (drop 64 xs) = omega (arith, length-drop 64 xs) in
    rw (
      take-append-le 64 xs ys (omega arith),
      drop-append-le 64 xs ys (omega arith),
      first_chunks-append k (drop 64 xs) ys rest,
    ) refl

pub words_after-append : (iv : List ℕ) (n : ℕ) (xs ys : List ℕ) → n * 64 ≤ length xs
    → words_after iv n (xs ++ ys) ≡ words_after iv n xs
words_after-append iv n xs ys fits = ap (fold after_block iv) (first_chunks-append n xs ys fits)

-- a piece that does not fill the incomplete block
pub HasTaken-short : (words part next iv fed piece : List ℕ) → HasTaken words part iv fed
    → length fed % 64 + length piece < 64
    → take (length fed % 64 + length piece) next ≡ take (length fed % 64) part ++ piece
    → HasTaken words next iv (fed ++ piece)
HasTaken-short words part next iv fed piece taken short front =
    let whole : ℕ = length fed / 64 in
    let same : length (fed ++ piece) / 64 ≡ whole = omega (arith, length-append fed piece) in
    let at : length (fed ++ piece) % 64 ≡ length fed % 64 + length piece = omega (arith, length-append fed piece) in
    record {
      blocks = rw same (taken.blocks ∙ sym (words_after-append iv whole fed piece (omega arith)));
      behind = rw (at, same, front, taken.behind) (sym (drop-append-le (whole * 64) fed piece (omega arith)));
    }

-- a piece that fills the incomplete block: the words take it in, and no byte of it counts any more
pub HasTaken-full : (words part next iv fed piece block : List ℕ) → HasTaken words part iv fed
    → length fed % 64 + length piece ≡ 64
    → block ≡ take (length fed % 64) part ++ piece → HasTaken (after_block words block) next iv (fed ++ piece)
HasTaken-full words part next iv fed piece block taken full parts =
    let whole : ℕ = length fed / 64 in
    let size : length (fed ++ piece) ≡ length fed + length piece = length-append fed piece in
    let count : length (fed ++ piece) / 64 ≡ whole + 1 = omega arith in
    let left : length (fed ++ piece) % 64 ≡ 0 = omega arith in
    let last : drop (whole * 64) (fed ++ piece) ≡ block = drop-append-le (whole * 64) fed piece (omega arith)
    ∙ rw (← taken.behind) (sym parts) in
    let block_size : length block ≡ 64 = omega (arith, ap length last, length-drop (whole * 64) (fed ++ piece)) in
    let next_words : words_after iv (whole + 1) (fed ++ piece) ≡ after_block words block =
    rw (
      words_after-next iv whole (fed ++ piece),
      words_after-append iv whole fed piece (omega arith),
      ← taken.blocks,
      last,
      take_all 64 block (omega arith),
    ) refl in
    record {
      blocks = rw count (sym next_words);
      behind = rw (left, count) (sym (drop_all ((whole + 1) * 64) (fed ++ piece) (omega arith)));
    }

pub StandsFor-total : (md4 : Md4) (iv fed : List ℕ) → StandsFor md4 iv fed → md4.total ≡ length fed % 2 ^ 64
unfolding StandsFor
StandsFor-total md4 iv fed stands = stands.0

pub StandsFor-taken : (md4 : Md4) (iv fed : List ℕ) → StandsFor md4 iv fed → HasTaken md4.words md4.part iv fed
unfolding StandsFor
StandsFor-taken md4 iv fed stands = stands.1

pub StandsFor-from : (md4 : Md4) (iv fed : List ℕ) → md4.total ≡ length fed % 2 ^ 64
    → HasTaken md4.words md4.part iv fed → StandsFor md4 iv fed
unfolding StandsFor
StandsFor-from md4 iv fed total taken = (total, taken)

-- the count after one more piece
pub total-append : (old new : ℕ) (fed piece : List ℕ) → old ≡ length fed % 2 ^ 64 → new ≡ (old + length piece) % 2 ^ 64
    → new ≡ length (fed ++ piece) % 2 ^ 64
total-append old new fed piece e n = omega (arith, length-append fed piece)

-- the state after `update` if the piece does not fill the incomplete block
pub StandsFor-short : (old new : Md4) (iv fed piece copied : List ℕ) (at size : ℕ) → StandsFor old iv fed
    → length old.part ≡ 64
    → at ≡ old.total % 64 → at + length piece < 64 → copied ≡ piece
    → new.total ≡ (old.total + length piece) % 2 ^ 64 → new.words ≡ old.words
    → new.part ≡ put_mid at size old.part copied
    → StandsFor new iv (fed ++ piece)
StandsFor-short old new iv fed piece copied at size stands full place short same total words part =
    let counted : old.total ≡ length fed % 2 ^ 64 = StandsFor-total old iv fed stands in
    let ends : at ≡ length fed % 64 = omega arith in
    let front : take (at + length piece) new.part ≡ take at old.part ++ piece =
    rw (part, same) (take-put_mid at size old.part piece (at + length piece) refl (omega arith)) in
    StandsFor-from new iv (fed ++ piece) (total-append old.total new.total fed piece counted total)
    (rw words (HasTaken-short old.words old.part new.part iv fed piece (StandsFor-taken old iv fed stands) (omega arith)
    (rw (← ends) front)))

-- more bytes of a piece
take-more : (piece : List ℕ) (at size : ℕ) → take (at + size) piece ≡ take at piece ++ take size (drop at piece)
take-more piece at size =
    let whole : take at (take (at + size) piece) ++ drop at (take (at + size) piece)
    ≡ take (at + size) piece = take-append-drop at (take (at + size) piece) in
    sym (rw (take-take at (at + size) piece (omega arith), drop-take at size piece) at whole)

-- the chunks of complete blocks with more bytes at the end
first_chunks-both : (k n : ℕ) (xs ys : List ℕ) → length xs ≡ k * 64
    → first_chunks 64 (k + n) (xs ++ ys) ≡ first_chunks 64 k xs ++ first_chunks 64 n ys
first_chunks-both zero n [] ys size = ap (λ (m : ℕ). first_chunks 64 m ys) (omega arith)
first_chunks-both zero n (x ∷ xs) ys size = absurd (omega arith)
first_chunks-both (suc k) n xs ys size =
    let rest : length (drop 64 xs) ≡ k * 64 = omega (arith, length-drop 64 xs) in
    let count : suc k + n ≡ suc (k + n) = omega arith in
    ap (λ (m : ℕ). first_chunks 64 m (xs ++ ys)) count
    ∙ rw (
      take-append-le 64 xs ys (omega arith),
      drop-append-le 64 xs ys (omega arith),
      first_chunks-both k n (drop 64 xs) ys rest,
    ) refl

-- complete blocks after complete blocks
HasTaken-all : (words part iv fed piece : List ℕ) → HasTaken words part iv fed → length fed % 64 ≡ 0
    → length piece % 64 ≡ 0 → HasTaken (fold after_block words (blocks_of piece)) part iv (fed ++ piece)
HasTaken-all words part iv fed piece taken edge all =
    let size : length (fed ++ piece) ≡ length fed + length piece = length-append fed piece in
    let count : length (fed ++ piece) / 64 ≡ length fed / 64 + length piece / 64 = omega arith in
    let left : length (fed ++ piece) % 64 ≡ 0 = omega arith in
    let parts : blocks_of (fed ++ piece) ≡ blocks_of fed ++ blocks_of piece =
    ap (λ (n : ℕ). first_chunks 64 n (fed ++ piece)) count
    ∙ first_chunks-both (length fed / 64) (length piece / 64) fed piece (omega arith) in
    record {
      blocks = ap (λ (v : List ℕ). fold after_block v (blocks_of piece)) taken.blocks
          ∙ sym (ap (fold after_block iv) parts ∙ fold-append after_block iv (blocks_of fed) (blocks_of piece));
      behind = rw left (sym (drop_all (length (fed ++ piece) / 64 * 64) (fed ++ piece) (omega arith)));
    }

-- the complete blocks of a piece, if the bytes fed before end with a complete block
pub HasTaken-blocks : (next words part iv fed piece : List ℕ) (at size : ℕ)
    → HasTaken words part iv (fed ++ take at piece)
    → (length fed + at) % 64 ≡ 0 → size % 64 ≡ 0 → at + size ≤ length piece
    → next ≡ fold after_block words (blocks_of (take (at + size - at) (drop at piece)))
    → HasTaken next part iv (fed ++ take (at + size) piece)
HasTaken-blocks next words part iv fed piece at size taken edge many fits e =
    let before : length (fed ++ take at piece) ≡ length fed + at = length-append fed (take at piece)
    ∙ ap (λ (k : ℕ). length fed + k) (length-take-le at piece (omega arith)) in
    let blocks : List ℕ = take size (drop at piece) in
    let width : at + size - at ≡ size = omega arith in
    let same : next ≡ fold after_block words (blocks_of blocks) =
    e ∙ ap (λ (k : ℕ). fold after_block words (blocks_of (take k (drop at piece)))) width in
    let wide : length blocks ≡ size = length-take-le size (drop at piece) (omega (arith, length-drop at piece)) in
    let all : HasTaken (fold after_block words (blocks_of blocks)) part iv ((fed ++ take at piece) ++ blocks) =
    HasTaken-all words part iv (fed ++ take at piece) blocks taken (omega arith) (omega (arith, wide)) in
    let grown : take (at + size) piece ≡ take at piece ++ blocks = take-more piece at size in
    rw (same, grown, ← append_assoc) all

-- the state before the complete blocks of a piece if the incomplete block held bytes and is now full
pub start-filled : (old new : Md4) (iv fed piece copied words : List ℕ) (at size start total : ℕ) → StandsFor old iv fed
    → length old.part ≡ 64
    → at ≡ old.total % 64 → start ≡ 64 - at → start ≤ length piece → size ≡ start → copied ≡ take start piece
    → words ≡ after_block old.words (put_mid at size old.part copied)
    → new ≡ record { words = words; part = put_mid at size old.part copied; total = total }
    → HasTaken new.words new.part iv (fed ++ take start piece) × ((length fed + start) % 64 ≡ 0)
start-filled old new iv fed piece copied words at size start total stands full place room fits ej ey eh en =
    let counted : old.total ≡ length fed % 2 ^ 64 = StandsFor-total old iv fed stands in
    let ends : at ≡ length fed % 64 = omega arith in
    let head : List ℕ = take start piece in
    let head_size : length head ≡ start = length-take-le start piece fits in
    let rest : post_of at size old.part ≡ [] = drop_all size (drop at old.part) (omega (arith, length-drop at old.part))
    in
    let parts : put_mid at size old.part copied ≡ take (length fed % 64) old.part
    ++ head = rw (rest, append-nil, ey, ← ends) refl in
    let taken : HasTaken (after_block old.words (put_mid at size old.part copied)) new.part iv (fed ++ head) =
    HasTaken-full old.words old.part new.part iv fed head (put_mid at size old.part copied)
    (StandsFor-taken old iv fed stands) (omega arith) parts in
    let hn : new.words ≡ words = ap (λ (r : Md4). r.words) en in
    (rw (hn, eh) taken, omega arith)

-- the same if the incomplete block held no bytes
pub start-empty : (old new : Md4) (iv fed piece : List ℕ) (start total : ℕ) → StandsFor old iv fed → old.total % 64 ≤ 0
    → start ≡ 0
    → new ≡ record { words = old.words; part = old.part; total = total }
    → HasTaken new.words new.part iv (fed ++ take start piece) × ((length fed + start) % 64 ≡ 0)
start-empty old new iv fed piece start total stands empty es en =
    let counted : old.total ≡ length fed % 2 ^ 64 = StandsFor-total old iv fed stands in
    let hn : new.words ≡ old.words = ap (λ (r : Md4). r.words) en in
    let bn : new.part ≡ old.part = ap (λ (r : Md4). r.part) en in
    let none : HasTaken old.words old.part iv (fed ++ []) = rw (append-nil fed) (StandsFor-taken old iv fed stands) in
    (rw (hn, bn, es) none, omega arith)

-- the bytes after the last complete block of a piece
pub HasTaken-behind : (next words part iv fed piece behind : List ℕ) (at size : ℕ)
    → HasTaken words part iv (fed ++ take at piece) → (length fed + at) % 64 ≡ 0
    → at ≤ length piece → length piece - at < 64 → next ≡ behind ++ post_of 0 size part → behind ≡ drop at piece
    → HasTaken words next iv (fed ++ piece)
HasTaken-behind next words part iv fed piece behind at size taken edge fits short eb ey =
    let before : length (fed ++ take at piece) ≡ length fed + at = length-append fed (take at piece)
    ∙ ap (λ (k : ℕ). length fed + k) (length-take-le at piece fits) in
    let left : length (drop at piece) ≡ length piece - at = length-drop at piece in
    let ends : length (fed ++ take at piece) % 64 ≡ 0 = omega arith in
    let front : take (length (fed ++ take at piece) % 64 + length (drop at piece)) next
    ≡ take (length (fed ++ take at piece) % 64) part ++ drop at piece =
    rw (ends, eb, ← ey) (take_at behind (post_of 0 size part) (0 + length behind) (omega arith)) in
    let taken_all : HasTaken words next iv ((fed ++ take at piece) ++ drop at piece) = HasTaken-short words part next iv
    (fed ++ take at piece) (drop at piece) taken (omega arith) front in
    let whole : (fed ++ take at piece) ++ drop at piece
    ≡ fed ++ piece =
    append_assoc fed (take at piece) (drop at piece)
    ∙ ap (λ (x : List ℕ). fed ++ x) (take-append-drop at piece) in
    rw (← whole) taken_all

-- the bytes of the incomplete block that count
pub HasTaken-front : (words part iv fed : List ℕ) (used : ℕ) → used ≡ length fed % 64 → HasTaken words part iv fed
    → HasTaken words (take used part) iv fed
HasTaken-front words part iv fed used same taken =
    record {
      blocks = taken.blocks;
      behind = take-take (length fed % 64) used part (omega (arith, same)) ∙ taken.behind;
    }
