-- A capture is followed line by line to its end.
use Rattle.std.proofs.Common.{◌≡◌, ◌+◌, min, nat_lt, ◌<◌, ◌≤◌, ◌==◌, ℕ, Bool, true, false, cond, List, [], ◌∷◌, ◌++◌, length, refl, ap, sym, ◌∙◌, subst, arith, take_all, append_assoc, append-nil, ⊎_elim, Option, Some, None, IfSome}
use Rattle.std.proofs.lemmas.Bool.{cases_Bool}
use Rattle.std.proofs.lemmas.List.{length-take}
use Rattle.std.specs.Io.BufRead.{DropsThrough, drop_through, take_through}
use Rattle.std.specs.Io.KnownBytes.{Appends}
use Rattle.std.proofs.BufReadLemmas.{take_through-nil}
use Rattle.std.proofs.KnownBytes.{Appends-trans, Appends-nil}
use Rattle.capture_text.specs.declared.course.FollowOptions.{FollowOptions}
use Rattle.capture_text.specs.Lines.{cut_line, is_long, lines_from, lines_of}
use Rattle.capture.specs.declared.line.LineFault.TheVariants.{Long}
use Rattle.capture.specs.Numbers.{limited_sum}
use Rattle.capture_text.specs.FaultText.{fault_text}
use Rattle.capture_text.specs.Steps.{without_end}
use Rattle.capture_text.specs.Capture.{CaptureState, line_printed, line_fault, lines_printed, lines_faults, readable_line_printed, sums_printed, text_printed, text_fault, with_line, with_lines, with_long, with_read, with_sums, with_text}

-- The first line is the text up to and with the first line feed.
step_at : (b : Bool) (front xs : List ℕ) (x : ℕ)
    → lines_from (front ++ x ∷ []) xs ≡ ((front ++ x ∷ []) ++ take_through 10 xs) ∷ lines_from [] (drop_through 10 xs)
    → cond b ((front ++ x ∷ []) ∷ lines_from [] xs) (lines_from (front ++ x ∷ []) xs)
    ≡ (front ++ cond b (x ∷ []) (x ∷ take_through 10 xs)) ∷ lines_from [] (cond b xs (drop_through 10 xs))
step_at true front xs x rest = refl
step_at false front xs x rest =
    rest ∙ ap (λ l. l ∷ lines_from [] (drop_through 10 xs)) (append_assoc front (x ∷ []) (take_through 10 xs))

some_front : (front : List ℕ) (x : ℕ) (xs : List ℕ)
    → lines_from (front ++ x ∷ []) xs ≡ ((front ++ x ∷ []) ++ take_through 10 xs) ∷ lines_from [] (drop_through 10 xs)
some_front [] x [] = refl
some_front (y ∷ ys) x [] = ap (λ l. l ∷ []) (sym (append-nil (y ∷ (ys ++ x ∷ []))))
some_front [] x (z ∷ zs) = step_at (z == 10) (x ∷ []) zs z (some_front (x ∷ []) z zs)
some_front (y ∷ ys) x (z ∷ zs) = step_at (z == 10) (y ∷ (ys ++ x ∷ [])) zs z (some_front (y ∷ (ys ++ x ∷ [])) z zs)

pub first_line : (x : ℕ) (xs : List ℕ) → lines_of (x ∷ xs) ≡ take_through 10 (x ∷ xs) ∷
    lines_of (drop_through 10 (x ∷ xs))
first_line x xs = step_at (x == 10) [] xs x (some_front [] x xs)

past : (most size all : ℕ) → nat_lt most all ≡ true → size ≡ min (most + 1) all → nat_lt most size ≡ true
past most size all long is = grind arith

-- The prefix of a line that is too long is too long.
long_front : (line : List ℕ) → is_long line ≡ true → is_long (cut_line line) ≡ true
long_front line long = past 8192 (length (cut_line line)) (length line) long (length-take 8193 line)

short_front : (line : List ℕ) → is_long line ≡ false → cut_line line ≡ line
short_front line short = take_all 8193 line (grind (arith, short))

pub not_long : (line : List ℕ) → length line ≤ 8192 → is_long line ≡ false
not_long line short = grind (arith, short)

-- A function of lines within the limit has the same value for the line and for its prefix.
by_length : {X : Type 0} (f : List ℕ → X) (x : X) (line : List ℕ)
    → cond (is_long (cut_line line)) x (f (cut_line line)) ≡ cond (is_long line) x (f line)
by_length f x line = ⊎_elim
    (λ long. ap (λ b. cond b x (f (cut_line line))) (long_front line long) ∙ ap (λ b. cond b x (f line)) (sym long))
    (λ short. ap (λ l. cond (is_long l) x (f l)) (short_front line short))
    (cases_Bool (is_long line))

after_alike : (a : FollowOptions) (r : CaptureState) (line : List ℕ)
    → with_read a r (cut_line line) ≡ with_read a r line
after_alike a r line = by_length (λ l. with_text a r (without_end l)) (with_long r) line

printed_alike : (a : FollowOptions) (r : CaptureState) (line : List ℕ)
    → line_printed a r (cut_line line) ≡ line_printed a r line
printed_alike a r line =
    ap (λ l. l ++ sums_printed a (with_read a r (cut_line line)))
    (by_length (λ l. text_printed a r (without_end l)) [] line)
    ∙ ap (λ s. readable_line_printed a r line ++ sums_printed a s) (after_alike a r line)

told_alike : (a : FollowOptions) (r : CaptureState) (line : List ℕ)
    → line_fault a r (cut_line line) ≡ line_fault a r line
told_alike a r line = by_length (λ l. text_fault a r (without_end l)) (fault_text (limited_sum r.lines 1) Long) line

read_alike : (a : FollowOptions) (r : CaptureState) (line : List ℕ) → with_line a r (cut_line line) ≡ with_line a r line
read_alike a r line = ap (with_sums a) (after_alike a r line)

-- If the bytes are known: the remaining lines lead from the state, text and faults so far to those of all lines.
abbrev pub Leads : FollowOptions → Option (List ℕ) → Option (List ℕ) → CaptureState → CaptureState → Option (List ℕ)
    → Option (List ℕ) → Option (List ℕ)
    → Option (List ℕ) → Type 0
Leads a None known r0 r w0 w e0 e = Unit {0}
Leads a (Some all) known r0 r w0 w e0 e =
    (rest : List ℕ) × (known ≡ Some rest) × (with_lines a r0 (lines_of all) ≡ with_lines a r (lines_of rest))
    × ((end : Option (List ℕ)) → Appends w end (lines_printed a r (lines_of rest))
    → Appends w0 end (lines_printed a r0 (lines_of all)))
    × ((end : Option (List ℕ)) → Appends e end (lines_faults a r (lines_of rest))
    → Appends e0 end (lines_faults a r0 (lines_of all)))

pub leads_start : (a : FollowOptions) (known : Option (List ℕ)) (r : CaptureState) (w e : Option (List ℕ))
    → Leads a known known r r w w e e
leads_start a None r w e = tt
leads_start a (Some all) r w e = (all, refl, refl, (λ end h. h), (λ end h. h))

-- A flush does not change this.
pub leads_flush : (a : FollowOptions) (known0 known : Option (List ℕ)) (r0 r : CaptureState)
    (w0 w w' e0 e : Option (List ℕ))
    → Leads a known0 known r0 r w0 w e0 e → Appends w w' [] → Leads a known0 known r0 r w0 w' e0 e
leads_flush a None known r0 r w0 w w' e0 e h flushed = tt
leads_flush a (Some all) known r0 r w0 w w' e0 e (rest, left, read, printed, told) flushed =
    (rest, left, read, (λ end h. printed end (Appends-trans w w' end [] _ flushed h)), told)

some_left : (rest line : List ℕ) → line ≡ cut_line (take_through 10 rest) → 0 < length line → (x : ℕ) × (xs : List ℕ)
    × (rest ≡ x ∷ xs)
some_left [] line kept some = absurd (omega (arith, ap length kept, some))
some_left (x ∷ xs) line kept some = (x, xs, refl)

-- One more line.
line_more : (a : FollowOptions) (x : ℕ) (xs line : List ℕ) (r : CaptureState)
    → line ≡ cut_line (take_through 10 (x ∷ xs))
    → (with_lines a r (lines_of (x ∷ xs)) ≡ with_lines a (with_line a r line) (lines_of (drop_through 10 (x ∷ xs))))
    × (lines_printed a r (lines_of (x ∷ xs)) ≡ line_printed a r line ++ lines_printed a (with_line a r line)
    (lines_of (drop_through 10 (x ∷ xs))))
    × (lines_faults a r (lines_of (x ∷ xs)) ≡ line_fault a r line ++ lines_faults a (with_line a r line)
    (lines_of (drop_through 10 (x ∷ xs))))
line_more a x xs line r kept =
    let front = take_through 10 (x ∷ xs) in
    let lines = lines_of (drop_through 10 (x ∷ xs)) in
    let read : with_line a r front ≡ with_line a r line = sym (ap (with_line a r) kept ∙ read_alike a r front) in
    let printed : line_printed a r front ≡ line_printed a r line = sym (ap (line_printed a r) kept
    ∙ printed_alike a r front) in
    let told : line_fault a r front ≡ line_fault a r line = sym (ap (line_fault a r) kept ∙ told_alike a r front) in (
      ap (with_lines a r) (first_line x xs) ∙ ap (λ s. with_lines a s lines) read,
      ap (lines_printed a r) (first_line x xs) ∙ ap (λ s. line_printed a r front ++ lines_printed a s lines) read
          ∙ ap (λ l. l ++ lines_printed a (with_line a r line) lines) printed,
      ap (lines_faults a r) (first_line x xs) ∙ ap (λ s. line_fault a r front ++ lines_faults a s lines) read
          ∙ ap (λ l. l ++ lines_faults a (with_line a r line) lines) told,
    )

pub leads_line : (a : FollowOptions) (known0 known known' : Option (List ℕ)) (r0 r r' : CaptureState)
    (w0 w w' e0 e e' : Option (List ℕ)) (line : List ℕ)
    → Leads a known0 known r0 r w0 w e0 e → IfSome known (λ octets. line ≡ cut_line (take_through 10 octets))
    → DropsThrough known known' 10
    → 0 < length line → r' ≡ with_line a r line → Appends w w' (line_printed a r line)
    → Appends e e' (line_fault a r line)
    → Leads a known0 known' r0 r' w0 w' e0 e'
leads_line a None known known' r0 r r' w0 w w' e0 e e' line h kept drops some read' printed' told' = tt
leads_line a (Some all) known known' r0 r r' w0 w w' e0 e e' line (rest, left, read, printed, told) kept drops some
    read' printed' told' =
    let kept' = subst (λ k. IfSome k (λ octets. line ≡ cut_line (take_through 10 octets))) left kept in
    let dropped = subst (λ k. DropsThrough k known' 10) left drops in
    let (x, xs, is) = some_left rest line kept' some in
    let more = line_more a x xs line r (kept' ∙ ap (λ l. cut_line (take_through 10 l)) is) in
    let lines = lines_of (drop_through 10 rest) in
    let all_of = ap lines_of is in
    let tail : lines_of (drop_through 10 (x ∷ xs)) ≡ lines = ap (λ l. lines_of (drop_through 10 l)) (sym is) in (
      drop_through 10 rest,
      dropped,
      read ∙ ap (with_lines a r) all_of ∙ more.0 ∙ ap (with_lines a (with_line a r line)) tail
          ∙ ap (λ s. with_lines a s lines) (sym read'),
      λ end h. printed end (subst (λ l. Appends w end l)
          (sym (ap (lines_printed a r) all_of ∙ more.1
          ∙ ap (λ l. line_printed a r line ++ lines_printed a (with_line a r line) l) tail
          ∙ ap (λ s. line_printed a r line ++ lines_printed a s lines) (sym read')))
          (Appends-trans w w' end _ _ printed' h)),
      λ end h. told end (subst (λ l. Appends e end l)
          (sym (ap (lines_faults a r) all_of ∙ more.2
          ∙ ap (λ l. line_fault a r line ++ lines_faults a (with_line a r line) l) tail
          ∙ ap (λ s. line_fault a r line ++ lines_faults a s lines) (sym read')))
          (Appends-trans e e' end _ _ told' h)),
    )

-- Nothing is left.
none_left : (rest line : List ℕ) → line ≡ cut_line (take_through 10 rest) → length line ≡ 0 → rest ≡ []
none_left rest line kept none =
    let size = length-take 8193 (take_through 10 rest) in
    let same = ap length kept in
    take_through-nil 10 rest (omega (arith, size, same, none))

pub leads_end : (a : FollowOptions) (known0 known : Option (List ℕ)) (r0 r : CaptureState) (w0 w e0 e : Option (List ℕ))
    (line : List ℕ)
    → Leads a known0 known r0 r w0 w e0 e → IfSome known (λ octets. line ≡ cut_line (take_through 10 octets))
    → length line ≡ 0
    → IfSome known0 (λ all. (r ≡ with_lines a r0 (lines_of all)) × Appends w0 w (lines_printed a r0 (lines_of all))
    × Appends e0 e (lines_faults a r0 (lines_of all)))
leads_end a None known r0 r w0 w e0 e line h kept none = tt
leads_end a (Some all) known r0 r w0 w e0 e line (rest, left, read, printed, told) kept none =
    let kept' = subst (λ k. IfSome k (λ octets. line ≡ cut_line (take_through 10 octets))) left kept in
    let over = ap lines_of (none_left rest line kept' none) in (
      sym (read ∙ ap (with_lines a r) over),
      printed w (subst (λ l. Appends w w l) (sym (ap (lines_printed a r) over)) (Appends-nil w)),
      told e (subst (λ l. Appends e e l) (sym (ap (lines_faults a r) over)) (Appends-nil e)),
    )

pub no_octets : (size : ℕ) (empty : Bool) → empty ≡ (size == 0) → empty ≡ true → size ≡ 0
no_octets size empty is h = grind arith

pub some_octets : (size : ℕ) (empty : Bool) → empty ≡ (size == 0) → empty ≡ false → 0 < size
some_octets size empty is h = grind arith
