-- Each count is the number of its events.
use Rattle.stack_end.proofs.Words.{[], ap, arith, Bool, false, length, List, None, refl, Some, true, ℕ, ◌+◌, ◌<◌, ◌∙◌, ◌∷◌, ◌≡◌, if◌then◌else◌, Option}
use Rattle.octets.proofs.Choices.{by_test}
use Rattle.octets.specs.declared.limits.TheConstants.{CHANNELS_MAX}
use Rattle.red_layer.specs.declared.RedEvent.{RedEvent}
use Rattle.red_layer.specs.declared.RedEvent.TheVariants as event
use Rattle.red_layer.specs.declared.pdu.RedFault.TheVariants as red_fault
use Rattle.safe_pdu.specs.declared.SafeFault.TheVariants as safe_fault
use Rattle.safe_machine.specs.declared.DropCause.TheVariants as cause
use Rattle.safe_machine.specs.declared.Step.{Step as Outcome}
use Rattle.safe_machine.specs.declared.Step.TheVariants as step
use Rattle.stack_end.specs.declared.statistics.PartCounts.{PartCounts}
use Rattle.stack_end.specs.declared.statistics.ReceptionCounts.{ReceptionCounts}
use Rattle.stack_end.specs.Statistics.{count_reception, no_part_counts, no_reception_counts, one_more, with_event, with_step}
use Rattle.stack_end.specs.StatisticsLaw.{DatagramLaw, ExpiryLaw, PartLaw, PartStep, Input, Comes, Passes, comes_at, counts_at, counts_of, expires, greatest_taken, how_many, how_many_steps, part_counts_of}
use Rattle.stack_end.specs.StatisticsLaw.{has_bad_body, has_bad_type, has_part_length, has_reserve, has_wrong_code, has_wrong_length, is_answered, is_any, is_below, is_deferred, is_far, is_full, is_gap}
use Rattle.stack_end.specs.StatisticsLaw.{is_old, is_passed, is_repeated, is_short, is_short_part, is_strangers, is_taken, is_too_far, is_unopened, is_unrequested}
use Rattle.std.proofs.lemmas.Bool.{eqb-false, eqb-true, le-ltb, ne_eqb}
use Rattle.std.proofs.lemmas.List.{get_or-replicate, get_or-set_other, get_or-set_same, length-set}
use Rattle.std.specs.Prelude.{max, nat_lt, slice_index_or, slice_set, ◌-◌, ◌==◌, ◌&&◌, ◌||◌}

-- the first of two is false
left-false : (a b : Bool) → (a || b) ≡ false → a ≡ false
left-false true b h = h
left-false false b h = refl

-- the channel of a place is one of those that are counted
in-range : (channel place : ℕ) → channel ≡ place + 1 → place < CHANNELS_MAX
    → ((channel == 0) || nat_lt CHANNELS_MAX channel) ≡ false
in-range channel place is less =
    rw (ne_eqb channel 0 (λ e. omega (arith, e, is)), le-ltb CHANNELS_MAX channel (omega (arith, is, less))) refl

-- a datagram of this channel is counted by its event
counted-same : (place channel now : ℕ) (e : Option RedEvent) (cs : List ReceptionCounts) → channel ≡ place + 1
    → place < CHANNELS_MAX → length cs ≡ CHANNELS_MAX
    → slice_index_or (count_reception channel e now cs) place no_reception_counts
    ≡ with_event e now (slice_index_or cs place no_reception_counts)
counted-same place channel now e cs is less size =
    let minus : channel - 1 ≡ place = omega (arith, is) in
    rw (in-range channel place is less, minus)
    (get_or-set_same cs place _ no_reception_counts (omega (arith, less, size)))

-- one of another channel is not
counted-other : (place channel now : ℕ) (e : Option RedEvent) (cs : List ReceptionCounts) → (channel ≡ place + 1 → ⊥)
    → slice_index_or (count_reception channel e now cs) place no_reception_counts
    ≡ slice_index_or cs place no_reception_counts
counted-other place channel now e cs ne =
    let new = slice_set cs (channel - 1) (with_event e now (slice_index_or cs (channel - 1) no_reception_counts)) in
    by_test (λ b. slice_index_or (if b then cs else new) place no_reception_counts
    ≡ slice_index_or cs place no_reception_counts)
    ((channel == 0) || nat_lt CHANNELS_MAX channel) (λ h. refl)
    (λ h. let some = eqb-false channel 0 (left-false (channel == 0) (nat_lt CHANNELS_MAX channel) h) in
    get_or-set_other cs (channel - 1) place _ no_reception_counts (λ at. ne (omega (arith, at, some))))

-- there are as many counts as channels
sized : (is : List Input) → length (counts_of is).channels ≡ CHANNELS_MAX
sized [] = refl
sized (Comes channel e due now ∷ is) =
    let cs = (counts_of is).channels in
    let new = slice_set cs (channel - 1) (with_event e now (slice_index_or cs (channel - 1) no_reception_counts)) in
    by_test (λ b. length (if b then cs else new) ≡ CHANNELS_MAX) ((channel == 0) || nat_lt CHANNELS_MAX channel)
    (λ h. sized is)
    (λ h. length-set cs (channel - 1) _ ∙ sized is)
sized (Passes expired ∷ is) = sized is

-- the counts of a channel after a datagram
counts-one : (place channel now : ℕ) (e : Option RedEvent) (due : Bool) (is : List Input) → place < CHANNELS_MAX
    → counts_at place (Comes channel e due now ∷ is)
    ≡ (if channel == place + 1 then with_event e now (counts_at place is) else counts_at place is)
counts-one place channel now e due is less =
    let cs = (counts_of is).channels in
    by_test (λ b. (channel == place + 1) ≡ b
    → slice_index_or (count_reception channel e now cs) place no_reception_counts
    ≡ (if b then with_event e now (counts_at place is) else counts_at place is)) (channel == place + 1)
    (λ h at. counted-same place channel now e cs (eqb-true channel (place + 1) at) less (sized is))
    (λ h at. counted-other place channel now e cs (eqb-false channel (place + 1) at)) refl

-- a count of datagrams is the number of those with its events, if each moves it by one
each-count : (f : ReceptionCounts → ℕ) (p : Option RedEvent → Bool)
    → ((e : Option RedEvent) (now : ℕ) (c : ReceptionCounts)
    → f (with_event e now c) ≡ (if p e then one_more (f c) else f c)) → f no_reception_counts ≡ 0
    → (place : ℕ) (is : List Input) → place < CHANNELS_MAX → f (counts_at place is) ≡ how_many (comes_at place p) is
each-count f p moves none place [] less =
    ap f (get_or-replicate CHANNELS_MAX place no_reception_counts no_reception_counts less) ∙ none
each-count f p moves none place (Comes channel e due now ∷ is) less =
    let c = counts_at place is in
    let n = how_many (comes_at place p) is in
    let before = each-count f p moves none place is less in
    ap f (counts-one place channel now e due is less)
    ∙ by_test (λ b. f (if b then with_event e now c else c) ≡ (if b && p e then one_more n else n))
    (channel == place + 1)
    (λ h. moves e now c ∙ ap (λ m. if p e then one_more m else m) before) (λ h. before)
each-count f p moves none place (Passes expired ∷ is) less = each-count f p moves none place is less

-- what a datagram does to each count
record Moves (e : Option RedEvent) (now : ℕ) (c : ReceptionCounts) : Type 0 where
  received : (with_event e now c).received ≡ (if is_any e then one_more c.received else c.received)
  passed : (with_event e now c).passed ≡ (if is_passed e then one_more c.passed else c.passed)
  deferred : (with_event e now c).deferred ≡ (if is_deferred e then one_more c.deferred else c.deferred)
  old : (with_event e now c).old ≡ (if is_old e then one_more c.old else c.old)
  repeated : (with_event e now c).repeated ≡ (if is_repeated e then one_more c.repeated else c.repeated)
  far : (with_event e now c).far ≡ (if is_far e then one_more c.far else c.far)
  full : (with_event e now c).full ≡ (if is_full e then one_more c.full else c.full)
  short : (with_event e now c).damaged.short ≡ (if is_short e then one_more c.damaged.short else c.damaged.short)
  length : (with_event e now c).damaged.length
      ≡ (if has_wrong_length e then one_more c.damaged.length else c.damaged.length)
  reserve : (with_event e now c).damaged.reserve
      ≡ (if has_reserve e then one_more c.damaged.reserve else c.damaged.reserve)

moves-all : (e : Option RedEvent) (now : ℕ) (c : ReceptionCounts) → Moves e now c
moves-all None now c = record {
  received = refl;
  passed = refl;
  deferred = refl;
  old = refl;
  repeated = refl;
  far = refl;
  full = refl;
  short = refl;
  length = refl;
  reserve = refl;
}
moves-all (Some event.Passed) now c = record {
  received = refl;
  passed = refl;
  deferred = refl;
  old = refl;
  repeated = refl;
  far = refl;
  full = refl;
  short = refl;
  length = refl;
  reserve = refl;
}
moves-all (Some event.Wait) now c = record {
  received = refl;
  passed = refl;
  deferred = refl;
  old = refl;
  repeated = refl;
  far = refl;
  full = refl;
  short = refl;
  length = refl;
  reserve = refl;
}
moves-all (Some event.Old) now c = record {
  received = refl;
  passed = refl;
  deferred = refl;
  old = refl;
  repeated = refl;
  far = refl;
  full = refl;
  short = refl;
  length = refl;
  reserve = refl;
}
moves-all (Some event.Again) now c = record {
  received = refl;
  passed = refl;
  deferred = refl;
  old = refl;
  repeated = refl;
  far = refl;
  full = refl;
  short = refl;
  length = refl;
  reserve = refl;
}
moves-all (Some event.Far) now c = record {
  received = refl;
  passed = refl;
  deferred = refl;
  old = refl;
  repeated = refl;
  far = refl;
  full = refl;
  short = refl;
  length = refl;
  reserve = refl;
}
moves-all (Some event.Full) now c = record {
  received = refl;
  passed = refl;
  deferred = refl;
  old = refl;
  repeated = refl;
  far = refl;
  full = refl;
  short = refl;
  length = refl;
  reserve = refl;
}
moves-all (Some (event.Fault red_fault.Short)) now c = record {
  received = refl;
  passed = refl;
  deferred = refl;
  old = refl;
  repeated = refl;
  far = refl;
  full = refl;
  short = refl;
  length = refl;
  reserve = refl;
}
moves-all (Some (event.Fault red_fault.Length)) now c = record {
  received = refl;
  passed = refl;
  deferred = refl;
  old = refl;
  repeated = refl;
  far = refl;
  full = refl;
  short = refl;
  length = refl;
  reserve = refl;
}
moves-all (Some (event.Fault red_fault.Reserve)) now c = record {
  received = refl;
  passed = refl;
  deferred = refl;
  old = refl;
  repeated = refl;
  far = refl;
  full = refl;
  short = refl;
  length = refl;
  reserve = refl;
}

pub datagram-law : DatagramLaw
datagram-law place is less =
    record {
      received = each-count (λ c. c.received) is_any (λ e now c. (moves-all e now c).received) refl place is less;
      passed = each-count (λ c. c.passed) is_passed (λ e now c. (moves-all e now c).passed) refl place is less;
      deferred = each-count (λ c. c.deferred) is_deferred (λ e now c. (moves-all e now c).deferred) refl place is less;
      old = each-count (λ c. c.old) is_old (λ e now c. (moves-all e now c).old) refl place is less;
      repeated = each-count (λ c. c.repeated) is_repeated (λ e now c. (moves-all e now c).repeated) refl place is less;
      far = each-count (λ c. c.far) is_far (λ e now c. (moves-all e now c).far) refl place is less;
      full = each-count (λ c. c.full) is_full (λ e now c. (moves-all e now c).full) refl place is less;
      short = each-count (λ c. c.damaged.short) is_short (λ e now c. (moves-all e now c).short) refl place is less;
      length =
          each-count (λ c. c.damaged.length) has_wrong_length (λ e now c. (moves-all e now c).length) refl place is
          less;
      reserve =
          each-count (λ c. c.damaged.reserve) has_reserve (λ e now c. (moves-all e now c).reserve) refl place is less;
    }

pub expiry-law : ExpiryLaw
expiry-law [] = refl
expiry-law (Comes channel e due now ∷ is) =
    ap (λ n. if expires (Comes channel e due now) then one_more n else n) (expiry-law is)
expiry-law (Passes expired ∷ is) = ap (λ n. if expired then one_more n else n) (expiry-law is)

-- a count of parts is the number of those with its steps, if each moves it by one
each-part : (f : PartCounts → ℕ) (p : Outcome → Bool)
    → ((o : Outcome) (waited age : ℕ) (c : PartCounts)
    → f (with_step o waited age c) ≡ (if p o then one_more (f c) else f c)) → f no_part_counts ≡ 0
    → (ps : List PartStep) → f (part_counts_of ps) ≡ how_many_steps p ps
each-part f p moves none [] = none
each-part f p moves none (s ∷ ps) =
    moves s.step s.waited s.age (part_counts_of ps)
    ∙ ap (λ n. if p s.step then one_more n else n) (each-part f p moves none ps)

-- a time is the greatest of those taken
each-time : (f : PartCounts → ℕ) (g : PartStep → ℕ)
    → ((s : PartStep) (c : PartCounts) → f (with_step s.step s.waited s.age c)
    ≡ (if is_taken s.step then max (f c) (g s) else f c)) → f no_part_counts ≡ 0
    → (ps : List PartStep) → f (part_counts_of ps) ≡ greatest_taken g ps
each-time f g moves none [] = none
each-time f g moves none (s ∷ ps) =
    moves s (part_counts_of ps) ∙ ap (λ n. if is_taken s.step then max n (g s) else n) (each-time f g moves none ps)

-- what a part does to each count
record PartMoves (o : Outcome) (waited age : ℕ) (c : PartCounts) : Type 0 where
  taken : (with_step o waited age c).taken ≡ (if is_taken o then one_more c.taken else c.taken)
  gaps : (with_step o waited age c).gaps ≡ (if is_gap o then one_more c.gaps else c.gaps)
  strangers : (with_step o waited age c).strangers ≡ (if is_strangers o then one_more c.strangers else c.strangers)
  unopened : (with_step o waited age c).unopened ≡ (if is_unopened o then one_more c.unopened else c.unopened)
  far : (with_step o waited age c).far ≡ (if is_too_far o then one_more c.far else c.far)
  unrequested : (with_step o waited age c).unrequested
      ≡ (if is_unrequested o then one_more c.unrequested else c.unrequested)
  answered : (with_step o waited age c).answered ≡ (if is_answered o then one_more c.answered else c.answered)
  below : (with_step o waited age c).below ≡ (if is_below o then one_more c.below else c.below)
  short : (with_step o waited age c).damaged.short
      ≡ (if is_short_part o then one_more c.damaged.short else c.damaged.short)
  length : (with_step o waited age c).damaged.length
      ≡ (if has_part_length o then one_more c.damaged.length else c.damaged.length)
  code : (with_step o waited age c).damaged.code
      ≡ (if has_wrong_code o then one_more c.damaged.code else c.damaged.code)
  bad_type : (with_step o waited age c).damaged.bad_type
      ≡ (if has_bad_type o then one_more c.damaged.bad_type else c.damaged.bad_type)
  body : (with_step o waited age c).damaged.body ≡ (if has_bad_body o then one_more c.damaged.body else c.damaged.body)
  oldest : (with_step o waited age c).oldest ≡ (if is_taken o then max c.oldest age else c.oldest)
  longest_wait : (with_step o waited age c).longest_wait
      ≡ (if is_taken o then max c.longest_wait waited else c.longest_wait)

part-moves-all : (o : Outcome) (waited age : ℕ) (c : PartCounts) → PartMoves o waited age c
part-moves-all step.Taken waited age c =
    record {
      taken = refl;
      gaps = refl;
      strangers = refl;
      unopened = refl;
      far = refl;
      unrequested = refl;
      answered = refl;
      below = refl;
      short = refl;
      length = refl;
      code = refl;
      bad_type = refl;
      body = refl;
      oldest =
          refl;
      longest_wait = refl;
    }
part-moves-all step.Gap waited age c =
    record {
      taken = refl;
      gaps = refl;
      strangers = refl;
      unopened = refl;
      far = refl;
      unrequested = refl;
      answered = refl;
      below = refl;
      short = refl;
      length = refl;
      code = refl;
      bad_type = refl;
      body = refl;
      oldest =
          refl;
      longest_wait = refl;
    }
part-moves-all (step.Left reason detail) waited age c =
    record {
      taken = refl;
      gaps = refl;
      strangers = refl;
      unopened = refl;
      far = refl;
      unrequested = refl;
      answered = refl;
      below = refl;
      short = refl;
      length = refl;
      code = refl;
      bad_type = refl;
      body = refl;
      oldest =
          refl;
      longest_wait = refl;
    }
part-moves-all step.Nothing waited age c =
    record {
      taken = refl;
      gaps = refl;
      strangers = refl;
      unopened = refl;
      far = refl;
      unrequested = refl;
      answered = refl;
      below = refl;
      short = refl;
      length = refl;
      code = refl;
      bad_type = refl;
      body = refl;
      oldest =
          refl;
      longest_wait = refl;
    }
part-moves-all (step.Dropped cause.Stranger) waited age c =
    record {
      taken = refl;
      gaps = refl;
      strangers = refl;
      unopened = refl;
      far = refl;
      unrequested = refl;
      answered = refl;
      below = refl;
      short = refl;
      length = refl;
      code = refl;
      bad_type = refl;
      body = refl;
      oldest =
          refl;
      longest_wait = refl;
    }
part-moves-all (step.Dropped cause.NotOpened) waited age c =
    record {
      taken = refl;
      gaps = refl;
      strangers = refl;
      unopened = refl;
      far = refl;
      unrequested = refl;
      answered = refl;
      below = refl;
      short = refl;
      length = refl;
      code = refl;
      bad_type = refl;
      body = refl;
      oldest =
          refl;
      longest_wait = refl;
    }
part-moves-all (step.Dropped cause.Number) waited age c =
    record {
      taken = refl;
      gaps = refl;
      strangers = refl;
      unopened = refl;
      far = refl;
      unrequested = refl;
      answered = refl;
      below = refl;
      short = refl;
      length = refl;
      code = refl;
      bad_type = refl;
      body = refl;
      oldest =
          refl;
      longest_wait = refl;
    }
part-moves-all (step.Dropped cause.Request) waited age c =
    record {
      taken = refl;
      gaps = refl;
      strangers = refl;
      unopened = refl;
      far = refl;
      unrequested = refl;
      answered = refl;
      below = refl;
      short = refl;
      length = refl;
      code = refl;
      bad_type = refl;
      body = refl;
      oldest =
          refl;
      longest_wait = refl;
    }
part-moves-all (step.Dropped cause.Answered) waited age c =
    record {
      taken = refl;
      gaps = refl;
      strangers = refl;
      unopened = refl;
      far = refl;
      unrequested = refl;
      answered = refl;
      below = refl;
      short = refl;
      length = refl;
      code = refl;
      bad_type = refl;
      body = refl;
      oldest =
          refl;
      longest_wait = refl;
    }
part-moves-all (step.Dropped cause.Below) waited age c =
    record {
      taken = refl;
      gaps = refl;
      strangers = refl;
      unopened = refl;
      far = refl;
      unrequested = refl;
      answered = refl;
      below = refl;
      short = refl;
      length = refl;
      code = refl;
      bad_type = refl;
      body = refl;
      oldest =
          refl;
      longest_wait = refl;
    }
part-moves-all (step.Dropped (cause.Fault safe_fault.Short)) waited age c =
    record {
      taken = refl;
      gaps = refl;
      strangers = refl;
      unopened = refl;
      far = refl;
      unrequested = refl;
      answered = refl;
      below = refl;
      short = refl;
      length = refl;
      code = refl;
      bad_type = refl;
      body = refl;
      oldest =
          refl;
      longest_wait = refl;
    }
part-moves-all (step.Dropped (cause.Fault safe_fault.Length)) waited age c =
    record {
      taken = refl;
      gaps = refl;
      strangers = refl;
      unopened = refl;
      far = refl;
      unrequested = refl;
      answered = refl;
      below = refl;
      short = refl;
      length = refl;
      code = refl;
      bad_type = refl;
      body = refl;
      oldest =
          refl;
      longest_wait = refl;
    }
part-moves-all (step.Dropped (cause.Fault safe_fault.Code)) waited age c =
    record {
      taken = refl;
      gaps = refl;
      strangers = refl;
      unopened = refl;
      far = refl;
      unrequested = refl;
      answered = refl;
      below = refl;
      short = refl;
      length = refl;
      code = refl;
      bad_type = refl;
      body = refl;
      oldest =
          refl;
      longest_wait = refl;
    }
part-moves-all (step.Dropped (cause.Fault safe_fault.BadType)) waited age c =
    record {
      taken = refl;
      gaps = refl;
      strangers = refl;
      unopened = refl;
      far = refl;
      unrequested = refl;
      answered = refl;
      below = refl;
      short = refl;
      length = refl;
      code = refl;
      bad_type = refl;
      body = refl;
      oldest =
          refl;
      longest_wait = refl;
    }
part-moves-all (step.Dropped (cause.Fault safe_fault.Body)) waited age c =
    record {
      taken = refl;
      gaps = refl;
      strangers = refl;
      unopened = refl;
      far = refl;
      unrequested = refl;
      answered = refl;
      below = refl;
      short = refl;
      length = refl;
      code = refl;
      bad_type = refl;
      body = refl;
      oldest =
          refl;
      longest_wait = refl;
    }

pub part-law : PartLaw
part-law ps =
    record {
      taken = each-part (λ c. c.taken) is_taken (λ o waited age c. (part-moves-all o waited age c).taken) refl ps;
      gaps = each-part (λ c. c.gaps) is_gap (λ o waited age c. (part-moves-all o waited age c).gaps) refl ps;
      strangers =
          each-part (λ c. c.strangers) is_strangers (λ o waited age c. (part-moves-all o waited age c).strangers) refl
          ps;
      unopened =
          each-part (λ c. c.unopened) is_unopened (λ o waited age c. (part-moves-all o waited age c).unopened) refl ps;
      far = each-part (λ c. c.far) is_too_far (λ o waited age c. (part-moves-all o waited age c).far) refl ps;
      unrequested = each-part (λ c. c.unrequested) is_unrequested
          (λ o waited age c. (part-moves-all o waited age c).unrequested) refl ps;
      answered =
          each-part (λ c. c.answered) is_answered (λ o waited age c. (part-moves-all o waited age c).answered) refl ps;
      below = each-part (λ c. c.below) is_below (λ o waited age c. (part-moves-all o waited age c).below) refl ps;
      short =
          each-part (λ c. c.damaged.short) is_short_part (λ o waited age c. (part-moves-all o waited age c).short) refl
          ps;
      length = each-part (λ c. c.damaged.length) has_part_length
          (λ o waited age c. (part-moves-all o waited age c).length) refl ps;
      code =
          each-part (λ c. c.damaged.code) has_wrong_code (λ o waited age c. (part-moves-all o waited age c).code) refl
          ps;
      bad_type = each-part (λ c. c.damaged.bad_type) has_bad_type
          (λ o waited age c. (part-moves-all o waited age c).bad_type) refl ps;
      body =
          each-part (λ c. c.damaged.body) has_bad_body (λ o waited age c. (part-moves-all o waited age c).body) refl ps;
      oldest = each-time (λ c. c.oldest) (λ s. s.age) (λ s c. (part-moves-all s.step s.waited s.age c).oldest) refl ps;
      longest_wait = each-time (λ c. c.longest_wait) (λ s. s.waited)
          (λ s c. (part-moves-all s.step s.waited s.age c).longest_wait) refl ps;
    }
