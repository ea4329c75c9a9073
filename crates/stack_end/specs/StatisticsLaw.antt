-- The law of what an end counts: each count is the number of its events since the opening, modulo 2^64.
use Rattle.std.specs.Prelude.{◌≡◌, ℕ, ◌+◌, ◌<◌, ◌==◌, ◌&&◌, max, Bool, true, false, Option, Some, is_some, List, [], ◌∷◌, slice_index_or, if◌then◌else◌}
use Rattle.octets.specs.declared.limits.TheConstants.{CHANNELS_MAX}
use Rattle.red_layer.specs.declared.RedEvent.{RedEvent}
use Rattle.red_layer.specs.declared.RedEvent.TheVariants as event
use Rattle.red_layer.specs.declared.pdu.RedFault.TheVariants as red_fault
use Rattle.safe_pdu.specs.declared.SafeFault.TheVariants as safe_fault
use Rattle.safe_machine.specs.declared.DropCause.TheVariants as cause
use Rattle.safe_machine.specs.declared.Step.{Step as Outcome}
use Rattle.safe_machine.specs.declared.Step.TheVariants as step
use Rattle.stack_end.specs.declared.statistics.DatagramCounts.{DatagramCounts}
use Rattle.stack_end.specs.declared.statistics.PartCounts.{PartCounts}
use Rattle.stack_end.specs.declared.statistics.ReceptionCounts.{ReceptionCounts}
use Rattle.stack_end.specs.Statistics.{count_datagram, count_expired, no_datagram_counts, no_part_counts, no_reception_counts, one_more, with_step}

-- how many of a list are so, modulo 2^64
abbrev pub how_many : {E : Type 0} → (E → Bool) → List E → ℕ
how_many p [] = 0
how_many p (e ∷ es) = if p e then one_more (how_many p es) else how_many p es

-- what counts of datagrams change by: a datagram comes on a channel, from 1 on, with the redundancy layer's event, or
-- None at a closed end, at this time, after the deferral deadline or not; or time passes, and the deadline or not
pub data Input : Type 0 where
  Comes : (channel : ℕ) → (event : Option RedEvent) → (due : Bool) → (now : ℕ) → Input
  Passes : (expired : Bool) → Input

-- the counts after these inputs since the opening, the last one first
abbrev pub counts_of : List Input → DatagramCounts
counts_of [] = no_datagram_counts
counts_of (Comes channel e due now ∷ is) = count_datagram channel e due now (counts_of is)
counts_of (Passes expired ∷ is) = count_expired expired (counts_of is)

-- those of the channel at a place, from 0
abbrev pub counts_at : (place : ℕ) → List Input → ReceptionCounts
counts_at place is = slice_index_or (counts_of is).channels place no_reception_counts

-- a datagram comes on the channel at a place, and its event is so
abbrev pub comes_at : (place : ℕ) → (Option RedEvent → Bool) → Input → Bool
comes_at place p (Comes channel e due now) = (channel == place + 1) && p e
comes_at place p (Passes expired) = false

-- the deferral deadline has passed
abbrev pub expires : Input → Bool
expires (Comes channel e due now) = is_some e && due
expires (Passes expired) = expired

-- any event, or none
abbrev pub is_any : Option RedEvent → Bool
is_any e = true

-- the events, one by one
abbrev pub is_passed : Option RedEvent → Bool
is_passed (Some event.Passed) = true
is_passed _ = false

abbrev pub is_deferred : Option RedEvent → Bool
is_deferred (Some event.Wait) = true
is_deferred _ = false

abbrev pub is_old : Option RedEvent → Bool
is_old (Some event.Old) = true
is_old _ = false

abbrev pub is_repeated : Option RedEvent → Bool
is_repeated (Some event.Again) = true
is_repeated _ = false

abbrev pub is_far : Option RedEvent → Bool
is_far (Some event.Far) = true
is_far _ = false

abbrev pub is_full : Option RedEvent → Bool
is_full (Some event.Full) = true
is_full _ = false

abbrev pub is_short : Option RedEvent → Bool
is_short (Some (event.Fault red_fault.Short)) = true
is_short _ = false

abbrev pub has_wrong_length : Option RedEvent → Bool
has_wrong_length (Some (event.Fault red_fault.Length)) = true
has_wrong_length _ = false

abbrev pub has_reserve : Option RedEvent → Bool
has_reserve (Some (event.Fault red_fault.Reserve)) = true
has_reserve _ = false

-- each count of the channel at a place is the number of its datagrams
pub record CountsDatagrams (place : ℕ) (is : List Input) : Type 0 where
  pub received : (counts_at place is).received ≡ how_many (comes_at place is_any) is
  pub passed : (counts_at place is).passed ≡ how_many (comes_at place is_passed) is
  pub deferred : (counts_at place is).deferred ≡ how_many (comes_at place is_deferred) is
  pub old : (counts_at place is).old ≡ how_many (comes_at place is_old) is
  pub repeated : (counts_at place is).repeated ≡ how_many (comes_at place is_repeated) is
  pub far : (counts_at place is).far ≡ how_many (comes_at place is_far) is
  pub full : (counts_at place is).full ≡ how_many (comes_at place is_full) is
  pub short : (counts_at place is).damaged.short ≡ how_many (comes_at place is_short) is
  pub length : (counts_at place is).damaged.length ≡ how_many (comes_at place has_wrong_length) is
  pub reserve : (counts_at place is).damaged.reserve ≡ how_many (comes_at place has_reserve) is

-- so it is for each channel and all inputs
abbrev pub DatagramLaw : Type 0
DatagramLaw = (place : ℕ) (is : List Input) → place < CHANNELS_MAX → CountsDatagrams place is

-- the deferral deadlines counted are those that passed
abbrev pub ExpiryLaw : Type 0
ExpiryLaw = (is : List Input) → (counts_of is).expired_deferrals ≡ how_many expires is

-- a part that went up: the machine's step, how long nothing was confirmed before it, and how old the last confirmed
-- timestamp is after it
pub record PartStep : Type 0 where
  pub step : Outcome
  pub waited : ℕ
  pub age : ℕ

-- the counts after these parts since the opening, the last one first
abbrev pub part_counts_of : List PartStep → PartCounts
part_counts_of [] = no_part_counts
part_counts_of (p ∷ ps) = with_step p.step p.waited p.age (part_counts_of ps)

-- how many parts had such a step
abbrev pub how_many_steps : (Outcome → Bool) → List PartStep → ℕ
how_many_steps p ps = how_many (λ s. p s.step) ps

-- the steps, one by one
abbrev pub is_taken : Outcome → Bool
is_taken step.Taken = true
is_taken _ = false

abbrev pub is_gap : Outcome → Bool
is_gap step.Gap = true
is_gap _ = false

abbrev pub is_strangers : Outcome → Bool
is_strangers (step.Dropped cause.Stranger) = true
is_strangers _ = false

abbrev pub is_unopened : Outcome → Bool
is_unopened (step.Dropped cause.NotOpened) = true
is_unopened _ = false

abbrev pub is_too_far : Outcome → Bool
is_too_far (step.Dropped cause.Number) = true
is_too_far _ = false

abbrev pub is_unrequested : Outcome → Bool
is_unrequested (step.Dropped cause.Request) = true
is_unrequested _ = false

abbrev pub is_answered : Outcome → Bool
is_answered (step.Dropped cause.Answered) = true
is_answered _ = false

abbrev pub is_below : Outcome → Bool
is_below (step.Dropped cause.Below) = true
is_below _ = false

abbrev pub is_short_part : Outcome → Bool
is_short_part (step.Dropped (cause.Fault safe_fault.Short)) = true
is_short_part _ = false

abbrev pub has_part_length : Outcome → Bool
has_part_length (step.Dropped (cause.Fault safe_fault.Length)) = true
has_part_length _ = false

abbrev pub has_wrong_code : Outcome → Bool
has_wrong_code (step.Dropped (cause.Fault safe_fault.Code)) = true
has_wrong_code _ = false

abbrev pub has_bad_type : Outcome → Bool
has_bad_type (step.Dropped (cause.Fault safe_fault.BadType)) = true
has_bad_type _ = false

abbrev pub has_bad_body : Outcome → Bool
has_bad_body (step.Dropped (cause.Fault safe_fault.Body)) = true
has_bad_body _ = false

-- the greatest number of the parts that were taken, or 0
abbrev pub greatest_taken : (PartStep → ℕ) → List PartStep → ℕ
greatest_taken f [] = 0
greatest_taken f (p ∷ ps) = if is_taken p.step then max (greatest_taken f ps) (f p) else greatest_taken f ps

-- each count of parts is the number of those with its step, and the times are the greatest of the parts that were taken
pub record CountsParts (ps : List PartStep) : Type 0 where
  pub taken : (part_counts_of ps).taken ≡ how_many_steps is_taken ps
  pub gaps : (part_counts_of ps).gaps ≡ how_many_steps is_gap ps
  pub strangers : (part_counts_of ps).strangers ≡ how_many_steps is_strangers ps
  pub unopened : (part_counts_of ps).unopened ≡ how_many_steps is_unopened ps
  pub far : (part_counts_of ps).far ≡ how_many_steps is_too_far ps
  pub unrequested : (part_counts_of ps).unrequested ≡ how_many_steps is_unrequested ps
  pub answered : (part_counts_of ps).answered ≡ how_many_steps is_answered ps
  pub below : (part_counts_of ps).below ≡ how_many_steps is_below ps
  pub short : (part_counts_of ps).damaged.short ≡ how_many_steps is_short_part ps
  pub length : (part_counts_of ps).damaged.length ≡ how_many_steps has_part_length ps
  pub code : (part_counts_of ps).damaged.code ≡ how_many_steps has_wrong_code ps
  pub bad_type : (part_counts_of ps).damaged.bad_type ≡ how_many_steps has_bad_type ps
  pub body : (part_counts_of ps).damaged.body ≡ how_many_steps has_bad_body ps
  pub oldest : (part_counts_of ps).oldest ≡ greatest_taken (λ s. s.age) ps
  pub longest_wait : (part_counts_of ps).longest_wait ≡ greatest_taken (λ s. s.waited) ps

-- so it is for all parts
abbrev pub PartLaw : Type 0
PartLaw = (ps : List PartStep) → CountsParts ps
