-- Each recorded datagram is counted once or waits.
use Rattle.std.proofs.Common.{◌≡◌, ℕ, ◌+◌, ◌-◌, ◌^◌, ◌<◌, ◌≤◌, Bool, true, false, nat_le, cond, List, [], ◌∷◌, ◌++◌, length, drop, take, min, slice_index_or, refl, arith, Option, Some, None}
use Rattle.std.specs.List.{fold, position, remove}
use Rattle.std.proofs.lemmas.List.{length-append, length-drop, length-take}
use Rattle.std.proofs.lemmas.List.Edits.{length-remove}
use Rattle.std.proofs.lemmas.List.Quantifiers.{position-Some}
use Rattle.capture_beside.specs.declared.queue.TheConstants.{WAITING}
use Rattle.capture_beside.specs.declared.queue.Queue.{Queue}
use Rattle.capture_beside.specs.declared.queue.WaitingDatagram.{WaitingDatagram}
use Rattle.capture_beside.specs.declared.sites.Extent.{Extent}
use Rattle.capture_beside.specs.declared.sites.Site.{Site}
use Rattle.capture_beside.specs.declared.sites.Site.TheVariants.{Here, There}
use Rattle.capture_beside.specs.declared.sums.Sums.{Sums}
use Rattle.capture_beside.specs.declared.sums.Tally.{Tally}
use Rattle.capture_beside.specs.declared.way.ArrivalOutcome.TheVariants.{Pair, Wait}
use Rattle.capture_beside.specs.Queues.{behind_or, others_at, next_place, nobody, oldest, place_of, with_room}
use Rattle.capture_beside.specs.Sites.{is_outside_of}
use Rattle.capture_beside.specs.Sums.{give_up, count_without_partner, count_recorded, shift_from}
use Rattle.capture_beside.specs.Laws.{AddsUp, AllAddUp, ArrivalsAddUp, ClosingAddsUp, HasRoom}
use Rattle.capture_beside.specs.Ways.{give_up_list, here_after, outcome_at, outcome_of, own_after, count_outcome, there_after}

-- One that does not wait any more is counted.
leaves : (b : Bool) (t : Tally) (both waiting : ℕ) → t.recorded < 2 ^ 64 → AddsUp t both (waiting + 1)
    → AddsUp (count_without_partner b t) both waiting
leaves true t both waiting room sum = omega (arith, sum, room)
leaves false t both waiting room sum = omega (arith, sum, room)

-- What was recorded stays.
kept : (b : Bool) (t : Tally) → t.recorded < 2 ^ 64 → (count_without_partner b t).recorded < 2 ^ 64
kept true t room = room
kept false t room = room

-- A place of a partner is one of the datagrams that wait.
behind_within : (o other : Option ℕ) (begin size : ℕ) → begin ≤ size → ((p : ℕ) → o ≡ Some p → p < size - begin)
    → ((p : ℕ) → other ≡ Some p → p < size)
    → (p : ℕ) → behind_or begin o other ≡ Some p → p < size
behind_within (Some q) other begin size less back front p e = grind (arith, back q refl, e, less)
behind_within None other begin size less back front p e = front p e

within : (next fingerprint : ℕ) (ws : List WaitingDatagram) (p : ℕ) → next_place next fingerprint ws ≡ Some p
    → p < length ws
within next fingerprint ws p e =
    let begin = min next (length ws) in
    behind_within (place_of fingerprint (drop begin ws)) (place_of fingerprint (take begin ws)) begin (length ws)
    (omega arith)
    (λ q f. omega (arith, (position-Some _ (drop begin ws) q nobody f).0, length-drop begin ws))
    (λ q f. omega (arith, (position-Some _ (take begin ws) q nobody f).0, length-take begin ws))
    p e

-- A pair that is found by a datagram here or there.
pairs_here : (own other : List WaitingDatagram) (a partner : WaitingDatagram) (p shift : ℕ) (e : Option Extent)
    (s : Sums) → p < length other → HasRoom s
    → AllAddUp s (length own) (length other)
    → AllAddUp (count_outcome Here a (Pair partner) shift e (count_recorded Here s)) (length own)
    (length (remove other p))
pairs_here own other a partner p shift e s found room sums =
    let less = length-remove other p found in
    (omega (arith, sums.0, sums.1, room.0, room.1, less), omega (arith, sums.0, sums.1, room.0, room.1, less))

pairs_there : (own other : List WaitingDatagram) (a partner : WaitingDatagram) (p shift : ℕ) (e : Option Extent)
    (s : Sums) → p < length other → HasRoom s
    → AllAddUp s (length other) (length own)
    → AllAddUp (count_outcome There a (Pair partner) shift e (count_recorded There s)) (length (remove other p))
    (length own)
pairs_there own other a partner p shift e s found room sums =
    let less = length-remove other p found in
    (omega (arith, sums.0, sums.1, room.0, room.1, less), omega (arith, sums.0, sums.1, room.0, room.1, less))

-- A datagram that waits, in a full queue or in one with room.
waits_here : (full : Bool) (own other : List WaitingDatagram) (a : WaitingDatagram) (shift : ℕ) (e : Option Extent)
    (s : Sums) → (full ≡ true → 0 < length own) → HasRoom s
    → AllAddUp s (length own) (length other)
    → AllAddUp (count_outcome Here a (Wait (cond full (Some (slice_index_or own 0 nobody)) None)) shift e
    (count_recorded Here s))
    (length (cond full (remove own 0) own ++ a ∷ [])) (length other)
waits_here true own other a shift e s some room sums =
    let less = length-remove own 0 (some refl) in
    let more = length-append (remove own 0) (a ∷ []) in (
      leaves (is_outside_of Here (slice_index_or own 0 nobody).time (shift_from s.shift shift) e)
          (count_recorded Here s).here s.both _ (omega (arith, room.0))
          (omega (arith, sums.0, room.0, less, more)),
      sums.1,
    )
waits_here false own other a shift e s some room sums =
    let more = length-append own (a ∷ []) in
    (omega (arith, sums.0, room.0, more), sums.1)

waits_there : (full : Bool) (own other : List WaitingDatagram) (a : WaitingDatagram) (shift : ℕ) (e : Option Extent)
    (s : Sums) → (full ≡ true → 0 < length own) → HasRoom s
    → AllAddUp s (length other) (length own)
    → AllAddUp (count_outcome There a (Wait (cond full (Some (slice_index_or own 0 nobody)) None)) shift e
    (count_recorded There s)) (length other)
    (length (cond full (remove own 0) own ++ a ∷ []))
waits_there true own other a shift e s some room sums =
    let less = length-remove own 0 (some refl) in
    let more = length-append (remove own 0) (a ∷ []) in (
      sums.0,
      leaves (is_outside_of There (slice_index_or own 0 nobody).time (shift_from s.shift shift) e)
          (count_recorded There s).there s.both _ (omega (arith, room.1))
          (omega (arith, sums.1, room.1, less, more)),
    )
waits_there false own other a shift e s some room sums =
    let more = length-append own (a ∷ []) in
    (sums.0, omega (arith, sums.1, room.1, more))

full_some : (own : List WaitingDatagram) → nat_le WAITING (length own) ≡ true → 0 < length own
full_some own h = grind arith

-- Either of both.
meets_here : (o : Option ℕ) (own other : List WaitingDatagram) (a : WaitingDatagram) (shift : ℕ) (e : Option Extent)
    (s : Sums) → ((p : ℕ) → o ≡ Some p → p < length other)
    → HasRoom s → AllAddUp s (length own) (length other)
    → AllAddUp (count_outcome Here a (outcome_at o own other) shift e (count_recorded Here s))
    (length (own_after o a own)) (length (others_at o other))
meets_here (Some p) own other a shift e s found room sums =
    pairs_here own other a (slice_index_or other p nobody) p shift e s (found p refl) room sums
meets_here None own other a shift e s found room sums =
    waits_here (nat_le WAITING (length own)) own other a shift e s (full_some own) room sums

meets_there : (o : Option ℕ) (own other : List WaitingDatagram) (a : WaitingDatagram) (shift : ℕ) (e : Option Extent)
    (s : Sums) → ((p : ℕ) → o ≡ Some p → p < length other)
    → HasRoom s → AllAddUp s (length other) (length own)
    → AllAddUp (count_outcome There a (outcome_at o own other) shift e (count_recorded There s))
    (length (others_at o other)) (length (own_after o a own))
meets_there (Some p) own other a shift e s found room sums =
    pairs_there own other a (slice_index_or other p nobody) p shift e s (found p refl) room sums
meets_there None own other a shift e s found room sums =
    waits_there (nat_le WAITING (length own)) own other a shift e s (full_some own) room sums

-- A datagram of either site.
pub arrives : ArrivalsAddUp
arrives Here a here there shift e s room sums =
    meets_here (next_place there.next a.fingerprint there.waiting.items) here.waiting.items there.waiting.items a shift
    e s
    (within there.next a.fingerprint there.waiting.items) room sums
arrives There a here there shift e s room sums =
    meets_there (next_place here.next a.fingerprint here.waiting.items) there.waiting.items here.waiting.items a shift e
    s
    (within here.next a.fingerprint here.waiting.items) room sums

-- All that wait are given up.
all_here : (ws : List WaitingDatagram) (shift : ℕ) (e : Option Extent) (s : Sums) (there : ℕ) → s.here.recorded < 2 ^ 64
    → AllAddUp s (length ws) there
    → AllAddUp (give_up_list Here ws shift e s) 0 there
all_here [] shift e s there room sums = sums
all_here (w ∷ ws) shift e s there room sums =
    let b = is_outside_of Here w.time (shift_from s.shift shift) e in
    all_here ws shift e (give_up Here w shift e s) there (kept b s.here room)
    (leaves b s.here s.both (length ws) room (omega (arith, sums.0)), sums.1)

all_there : (ws : List WaitingDatagram) (shift : ℕ) (e : Option Extent) (s : Sums) (here : ℕ)
    → s.there.recorded < 2 ^ 64 → AllAddUp s here (length ws)
    → AllAddUp (give_up_list There ws shift e s) here 0
all_there [] shift e s here room sums = sums
all_there (w ∷ ws) shift e s here room sums =
    let b = is_outside_of There w.time (shift_from s.shift shift) e in
    all_there ws shift e (give_up There w shift e s) here (kept b s.there room)
    (sums.0, leaves b s.there s.both (length ws) room (omega (arith, sums.1)))

there_stays : (ws : List WaitingDatagram) (shift : ℕ) (e : Option Extent) (s : Sums) → s.there.recorded < 2 ^ 64
    → (give_up_list Here ws shift e s).there.recorded < 2 ^ 64
there_stays [] shift e s room = room
there_stays (w ∷ ws) shift e s room = there_stays ws shift e (give_up Here w shift e s) room

pub closes : ClosingAddsUp
closes here there shift e f s room sums =
    all_there there.waiting.items shift e (give_up_list Here here.waiting.items shift f s) 0
    (there_stays here.waiting.items shift f s (omega (arith, room.1)))
    (all_here here.waiting.items shift f s (length there.waiting.items) (omega (arith, room.0)) sums)
