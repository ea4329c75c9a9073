-- The sums over all connections add up to the number of datagrams.
use Rattle.std.proofs.Common.{◌≡◌, ℕ, ◌+◌, ◌-◌, ◌^◌, ◌<◌, ◌==◌, ◌&&◌, Bool, true, false, cond, List, [], ◌∷◌, length, slice_index_or, refl, arith, Option, Some, None, is_none, reverse}
use Rattle.std.proofs.lemmas.List.{length-reverse}
use Rattle.std.specs.List.{position, sum_by, remove}
use Rattle.std.proofs.lemmas.List.Sums.{sum_by_push, sum_by-remove, sum_by-set, sum_by-cons}
use Rattle.std.proofs.lemmas.List.Quantifiers.{position-Some}
use Rattle.capture.specs.declared.connections.Connection.{Connection}
use Rattle.capture.specs.declared.connections.TheConstants.{CONNECTIONS}
use Rattle.capture.specs.declared.direction.Damage.{Damage}
use Rattle.capture.specs.declared.direction.Direction.{Direction}
use Rattle.capture.specs.declared.direction.SessionOpening.{SessionOpening}
use Rattle.capture.specs.declared.direction.Peer.{Peer}
use Rattle.capture.specs.declared.direction.Place.{Place}
use Rattle.capture.specs.declared.follower.Totals.{Totals}
use Rattle.capture.specs.declared.datagram.Header.{Header}
use Rattle.capture.specs.declared.datagram.DecodedDatagram.{DecodedDatagram}
use Rattle.capture.specs.declared.datagram.DecodedDatagram.TheVariants.{Pdu, NoSafe, NoRed}
use Rattle.capture.specs.declared.line.Record.{Record}
use Rattle.capture.specs.declared.window.Window.{Window}
use Rattle.capture.specs.Numbers.{number_order}
use Rattle.capture.specs.Directions.{direction_after, is_opened, reopen_direction, direction_after_opening, opening_of, peer_of}
use Rattle.capture.specs.Connections.{place_from_end, behind_of, connection_after, count_connection_damage, damage_at, count_damaged_datagram, count_damage_by, count_damage_on, ends_of, first_some, forgotten_place, connection_place, with_reception, is_closed, is_from_low, is_source_low, known_place_of, other_connections, others_at, new_connection, place_before, place_in, place_or_first, step, connection_of, connection_at, follow_way_pdu}
use Rattle.capture.specs.WholeCapture.{add_connection_counts, forgotten_totals_with, totals_of, add_window_counts}
use Rattle.capture.specs.Laws.{CapturedDatagram, CaptureState, SumsAddUp, datagrams_in, datagrams_of, capture_after, capture_after_all, new_capture}
use Rattle.capture.proofs.Sums.{one_noted}

-- How many datagrams a connection has counted, and a list of connections.
abbrev pub weight : Connection → ℕ
weight c = datagrams_in c.from_low.together + datagrams_in c.from_high.together

abbrev pub weights : List Connection → ℕ
weights cs = sum_by weight cs

opened_same : (b : Bool) (d : Direction) (o : Option SessionOpening) (time : ℕ)
    → datagrams_in (reopen_direction b d o time).together ≡ datagrams_in d.together
opened_same true d o time = refl
opened_same false d o time = refl

one_followed : (d : Direction) (peer : Peer) (place : Place) (seq : ℕ) (h : Header)
    → datagrams_in d.together < 2 ^ 64 - 1
    → datagrams_in (direction_after d peer place seq h).together ≡ datagrams_in d.together + 1
one_followed d peer place seq h room =
    let same = opened_same (is_opened d (opening_of h) place.channel seq h.fingerprint) d (opening_of h) place.time in
    let w = (direction_after_opening d place seq h).together in
    let one =
    one_noted (number_order w seq h.fingerprint) w
    (record { number = seq; line = place.line; fingerprint = h.fingerprint })
    (omega (arith, same))
    in
    omega (arith, same, one)

either : (b : Bool) (c : Connection) (place : Place) (seq : ℕ) (h : Header) (n : ℕ)
    → weight (follow_way_pdu true c place seq h) ≡ n
    → weight (follow_way_pdu false c place seq h) ≡ n → weight (follow_way_pdu b c place seq h) ≡ n
either true c place seq h n low high = low
either false c place seq h n low high = high

one_more : (c : Connection) (line : ℕ) (r : Record) (seq : ℕ) (h : Header) → weight c < 2 ^ 64 - 1
    → weight (connection_after c line r seq h) ≡ weight c + 1
one_more c line r seq h room =
    let low = one_followed c.from_low (peer_of c.from_high h) (place_in c line r) seq h (omega arith) in
    let high = one_followed c.from_high (peer_of c.from_low h) (place_in c line r) seq h (omega arith) in
    either (is_from_low c h) (with_reception c r h) (place_in c line r) seq h _ (omega (arith, low))
    (omega (arith, high))

window_sum : (t : Totals) (w : Window) → datagrams_of t + datagrams_in w < 2 ^ 64
    → datagrams_of (add_window_counts t w) ≡ datagrams_of t + datagrams_in w
window_sum t w room = omega arith

counted_sum : (t : Totals) (c : Connection) → datagrams_of t + weight c < 2 ^ 64
    → datagrams_of (add_connection_counts t c) ≡ datagrams_of t + weight c
counted_sum t c room =
    let low = window_sum t c.from_low.together (omega arith) in
    let high = window_sum (add_window_counts t c.from_low.together) c.from_high.together (omega (arith, low)) in
    omega (arith, low, high)

-- A connection that is forgotten is counted among the forgotten ones.
none_left : (b : Bool) (cs : List Connection) (gone : Totals) → (b ≡ true → forgotten_place cs < length cs)
    → datagrams_of gone + weights cs < 2 ^ 64
    → datagrams_of (cond b (add_connection_counts gone (slice_index_or cs (forgotten_place cs) (new_connection 0 0)))
    gone) + weights (cond b (remove cs (forgotten_place cs)) cs)
    ≡ datagrams_of gone + weights cs
none_left true cs gone some room =
    let less = sum_by-remove weight cs (forgotten_place cs) (new_connection 0 0) (some refl) in
    let more = counted_sum gone (slice_index_or cs (forgotten_place cs) (new_connection 0 0)) (omega (arith, less)) in
    omega (arith, less, more)
none_left false cs gone some room = refl

place_within : (o : Option ℕ) (n : ℕ) → 0 < n → ((p : ℕ) → o ≡ Some p → p < n) → place_or_first o < n
place_within None n some within = some
place_within (Some p) n some within = within p refl

some_kept : (cs : List Connection) → (length cs == CONNECTIONS) ≡ true → 0 < length cs
some_kept cs h = grind arith

full : (cs : List Connection) → (length cs == CONNECTIONS) ≡ true → forgotten_place cs < length cs
full cs h =
    place_within (position (λ (c : Connection). is_closed c) cs) (length cs) (some_kept cs h)
    (λ p e. (position-Some _ cs p (new_connection 0 0) e).0)

first_none : (b : Bool) (new : Connection) (cs : List Connection) (gone : Totals) → weight new ≡ 0
    → datagrams_of (cond b (add_connection_counts gone (slice_index_or cs (forgotten_place cs) (new_connection 0 0)))
    gone) + weights (cond b (remove cs (forgotten_place cs)) cs)
    ≡ datagrams_of gone + weights cs
    → datagrams_of (cond (b && true) (add_connection_counts gone
    (slice_index_or cs (forgotten_place cs) (new_connection 0 0))) gone)
    + weights (cond b (remove cs (forgotten_place cs)) cs)
    + weight new ≡ datagrams_of gone + weights cs
first_none true new cs gone empty kept = omega (arith, kept, empty)
first_none false new cs gone empty kept = omega (arith, kept, empty)

-- The connection that is taken out and the ones that stay have the weight of all before.
taken_left : (o : Option ℕ) (new : Connection) (cs : List Connection) (gone : Totals)
    → ((p : ℕ) → o ≡ Some p → p < length cs)
    → weight new ≡ 0 → datagrams_of gone + weights cs < 2 ^ 64
    → datagrams_of (cond ((length cs == CONNECTIONS) && is_none o)
    (add_connection_counts gone (slice_index_or cs (forgotten_place cs) (new_connection 0 0))) gone)
    + weights (others_at o cs) + weight (connection_at o new cs) ≡ datagrams_of gone + weights cs
taken_left (Some p) new cs gone within empty room =
    let less = sum_by-remove weight cs p new (within p refl) in
    elim (length cs == CONNECTIONS) as (λ b.
    datagrams_of (cond (b && false) (add_connection_counts gone
    (slice_index_or cs (forgotten_place cs) (new_connection 0 0))) gone) + weights (remove cs p)
    + weight (slice_index_or cs p new) ≡ datagrams_of gone + weights cs) [
      | true ↦ omega (arith, less)
      | false ↦ omega (arith, less)
    ]
taken_left None new cs gone within empty room =
    let kept = none_left (length cs == CONNECTIONS) cs gone (full cs) room in
    first_none (length cs == CONNECTIONS) new cs gone empty kept

first_within : (one other : Option ℕ) (n p : ℕ) → ((q : ℕ) → one ≡ Some q → q < n) → ((q : ℕ) → other ≡ Some q → q < n)
    → first_some one other ≡ Some p → p < n
first_within (Some q) other n p one-within other-within h = one-within p h
first_within None other n p one-within other-within h = other-within p h

before_within : (o : Option ℕ) (n p : ℕ) → ((q : ℕ) → o ≡ Some q → q < n) → place_before o n ≡ Some p → p < n
before_within (Some q) n p within h = let some = within q refl in grind (arith, some, h)
before_within None n p within h = grind (arith, h)

behind_within : (f : Connection → Bool) (cs : List Connection) (p : ℕ) → position f (reverse cs) ≡ Some p
    → p < length cs
behind_within f cs p h =
    let within = (position-Some f (reverse cs) p (new_connection 0 0) h).0 in
    let long = length-reverse cs in
    omega (arith, within, long)

places : (h : Header) (r : Record) (cs : List Connection) (p : ℕ) → connection_place h r cs ≡ Some p → p < length cs
places h r cs p e =
    before_within (place_from_end h r cs) (length cs) p
    (λ q. first_within _ _ (length cs) q (behind_within _ cs) (behind_within _ cs)) e

one_stepped : (cs : List Connection) (line : ℕ) (r : Record) (seq : ℕ) (h : Header) (gone : Totals)
    → datagrams_of gone + weights cs < 2 ^ 64 - 1
    → datagrams_of (forgotten_totals_with gone cs r h) + weights (step cs line r seq h) ≡ datagrams_of gone + weights cs
    + 1
one_stepped cs line r seq h gone room =
    let low = (ends_of h.sender h.receiver).0 in
    let high = (ends_of h.sender h.receiver).1 in
    let same =
    taken_left (connection_place h r cs) (new_connection low high) cs gone (places h r cs) refl (omega arith)
    in
    let c = connection_of h r cs in
    let one = one_more c line r seq h (omega (arith, same)) in
    let push = sum_by_push weight (other_connections h r cs) (connection_after c line r seq h) in
    omega (arith, same, one, push)

-- A datagram that is not a PDU changes no connection's numbers.
damaged_same : (b : Bool) (c : Connection) (place : ℕ) (damage : Option Damage)
    → weight (count_damage_by b c place damage) ≡ weight c
damaged_same true c place damage = refl
damaged_same false c place damage = refl

on_same : (o : Option ℕ) (c : Connection) (r : Record) (damage : Option Damage)
    → weight (count_damage_on o c r damage) ≡ weight c
on_same None c r damage = refl
on_same (Some place) c r damage = damaged_same (is_source_low (slice_index_or c.routes place None) r) c place damage

at_same : (o : Option ℕ) (cs : List Connection) (r : Record) (damage : Option Damage)
    → ((p : ℕ) → o ≡ Some p → p < length cs)
    → weights (damage_at o cs r damage) ≡ weights cs
at_same None cs r damage within = refl
at_same (Some p) cs r damage within =
    let some = within p refl in
    let i = length cs - 1 - p in
    let c = slice_index_or cs i (new_connection 0 0) in
    let same = on_same (known_place_of c.routes r) c r damage in
    let set = sum_by-set weight cs i (count_connection_damage c r damage) (new_connection 0 0) (omega (arith, some)) in
    omega (arith, same, set)

noted_same : (cs : List Connection) (r : Record) (damage : Option Damage)
    → weights (count_damaged_datagram cs r damage) ≡ weights cs
noted_same cs r damage = at_same (behind_of cs r) cs r damage (behind_within _ cs)

-- The sums over all connections.
pub totals_sum : (cs : List Connection) (gone : Totals) → datagrams_of gone + weights cs < 2 ^ 64
    → datagrams_of (totals_of gone cs) ≡ datagrams_of gone + weights cs
totals_sum [] gone room = omega arith
totals_sum (c ∷ cs) gone room =
    let more = sum_by-cons weight c cs in
    let one = counted_sum gone c (omega (arith, more)) in
    let rest = totals_sum cs (add_connection_counts gone c) (omega (arith, more, one)) in
    omega (arith, more, one, rest)

-- All datagrams that are counted.
abbrev all_of : CaptureState → ℕ
all_of k = datagrams_of k.gone + weights k.connections + k.damaged

one_heard : (k : CaptureState) (line : ℕ) (r : Record) (x : DecodedDatagram) → all_of k < 2 ^ 64 - 1
    → all_of (capture_after k (record { line = line; from = r; heard = x })) ≡ all_of k + 1
one_heard k line r (Pdu seq h) room =
    let one = one_stepped k.connections line r seq h k.gone (omega arith) in
    omega (arith, one)
one_heard k line r (NoSafe seq fault) room =
    let same = noted_same k.connections r (Some (record { number = seq; line = line })) in omega (arith, same)
one_heard k line r (NoRed fault) room = let same = noted_same k.connections r None in omega (arith, same)

pub all_along : (cs : List CapturedDatagram) (k : CaptureState) → all_of k + length cs < 2 ^ 64
    → all_of (capture_after_all k cs) ≡ all_of k + length cs
all_along [] k room = omega arith
all_along (c ∷ cs) k room =
    let one = one_heard k c.line c.from c.heard (omega arith) in
    let rest = all_along cs (capture_after k c) (omega (arith, one)) in
    omega (arith, one, rest)

pub datagrams_along : (cs : List CapturedDatagram) (k : CaptureState) → k.datagrams + length cs < 2 ^ 64
    → (capture_after_all k cs).datagrams ≡ k.datagrams + length cs
datagrams_along [] k room = omega arith
datagrams_along (c ∷ cs) k room =
    let rest = datagrams_along cs (capture_after k c) (omega arith) in
    omega (arith, rest)

pub adds_up_law : SumsAddUp
adds_up_law cs room =
    let k = capture_after_all new_capture cs in
    let all = all_along cs new_capture (omega arith) in
    let totals = totals_sum k.connections k.gone (omega (arith, all)) in
    let count = datagrams_along cs new_capture (omega arith) in
    (omega (arith, all, totals), omega (arith, count))
