-- What becomes of the datagrams of a way, and what is counted of them.
use Rattle.std.specs.Prelude.{ℕ, List, [], ◌∷◌, ◌++◌, slice_index_or, Option, Some, None}
use Rattle.std.specs.List.{fold}
use Rattle.capture_beside.specs.declared.queue.Queue.{Queue}
use Rattle.capture_beside.specs.declared.queue.WaitingDatagram.{WaitingDatagram}
use Rattle.capture_beside.specs.declared.sites.Extent.{Extent}
use Rattle.capture_beside.specs.declared.sites.Site.{Site}
use Rattle.capture_beside.specs.declared.sites.Site.TheVariants.{Here, There}
use Rattle.capture_beside.specs.declared.sums.Sums.{Sums}
use Rattle.capture_beside.specs.declared.way.ArrivalOutcome.{ArrivalOutcome}
use Rattle.capture_beside.specs.declared.way.ArrivalOutcome.TheVariants.{Pair, Wait}
use Rattle.capture_beside.specs.Queues.{others_at, next_place, nobody, oldest, with_room}
use Rattle.capture_beside.specs.Sites.{difference_of}
use Rattle.capture_beside.specs.Sums.{give_up, count_pair}

-- what becomes of a datagram: the one at the place in the other queue is its partner; without a place it waits, and the
-- oldest one of a full queue leaves
abbrev pub outcome_at : Option ℕ → List WaitingDatagram → List WaitingDatagram → ArrivalOutcome
outcome_at (Some place) own other = Pair (slice_index_or other place nobody)
outcome_at None own other = Wait (oldest own)

-- the own queue then
abbrev pub own_after : Option ℕ → WaitingDatagram → List WaitingDatagram → List WaitingDatagram
own_after (Some place) arrived own = own
own_after None arrived own = with_room own ++ arrived ∷ []

-- the place of a datagram's partner
abbrev pub partner_in : ℕ → Queue → Option ℕ
partner_in fingerprint q = next_place q.next fingerprint q.waiting.items

-- what becomes of a datagram of a site
abbrev pub outcome_of : Site → ℕ → Queue → Queue → ArrivalOutcome
outcome_of Here fingerprint here there =
    outcome_at (partner_in fingerprint there) here.waiting.items there.waiting.items
outcome_of There fingerprint here there =
    outcome_at (partner_in fingerprint here) there.waiting.items here.waiting.items

-- what waits here then
abbrev pub here_after : Site → WaitingDatagram → Queue → Queue → List WaitingDatagram
here_after Here arrived here there = own_after (partner_in arrived.fingerprint there) arrived here.waiting.items
here_after There arrived here there = others_at (partner_in arrived.fingerprint here) here.waiting.items

-- what waits there then
abbrev pub there_after : Site → WaitingDatagram → Queue → Queue → List WaitingDatagram
there_after Here arrived here there = others_at (partner_in arrived.fingerprint there) there.waiting.items
there_after There arrived here there = own_after (partner_in arrived.fingerprint here) arrived there.waiting.items

-- a pair, the one recorded here first
abbrev pub pair_at : Site → WaitingDatagram → WaitingDatagram → WaitingDatagram × WaitingDatagram
pair_at Here arrived partner = (arrived, partner)
pair_at There arrived partner = (partner, arrived)

-- the difference of a pair
abbrev pub difference_in : Site → WaitingDatagram → ArrivalOutcome → Option ℕ
difference_in site arrived (Pair partner) =
    Some (difference_of (pair_at site arrived partner).0.time (pair_at site arrived partner).1.time)
difference_in site arrived (Wait _) = None

-- the sums then: with the pair, or with the datagram that does not wait any more
abbrev pub count_outcome : Site → WaitingDatagram → ArrivalOutcome → ℕ → Option Extent → Sums → Sums
count_outcome site arrived (Pair partner) shift other s =
    count_pair (pair_at site arrived partner).0 (pair_at site arrived partner).1 s
count_outcome site arrived (Wait None) shift other s = s
count_outcome site arrived (Wait (Some gone)) shift other s = give_up site gone shift other s

-- the sums with datagrams that have no partner
abbrev pub give_up_list : Site → List WaitingDatagram → ℕ → Option Extent → Sums → Sums
give_up_list site ws shift other s = fold (λ (sums : Sums) (w : WaitingDatagram). give_up site w shift other sums) s ws
