-- The datagrams of a way that wait for their partners.
use Rattle.std.specs.Prelude.{ℕ, ◌+◌, ◌-◌, ◌==◌, nat_le, List, take, drop, length, min, slice_index_or, if◌then◌else◌, Option, Some, None}
use Rattle.std.specs.List.{position, remove}
use Rattle.capture_beside.specs.declared.queue.TheConstants.{WAITING}
use Rattle.capture_beside.specs.declared.queue.WaitingDatagram.{WaitingDatagram}

-- the place of the first datagram with a fingerprint
abbrev pub place_of : ℕ → List WaitingDatagram → Option ℕ
place_of fingerprint ws = position (λ (w : WaitingDatagram). w.fingerprint == fingerprint) ws

-- a place behind others, or else a place among these
abbrev pub behind_or : ℕ → Option ℕ → Option ℕ → Option ℕ
behind_or size (Some place) other = Some (size + place)
behind_or size None other = other

-- the place of the next datagram with a fingerprint: from `next` on, then from the start
abbrev pub next_place : ℕ → ℕ → List WaitingDatagram → Option ℕ
next_place next fingerprint ws =
    let begin = min next (length ws) in
    behind_or begin (place_of fingerprint (drop begin ws)) (place_of fingerprint (take begin ws))

-- a datagram of nobody, for places where none waits
abbrev pub nobody : WaitingDatagram
nobody = record { fingerprint = 0; time = 0; number = 0 }

-- the datagram at a place
abbrev pub datagram_at : Option ℕ → List WaitingDatagram → Option WaitingDatagram
datagram_at None ws = None
datagram_at (Some place) ws = Some (slice_index_or ws place nobody)

-- the other datagrams
abbrev pub others_at : Option ℕ → List WaitingDatagram → List WaitingDatagram
others_at None ws = ws
others_at (Some place) ws = remove ws place

-- where the next partner is sought: at the place of the last one
abbrev pub next_at : Option ℕ → ℕ → ℕ
next_at None next = next
next_at (Some place) next = place

-- the datagram that leaves a full queue
abbrev pub oldest : List WaitingDatagram → Option WaitingDatagram
oldest ws = if nat_le WAITING (length ws) then Some (slice_index_or ws 0 nobody) else None

-- a queue with room for one more
abbrev pub with_room : List WaitingDatagram → List WaitingDatagram
with_room ws = if nat_le WAITING (length ws) then remove ws 0 else ws

-- where the next partner is sought then
abbrev pub next_after_removal : List WaitingDatagram → ℕ → ℕ
next_after_removal ws next = if nat_le WAITING (length ws) then next - 1 else next
