-- The pieces of a queue as it keeps them: their heads in order, and their bytes one after the other.
use Rattle.std.specs.Prelude.{◌≡◌, ℕ, ◌+◌, ◌≤◌, List, [], ◌∷◌, length, take, drop}
use Rattle.circular_buffer.specs.Buffer.{Buffer}
use Rattle.end_for_callers.specs.declared.queue.Head.{Head}

-- the pieces with these heads: each takes as many bytes as its head says
abbrev pub pieces_in : {T : Type 0} → List (Head T) → List ℕ → List (T × List ℕ)
pieces_in [] octets = []
pieces_in (h ∷ hs) octets = (h.tag, take h.size octets) ∷ pieces_in hs (drop h.size octets)

-- the number of bytes of all pieces together
abbrev pub size_of : {T : Type 0} → List (Head T) → ℕ
size_of [] = 0
size_of (h ∷ hs) = h.size + size_of hs

-- a ring of heads and a ring of bytes have the same pieces, within their capacity
pub record AreKept {T : Type 0} (heads : Buffer (Head T)) (octets : Buffer ℕ) : Type 0 where
  -- the sizes add up to the bytes
  pub sizes : size_of heads.items ≡ length octets.items
  -- the heads fit their ring
  pub places : length heads.items ≤ heads.capacity
  -- the bytes fit theirs
  pub room : length octets.items ≤ octets.capacity
