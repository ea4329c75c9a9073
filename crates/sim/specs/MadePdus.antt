-- The PDUs of one end in the order of making.
use Rattle.std.specs.Prelude.{ℕ, Bool, true, false, List, [], slice_get, slice_set, slice_index_or, Option}
use Rattle.std.specs.Option.{option_map}

-- A PDU that an end made.
pub record MadePdu : Type 0 where
  pub datagram : List ℕ
  pub is_named : Bool  -- by a line of the script

-- A PDU that no line has named yet.
abbrev pub new_pdu : List ℕ → MadePdu
new_pdu datagram = record { datagram = datagram; is_named = false }

-- The datagram of the PDU at a place, if it has been made.
abbrev pub datagram_at : ℕ → List MadePdu → Option (List ℕ)
datagram_at place ps = option_map (λ (p : MadePdu). p.datagram) (slice_get ps place)

-- A line has named the PDU at a place; one that has not been made is not named.
abbrev pub is_named_at : ℕ → List MadePdu → Bool
is_named_at place ps = (slice_index_or ps place (new_pdu [])).is_named

-- The PDU, named.
abbrev pub with_name : MadePdu → MadePdu
with_name p = record { datagram = p.datagram; is_named = true }

-- The PDUs with the one at this place named, if it has been made.
abbrev pub mark_named_at : ℕ → List MadePdu → List MadePdu
mark_named_at place ps = slice_set ps place (with_name (slice_index_or ps place (new_pdu [])))
