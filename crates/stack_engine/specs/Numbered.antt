-- Datagrams with consecutive sequence numbers: at which place alone a part can be.
use Rattle.std.specs.Prelude.{ℕ, ◌≡◌, ◌≤◌, nat_lt, true, List, length, drop, Option, Some, None, if◌then◌else◌}
use Rattle.std.specs.List.{slice_get}
use Rattle.std.specs.Str.{bytes_eq}
use Rattle.octets.specs.declared.limits.TheConstants.{RED_HEADER, SAFE_HEADER}
use Rattle.safe_pdu.specs.Places.{field}
use Rattle.safe_machine.specs.Numbers.{sn_of, wrap}

-- the sequence number of a part, if the part is long enough for a header
abbrev pub number_in : List ℕ → Option ℕ
number_in part = if nat_lt (length part) SAFE_HEADER then None else Some (field 12 part)

-- the part of the datagram at each place has the sequence number that is this place after the first, modulo 2^32
pub record AreNumbered (first : ℕ) (datagrams : List (List ℕ)) : Type 0 where
  pub few : length datagrams ≤ wrap  -- no number occurs twice
  pub number : (place : ℕ) (d : List ℕ) → slice_get datagrams place ≡ Some d
      → number_in (drop RED_HEADER d) ≡ Some (sn_of first place)

-- no datagram at another place has this part
abbrev pub IsOnlyPlace : List ℕ → List (List ℕ) → ℕ → Type 0
IsOnlyPlace part datagrams only =
    (place : ℕ) (d : List ℕ) → slice_get datagrams place ≡ Some d → bytes_eq part (drop RED_HEADER d) ≡ true
    → place ≡ only
