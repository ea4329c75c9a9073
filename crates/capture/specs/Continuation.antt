-- Which connection a PDU belongs to that comes between addresses that no connection of its identifiers has.
use Rattle.std.specs.Prelude.{ℕ, ◌+◌, ◌==◌, ◌&&◌, ◌||◌, Bool, false, nat_le, if◌then◌else◌, Option, Some, None, is_some}
use Rattle.capture.specs.declared.direction.Direction.{Direction}
use Rattle.capture.specs.declared.direction.SessionOpening.{SessionOpening}
use Rattle.capture.specs.declared.datagram.Header.{Header}
use Rattle.capture.specs.declared.window.TheConstants.{PASSED_MAX}
use Rattle.capture.specs.Directions.{opening_of}
use Rattle.capture.specs.Numbers.{ahead}

-- A number is near the newest one: not further ahead or behind than over the largest gap.
abbrev pub is_near : Option ℕ → ℕ → Bool
is_near None number = false
is_near (Some newest) number =
    nat_le (ahead newest number) (PASSED_MAX + 1) || nat_le (ahead number newest) (PASSED_MAX + 1)

-- The opening has these numbers.
abbrev pub is_opening_at : Option SessionOpening → ℕ → ℕ → Bool
is_opening_at None sn ts = false
is_opening_at (Some opening) sn ts = (opening.sn == sn) && (opening.ts == ts)

-- A PDU goes on with what its end (first) and the other end have sent. An opening is a copy of its end's last opening,
-- or confirms that of the other end; any other PDU has a sequence number near the newest of its end, or confirms one
-- near the newest of the other end.
abbrev pub is_continuation : Direction → Direction → Header → Bool
is_continuation own other h =
    if is_some (opening_of h) then is_opening_at own.opening h.sn h.ts || is_opening_at other.opening h.cs h.cts
    else is_near own.sequence.newest h.sn || is_near other.sequence.newest h.cs
