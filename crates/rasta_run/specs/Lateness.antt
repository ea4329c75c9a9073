-- How old the oldest line is that waits for the reader of standard output.
use Rattle.std.specs.Prelude.{ℕ, zero, suc, ◌+◌, ◌-◌, ◌^◌, ◌%◌, ◌&&◌, Bool, not, nat_lt, nat_le, Option, None, Some, true, false, if◌then◌else◌}
use Rattle.rasta_run.specs.declared.lateness.Boundary.{Boundary}
use Rattle.rasta_run.specs.declared.lateness.Lateness.{Lateness}
use Rattle.rasta_run.specs.declared.lateness.ReaderState.{ReaderState}
use Rattle.rasta_run.specs.declared.lateness.ReaderState.TheVariants.{Known, Behind, Stale}

-- nothing waits
abbrev pub none : Lateness
none = record { boundary = None; is_told = false }

-- how many bytes are from one place of the output to another one
abbrev pub from_to : (from to : ℕ) → ℕ
from_to from to = (to + 2 ^ 64 - from) % 2 ^ 64

-- the boundary, as long as a byte before it waits; then one behind all bytes
abbrev pub moved : Boundary → (gone place now : ℕ) → Boundary
moved b gone place now =
    if nat_lt (from_to b.place place) (from_to gone place) then b
    else record { since = b.at; at = now; place = place }

-- the boundary of bytes that wait
abbrev pub next_boundary : (gone place now : ℕ) → Option Boundary → Boundary
next_boundary gone place now None = record { since = now; at = now; place = place }
next_boundary gone place now (Some b) = moved b gone place now

-- the same, if any wait
abbrev pub boundary_after : (gone waiting now : ℕ) → Option Boundary → Option Boundary
boundary_after gone zero now before = None
boundary_after gone (suc n) now before = Some (next_boundary gone ((gone + suc n) % 2 ^ 64) now before)

-- how the reader gets on
abbrev pub state_of : (is_told : Bool) → Option Boundary → (patience now : ℕ) → ReaderState
state_of is_told None patience now = Known
state_of is_told (Some b) patience now =
    if nat_le patience (now - b.since) then Stale
    else if not is_told && nat_le 100 (now - b.since) then Behind else Known
