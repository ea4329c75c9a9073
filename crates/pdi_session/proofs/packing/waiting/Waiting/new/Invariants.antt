use Rattle.std.proofs.Common.{◌≡◌, length}
use Rattle.octets.specs.declared.limits.TheConstants.{WAITING_MAX}
use Rattle.pdi_session.proofs.packing.waiting.Waiting.new.Given as goal

-- a place is made at a time
abbrev pub invariant-loop : goal.invariant-loop
invariant-loop g l = record { so_many : length l.places.items ≡ l.counter; room : l.places.capacity ≡ WAITING_MAX }
