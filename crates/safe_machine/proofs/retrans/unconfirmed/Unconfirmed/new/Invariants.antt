use Rattle.std.proofs.Common.{◌≡◌, length}
use Rattle.safe_machine.proofs.retrans.unconfirmed.Unconfirmed.new.Given as goal

-- Each round adds one place.
abbrev pub invariant-loop : goal.invariant-loop
invariant-loop g l = record { so_many : length l.places.items ≡ l.counter; room : l.places.capacity ≡ l.n }
