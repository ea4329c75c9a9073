use Rattle.std.proofs.Common.{◌≡◌, ◌+◌, ◌*◌, length}
use Rattle.std.specs.Prelude.{fold}
use Rattle.capture.specs.Datagrams.{digits_of, fingerprint_of, with_digit}
use Rattle.capture.proofs.datagram.spell.Given as goal

-- The fingerprint so far, with the digits of the rest, becomes that of all bytes.
abbrev pub invariant-loop : goal.invariant-loop
invariant-loop l =
    record {
      so_far : fold with_digit l.fingerprint (digits_of l.rest) ≡ fingerprint_of l.octets;
      left : length l.rest + 4 * l.counter ≡ length l.octets;
    }
