-- The length of the unit of messages.
use Rattle.std.proofs.Common.{ℕ, ◌*◌, ◌≤◌, List, [], ◌∷◌, length, ap, arith}
use Rattle.std.specs.List.{AllByRecursion}
use Rattle.std.proofs.lemmas.List.{length-append}
use Rattle.std.proofs.lemmas.List.Elements.{recursion_from_All}
use Rattle.byteorder.specs.Endian.{little_bytes}
use Rattle.octets.specs.declared.limits.TheConstants.{UNIT_MIN, UNIT_MAX}
use Rattle.pdi_session.specs.packing.UnitText.{IsMessage, UnitText, unit_text, piece}

-- by the number of messages
unit-size : (ms : List (List ℕ)) → AllByRecursion IsMessage ms → (45 * length ms ≤ length (unit_text ms))
    × (length (unit_text ms) ≤ 402 * length ms)
unit-size [] h = (omega arith, omega arith)
unit-size (m ∷ ms) h =
    let rest = unit-size ms h.1 in
    let least = h.0.0 in
    let most = h.0.1 in
    let e = length-append (piece m) (unit_text ms) in
    let f = length-append (little_bytes 2 (length m)) m in
    (omega (arith, rest.0, least, e, f), omega (arith, rest.1, most, e, f))

pub unit-sized : (ms : List (List ℕ)) (octets : List ℕ) → UnitText ms octets → (UNIT_MIN ≤ length octets)
    × (length octets ≤ UNIT_MAX)
unit-sized ms octets t =
    let size = unit-size ms (recursion_from_All IsMessage ms t.sized) in
    let e = ap length t.spelled in
    (omega (arith, size.0, t.some, e), omega (arith, size.1, t.most, e))
