use Rattle.std.proofs.Common.{drop, ℕ, List, Option}
use Rattle.std.specs.Io.KnownBytes.{Appends}
use Rattle.hex.specs.Hex.{encode_lower}
use Rattle.pdu_text.proofs.texts.write_hex.Given as goal

-- Writing the bytes that are left completes all bytes.
abbrev pub invariant-loop-octet : goal.invariant-loop-octet
invariant-loop-octet g l =
    (end : Option (List ℕ)) → Appends (g.W.Write.contents l.writer) end (encode_lower (drop l.octet-index l.octets))
    → Appends (g.W.Write.contents l.initial.writer) end (encode_lower l.octets)
