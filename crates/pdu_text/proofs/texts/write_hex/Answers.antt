use Rattle.pdu_text.proofs.HexLines.{hex_end, hex_left}
use Rattle.pdu_text.proofs.texts.write_hex.Goals as goal

pub loop-octet-preserved : goal.loop-octet-preserved
loop-octet-preserved g c = λ end behind.
    c.loop-octet.invariant end (hex_left _ _ _ _ end c.loop-octet-test.true c.in_ok-write_octet.ensures behind)

pub returns : goal.returns
returns g c = c.loop-octet.invariant _ (hex_end _ _ _ c.loop-octet-test.false)
