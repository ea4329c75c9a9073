use Rattle.safe_pdu.specs.Pdu.{pdu_of}
use Rattle.safe_pdu.proofs.codec.read_back.Goals as goal

pub returns : goal.returns
returns c = c.decode.ensures.only (pdu_of c.args.pdu.now) c.encode-size.ensures.written
