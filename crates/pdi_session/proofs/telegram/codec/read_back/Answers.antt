use Rattle.pdi_session.specs.telegram.Tele.{tele_of}
use Rattle.pdi_session.proofs.telegram.codec.read_back.Goals as goal

pub returns : goal.returns
returns c = c.decode.ensures.only (tele_of c.args.telegram.now) c.encode-size.ensures.written
