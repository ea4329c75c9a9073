use Rattle.std.proofs.Common.{arith}
use Rattle.safe_pdu.proofs.Codes.{words_eq}
use Rattle.safe_pdu.proofs.has_words.Goals as goal

pub returns : goal.returns
returns c =
    rw (c.u32_at.ensures, c.u32_at-2.ensures)
    (words_eq c.args.first c.args.second c.args.octets.now c.type_inv.octets c.requires (omega arith) (omega arith))
