use Rattle.std.proofs.Common.{◌∙◌, arith}
use Rattle.octets.proofs.Fields.{drop_further}
use Rattle.safe_pdu.proofs.codec.put_header.Goals as goal

pub returns-clause-rest : goal.returns-clause-rest
returns-clause-rest c =
    c.put_u32-6.ensures.rest
    ∙ drop_further 24 28 c.put_u32-5.new.buffer c.put_u32-4.new.buffer (omega arith) c.put_u32-5.ensures.rest
    ∙ drop_further 20 28 c.put_u32-4.new.buffer c.put_u32-3.new.buffer (omega arith) c.put_u32-4.ensures.rest
    ∙ drop_further 16 28 c.put_u32-3.new.buffer c.put_u32-2.new.buffer (omega arith) c.put_u32-3.ensures.rest
    ∙ drop_further 12 28 c.put_u32-2.new.buffer c.put_u32.new.buffer (omega arith) c.put_u32-2.ensures.rest
    ∙ drop_further 8 28 c.put_u32.new.buffer c.put_u16-2.new.buffer (omega arith) c.put_u32.ensures.rest
    ∙ drop_further 4 28 c.put_u16-2.new.buffer c.put_u16.new.buffer (omega arith) c.put_u16-2.ensures.rest
    ∙ drop_further 2 28 c.put_u16.new.buffer c.args.buffer.now (omega arith) c.put_u16.ensures.rest
