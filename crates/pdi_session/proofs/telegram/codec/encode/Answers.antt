use Rattle.std.proofs.Common.{◌+◌, ◌∙◌, length, arith}
use Rattle.octets.proofs.Fields.{drop_further}
use Rattle.pdi_session.proofs.telegram.codec.encode.Goals as goal

pub returns-clause-rest : goal.returns-clause-rest
returns-clause-rest c =
    c.put_octets-2.ensures.rest
    ∙ drop_further 43 (43 + length c.args.telegram.now.payload.now) c.put_name-2.new.buffer c.put_name.new.buffer
    (omega arith) c.put_name-2.ensures.rest
    ∙ drop_further 23 (43 + length c.args.telegram.now.payload.now) c.put_name.new.buffer c.put_u16.new.buffer
    (omega arith) c.put_name.ensures.rest
    ∙ drop_further 3 (43 + length c.args.telegram.now.payload.now) c.put_u16.new.buffer c.put_octets.new.buffer
    (omega arith) c.put_u16.ensures.rest
    ∙ drop_further 1 (43 + length c.args.telegram.now.payload.now) c.put_octets.new.buffer c.args.buffer.now
    (omega arith) c.put_octets.ensures.rest
