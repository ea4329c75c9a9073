use Rattle.std.proofs.Common.{◌≡◌, ◌+◌, ◌∙◌, arith}
use Rattle.octets.proofs.Fields.{drop_further}
use Rattle.safe_pdu.proofs.put_words.Goals as goal

pub returns-clause-rest : goal.returns-clause-rest
returns-clause-rest c =
    let sum : c.args.place + 4 + 4 ≡ c.args.place + 8 = omega arith in
    (rw sum at c.put_u32-2.ensures.rest)
    ∙ drop_further (c.args.place + 4) (c.args.place + 8) c.put_u32.new.buffer c.args.buffer.now (omega arith)
    c.put_u32.ensures.rest
