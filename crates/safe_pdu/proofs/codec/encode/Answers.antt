use Rattle.std.proofs.Common.{◌+◌, ◌∙◌, ap, ℕ, arith, length}
use Rattle.safe_pdu.specs.Pdu.{pdu_of}
use Rattle.safe_pdu.specs.SafeText.{code_octets, header}
use Rattle.safe_pdu.proofs.SafeLemmas.{safe_written}
use Rattle.octets.proofs.Fields.{drop_further}
use Rattle.safe_pdu.proofs.codec.encode.Goals as goal

pub returns-clause-written : goal.returns-clause-written
returns-clause-written c =
    let written =
    safe_written (pdu_of c.args.pdu.now) c.args.rule.now c.put_header.new.buffer c.put_octets.new.buffer
    c.put_code.new.buffer c.put_header.ensures.numbers
    c.requires.body
    (c.put_header.ensures.front ∙ ap (λ (n : ℕ). header (28 + length c.args.pdu.now.body.now + n)
    (pdu_of c.args.pdu.now)) c.octets.ensures)
    c.put_octets.ensures.front c.put_code.ensures.front
    in
    rw c.octets.ensures written

pub returns-clause-rest : goal.returns-clause-rest
returns-clause-rest c =
    let m : ℕ = length c.args.pdu.now.body.now in
    let size : ℕ = 28 + m + code_octets c.args.rule.now.length in
    let after =
    c.put_code.ensures.rest
    ∙ drop_further (28 + m) size c.put_octets.new.buffer c.put_header.new.buffer (omega arith) c.put_octets.ensures.rest
    ∙ drop_further 28 size c.put_header.new.buffer c.args.buffer.now (omega arith) c.put_header.ensures.rest
    in
    rw c.octets.ensures after
