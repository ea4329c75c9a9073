use Rattle.std.proofs.Common.{◌≡◌, ◌+◌, ◌∙◌, ap, arith, take}
use Rattle.safe_pdu.specs.SafeText.{code_octets}
use Rattle.octets.proofs.Fields.{drop_further}
use Rattle.safe_pdu.proofs.Codes.{sixteen_written}
use Rattle.safe_pdu.proofs.CodeRule.put_code.Goals as goal

pub returns-in-Sixteen-clause-front : goal.returns-in-Sixteen-clause-front
returns-in-Sixteen-clause-front c =
    sixteen_written c.args.self.now c.digest_words-words.result (take c.args.size c.args.buffer.now)
    c.put_words-in-Sixteen.new.buffer _ c.args.size c.in-Sixteen.is
    c.digest_words-words.ensures c.put_words-in-Sixteen.ensures.front c.put_words-in-Sixteen-2.ensures.front

pub returns-in-Sixteen-clause-rest : goal.returns-in-Sixteen-clause-rest
returns-in-Sixteen-clause-rest c =
    let count : code_octets c.args.self.now.length ≡ 16 = ap code_octets c.in-Sixteen.is in
    let sum : c.args.size + 8 + 8 ≡ c.args.size + code_octets c.args.self.now.length = omega (arith, count) in
    (rw sum at c.put_words-in-Sixteen-2.ensures.rest)
    ∙ drop_further (c.args.size + 8) (c.args.size + code_octets c.args.self.now.length)
    c.put_words-in-Sixteen.new.buffer c.args.buffer.now
    (omega (arith, count)) c.put_words-in-Sixteen.ensures.rest
