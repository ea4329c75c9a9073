use Rattle.std.proofs.Common.{◌≡◌, ◌∙◌, sym, arith, length}
use Rattle.std.proofs.lemmas.List.{take_rest}
use Rattle.safe_pdu.specs.SafeText.{code_octets}
use Rattle.safe_pdu.proofs.SafeLemmas.{length-code_over}
use Rattle.safe_pdu.proofs.Codes.{eq_other_length, sixteen_eq}
use Rattle.safe_pdu.proofs.CodeRule.confirms.Goals as goal

pub returns-then-code-octets : goal.returns-then-code-octets
returns-then-code-octets c =
    eq_other_length c.args.code.now _ (λ e. c.if-code-octets.true (e ∙ length-code_over c.args.self.now c.args.front.now
    ∙ sym c.octets.ensures))

pub returns-in-Sixteen : goal.returns-in-Sixteen
returns-in-Sixteen c =
    let size : length c.args.code.now ≡ code_octets c.args.self.now.length = omega arith in
    rw (c.has_words-in-Sixteen.ensures, c.has_words-in-Sixteen-2.ensures, take_rest c.args.code.now 8)
    (sixteen_eq c.args.self.now c.digest_words-words.result c.args.front.now c.args.code.now c.in-Sixteen.is
    c.digest_words-words.ensures size)
