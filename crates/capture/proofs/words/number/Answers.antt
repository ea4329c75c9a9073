use Rattle.std.proofs.Common.{arith, ◌+◌, sym, ◌∙◌}
use Rattle.capture.proofs.Digits.{all_digits, one_more, too_large}
use Rattle.capture.proofs.words.number.Goals as goal

pub returns-then-number-most-clause-value : goal.returns-then-number-most-clause-value
returns-then-number-most-clause-value c =
    let digits = all_digits c.args.word.now (sym c.is_decimal.ensures ∙ c.if-not-is_decimal.false) in
    let more = one_more c.args.word.now c.loop-digit.digit-index c.loop-digit.number digits c.loop-digit-test.true
    c.loop-digit.invariant.so_far in
    too_large c.args.most c.args.word.now (c.loop-digit.digit-index + 1) (omega (arith, more, c.if-number-most.true))

pub loop-digit-preserved : goal.loop-digit-preserved
loop-digit-preserved c =
    let digits = all_digits c.args.word.now (sym c.is_decimal.ensures ∙ c.if-not-is_decimal.false) in
    record {
      so_far =
          one_more c.args.word.now c.loop-digit.digit-index c.loop-digit.number digits c.loop-digit-test.true
          c.loop-digit.invariant.so_far;
      within = c.if-number-most.false;
    }
