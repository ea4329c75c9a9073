use Rattle.md4.specs.Digest.{third_round}
use Rattle.md4.proofs.Blocks.{added_steps_are}
use Rattle.md4.proofs.block.third_four.Goals as goal

pub returns : goal.returns
returns c = λ words sums.
    added_steps_are third_round c.args.v words c.args.row sums c.parity.ensures c.step_word-a.ensures c.parity-2.ensures
    c.step_word-d.ensures c.parity-3.ensures c.step_word-c.ensures c.parity-4.ensures c.step_word-b.ensures
