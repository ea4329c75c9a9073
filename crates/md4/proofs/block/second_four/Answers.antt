use Rattle.md4.specs.Digest.{second_round}
use Rattle.md4.proofs.Blocks.{added_steps_are}
use Rattle.md4.proofs.block.second_four.Goals as goal

pub returns : goal.returns
returns c = λ words sums.
    added_steps_are second_round c.args.v words c.args.row sums c.majority.ensures c.step_word-a.ensures
    c.majority-2.ensures
    c.step_word-d.ensures c.majority-3.ensures c.step_word-c.ensures c.majority-4.ensures c.step_word-b.ensures
