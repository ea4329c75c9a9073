use Rattle.md4.specs.Digest.{first_round}
use Rattle.md4.proofs.Blocks.{four_steps_are}
use Rattle.md4.proofs.block.first_four.Goals as goal

pub returns : goal.returns
returns c =
    four_steps_are first_round c.args.v c.args.row c.conditional.ensures c.step_word-a.ensures c.conditional-2.ensures
    c.step_word-d.ensures
    c.conditional-3.ensures c.step_word-c.ensures c.conditional-4.ensures c.step_word-b.ensures
