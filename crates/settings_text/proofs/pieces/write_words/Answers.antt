use Rattle.settings_text.proofs.AllTexts.{items_end, items_left}
use Rattle.settings_text.proofs.pieces.write_words.Goals as goal

pub loop-word-preserved : goal.loop-word-preserved
loop-word-preserved g c = λ end behind.
    c.loop-word.invariant end (items_left _ _ _ _ _ _ end c.loop-word-test.true c.in_ok-write_word.ensures behind)

pub returns : goal.returns
returns g c = c.loop-word.invariant _ (items_end _ _ _ _ c.loop-word-test.false)
