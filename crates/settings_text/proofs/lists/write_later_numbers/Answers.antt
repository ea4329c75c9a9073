use Rattle.settings_text.proofs.AllTexts.{items_end, items_left}
use Rattle.settings_text.proofs.lists.write_later_numbers.Goals as goal

pub loop-number-preserved : goal.loop-number-preserved
loop-number-preserved g c = λ end behind.
    c.loop-number.invariant end (items_left _ _ _ _ _ _ end c.loop-number-test.true c.in_ok-write_later_number.ensures
    behind)

pub returns : goal.returns
returns g c = c.loop-number.invariant _ (items_end _ _ _ _ c.loop-number-test.false)
