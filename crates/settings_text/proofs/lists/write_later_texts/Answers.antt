use Rattle.std.proofs.Common.{rules, string_bytes}
use Rattle.settings_text.specs.InForce.{later_address}
use Rattle.settings_text.proofs.AllTexts.{seen_end, seen_left}
use Rattle.settings_text.proofs.lists.write_later_texts.Goals as goal

pub loop-text-preserved : goal.loop-text-preserved
loop-text-preserved g c = λ end behind.
    c.loop-text.invariant end (seen_left later_address string_bytes _ _ c.text-item.result _ _ end c.loop-text-test.true
    (search rules) c.in_ok-write_later_text.ensures behind)

pub returns : goal.returns
returns g c = c.loop-text.invariant _ (seen_end later_address string_bytes _ _ _ c.loop-text-test.false)
