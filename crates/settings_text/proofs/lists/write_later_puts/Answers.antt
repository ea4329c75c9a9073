use Rattle.std.proofs.Common.{rules}
use Rattle.settings_file.specs.Groups.{put_seen}
use Rattle.settings_text.specs.InForce.{later_put}
use Rattle.settings_text.proofs.AllTexts.{seen_end, seen_left}
use Rattle.settings_text.proofs.lists.write_later_puts.Goals as goal

pub loop-put-preserved : goal.loop-put-preserved
loop-put-preserved g c = λ end behind.
    c.loop-put.invariant end (seen_left later_put put_seen _ _ c.put-item.result _ _ end c.loop-put-test.true
    (search rules) c.in_ok-write_later_put.ensures behind)

pub returns : goal.returns
returns g c = c.loop-put.invariant _ (seen_end later_put put_seen _ _ _ c.loop-put-test.false)
