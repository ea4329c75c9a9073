use Rattle.std.proofs.Common.{sym, subst}
use Rattle.std.specs.List.{FoldsTo}
use Rattle.octets.proofs.Steps.{FoldsTo-append}
use Rattle.red_layer.specs.Redundancy.{parts_due, step_decoded, after_release}
use Rattle.red_layer.proofs.RedLayer.arrive.Goals as goal

pub returns-in-Ok-clause-passed : goal.returns-in-Ok-clause-passed
returns-in-Ok-clause-passed g c = FoldsTo-append _ (parts_due c.args.now c.args.self.now) _ c.args.up.now c.tick.new.up
    c.judge.new.up c.tick.ensures.passed
    (subst (λ said. FoldsTo g.U.Upward.passes c.tick.new.up
    (step_decoded c.args.now said (after_release c.args.now c.args.self.now)).passed c.judge.new.up)
    (sym c.in-Ok.ensures.exact) (rw (← c.tick.ensures.left) c.judge.ensures.passed))
