use Rattle.safe_machine.proofs.Words.{subst, safe_seen, HandsIf, IsRecent, View}
use Rattle.safe_machine.proofs.machine.Machine.arrive.Goals as goal

pub returns-clause-recent : goal.returns-clause-recent
returns-clause-recent g c =
    subst (λ (v : View). HandsIf g.U.UnitIn.takes c.args.units.now c.arrive_octets.new.units
    (IsRecent (safe_seen v.settings.rule c.args.octets.now) c.args.now v)) c.self.view_is
    c.arrive_octets.ensures.recent
