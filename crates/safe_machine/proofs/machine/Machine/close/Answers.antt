use Rattle.safe_machine.proofs.Words.{arith, LeavesNow}
use Rattle.safe_machine.proofs.code.Reach.{reached-sound, reached-turn}
use Rattle.safe_machine.proofs.machine.Machine.close.Goals as goal

pub leave-requires : goal.leave-requires
leave-requires g c = record { few = omega (arith, (reached-sound c.self.inside.end c.self.invariant).few) }

pub invariant_of-self : goal.invariant_of-self
invariant_of-self g c =
    reached-turn (LeavesNow c.args.reason c.args.detail c.args.now) c.self.inside.end c.leave.new.self c.self.invariant
    tt c.leave.ensures.left
