use Rattle.safe_machine.proofs.Words.{arith, Guards}
use Rattle.safe_machine.proofs.code.Reach.{reached-sound, reached-turn}
use Rattle.safe_machine.proofs.machine.Machine.guard.Goals as goal

pub guard-requires : goal.guard-requires
guard-requires g c = record { few = omega (arith, (reached-sound c.self.inside.end c.self.invariant).few) }

pub invariant_of-self : goal.invariant_of-self
invariant_of-self g c =
    reached-turn (Guards c.args.now) c.self.inside.end c.guard.new.self c.self.invariant tt c.guard.ensures.left
