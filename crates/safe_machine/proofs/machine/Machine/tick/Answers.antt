use Rattle.safe_machine.proofs.Words.{arith, Ticks}
use Rattle.safe_machine.proofs.code.Reach.{reached-sound, reached-turn}
use Rattle.safe_machine.proofs.machine.Machine.tick.Goals as goal

pub tick-requires : goal.tick-requires
tick-requires g c = record { few = omega (arith, (reached-sound c.self.inside.end c.self.invariant).few) }

pub invariant_of-self : goal.invariant_of-self
invariant_of-self g c =
    reached-turn (Ticks c.args.now) c.self.inside.end c.tick.new.self c.self.invariant tt c.tick.ensures.left
