use Rattle.safe_machine.proofs.Words.{sym, subst, pdu_of}
use Rattle.safe_machine.proofs.one.DecisionCounts.{Fits, decide-fits}
use Rattle.safe_machine.proofs.code.Properties.{allowed}
use Rattle.safe_machine.proofs.endpoint.MachineState.respond.Goals as goal

pub carry_out-requires-clause-allows : goal.carry_out-requires-clause-allows
carry_out-requires-clause-allows g c =
    let v = c.args.self.now in
    let p = pdu_of c.args.pdu.now in
    allowed v p c.args.now c.decide-decision.result c.requires.body c.requires.sound.down
    (subst (λ d. Fits v p c.args.now d) (sym c.decide-decision.ensures) (decide-fits v p c.args.now))
