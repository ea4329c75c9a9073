use Rattle.safe_machine.proofs.Words.{sym, ap, refl, subst, ◌∙◌, FoldsTo, pdu_of, Out, Turn}
use Rattle.safe_machine.proofs.code.Properties.{arrives-goes, arrives-left, hands-goes, hands-left}
use Rattle.safe_machine.proofs.endpoint.MachineState.arrive.Goals as goal

pub returns-in-Some-clause-left : goal.returns-in-Some-clause-left
returns-in-Some-clause-left g c =
    let is = arrives-left (pdu_of c.args.pdu.now) c.args.now c.args.self.now c.in-Some.reason c.in-Some.detail
    c.in-Some.ensures in
    c.leave.ensures.left ∙ ap (λ (t : Turn). t.left) (sym is)

pub returns-in-Some-clause-made : goal.returns-in-Some-clause-made
returns-in-Some-clause-made g c =
    let is = arrives-left (pdu_of c.args.pdu.now) c.args.now c.args.self.now c.in-Some.reason c.in-Some.detail
    c.in-Some.ensures in
    subst (λ t. Out g.O.PduOut.makes c.args.self.now.settings.rule c.args.out.now t c.leave.new.out)
    (sym is) c.leave.ensures.made

pub returns-in-Some-clause-taken : goal.returns-in-Some-clause-taken
returns-in-Some-clause-taken g c =
    subst (λ us. FoldsTo g.U.UnitIn.takes c.args.units.now us c.args.units.now)
    (sym (hands-left (pdu_of c.args.pdu.now) c.args.now c.args.self.now c.in-Some.reason c.in-Some.detail
    c.in-Some.ensures)) refl

pub returns-clause-left : goal.returns-clause-left
returns-clause-left g c = c.respond.ensures.left
    ∙ ap (λ (t : Turn). t.left) (sym (arrives-goes (pdu_of c.args.pdu.now) c.args.now c.args.self.now
    c.in_default.ensures))

pub returns-clause-made : goal.returns-clause-made
returns-clause-made g c =
    subst (λ t. Out g.O.PduOut.makes c.args.self.now.settings.rule c.args.out.now t c.respond.new.out)
    (sym (arrives-goes (pdu_of c.args.pdu.now) c.args.now c.args.self.now c.in_default.ensures)) c.respond.ensures.made

pub returns-clause-taken : goal.returns-clause-taken
returns-clause-taken g c =
    subst (λ us. FoldsTo g.U.UnitIn.takes c.args.units.now us c.respond.new.units)
    (sym (hands-goes (pdu_of c.args.pdu.now) c.args.now c.args.self.now c.in_default.ensures)) c.respond.ensures.taken
