use Rattle.safe_machine.proofs.Words.{◌+◌, length, sym, subst, ap, ◌∙◌, arith, View, AllUnits, pdu_of, cs_step}
use Rattle.safe_machine.proofs.code.Properties.{short-above, sized-above}
use Rattle.safe_machine.proofs.endpoint.MachineState.answer_next.Goals as goal

pub reply-requires-clause-short : goal.reply-requires-clause-short
reply-requires-clause-short g c =
    let e = ap (λ (v : View). v.ring) c.pass.ensures ∙ ap (λ (v : View). v.ring) c.note_request.ensures
    ∙ ap (λ (v : View). v.ring) c.confirm_both.ensures in
    omega (
      arith,
      ap length e,
      short-above (c.args.self.now.confirmed + cs_step c.args.self.now (pdu_of c.args.pdu.now))
          c.args.self.now.ring,
      c.requires.short,
    )

pub reply-requires-clause-sized : goal.reply-requires-clause-sized
reply-requires-clause-sized g c =
    let e = ap (λ (v : View). v.ring) c.pass.ensures ∙ ap (λ (v : View). v.ring) c.note_request.ensures
    ∙ ap (λ (v : View). v.ring) c.confirm_both.ensures in
    subst AllUnits (sym e) (sized-above (c.args.self.now.confirmed + cs_step c.args.self.now (pdu_of c.args.pdu.now))
    c.args.self.now.ring c.requires.sized)
