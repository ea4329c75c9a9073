use Rattle.safe_machine.proofs.Words.{◌≡◌, ◌∙◌, [], subst, octets_of, Heartbeat, Out, resend_turn, View, text_of}
use Rattle.safe_machine.specs.Turns.{next_made}
use Rattle.safe_machine.proofs.code.Properties.{replies-out}
use Rattle.safe_machine.proofs.endpoint.MachineState.reply.Goals as goal

pub returns-clause-made : goal.returns-clause-made
returns-clause-made g c =
    let makes = g.O.PduOut.makes in
    let now = c.args.now in
    let after = c.resend_all.new in
    let again = subst (λ (w : View). Out makes w.settings.rule c.make.new.out (resend_turn (octets_of w.ring) now w)
    after.out) c.make.ensures.left
    c.resend_all.ensures.made in
    let left = subst (λ (w : View). after.self ≡ (resend_turn (octets_of w.ring) now w).left) c.make.ensures.left
    c.resend_all.ensures.left in
    let last =
    subst (λ (w : View). makes after.out (text_of w.settings.rule (next_made w Heartbeat [] now)) c.beat.new.out)
    (c.self-2.view_is ∙ left) c.beat.ensures.made
    in
    replies-out makes now c.args.self.now c.args.out.now c.make.new.out after.out c.beat.new.out c.make.ensures.made
    again last
