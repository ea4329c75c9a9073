use Rattle.safe_machine.proofs.Words.{◌≡◌, ◌≤◌, length, subst, ap, ◌∙◌, arith, take_all, octets_of, Out, resend_turn, View}
use Rattle.safe_machine.proofs.code.Properties.{resends-more}
use Rattle.safe_machine.proofs.endpoint.MachineState.resend_all.Goals as goal

pub loop-place-preserved : goal.loop-place-preserved
loop-place-preserved g c =
    let before = c.loop-place.invariant in
    let more =
    resends-more g.O.PduOut.makes c.args.self.now c.loop-place.self c.resend_at.new.self c.args.out.now c.loop-place.out
    c.resend_at.new.out c.args.now
    c.loop-place.place
    (omega (
      arith,
      c.loop-place-test.true,
      c.len-place-end.ensures.len,
      ap (λ (v : View). length v.ring) c.self.view_is,
    )) before.left before.made
    c.resend_at.ensures.left
    c.resend_at.ensures.made in
    record {
      few = omega (arith, ap (λ (v : View). v.made) c.resend_at.ensures.left, before.few);
      ring = ap (λ (v : View). v.ring) c.resend_at.ensures.left ∙ before.ring;
      left = more.0;
      made = more.1;
    }

pub returns-clause-left : goal.returns-clause-left
returns-clause-left g c =
    let v : View = c.args.self.now in
    let long : length v.ring ≤ c.loop-place.place =
    omega (arith, c.loop-place-test.false, c.len-place-end.ensures.len, ap (λ (v : View). length v.ring) c.self.view_is)
    in
    subst (λ us. c.loop-place.self ≡ (resend_turn (octets_of us) c.args.now v).left)
    (take_all c.loop-place.place v.ring long) c.loop-place.invariant.left

pub returns-clause-made : goal.returns-clause-made
returns-clause-made g c =
    let v : View = c.args.self.now in
    let long : length v.ring ≤ c.loop-place.place =
    omega (arith, c.loop-place-test.false, c.len-place-end.ensures.len, ap (λ (v : View). length v.ring) c.self.view_is)
    in
    subst (λ us. Out g.O.PduOut.makes v.settings.rule c.args.out.now (resend_turn (octets_of us) c.args.now v)
    c.loop-place.out)
    (take_all c.loop-place.place v.ring long)
    c.loop-place.invariant.made
