use Rattle.safe_machine.proofs.Words.{◌≡◌, ◌∙◌, Bool, ap, subst, sym, true, if◌then◌else◌, pdu_of, in_turn, distance, Settings, Out, answer_ahead_turn, request_turn}
use Rattle.safe_machine.proofs.Words.{goes_on, mark_answered, units_confirmed, View}
use Rattle.safe_machine.proofs.code.Properties.{out-then, replies-settings}
use Rattle.safe_machine.proofs.endpoint.MachineState.answer_early.Goals as goal

pub returns-then-misses-clause-made : goal.returns-then-misses-clause-made
returns-then-misses-clause-made g c =
    let makes = g.O.PduOut.makes in
    let now = c.args.now in
    let p = pdu_of c.args.pdu.now in
    let v : View = c.args.self.now in
    let rule = v.settings.rule in
    let t = answer_ahead_turn p now v in
    let ahead = c.answer_ahead.new in
    let turn : in_turn v.connection ≡ true = ap (λ (v : View). in_turn v.connection) (sym c.self.view_is)
    ∙ (sym c.in_turn-misses.ensures ∙ c.if-misses.true) in
    let asked = subst (λ (w : View). Out makes w.settings.rule ahead.out (request_turn now w) c.ask.new.out)
    c.answer_ahead.ensures.left c.ask.ensures.made in
    let own = replies-settings now (mark_answered (distance v p) (units_confirmed p v)) in
    let both =
    out-then makes rule t (request_turn now) c.args.out.now ahead.out c.ask.new.out c.answer_ahead.ensures.made
    (subst (λ (x : Settings). Out makes x.rule ahead.out (request_turn now t.left) c.ask.new.out) own asked) in
    subst (λ (b : Bool). Out makes rule c.args.out.now (if b then goes_on t (request_turn now) else t) c.ask.new.out)
    (sym turn) both
