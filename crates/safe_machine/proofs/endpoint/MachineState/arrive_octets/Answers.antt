use Rattle.safe_machine.proofs.Words.{◌≡◌, subst, ap, ◌∙◌, arith, FoldsTo, Pdu, pdu_of, safe_seen, Guards, Hears, HandsIf, IsRecent, OnlyConfirms, arrival_turn}
use Rattle.safe_machine.proofs.Words.{handed_units, View}
use Rattle.safe_machine.proofs.code.Reach.{reached-near, reached-still, reached-sound, reached-turn, reached-stops, reached-keeps}
use Rattle.safe_machine.proofs.code.Properties.{hands-recent, reached-passes, one-read}
use Rattle.safe_machine.proofs.endpoint.MachineState.arrive_octets.Goals as goal

pub arrive-requires-clause-sound : goal.arrive-requires-clause-sound
arrive-requires-clause-sound g c = reached-sound c.args.self.now c.requires.reached

pub arrive_fault-requires : goal.arrive_fault-requires
arrive_fault-requires g c = record { few = omega (arith, (reached-sound c.args.self.now c.requires.reached).few) }

pub returns-in-Ok-clause-reached : goal.returns-in-Ok-clause-reached
returns-in-Ok-clause-reached g c =
    reached-turn (Hears (pdu_of c.in-Ok.pdu) c.args.now) c.args.self.now c.arrive.new.self c.requires.reached
    (c.in-Ok.ensures.found.numbers, c.in-Ok.ensures.found.body)
    c.arrive.ensures.left

pub returns-in-Err-clause-reached : goal.returns-in-Err-clause-reached
returns-in-Err-clause-reached g c = reached-turn (Guards c.args.now) c.args.self.now c.arrive_fault.new.self
    c.requires.reached tt c.arrive_fault.ensures.left

pub returns-in-Ok-clause-left : goal.returns-in-Ok-clause-left
returns-in-Ok-clause-left g c = grind arith

pub returns-in-Err-clause-left : goal.returns-in-Err-clause-left
returns-in-Err-clause-left g c = grind arith

pub returns-in-Ok-clause-made : goal.returns-in-Ok-clause-made
returns-in-Ok-clause-made g c = grind arith

pub returns-in-Err-clause-made : goal.returns-in-Err-clause-made
returns-in-Err-clause-made g c = grind arith

pub returns-in-Ok-clause-taken : goal.returns-in-Ok-clause-taken
returns-in-Ok-clause-taken g c = grind arith

pub returns-in-Err-clause-taken : goal.returns-in-Err-clause-taken
returns-in-Err-clause-taken g c = grind arith

pub returns-in-Ok-clause-near : goal.returns-in-Ok-clause-near
returns-in-Ok-clause-near g c = reached-near (pdu_of c.in-Ok.pdu) c.args.now c.args.self.now c.arrive.new.self
    c.requires.reached c.arrive.ensures.left

pub returns-in-Err-clause-near : goal.returns-in-Err-clause-near
returns-in-Err-clause-near g c =
    omega (
      arith,
      reached-still c.args.now c.args.self.now c.arrive_fault.new.self c.requires.reached
          c.arrive_fault.ensures.left,
    )

pub returns-in-Ok-clause-recent : goal.returns-in-Ok-clause-recent
returns-in-Ok-clause-recent g c =
    let seen = c.in-Ok.ensures.exact ∙ ap (λ (v : View). safe_seen v.settings.rule c.args.octets.now) c.self.view_is in
    subst (λ r. HandsIf g.U.UnitIn.takes c.args.units.now c.arrive.new.units (IsRecent r c.args.now c.args.self.now))
    seen
    (hands-recent g.U.UnitIn.takes c.args.units.now c.arrive.new.units (pdu_of c.in-Ok.pdu) c.args.now c.args.self.now
    c.arrive.ensures.taken)

pub returns-in-Ok-clause-passes : goal.returns-in-Ok-clause-passes
returns-in-Ok-clause-passes g c q next =
    let v : View = c.args.self.now in
    let p = pdu_of c.in-Ok.pdu in
    let seen = c.in-Ok.ensures.exact ∙ ap (λ (v : View). safe_seen v.settings.rule c.args.octets.now) c.self.view_is in
    let same : p ≡ q = one-read (safe_seen v.settings.rule c.args.octets.now) p q seen next.reads in
    let up = reached-passes (safe_seen v.settings.rule c.args.octets.now) q c.args.now v c.requires.reached next in
    let taken = subst (λ (x : Pdu). FoldsTo g.U.UnitIn.takes c.args.units.now (handed_units x c.args.now v)
    c.arrive.new.units) same c.arrive.ensures.taken in
    let left = subst (λ (x : Pdu). c.arrive.new.self ≡ (arrival_turn x c.args.now v).left) same c.arrive.ensures.left in (
      subst (λ us. FoldsTo g.U.UnitIn.takes c.args.units.now us c.arrive.new.units) up.0 taken,
      ap (λ (w : View). w.connection) left ∙ up.1,
    )

pub returns-in-Err-clause-passes : goal.returns-in-Err-clause-passes
returns-in-Err-clause-passes g c q next = grind arith

pub returns-in-Ok-clause-confirms : goal.returns-in-Ok-clause-confirms
returns-in-Ok-clause-confirms g c =
    let seen = c.in-Ok.ensures.exact ∙ ap (λ (v : View). safe_seen v.settings.rule c.args.octets.now) c.self.view_is in
    subst (λ r. OnlyConfirms r c.args.self.now c.arrive.new.self) seen
    (reached-stops (pdu_of c.in-Ok.pdu) c.args.now c.args.self.now c.arrive.new.self c.requires.reached
    c.arrive.ensures.left)

pub returns-in-Err-clause-confirms : goal.returns-in-Err-clause-confirms
returns-in-Err-clause-confirms g c =
    let seen = c.in-Err.ensures.exact ∙ ap (λ (v : View). safe_seen v.settings.rule c.args.octets.now) c.self.view_is in
    subst (λ r. OnlyConfirms r c.args.self.now c.arrive_fault.new.self) seen
    (reached-keeps c.args.now c.args.self.now c.arrive_fault.new.self c.requires.reached c.arrive_fault.ensures.left)
