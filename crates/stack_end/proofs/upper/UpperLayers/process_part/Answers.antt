use Rattle.stack_end.proofs.Words.{dialogue_of, fields_of, FoldsTo-keeps, octets_units, judge_part, machine_octets_turn, machine_turn, refl, rules, session_turn, talk}
use Rattle.stack_end.specs.Turns.{with_units}
use Rattle.stack_end.proofs.CallParts.{judges-units, machine-went, session-went, went-alone, went-then}
use Rattle.stack_end.proofs.upper.UpperLayers.process_part.Goals as goal

pub shape_of-self : goal.shape_of-self
shape_of-self g c = FoldsTo-keeps (λ s. s.made.ghost_name) _ (λ s x t h. h.2) _ _ _ c.arrive-step.ensures.made

pub shape_of-self-2 : goal.shape_of-self-2
shape_of-self-2 g c = FoldsTo-keeps (λ s. s.numbers.ghost_name) _ (λ s x t h. h.1) _ _ _ c.arrive-step.ensures.made

pub shape_of-self-3 : goal.shape_of-self-3
shape_of-self-3 g c = FoldsTo-keeps (λ s. s.channels.ghost_name) _ (λ s x t h. h.0) _ _ _ c.arrive-step.ensures.made

pub shape_of-self-4 : goal.shape_of-self-4
shape_of-self-4 g c = FoldsTo-keeps (λ s. s.waiting.ghost_name) _ (λ s x t h. h.1) _ _ _ c.arrive-step.ensures.taken

pub shape_of-self-5 : goal.shape_of-self-5
shape_of-self-5 g c = FoldsTo-keeps (λ s. s.session.ghost_name) _ (λ s x t h. h.0) _ _ _ c.arrive-step.ensures.taken

pub returns-clause-asks : goal.returns-clause-asks
returns-clause-asks g c =
    (judges-units g.T.Taker.takes (λ s. talk s.session.now s.waiting.now s.taker.now) (λ s. s.asked) _ (λ s u t r. r.3)
    _ _ _ c.arrive-step.ensures.taken refl
    (dialogue_of (fields_of c.args.self.now)) record { state = refl; waits = refl }).1

pub returns-clause-does : goal.returns-clause-does
returns-clause-does g c =
    let takes = g.T.Taker.takes in
    let v = fields_of c.args.self.now in
    let t = machine_octets_turn c.args.octets.now c.args.now v.machine in
    let one = machine-went (λ s. g.C.Channels.told s.channels.now) (λ s. s.numbers.now) (λ s. s.count) (λ s. s.made.now)
    _ (λ s pdu t r. (r.3, r.4, r.5, r.6)) t v _ _ _
    c.arrive-step.ensures.left refl refl refl c.arrive-step.ensures.made in
    let judged =
    judges-units takes (λ s. talk s.session.now s.waiting.now s.taker.now) (λ s. s.asked) _ (λ s u t r. r.3) _ _ _
    c.arrive-step.ensures.taken refl
    (dialogue_of v) record { state = refl; waits = refl } in
    let dialogue = (judge_part c.args.now c.args.octets.now v).left in
    let two = session-went takes (dialogue_of v) dialogue
    (record v {
      numbers = c.arrive-step.new.out.numbers.now;
      machine = c.arrive-step.new.self;
      made = c.arrive-step.new.out.made.now;
    }) _ _ _
    refl judged.0 in
    let t0 = with_units (octets_units c.args.octets.now c.args.now v.machine) (machine_turn t v) in
    let went = went-then takes t0 (session_turn dialogue) _ _ _ _ _ _ _ _
    (went-alone takes t0 _ _ _ _ record { left = one.left; sent = one.sent; none = one.none }) two in
    let same = FoldsTo-keeps (λ s. s.taker.ghost_name) _ (λ s x t h. h.2) _ _ _ c.arrive-step.ensures.taken in
    search (rules, went, same)
