use Rattle.stack_end.proofs.Words.{ap, fields_of, FoldsTo-keeps, leave_turn, Leaving, machine_turn, Option, refl, sym}
use Rattle.safe_machine.specs.Turns.{leave_turn as machine_leave_turn}
use Rattle.stack_end.proofs.CallParts.{alone-as, machine-went}
use Rattle.stack_end.proofs.upper.UpperLayers.leave.Goals as goal

pub shape_of-self-in-Some : goal.shape_of-self-in-Some
shape_of-self-in-Some g c = FoldsTo-keeps (λ s. s.made.ghost_name) _ (λ s x t h. h.2) _ _ _ c.close.ensures.made

pub shape_of-self-in-Some-2 : goal.shape_of-self-in-Some-2
shape_of-self-in-Some-2 g c = FoldsTo-keeps (λ s. s.numbers.ghost_name) _ (λ s x t h. h.1) _ _ _ c.close.ensures.made

pub shape_of-self-in-Some-3 : goal.shape_of-self-in-Some-3
shape_of-self-in-Some-3 g c = FoldsTo-keeps (λ s. s.channels.ghost_name) _ (λ s x t h. h.0) _ _ _ c.close.ensures.made

pub returns-in-Some-clause-does : goal.returns-in-Some-clause-does
returns-in-Some-clause-does g c =
    let v = fields_of c.args.self.now in
    let t = machine_leave_turn c.in-Some.reason c.in-Some.detail c.args.now v.machine in
    let one = machine-went (λ s. g.C.Channels.told s.channels.now) (λ s. s.numbers.now) (λ s. s.count) (λ s. s.made.now)
    _ (λ s pdu t r. (r.3, r.4, r.5, r.6)) t v _ _ _
    c.close.ensures.left refl refl refl c.close.ensures.made in
    alone-as (machine_turn t v) (leave_turn c.args.now c.args.asked v) _ _ _
    (ap (λ (q : Option Leaving). leave_turn c.args.now q v) (sym c.in-Some.is)) one
