use Rattle.stack_end.proofs.Words.{fields_of, FoldsTo-keeps, opening_turn, refl}
use Rattle.stack_end.proofs.CallParts.{machine-went}
use Rattle.stack_end.proofs.upper.UpperLayers.open_machine.Goals as goal

pub shape_of-self : goal.shape_of-self
shape_of-self g c = FoldsTo-keeps (λ s. s.made.ghost_name) _ (λ s x t h. h.2) _ _ _ c.reopen.ensures.made

pub shape_of-self-2 : goal.shape_of-self-2
shape_of-self-2 g c = FoldsTo-keeps (λ s. s.numbers.ghost_name) _ (λ s x t h. h.1) _ _ _ c.reopen.ensures.made

pub shape_of-self-3 : goal.shape_of-self-3
shape_of-self-3 g c = FoldsTo-keeps (λ s. s.channels.ghost_name) _ (λ s x t h. h.0) _ _ _ c.reopen.ensures.made

pub returns-clause-does : goal.returns-clause-does
returns-clause-does g c =
    let v = fields_of c.args.self.now in
    let t = opening_turn v.machine.settings c.args.first_sn c.args.now in
    machine-went (λ s. g.C.Channels.told s.channels.now) (λ s. s.numbers.now) (λ s. s.count) (λ s. s.made.now) _
    (λ s pdu t r. (r.3, r.4, r.5, r.6)) t v _ _ _
    c.reopen.ensures.left refl refl refl c.reopen.ensures.made
