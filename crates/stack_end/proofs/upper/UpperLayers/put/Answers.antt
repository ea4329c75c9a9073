use Rattle.stack_end.proofs.Words.{dialogue_of, fields_of, length, process_event, Puts, refl, send_turn, session_turn}
use Rattle.stack_end.proofs.CallParts.{alone-then, put-went}
use Rattle.stack_end.specs.Turns.{count_accepted}
use Rattle.stack_end.proofs.upper.UpperLayers.put.Goals as goal

pub returns-in-Ok-clause-does : goal.returns-in-Ok-clause-does
returns-in-Ok-clause-does g c =
    let v = fields_of c.args.self.now in
    let d = process_event (Puts c.args.kind c.args.payload.now (length v.waiting)) (dialogue_of v) in
    alone-then (session_turn d (count_accepted d v)) (send_turn c.args.now) _ _ _ _ _
    (put-went c.args.kind c.args.payload.now v _ _ _ _ c.in-Ok.ensures.answer refl c.put.ensures.added
    c.saturating_add-self.ensures)
    c.send_waiting.ensures.does
