use Rattle.stack_end.proofs.Words.{dialogue_of, fields_of, length, process_event, refl, send_turn, session_turn}
use Rattle.pdi_session.specs.SessionStep.{InitDone}
use Rattle.stack_end.proofs.CallParts.{alone-then, alone-told, event-went}
use Rattle.stack_end.proofs.upper.UpperLayers.init_done.Goals as goal

pub returns-in-Ok-clause-does : goal.returns-in-Ok-clause-does
returns-in-Ok-clause-does g c =
    let v = fields_of c.args.self.now in
    let event = InitDone (length v.waiting) in
    let t = session_turn (process_event event (dialogue_of v)) v in
    alone-then t (send_turn c.args.now) _ _ _ _ _
    (alone-told t _ _ _ _ c.report_change.ensures
    (event-went event v _ _ _ c.init_done.ensures.left c.init_done.ensures.added refl))
    c.send_waiting.ensures.does
