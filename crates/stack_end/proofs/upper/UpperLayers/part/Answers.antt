use Rattle.stack_end.proofs.Words.{ap, ConnectionState, fields_of, turn_then, up_turn, judge_turn, leave_turn, Leaving, note_request_turn, Option, part_turn, end_session_turn, ◌∙◌}
use Rattle.safe_machine.specs.Properties.{index_step}
use Rattle.stack_end.proofs.CallParts.{keeps-then, went-alone, went-as, went-then, went-told}
use Rattle.stack_end.proofs.Words.{Fields, is_closed, judge_part, machine_octets_turn, not, ℕ, ◌&&◌, ◌≡◌}
use Rattle.safe_machine.specs.Octets.{decoded_answer}
use Rattle.safe_pdu.specs.Places.{safe_seen}
use Rattle.stack_end.specs.Departures.{part_departure}
use Rattle.safe_machine.specs.declared.Step.{Step as Outcome}
use Rattle.stack_end.specs.Turns.{closing_departure, count_turn, departure_turn}
use Rattle.stack_end.specs.declared.departure.Departure.{Departure}
use Rattle.stack_end.proofs.upper.UpperLayers.part.Goals as goal

pub returns-clause-does : goal.returns-clause-does
returns-clause-does g c =
    let takes = g.T.Taker.takes in
    let now = c.args.now in
    let octets = c.args.octets.now in
    let v = fields_of c.args.self.now in
    let before = c.state-before.result in
    let why = c.process_and_report-step.result.1 in
    let t0 = judge_turn now octets v in
    let t1 = turn_then t0 (note_request_turn before octets) in
    let t2 = turn_then t1 (up_turn before) in
    let t3 = turn_then t2 (leave_turn now why) in
    let h1 = went-then takes t0 (note_request_turn before octets) _ _ _ _ _ _ _ _ c.process_and_report-step.ensures.does
    (went-alone takes _ _ _ _ _ c.note_request.ensures.does) in
    let h2 = went-then takes t1 (up_turn before) _ _ _ _ _ _ _ _ h1 (went-alone takes _ _ _ _ _ c.rise.ensures.does) in
    let h3 = went-then takes t2 (leave_turn now why) _ _ _ _ _ _ _ _ h2
    (went-alone takes _ _ _ _ _ c.leave.ensures.does) in
    let h4 = went-then takes t3 end_session_turn _ _ _ _ _ _ _ _ h3 (went-alone takes _ _ _ _ _ c.settle.ensures.does)
    in
    let h5 = went-then takes (turn_then t3 end_session_turn) (departure_turn c.part_departure.result) _ _ _ _ _ _ _ _ h4
    (went-alone takes _ _ _ _ _ c.depart.ensures.does) in
    let t5 = turn_then (turn_then t3 end_session_turn) (departure_turn c.part_departure.result) in
    let step = c.process_and_report-step.result.0 in
    let long = c.waiting_time-waited.result in
    let h6 = went-then takes t5 (count_turn step long now) _ _ _ _ _ _ _ _ h5
    (went-alone takes _ _ _ _ _ c.count.ensures.does) in
    let told = went-told takes (turn_then t5 (count_turn step long now)) _ _ _ _ _ _ c.report_change.ensures h6 in
    let heard = c.process_and_report-step.ensures in
    let answer = decoded_answer (safe_seen v.machine.settings.rule octets) now v.machine in
    let asked = (judge_part now octets v).leaving in
    let shut : c.closes-shut.result ≡ (not (is_closed v.machine.connection)
    && is_closed (machine_octets_turn octets now v.machine).left.connection) =
    c.closes-shut.ensures ∙ ap (λ q. not (is_closed q) && is_closed c.state-after.result) c.state-before.ensures.state
    ∙ ap (λ q. not (is_closed v.machine.connection) && is_closed q)
    (c.state-after.ensures.state ∙ ap (λ (w : Fields). w.machine.connection) heard.does.left) in
    let cause : c.part_departure.result ≡ closing_departure now octets v =
    c.part_departure.ensures ∙ ap (λ s. part_departure s c.process_and_report-step.result.1 c.closes-shut.result octets now)
    heard.answer
    ∙ ap (λ a. part_departure answer a c.closes-shut.result octets now) heard.asks
    ∙ ap (λ b. part_departure answer asked b octets now) shut in
    let by_state = λ (q : ConnectionState) (r : Option Leaving) (d : Option Departure) (s : Outcome) (n : ℕ).
    turn_then (turn_then (turn_then (turn_then
    (turn_then (turn_then t0 (note_request_turn q octets)) (up_turn q)) (leave_turn now r)) end_session_turn)
    (departure_turn d)) (count_turn s n now) in
    let is = ap (λ q. by_state q why c.part_departure.result step long) c.state-before.ensures.state
    ∙ ap (λ r. by_state v.machine.connection r c.part_departure.result step long) c.process_and_report-step.ensures.asks
    ∙ ap (λ d. by_state v.machine.connection asked d step long) cause
    ∙ ap (λ s. by_state v.machine.connection asked (closing_departure now octets v) s long) heard.answer
    ∙ ap (by_state v.machine.connection asked (closing_departure now octets v) answer) c.waiting_time-waited.ensures in
    went-as takes (turn_then t5 (count_turn step long now)) (part_turn now octets v) _ _ _ _ _ is told

pub returns-clause-keeps : goal.returns-clause-keeps
returns-clause-keeps g c =
    let noted = keeps-then index_step 0 _ _ _ c.process_and_report-step.ensures.keeps c.note_request.ensures.keeps in
    let risen = keeps-then index_step 0 _ _ _ noted c.rise.ensures.keeps in
    let left = keeps-then index_step 0 _ _ _ risen c.leave.ensures.keeps in
    let all = keeps-then index_step 0 _ _ _ left c.settle.ensures.keeps in
    let last = keeps-then index_step 0 _ _ _ all c.depart.ensures.keeps in
    let counted = keeps-then index_step 0 _ _ _ last c.count.ensures.keeps in
    record { same = counted.same; near = counted.near; few = counted.few }
