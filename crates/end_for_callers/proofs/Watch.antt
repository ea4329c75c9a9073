-- If T_max has passed, a tick or a datagram closes the end, and nothing is taken.
use Rattle.std.proofs.Common.{◌≡◌, ℕ, ◌+◌, ◌-◌, ◌<◌, ◌≤◌, Bool, true, false, Option, Some, None, List, [], ◌++◌, refl, sym, ap, ◌∙◌, subst, arith}
use Rattle.std.proofs.lemmas.Bool.{eqb-true, false≢true, le-leb}
use Rattle.std.specs.Prelude.{◌==◌, nat_le, if◌then◌else◌}
use Rattle.std.specs.Option.{option_map_or}
use Rattle.octets.proofs.Choices.{by_cond}
use Rattle.pdi_session.specs.SessionStep.{Item}
use Rattle.red_layer.specs.Redundancy.{Datagram, Input, Tick as RedTick}
use Rattle.safe_pdu.specs.declared.reasons.Detail.TheVariants.{Unspecified}
use Rattle.safe_pdu.specs.declared.reasons.Reason.TheVariants.{Timeout}
use Rattle.safe_machine.specs.Connections.{is_closed, is_live}
use Rattle.safe_machine.specs.Turns.{Turn as MachineTurn, goes_on, guard_turn as machine_guard_turn, heartbeat_turn, leave_turn as machine_leave_turn, tick_turn as machine_tick_turn}
use Rattle.safe_machine.specs.View.{View}
use Rattle.safe_machine.specs.declared.ConnectionState.{ConnectionState}
use Rattle.safe_machine.specs.declared.ConnectionState.TheVariants.{Closed, Down, RetrReq, RetrRun, Start, Up}
use Rattle.stack_end.specs.Departures.{own_departure}
use Rattle.stack_end.specs.declared.departure.Departure.{Departure}
use Rattle.safe_machine.specs.Deadlines.{overdue}
use Rattle.stack_end.specs.Ends.Call.{Deliver, Tick}
use Rattle.stack_end.specs.EndValue.{inside}
use Rattle.stack_end.specs.Turns.{Fields, Inside, Turn, departure_turn, end_session_turn, input_and_send_turn, input_turn, is_over, machine_turn, send_turn, still, turn, turn_then, upper_turn}
use Rattle.stack_end.specs.Deadlines.{earliest}
use Rattle.end_for_callers.specs.Calls.{IsDeadline, IsNextTickBy, StationValue, is_expired, reopening_time}
use Rattle.end_for_callers.specs.Watch.{ClosesTaking, WatchLaw}

-- a margin of 0 is T_max after the last confirmation
passed-by : (live : Bool) (confirmed t_max now : ℕ) → 0 < t_max
    → option_map_or (λ (m : ℕ). m == 0) (if live then Some (t_max - (if live then now - confirmed else 0)) else None) false
    ≡ true
    → (live ≡ true) × (nat_le (confirmed + t_max) now ≡ true)
passed-by true confirmed t_max now some h =
    let none : t_max - (now - confirmed) ≡ 0 = eqb-true (t_max - (now - confirmed)) 0 h in
    (refl, le-leb (confirmed + t_max) now (omega (arith, none, some)))
passed-by false confirmed t_max now some h = absurd (false≢true h)

live-open : (c : ConnectionState) → is_live c ≡ true → is_closed c ≡ false
live-open Closed live = absurd (false≢true live)
live-open Down live = refl
live-open Start live = refl
live-open Up live = refl
live-open RetrReq live = refl
live-open RetrRun live = refl

-- the machine's timeout check disconnects
guards : (now : ℕ) (m : View) → is_live m.connection ≡ true
    → nat_le (m.confirmed_at + m.settings.t_max) now ≡ true
    → machine_guard_turn now m ≡ machine_leave_turn Timeout Unspecified now m
guards now m live late = rw (live, late) refl

-- the session of a closed machine ends, and nothing is taken
session-ends : (f : Fields) → is_closed f.machine.connection ≡ true
    → (is_closed (end_session_turn f).left.machine.connection ≡ true) × ((end_session_turn f).taken ≡ [])
session-ends f shut =
    by_cond (λ (t : Turn Fields). (is_closed t.left.machine.connection ≡ true) × (t.taken ≡ []))
    (is_closed f.machine.connection) _ _ (λ _. (shut, refl)) (λ _. (shut, refl))

-- a closed end does nothing more
stays-over : (now : ℕ) (i : Input) (v : Inside) → is_over v ≡ true → ClosesTaking (input_and_send_turn now i v)
stays-over now i v over =
    by_cond (λ (t : Turn Inside). ClosesTaking t) (is_over v) (still v)
    (turn_then (input_turn now i v) (upper_turn (send_turn now))) (λ _. (over, refl))
    (λ no. absurd (false≢true (sym no ∙ over)))

nil-both : (a b : List Item) → a ≡ [] → b ≡ [] → (a ++ []) ++ b ≡ []
nil-both a b e f = rw (e, f) refl

-- a machine that a turn closes closes the end, and nothing is taken
closes-with : (t : MachineTurn) (cause : Option Departure) (now : ℕ) (i : Input) (v : Inside)
    → is_closed t.left.connection ≡ true
    → ClosesTaking (turn_then (upper_turn (λ f. turn_then (turn_then (machine_turn t f) end_session_turn)
    (departure_turn cause)) v) (input_and_send_turn now i))
closes-with t cause now i v shut =
    let ends = session-ends (machine_turn t v.upper).left shut in
    let after = (upper_turn (λ f. turn_then (turn_then (machine_turn t f) end_session_turn) (departure_turn cause)) v).left
    in
    let over : is_over after ≡ true = ends.0 in
    let rest = stays-over now i after over in (
      rest.0,
      nil-both (end_session_turn (machine_turn t v.upper).left).taken (input_and_send_turn now i after).taken ends.1 rest.1,
    )

-- an open end takes what follows the test
opened-takes : (v : Inside) (u : Turn Inside) → is_closed v.upper.machine.connection ≡ false → ClosesTaking u
    → ClosesTaking (if is_over v then still v else u)
opened-takes v u opened k =
    by_cond (λ (t : Turn Inside). ClosesTaking t) (is_over v) (still v) u
    (λ over. absurd (false≢true (sym opened ∙ over))) (λ _. k)

pub watch_law_holds : WatchLaw
watch_law_holds channel now octets v some same expired =
    let m = v.upper.machine in
    let passed = passed-by (is_live m.connection) m.confirmed_at v.upper.t_max now (omega (arith, some, same)) expired in
    let late : nat_le (m.confirmed_at + m.settings.t_max) now ≡ true =
    subst (λ n. nat_le (m.confirmed_at + n) now ≡ true) same passed.1 in
    let opened = live-open m.connection passed.0 in
    let guarded = guards now m passed.0 late in
    let shut : is_closed (machine_guard_turn now m).left.connection ≡ true =
    ap (λ (t : MachineTurn). is_closed t.left.connection) guarded in
    let ticked : is_closed (machine_tick_turn now m).left.connection ≡ true =
    ap (λ (t : MachineTurn). is_closed (goes_on t (heartbeat_turn now)).left.connection) guarded in
    let cause = own_departure (overdue now m) now in (
      opened-takes v (turn_then (upper_turn (λ f. turn_then (turn_then (machine_turn (machine_tick_turn now m) f)
          end_session_turn) (departure_turn cause)) v) (input_and_send_turn now (RedTick now))) opened
          (closes-with (machine_tick_turn now m) cause now (RedTick now) v ticked),
      opened-takes v (turn_then (upper_turn (λ f. turn_then (turn_then (machine_turn (machine_guard_turn now m) f)
          end_session_turn) (departure_turn cause)) v) (input_and_send_turn now (Datagram octets now))) opened
          (closes-with (machine_guard_turn now m) cause now (Datagram octets now) v shut),
    )

-- with room, and no telegram lost, the next tick is at the deadline of the end, or when it is due to be opened again
pub next-open : (lost blocked : Bool) (deadline next : Option ℕ) (s : StationValue) → lost ≡ false → blocked ≡ false
    → IsDeadline deadline (inside s.end) → next ≡ earliest deadline (reopening_time s) → IsNextTickBy lost blocked next s
next-open false false deadline next s e f h same = (deadline, h, same)
next-open false true deadline next s e f h same = absurd (false≢true (sym f))
next-open true blocked deadline next s e f h same = absurd (false≢true (sym e))
