-- The most datagrams of one call on each channel.
use Rattle.std.proofs.Common.{◌≡◌, ℕ, zero, suc, ◌+◌, ◌-◌, ◌*◌, ◌<◌, ◌≤◌, Bool, true, false, Option, Some, None, List, [], ◌∷◌, ◌++◌, length, refl, sym, ap}
use Rattle.std.proofs.Common.{◌∙◌, subst, arith, length-append, not, take}
use Rattle.std.proofs.lemmas.Bool.{and_parts, ltb-true}
use Rattle.std.proofs.lemmas.Bool.Decides.{nat_tests}
use Rattle.std.proofs.lemmas.List.Sums.{sum_by-append, count_by-le-length, length-filter}
use Rattle.std.specs.Prelude.{◌==◌, if◌then◌else◌, nat_lt, Result, Ok, Err}
use Rattle.octets.proofs.Choices.{by_cond, by_test}
use Rattle.octets.specs.declared.limits.TheConstants.{REACH}
use Rattle.safe_pdu.specs.Bodies.{IsBody, window_of}
use Rattle.safe_pdu.specs.Pdu.{Pdu}
use Rattle.safe_pdu.specs.Places.{safe_seen}
use Rattle.safe_pdu.specs.declared.CodeRule.{CodeRule}
use Rattle.safe_pdu.specs.declared.Kind.{Kind}
use Rattle.safe_pdu.specs.declared.Kind.TheVariants.{ConnReq, ConnResp, Heartbeat, RetrData, RetrResp}
use Rattle.safe_pdu.specs.declared.SafeFault.{SafeFault}
use Rattle.safe_pdu.specs.declared.reasons.Detail.{Detail}
use Rattle.safe_pdu.specs.declared.reasons.Detail.TheVariants.{Unspecified}
use Rattle.safe_pdu.specs.declared.reasons.Reason.{Reason}
use Rattle.safe_pdu.specs.declared.reasons.Reason.TheVariants.{ClosedByUser}
use Rattle.safe_machine.proofs.one.Lists.{by_guard-cases, octets_of-length}
use Rattle.safe_machine.specs.Connections.{in_turn, is_closed}
use Rattle.safe_machine.specs.Deadlines.{beat_due, overdue}
use Rattle.safe_machine.specs.Decision.{distance}
use Rattle.safe_machine.specs.Made.{Made}
use Rattle.safe_machine.specs.Octets.{move_of, octets_turn as machine_octets_turn, octets_units, decoded_answer}
use Rattle.safe_machine.specs.TurnLaws.{turn as machine_turn_of}
use Rattle.safe_machine.specs.Turns.{Turn as MachineTurn, answer_ahead_turn, answer_early_turn, answer_next_turn, request_turn, heartbeat_turn, goes_on, guard_turn, has_room, leave_turn, move_past}
use Rattle.safe_machine.specs.Turns.{both_confirmed, reply_turn, mark_answered, resend_turn, response_turn, sending_turn, send_turn, send_unit_turn, still, tick_turn, units_confirmed, acceptance_turn}
use Rattle.safe_machine.specs.Turns.{connection_turn, moved_to, rejection_turn, resume, take_next_turn}
use Rattle.safe_machine.specs.View.{View, text_of}
use Rattle.safe_machine.specs.declared.ConnectionState.{ConnectionState}
use Rattle.safe_machine.specs.declared.ConnectionState.TheVariants.{Closed}
use Rattle.safe_machine.specs.declared.Step.{Step as Outcome}
use Rattle.safe_machine.specs.retrans.Units.{Numbered, above, octets_of, renumber_units}
use Rattle.pdi_session.specs.SessionStep.{Closes, InitDone as Completes, Puts}
use Rattle.pdi_session.specs.packing.UnitText.{unit_text}
use Rattle.red_layer.specs.Parts.{Part, is_nil}
use Rattle.red_layer.specs.Redundancy.{Datagram, Input, Receiver, ReceiverStep, Tick as RedTick, after_release, after_run, arrival, decoded, defer, follow}
use Rattle.red_layer.specs.Redundancy.{step_decoded as red_heard, is_due, judge, least_waiting, parts_passed, parts_due, run_from}
use Rattle.red_layer.specs.declared.pdu.RedFault.{RedFault}
use Rattle.red_layer.specs.pdu.RedText.{red_text}
use Rattle.channels.specs.ChannelHistory.{SentDatagram}
use Rattle.stack_end.specs.Bounds.{IsBounded}
use Rattle.stack_end.specs.Datagrams.{on_channels}
use Rattle.stack_end.specs.Departures.{own_departure}
use Rattle.stack_end.specs.Dialogue.{Dialogue, Leaving, process_event}
use Rattle.stack_end.specs.Ends.Call.{Close, Deliver, InitDone, Put, Tick}
use Rattle.stack_end.specs.Turns.{count_accepted as accepts_in, Fields, Inside, Turn, upper_turn as above_red, arrival_turn as end_arrival_turn, can_pack, close_turn, closing_departure}
use Rattle.stack_end.specs.Turns.{init_done_turn, count_turn, datagrams, departure_turn, dialogue_of, turn_then, input_and_send_turn as end_goes_on, up_turn, is_over, judge_part}
use Rattle.stack_end.specs.Turns.{leave_turn as end_leave_turn, machine_turn, next_number, note_request_turn, pack_turn, pack_up_to_turn, part_turn, parts_turn, time_turn, put_turn, input_turn}
use Rattle.stack_end.specs.Turns.{send_turn as end_send_turn, session_turn, end_session_turn, still as end_still, waiting_time, with_units}
use Rattle.stack_end.specs.declared.departure.Departure.{Departure}
use Rattle.end_for_callers.proofs.Effects.{read-body, responds-has}
use Rattle.end_for_callers.specs.Loads.{LoadLaw, sent_on}

-- datagrams of lists of PDUs
pub on-append : (k : ℕ) (xs ys : List SentDatagram) → sent_on k (xs ++ ys) ≡ sent_on k xs + sent_on k ys
on-append k xs ys = sum_by-append (λ (x : SentDatagram). if x.0 == k then 1 else 0) xs ys

one-if : (b : Bool) → (if b then 1 else 0) ≤ 1
one-if b = grind (arith, nat_tests)

none-if : (n k : ℕ) → n < k → ◌≡◌ {A = ℕ} (if n == k then 1 else 0) 0
none-if n k h = grind (arith, nat_tests)

none-behind : (k n : ℕ) (octets : List ℕ) → n < k → sent_on k (on_channels n octets) ≡ 0
none-behind k zero octets h = refl
none-behind k (suc n) octets h =
    omega (
      arith,
      on-append k (on_channels n octets) ((suc n, octets) ∷ []),
      none-behind k n octets (omega (arith, h)),
      none-if (suc n) k h,
    )

one-last : (k n : ℕ) (octets : List ℕ) (b : Bool) → (suc n == k) ≡ b → sent_on k (on_channels n octets) ≤ 1
    → sent_on k (on_channels (suc n) octets) ≤ 1
one-last k n octets true e h =
    let is : suc n ≡ k = grind (arith, nat_tests) in
    omega (
      arith,
      on-append k (on_channels n octets) ((suc n, octets) ∷ []),
      none-behind k n octets (omega (arith, is)),
      one-if (suc n == k),
    )
one-last k n octets false e h =
    let none : (if suc n == k then 1 else 0) ≤ 0 = subst (λ (b : Bool). (if b then 1 else 0) ≤ 0) (sym e) (omega arith)
    in
    omega (arith, on-append k (on_channels n octets) ((suc n, octets) ∷ []), none)

one-each : (k n : ℕ) (octets : List ℕ) → sent_on k (on_channels n octets) ≤ 1
one-each k zero octets = omega arith
one-each k (suc n) octets = one-last k n octets (suc n == k) refl (one-each k n octets)

pub datagrams-on : (k : ℕ) (rule : CodeRule) (channels number : ℕ) (ms : List Made)
    → sent_on k (datagrams rule channels number ms) ≤ length ms
datagrams-on k rule channels number [] = omega arith
datagrams-on k rule channels number (m ∷ ms) =
    let octets = red_text number (text_of rule m) in
    let rest = datagrams rule channels (next_number number) ms in
    omega (
      arith,
      on-append k (on_channels channels octets) rest,
      one-each k channels octets,
      datagrams-on k rule channels (next_number number) ms,
    )

-- The machine.

-- a machine within its bounds
pub record Held (v : View) : Type 0 where
  pub ring : length v.ring ≤ 32
  pub window : v.window ≤ 32

-- a turn makes at most this many PDUs besides a retransmission of the units that are unconfirmed after it
pub record Few (most : ℕ) (t : MachineTurn) : Type 0 where
  pub made : length t.made ≤ length t.left.ring + most
  pub held : Held t.left

-- a turn makes at most one PDU, and changes no unit and not the window
pub record Single (v : View) (t : MachineTurn) : Type 0 where
  pub made : length t.made ≤ 1
  pub ring : t.left.ring ≡ v.ring
  pub window : t.left.window ≡ v.window

pub leaves-single : (reason : Reason) (detail : Detail) (now : ℕ) (v : View) → Single v (leave_turn reason detail now v)
leaves-single reason detail now v = grind arith

pub guards-single : (now : ℕ) (v : View) → Single v (guard_turn now v)
guards-single now v =
    by_guard-cases (Single v) now v (λ reason detail. leave_turn reason detail now v) (still v)
    (λ reason detail. leaves-single reason detail now v)
    (λ _. record { made = omega arith; ring = refl; window = refl })

held-as : (v w : View) → w.ring ≡ v.ring → w.window ≡ v.window → Held v → Held w
held-as v w ring window h = record {
  ring = omega (arith, ap (λ (us : List Numbered). length us) ring, h.ring);
  window = omega (arith, window, h.window);
}

above-fewer : (number : ℕ) (us : List Numbered) → length (above number us) ≤ length us
above-fewer number us =
    let p : Numbered → Bool = λ u. nat_lt number u.number in
    omega (arith, length-filter p us, count_by-le-length p us)

-- units sent again
resends-made : (units : List (List ℕ)) (now : ℕ) (v : View) → length (resend_turn units now v).made ≡ length units
resends-made [] now v = refl
resends-made (unit ∷ units) now v = ap suc (resends-made units now (sending_turn RetrData unit now v).left)

resends-kept : (units : List (List ℕ)) (now : ℕ) (v : View) → ((resend_turn units now v).left.ring ≡ v.ring)
    × ((resend_turn units now v).left.window ≡ v.window)
resends-kept [] now v = (refl, refl)
resends-kept (unit ∷ units) now v = resends-kept units now (sending_turn RetrData unit now v).left

renumbered-length : (first : ℕ) (us : List (List ℕ)) → length (renumber_units first us) ≡ length us
renumbered-length first [] = refl
renumbered-length first (u ∷ us) = ap suc (renumbered-length (first + 1) us)

pub replies-few : (now : ℕ) (v : View) → Held v → Few 2 (reply_turn now v)
replies-few now v h =
    let w = (sending_turn RetrResp [] now v).left in
    let units = octets_of v.ring in
    let again = resend_turn units now w in
    let kept = resends-kept units now w in
    let ring : length (reply_turn now v).left.ring ≡ length v.ring =
    renumbered-length w.made (octets_of again.left.ring)
    ∙ (octets_of-length again.left.ring ∙ ap (λ (us : List Numbered). length us) kept.0) in
    let count : length (reply_turn now v).made ≡ length units + 2 =
    omega (arith, length-append again.made ((sending_turn Heartbeat [] now again.left).made), resends-made units now w)
    in
    record {
      made = omega (arith, count, ring, octets_of-length v.ring);
      held = record { ring = omega (arith, ring, h.ring); window = omega (arith, kept.1, h.window) };
    }

held-fewer : (v w : View) → length w.ring ≤ length v.ring → w.window ≤ v.window → Held v → Held w
held-fewer v w ring window h = record { ring = omega (arith, ring, h.ring); window = omega (arith, window, h.window) }

few-more : (a b : ℕ) (t : MachineTurn) → a ≤ b → Few a t → Few b t
few-more a b t le h = record { made = omega (arith, le, h.made); held = h.held }

still-few : (v : View) → Held v → Few 3 (still v)
still-few v h = record { made = omega arith; held = h }

single-few : (v : View) (t : MachineTurn) → Held v → Single v t → Few 3 t
single-few v t h s = record { made = omega (arith, s.made); held = held-as v t.left s.ring s.window h }

leaves-few : (reason : Reason) (detail : Detail) (now : ℕ) (v : View) → Held v → Few 3 (leave_turn reason detail now v)
leaves-few reason detail now v h = single-few v (leave_turn reason detail now v) h (leaves-single reason detail now v)

shuts-few : (v : View) → Held v → Few 3 (moved_to Closed (still v))
shuts-few v h = record { made = omega arith; held = held-as v (moved_to Closed (still v)).left refl refl h }

rejects-few : (p : Pdu) (now : ℕ) (v : View) → Held v → Few 3 (rejection_turn p now v)
rejects-few p now v h = record { made = omega arith; held = held-as v (rejection_turn p now v).left refl refl h }

opening-small : (kind : Kind) (body : List ℕ) → IsBody ConnReq body → window_of body ≤ 32
opening-small kind body b = grind arith

accepts-few : (p : Pdu) (now : ℕ) (v : View) → p.kind ≡ ConnReq → IsBody p.kind p.body → Held v
    → Few 3 (acceptance_turn p now v)
accepts-few p now v kind body h =
    let small : window_of p.body ≤ 32 = opening-small ConnReq p.body (subst (λ k. IsBody k p.body) kind body) in
    record { made = omega arith; held = record { ring = omega arith; window = small } }

connects-few : (p : Pdu) (now : ℕ) (v : View) → p.kind ≡ ConnResp → IsBody p.kind p.body → Held v
    → Few 3 (connection_turn p now v)
connects-few p now v kind body h =
    let small : window_of p.body ≤ 32 = opening-small ConnReq p.body (subst (λ k. IsBody k p.body) kind body) in
    record {
      made = omega arith;
      held =
          record { ring = omega (arith, above-fewer (both_confirmed p v).confirmed v.ring, h.ring); window = small };
    }

takes-few : (connection : ConnectionState) (p : Pdu) (now : ℕ) (v : View) → Held v
    → Few 3 (take_next_turn connection p now v)
takes-few connection p now v h = grind (arith, above-fewer, h.ring, h.window)

asks-few : (now : ℕ) (v : View) → Held v → Few 3 (request_turn now v)
asks-few now v h = record { made = omega arith; held = held-as v (request_turn now v).left refl refl h }

resumes-few : (p : Pdu) (now : ℕ) (v : View) → Held v → Few 3 (still (resume p v))
resumes-few p now v h =
    still-few (resume p v) (held-fewer v (resume p v) (above-fewer (both_confirmed p v).confirmed v.ring) (omega arith)
    h)

next-few : (p : Pdu) (now : ℕ) (v : View) → Held v → Few 3 (answer_next_turn p now v)
next-few p now v h =
    let w = move_past p 0 (mark_answered 0 (both_confirmed p v)) in
    few-more 2 3 (reply_turn now w) (omega arith)
    (replies-few now w (held-fewer v w (above-fewer w.confirmed v.ring) (omega arith) h))

ahead-few : (p : Pdu) (now : ℕ) (v : View) → Held v → Few 2 (answer_ahead_turn p now v)
ahead-few p now v h =
    let w = mark_answered (distance v p) (units_confirmed p v) in
    replies-few now w (held-fewer v w (above-fewer w.confirmed v.ring) (omega arith) h)

asks-behind : (now : ℕ) (t : MachineTurn) → Few 2 t → Few 3 (goes_on t (request_turn now))
asks-behind now t h =
    record {
      made = omega (arith, length-append t.made (request_turn now t.left).made, h.made);
      held = held-as t.left (request_turn now t.left).left refl refl h.held;
    }

early-few : (p : Pdu) (now : ℕ) (v : View) → Held v → Few 3 (answer_early_turn p now v)
early-few p now v h =
    by_cond (Few 3) (in_turn v.connection) (goes_on (answer_ahead_turn p now v) (request_turn now))
    (answer_ahead_turn p now v)
    (λ _. asks-behind now (answer_ahead_turn p now v) (ahead-few p now v h))
    (λ _. few-more 2 3 (answer_ahead_turn p now v) (omega arith) (ahead-few p now v h))

pub responds-few : (p : Pdu) (now : ℕ) (v : View) → IsBody p.kind p.body → Held v → Few 3 (response_turn p now v)
responds-few p now v body h =
    responds-has (Few 3) p now v
    (record {
      stays = still-few v h;
      leaves = λ reason detail. leaves-few reason detail now v h;
      shuts = shuts-few v h;
      rejects = rejects-few p now v h;
      accepts = λ kind. accepts-few p now v kind body h;
      connects = λ kind. connects-few p now v kind body h;
      takes = λ connection. takes-few connection p now v h;
      asks = asks-few now v h;
      resumes = resumes-few p now v h;
      next = next-few p now v h;
      early = early-few p now v h;
    })

guarded-few : (now : ℕ) (v : View) (next : View → MachineTurn) (n : ℕ) → Held v → ((w : View) → Held w → Few n (next w))
    → Few (n + 1) (goes_on (guard_turn now v) next)
guarded-few now v next n h after =
    let t = guard_turn now v in
    let s = guards-single now v in
    let k = after t.left (held-as v t.left s.ring s.window h) in
    record { made = omega (arith, length-append t.made (next t.left).made, s.made, k.made); held = k.held }

heard-few : (rule : CodeRule) (octets : List ℕ) (now : ℕ) (v : View) (read : Result Pdu SafeFault)
    → safe_seen rule octets ≡ read → Held v
    → Few 4 (machine_turn_of (move_of read now) v)
heard-few rule octets now v (Ok p) e h =
    guarded-few now v (response_turn p now) 3 h (λ w k. responds-few p now w (read-body rule octets p e) k)
heard-few rule octets now v (Err fault) e h =
    few-more 3 4 (guard_turn now v) (omega arith) (single-few v (guard_turn now v) h (guards-single now v))

pub hears-few : (octets : List ℕ) (now : ℕ) (v : View) → Held v → Few 4 (machine_octets_turn octets now v)
hears-few octets now v h = heard-few v.settings.rule octets now v (safe_seen v.settings.rule octets) refl h

-- The layers above the redundancy layer.

-- a turn sends at most this many datagrams on this channel besides a retransmission of the units that are unconfirmed
-- after it
record Sparse (k most : ℕ) (t : Turn Fields) : Type 0 where
  sent : sent_on k t.sent ≤ length t.left.machine.ring + most
  held : Held t.left.machine

-- a turn sends nothing, and leaves the machine as it is
record Quiet (v : Fields) (t : Turn Fields) : Type 0 where
  sent : t.sent ≡ []
  machine : t.left.machine ≡ v.machine

quiet-if : (v : Fields) (b : Bool) (t u : Turn Fields) → Quiet v t → Quiet v u → Quiet v (if b then t else u)
quiet-if v true t u h k = h
quiet-if v false t u h k = k

still-quiet : (v : Fields) → Quiet v (end_still v)
still-quiet v = record { sent = refl; machine = refl }

session-quiet : (d : Dialogue) (v : Fields) → Quiet v (session_turn d v)
session-quiet d v = record { sent = refl; machine = refl }

settles-quiet : (v : Fields) → Quiet v (end_session_turn v)
settles-quiet v =
    quiet-if v (is_closed v.machine.connection) (session_turn (process_event Closes (dialogue_of v)) v) (end_still v)
    (session-quiet (process_event Closes (dialogue_of v)) v) (still-quiet v)

quiet-then : (k n : ℕ) (t : Turn Fields) (next : Fields → Turn Fields) → Sparse k n t → Quiet t.left (next t.left)
    → Sparse k n (turn_then t next)
quiet-then k n t next h q =
    record {
      sent =
          omega (
            arith,
            on-append k t.sent (next t.left).sent,
            ap (sent_on k) q.sent,
            ap (λ (m : View). length m.ring) q.machine,
            h.sent,
          );
      held = subst Held (sym q.machine) h.held;
    }

machine-sparse : (k n : ℕ) (t : MachineTurn) (v : Fields) → Few n t → Sparse k n (machine_turn t v)
machine-sparse k n t v h =
    record {
      sent = omega (arith, datagrams-on k v.machine.settings.rule v.count v.numbers t.made, h.made);
      held = h.held;
    }

-- the end disconnects, if it is asked to
leaves-then : (k n now : ℕ) (why : Option Leaving) (t : Turn Fields) → Sparse k n t
    → Sparse k (n + 1) (turn_then t (end_leave_turn now why))
leaves-then k n now None t h =
    record { sent = omega (arith, on-append k t.sent [], h.sent); held = h.held }
leaves-then k n now (Some why) t h =
    let v = t.left in
    let m = leave_turn why.0 why.1 now v.machine in
    let s = leaves-single why.0 why.1 now v.machine in
    record {
      sent = omega (
        arith,
        on-append k t.sent (machine_turn m v).sent,
        datagrams-on k v.machine.settings.rule v.count v.numbers m.made,
        s.made,
        ap (λ (us : List Numbered). length us) s.ring,
        h.sent,
      );
      held = held-as v.machine m.left s.ring s.window h.held;
    }

notes-quiet : (before : ConnectionState) (octets : List ℕ) (v : Fields) → Quiet v (note_request_turn before octets v)
notes-quiet before octets v = record { sent = refl; machine = refl }

goes_up-quiet : (before : ConnectionState) (v : Fields) → Quiet v (up_turn before v)
goes_up-quiet before v = record { sent = refl; machine = refl }

departs-quiet : (cause : Option Departure) (v : Fields) → Quiet v (departure_turn cause v)
departs-quiet cause v = record { sent = refl; machine = refl }

counts-quiet : (answer : Outcome) (waiting_time now : ℕ) (v : Fields) → Quiet v (count_turn answer waiting_time now v)
counts-quiet answer waiting_time now v = record { sent = refl; machine = refl }

-- a part that goes up
part-sparse : (k now : ℕ) (octets : List ℕ) (v : Fields) → Held v.machine → Sparse k 5 (part_turn now octets v)
part-sparse k now octets v h =
    let before = v.machine.connection in
    let judge = judge_part now octets v in
    let answer = decoded_answer (safe_seen v.machine.settings.rule octets) now v.machine in
    let t0 = with_units (octets_units octets now v.machine) (machine_turn (machine_octets_turn octets now v.machine) v)
    in
    let t1 = turn_then t0 (session_turn judge.left) in
    let t2 = turn_then t1 (note_request_turn before octets) in
    let t3 = turn_then t2 (up_turn before) in
    let t4 = turn_then t3 (end_leave_turn now judge.leaving) in
    let t5 = turn_then t4 end_session_turn in
    let t6 = turn_then t5 (departure_turn (closing_departure now octets v)) in
    let g = machine-sparse k 4 (machine_octets_turn octets now v.machine) v (hears-few octets now v.machine h) in
    let h0 : Sparse k 4 t0 = record { sent = g.sent; held = g.held } in
    let h1 = quiet-then k 4 t0 (session_turn judge.left) h0 (session-quiet judge.left t0.left) in
    let h2 = quiet-then k 4 t1 (note_request_turn before octets) h1 (notes-quiet before octets t1.left) in
    let h3 = quiet-then k 4 t2 (up_turn before) h2 (goes_up-quiet before t2.left) in
    let h4 = leaves-then k 4 now judge.leaving t3 h3 in
    let h5 = quiet-then k 5 t4 end_session_turn h4 (settles-quiet t4.left) in
    let h6 = quiet-then k 5 t5 (departure_turn (closing_departure now octets v)) h5
    (departs-quiet (closing_departure now octets v) t5.left) in
    quiet-then k 5 t6 (count_turn answer (waiting_time now v) now) h6
    (counts-quiet answer (waiting_time now v) now t6.left)

-- the parts that go up, with the units that may then be packed
record Laden (k most : ℕ) (t : Turn Fields) : Type 0 where
  sent : sent_on k t.sent + (32 - length t.left.machine.ring) ≤ most
  held : Held t.left.machine

parts-laden : (k now : ℕ) (ps : List Part) (v : Fields) → Held v.machine
    → Laden k (length ps * 37 + (32 - length v.machine.ring)) (parts_turn now ps v)
parts-laden k now [] v h = record { sent = omega arith; held = h }
parts-laden k now (p ∷ ps) v h =
    let t = part_turn now p.1 v in
    let one = part-sparse k now p.1 v h in
    let more = parts-laden k now ps t.left one.held in
    record {
      sent = omega (arith, on-append k t.sent (parts_turn now ps t.left).sent, one.sent, one.held.ring, more.sent);
      held = more.held;
    }

some-laden : (k now : ℕ) (p : Part) (ps : List Part) (v : Fields) → Held v.machine
    → Laden k (length ps * 37 + 37) (parts_turn now (p ∷ ps) v)
some-laden k now p ps v h =
    let t = part_turn now p.1 v in
    let one = part-sparse k now p.1 v h in
    let more = parts-laden k now ps t.left one.held in
    record {
      sent = omega (arith, on-append k t.sent (parts_turn now ps t.left).sent, one.sent, one.held.ring, more.sent);
      held = more.held;
    }

-- Sending the messages that wait.

record SendsOne (v : View) (t : MachineTurn) : Type 0 where
  made : length t.made ≤ 1
  ring : length t.left.ring ≡ length v.ring + 1
  window : t.left.window ≡ v.window

sends-one : (unit : List ℕ) (now : ℕ) (v : View) → SendsOne v (send_unit_turn unit now v)
sends-one unit now v = record { made = omega arith; ring = length-append v.ring _; window = refl }

may-send : (unit : List ℕ) (now : ℕ) (v : View) → has_room v ≡ true → SendsOne v (send_turn unit now v)
may-send unit now v may = subst (λ (b : Bool). SendsOne v (if b then send_unit_turn unit now v else still v)) (sym may)
    (sends-one unit now v)

room-left : (v : View) → has_room v ≡ true → v.window ≤ 32 → length v.ring < 32
room-left v may small =
    let r = ltb-true (length v.ring) v.window (and_parts (in_turn v.connection) (nat_lt (length v.ring) v.window) may).1
    in
    omega (arith, r, small)

packs-few : (k n now : ℕ) (v : Fields) → v.machine.window ≤ 32
    → sent_on k (pack_up_to_turn n now v).sent ≤ 32 - length v.machine.ring
packs-few k zero now v small = omega arith
packs-few k (suc n) now v small =
    by_cond (λ (t : Turn Fields). sent_on k t.sent ≤ 32 - length v.machine.ring) (can_pack v)
    (turn_then (pack_turn now v) (pack_up_to_turn n now)) (end_still v)
    (λ can.
    let may = (and_parts (not (is_nil v.waiting)) (has_room v.machine) can).1 in
    let m = send_turn (unit_text (take v.max v.waiting)) now v.machine in
    let one : SendsOne v.machine m = may-send (unit_text (take v.max v.waiting)) now v.machine may in
    let t = pack_turn now v in
    let first : sent_on k t.sent ≤ 1 = omega (
      arith,
      on-append k (machine_turn m v).sent [],
      datagrams-on k v.machine.settings.rule v.count v.numbers m.made,
      one.made,
    ) in
    let rest : sent_on k (pack_up_to_turn n now t.left).sent ≤ 32 - length m.left.ring = packs-few k n now t.left
    (omega (arith, one.window, small)) in
    omega (
      arith,
      on-append k t.sent (pack_up_to_turn n now t.left).sent,
      first,
      rest,
      one.ring,
      room-left v.machine may small,
    ))
    (λ _. omega arith)

sends-few : (k now : ℕ) (v : Fields) → v.machine.window ≤ 32
    → sent_on k (end_send_turn now v).sent ≤ 32 - length v.machine.ring
sends-few k now v small = packs-few k (length v.waiting) now v small

-- The parts that go up in one call.

run-within : (n : ℕ) (es : List Part) → length (run_from n es) + length (after_run n es) ≤ length es
run-within n [] = omega arith
run-within n (e ∷ es) =
    by_test (λ b. length (if b then e ∷ run_from (n + 1) es else [])
    + length (if b then after_run (n + 1) es else e ∷ es) ≤ length (e ∷ es)) (e.0 == n)
    (λ _. omega (arith, run-within (n + 1) es)) (λ _. omega arith)

released-within : (now : ℕ) (r : Receiver)
    → length (parts_due now r) + length (after_release now r).waiting ≤ length r.waiting
released-within now r =
    let least = least_waiting r.waiting in
    by_test (λ b. length (if b then run_from least r.waiting else [])
    + length (if b then follow now least r else r).waiting ≤ length r.waiting) (is_due now r)
    (λ _. run-within least r.waiting) (λ _. omega arith)

deferred-none : (now : ℕ) (p : Part) (r : Receiver) → (defer now p r).passed ≡ []
deferred-none now p r = grind arith

arrival-few : (now : ℕ) (p : Part) (r : Receiver) → length (arrival now p r).passed ≤ length r.waiting + 1
arrival-few now p r =
    by_cond (λ (s : ReceiverStep). length s.passed ≤ length r.waiting + 1) (nat_lt p.0 r.expected) _ _
    (λ _. omega arith)
    (λ _. by_cond (λ (s : ReceiverStep). length s.passed ≤ length r.waiting + 1) (p.0 == r.expected) _ _
    (λ _. omega (arith, run-within (p.0 + 1) r.waiting))
    (λ _. by_cond (λ (s : ReceiverStep). length s.passed ≤ length r.waiting + 1) (nat_lt (r.expected + REACH * r.q) p.0)
    _ _ (λ _. omega arith)
    (λ _. omega (arith, ap (λ (ps : List Part). length ps) (deferred-none now p r)))))

judged-few : (now : ℕ) (read : Result Part RedFault) (r : Receiver)
    → length (red_heard now read r).passed ≤ length r.waiting + 1
judged-few now (Ok p) r = arrival-few now p r
judged-few now (Err fault) r = omega arith

datagram-parts : (octets : List ℕ) (now : ℕ) (r : Receiver)
    → length (parts_passed (Datagram octets now) r) ≤ length r.waiting + 1
datagram-parts octets now r =
    omega (
      arith,
      length-append (parts_due now r) (judge now octets r).passed,
      released-within now r,
      judged-few now (decoded octets) (after_release now r),
    )

tick-parts : (now : ℕ) (r : Receiver) → length (parts_passed (RedTick now) r) ≤ length r.waiting
tick-parts now r = omega (arith, released-within now r)

-- The calls.

-- a turn sends at most this many datagrams on this channel
record Brief (k most : ℕ) (t : Turn Fields) : Type 0 where
  sent : sent_on k t.sent ≤ most
  held : Held t.left.machine

short-then : (k n : ℕ) (t : Turn Fields) (next : Fields → Turn Fields) → Brief k n t → Quiet t.left (next t.left)
    → Brief k n (turn_then t next)
short-then k n t next h q =
    record {
      sent = omega (arith, on-append k t.sent (next t.left).sent, ap (sent_on k) q.sent, h.sent);
      held = subst Held (sym q.machine) h.held;
    }

-- the machine takes a turn, a closed machine ends the session, and the departure is recorded
abbrev pub settled : MachineTurn → Option Departure → Fields → Turn Fields
settled t cause v = turn_then (turn_then (machine_turn t v) end_session_turn) (departure_turn cause)

settled-short : (k n : ℕ) (t : MachineTurn) (cause : Option Departure) (v : Fields) → length t.made ≤ n → Held t.left
    → Brief k n (settled t cause v)
settled-short k n t cause v few held =
    let t0 = machine_turn t v in
    let t1 = turn_then t0 end_session_turn in
    let h0 : Brief k n t0 = record {
      sent = omega (arith, datagrams-on k v.machine.settings.rule v.count v.numbers t.made, few);
      held = held;
    } in
    let h1 = short-then k n t0 end_session_turn h0 (settles-quiet t0.left) in
    short-then k n t1 (departure_turn cause) h1 (departs-quiet cause t1.left)

settled-machine : (t : MachineTurn) (cause : Option Departure) (v : Fields) → (settled t cause v).left.machine ≡ t.left
settled-machine t cause v = (settles-quiet (machine_turn t v).left).machine

closes-few : (k now : ℕ) (v : Fields) → Held v.machine → sent_on k (close_turn now v).sent ≤ 1
closes-few k now v h =
    let t = leave_turn ClosedByUser Unspecified now v.machine in
    let s = leaves-single ClosedByUser Unspecified now v.machine in
    let cause = own_departure (if is_closed v.machine.connection then None else Some (ClosedByUser, Unspecified)) now in
    (settled-short k 1 t cause v s.made (held-as v.machine t.left s.ring s.window h)).sent

-- the parts of an input, and then what waits
goes-few : (k now n : ℕ) (ps : List Part) (v : Fields) → Held v.machine → length ps ≤ n → 1 ≤ n
    → sent_on k (parts_turn now ps v).sent + sent_on k (end_send_turn now (parts_turn now ps v).left).sent ≤ n * 37
goes-few k now n [] v h few some = omega (arith, sends-few k now v h.window, some)
goes-few k now n (p ∷ ps) v h few some =
    let all = some-laden k now p ps v h in
    let w = (parts_turn now (p ∷ ps) v).left in
    omega (arith, all.sent, sends-few k now w all.held.window, few)

goes_on-few : (k now n : ℕ) (i : Input) (v : Inside) → Held v.upper.machine → length (parts_passed i v.red) ≤ n → 1 ≤ n
    → sent_on k (end_goes_on now i v).sent ≤ n * 37
goes_on-few k now n i v h few some =
    let t = input_turn now i v in
    by_cond (λ (u : Turn Inside). sent_on k u.sent ≤ n * 37) (is_over v) (end_still v)
    (turn_then t (above_red (end_send_turn now))) (λ _. omega arith)
    (λ _. omega (
      arith,
      on-append k t.sent (end_send_turn now t.left.upper).sent,
      goes-few k now n (parts_passed i v.red) v.upper h few some,
    ))

over-still : (now : ℕ) (i : Input) (v : Inside) → is_over v ≡ true → end_goes_on now i v ≡ end_still v
over-still now i v e =
    ap (λ (b : Bool). if b then end_still v else turn_then (input_turn now i v) (above_red (end_send_turn now))) e

-- the timeout check of an arrival: the end closes, and nothing follows, or nothing is sent
abbrev checked : ℕ → List ℕ → Option Departure → Inside → MachineTurn → Turn Inside
checked now octets cause v t = turn_then (above_red (settled t cause) v) (end_goes_on now (Datagram octets now))

checked-closed : (k now : ℕ) (octets : List ℕ) (cause : Option Departure) (v : Inside) (t : MachineTurn)
    → length t.made ≤ 1 → Held t.left
    → is_closed t.left.connection ≡ true → sent_on k (checked now octets cause v t).sent ≤ 333
checked-closed k now octets cause v t few held closed =
    let first = above_red (settled t cause) v in
    let over : is_over first.left ≡ true = ap (λ (m : View). is_closed m.connection) (settled-machine t cause v.upper)
    ∙ closed in
    let none : (end_goes_on now (Datagram octets now) first.left).sent ≡ [] =
    ap (λ (u : Turn Inside). u.sent) (over-still now (Datagram octets now) first.left over) in
    omega (
      arith,
      on-append k first.sent (end_goes_on now (Datagram octets now) first.left).sent,
      ap (sent_on k) none,
      (settled-short k 1 t cause v.upper few held).sent,
    )

checked-open : (k now : ℕ) (octets : List ℕ) (cause : Option Departure) (v : Inside) (t : MachineTurn)
    → length t.made ≤ 0 → Held t.left
    → length v.red.waiting ≤ 8 → sent_on k (checked now octets cause v t).sent ≤ 333
checked-open k now octets cause v t few held defer =
    let first = above_red (settled t cause) v in
    let h = settled-short k 0 t cause v.upper few held in
    let rest = goes_on-few k now 9 (Datagram octets now) first.left h.held
    (omega (arith, datagram-parts octets now v.red, defer)) (omega arith) in
    omega (arith, on-append k first.sent (end_goes_on now (Datagram octets now) first.left).sent, h.sent, rest)

leaves-closed : (reason : Reason) (detail : Detail) (now : ℕ) (v : View)
    → is_closed (leave_turn reason detail now v).left.connection ≡ true
leaves-closed reason detail now v = refl

arrives-few : (k now : ℕ) (octets : List ℕ) (v : Inside) → Held v.upper.machine → length v.red.waiting ≤ 8
    → sent_on k (end_arrival_turn now octets v).sent ≤ 333
arrives-few k now octets v h defer =
    let m = v.upper.machine in
    let cause = own_departure (overdue now m) now in
    by_cond (λ (u : Turn Inside). sent_on k u.sent ≤ 333) (is_over v) (end_still v)
    (checked now octets cause v (guard_turn now m)) (λ _. omega arith)
    (λ _. by_guard-cases (λ (t : MachineTurn). sent_on k (checked now octets cause v t).sent ≤ 333) now m
    (λ reason detail. leave_turn reason detail now m) (still m)
    (λ reason detail.
    let s = leaves-single reason detail now m in
    checked-closed k now octets cause v (leave_turn reason detail now m) s.made
    (held-as m (leave_turn reason detail now m).left s.ring s.window h)
    (leaves-closed reason detail now m))
    (λ _. checked-open k now octets cause v (still m) (omega arith) h defer))

beats-single : (now : ℕ) (v : View) → Single v (heartbeat_turn now v)
beats-single now v =
    by_cond (Single v) (beat_due now v) _ _ (λ _. record { made = omega arith; ring = refl; window = refl })
    (λ _. record { made = omega arith; ring = refl; window = refl })

ticks-two : (now : ℕ) (v : View) → length (tick_turn now v).made ≤ 2
ticks-two now v =
    let left = (guard_turn now v).left in
    omega (
      arith,
      length-append (guard_turn now v).made (heartbeat_turn now left).made,
      (guards-single now v).made,
      (beats-single now left).made,
    )

ticks-held : (now : ℕ) (v : View) → Held v → Held (tick_turn now v).left
ticks-held now v h =
    let g = guards-single now v in
    let b = beats-single now (guard_turn now v).left in
    held-as (guard_turn now v).left (tick_turn now v).left b.ring b.window
    (held-as v (guard_turn now v).left g.ring g.window h)

passes-few : (k now : ℕ) (v : Inside) → Held v.upper.machine → length v.red.waiting ≤ 8
    → sent_on k (time_turn now v).sent ≤ 333
passes-few k now v h defer =
    let m = v.upper.machine in
    let cause = own_departure (overdue now m) now in
    let first = above_red (settled (tick_turn now m) cause) v in
    by_cond (λ (u : Turn Inside). sent_on k u.sent ≤ 333) (is_over v) (end_still v)
    (turn_then first (end_goes_on now (RedTick now))) (λ _. omega arith)
    (λ _.
    let s = settled-short k 2 (tick_turn now m) cause v.upper (ticks-two now m) (ticks-held now m h) in
    let rest = goes_on-few k now 8 (RedTick now) first.left s.held (omega (arith, tick-parts now v.red, defer))
    (omega arith) in
    omega (arith, on-append k first.sent (end_goes_on now (RedTick now) first.left).sent, s.sent, rest))

puts-few : (k kind now : ℕ) (payload : List ℕ) (v : Fields) → Held v.machine
    → sent_on k (put_turn kind payload now v).sent ≤ 333
puts-few k kind now payload v h =
    let d = process_event (Puts kind payload (length v.waiting)) (dialogue_of v) in
    let first = session_turn d (accepts_in d v) in
    omega (arith, on-append k first.sent (end_send_turn now first.left).sent, sends-few k now first.left h.window)

completes-few : (k now : ℕ) (v : Fields) → Held v.machine → sent_on k (init_done_turn now v).sent ≤ 333
completes-few k now v h =
    let first = session_turn (process_event (Completes (length v.waiting)) (dialogue_of v)) v in
    omega (arith, on-append k first.sent (end_send_turn now first.left).sent, sends-few k now first.left h.window)

-- the bounds of an end are those of its machine
held-within : (v : Inside) → IsBounded v → Held v.upper.machine
held-within v b = record { ring = omega (arith, b.unconfirmed, b.window); window = b.window }

pub load_law_holds : LoadLaw
load_law_holds (Close now) v b defer k = omega (arith, closes-few k now v.upper (held-within v b))
load_law_holds (Put kind payload now) v b defer k = puts-few k kind now payload v.upper (held-within v b)
load_law_holds (InitDone now) v b defer k = completes-few k now v.upper (held-within v b)
load_law_holds (Tick now) v b defer k = passes-few k now v (held-within v b) defer
load_law_holds (Deliver channel octets now) v b defer k = arrives-few k now octets v (held-within v b) defer
