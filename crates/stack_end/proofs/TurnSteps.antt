-- A step of a history is the changes of `Effects`: the state that follows a turn, step by step.
use Rattle.stack_end.proofs.Words.{[], added_by, ap, append-nil, append_assoc, after, Arrives, Bool, ClosedByUser, Closes, comes_up, Completes, ConnectionState}
use Rattle.stack_end.proofs.Words.{dialogue_of, Dialogue, drop, Err, Event, false, Fields, turn_then, up_turn, judge_turn, octets_units, if◌then◌else◌, is_closed, is_none, judge_messages}
use Rattle.stack_end.proofs.Words.{judge_read, judge_units, judge_unpacked, Judgement, judge_part, leave_turn, Leaving, length, List, machine_octets_turn, machine_turn, MachineTurn, process_event, None}
use Rattle.stack_end.proofs.Words.{request_after, note_request_turn, Ok, Option, PackFault, pack_turn, Puts, refl, Result, bring_up, session_in, session_turn, end_session_turn, Some, still, subst, sym, take, taken_by}
use Rattle.stack_end.proofs.Words.{Tele, tele_seen, TeleFault, texts, true, Turn, unit_seen, unit_text, unless_leaving, Unspecified, View, ℕ, ◌&&◌, ◌++◌, ◌∙◌, ◌∷◌, ◌≡◌, not, is_nil}
use Rattle.stack_end.proofs.Words.{can_pack, inl, inr, true≢false, ◌⊎◌}
use Rattle.pdi_session.specs.Histories.{ends_by, handed_by, History, put_by}
use Rattle.pdi_session.specs.SessionStep.{phase_after}
use Rattle.safe_machine.proofs.one.TurnSteps.{octets_law_holds, tells_law_holds as machine_tells, turns_law_holds as machine_turns}
use Rattle.safe_machine.specs.Moves.{Move, move}
use Rattle.safe_machine.specs.Moves.Move.{Guards, Leaves, Sends, Ticks}
use Rattle.safe_machine.specs.Octets.{arrive_octets, decoded_answer}
use Rattle.safe_machine.specs.Step.{history, may_send}
use Rattle.safe_machine.specs.State.{State}
use Rattle.safe_machine.specs.TurnLaws.{MaySend, turn as machine_move, LeadsByTurn as MachineTurned}
use Rattle.safe_machine.specs.View.{StandsFor}
use Rattle.safe_machine.specs.World.{is_joining}
use Rattle.safe_machine.specs.Deadlines.{overdue}
use Rattle.safe_machine.specs.declared.Step.{Step as Outcome}
use Rattle.safe_pdu.specs.Places.{safe_seen}
use Rattle.stack_end.proofs.Effects.{handed_up, heard, leaves as end_leave_turn, moved, packed, put_done, put_in, settle, with_machine, with_session}
use Rattle.stack_end.specs.Departures.{known_departure, own_departure}
use Rattle.stack_end.specs.Ends.{EndState, is_shut}
use Rattle.stack_end.specs.Statistics.{with_step}
use Rattle.stack_end.specs.Steps.{add_histories, follow, guard_step, join_histories, kept_of as fields_kept, part_step as part_step, step, tick_step}
use Rattle.stack_end.specs.Turns.{count_accepted, close_turn, closing_departure, count_turn, departure_turn, finish_turn, queue_turn, waiting_time, with_units}
use Rattle.stack_end.specs.declared.departure.Departure.{Departure}
use Rattle.std.proofs.Math.Seq.{drop-append_seam}
use Rattle.std.specs.Prelude.{◌-◌}

-- a dialogue that begins here, behind a history
abbrev behind : History → Dialogue → Dialogue
behind h d = record { history = join_histories h d.history; waiting = d.waiting }

abbrev behind_judged : History → Judgement → Judgement
behind_judged h j = record { left = behind h j.left; leaving = j.leaving }

behind-meets : (event : Event) (h : History) (d : Dialogue)
    → process_event event (behind h d) ≡ behind h (process_event event d)
behind-meets event h d = λ i.
    record {
      history = record {
        state = after event (session_in d);
        phases = append_assoc h.phases d.history.phases (phase_after event (session_in d) ∷ []) i;
        queue = append_assoc h.queue d.history.queue (added_by event (session_in d)) i;
        judged = append_assoc h.judged d.history.judged (handed_by event) i;
        put = append_assoc h.put d.history.put (put_by event (session_in d)) i;
        taken = append_assoc h.taken d.history.taken (taken_by event (session_in d)) i;
        ended_in = ended (ends_by event (session_in d)) i;
      };
      waiting = d.waiting ++ texts (added_by event (session_in d));
    }
  where
    ended : (b : Bool) → (if b then Some (session_in d).phase else if is_none d.history.ended_in then h.ended_in
        else d.history.ended_in)
        ≡ (if is_none (if b then Some (session_in d).phase else d.history.ended_in) then h.ended_in else
        (if b then Some (session_in d).phase else d.history.ended_in))
    ended true = refl
    ended false = refl

behind-rises : (up : Bool) (h : History) (d : Dialogue) → bring_up up (behind h d) ≡ behind h (bring_up up d)
behind-rises true h d = behind-meets Event.Up h d
behind-rises false h d = refl

behind-read : (r : Result Tele TeleFault) (h : History) (d : Dialogue)
    → judge_read r (behind h d) ≡ behind_judged h (judge_read r d)
behind-read (Ok t) h d =
    ap (λ (q : Dialogue). record { left = q; leaving = (judge_read (Ok t) d).leaving }) (behind-meets (Arrives t) h d)
behind-read (Err fault) h d = refl

behind-unless : (o : Option Leaving) (h : History) (a b : Judgement)
    → unless_leaving o (behind_judged h a) (behind_judged h b) ≡ behind_judged h (unless_leaving o a b)
behind-unless None h a b = refl
behind-unless (Some why) h a b = refl

behind-messages : (ms : List (List ℕ)) (h : History) (d : Dialogue)
    → judge_messages ms (behind h d) ≡ behind_judged h (judge_messages ms d)
behind-messages [] h d = refl
behind-messages (m ∷ ms) h d =
    let j = judge_read (tele_seen m) d in
    ap (λ (q : Judgement). unless_leaving q.leaving q (judge_messages ms q.left)) (behind-read (tele_seen m) h d)
    ∙ (ap (unless_leaving j.leaving (behind_judged h j)) (behind-messages ms h j.left)
    ∙ behind-unless j.leaving h j (judge_messages ms j.left))

behind-unpacked : (r : Result (List (List ℕ)) PackFault) (h : History) (d : Dialogue)
    → judge_unpacked r (behind h d) ≡ behind_judged h (judge_unpacked r d)
behind-unpacked (Ok ms) h d = behind-messages ms h d
behind-unpacked (Err fault) h d = refl

behind-units : (us : List (List ℕ)) (h : History) (d : Dialogue)
    → judge_units us (behind h d) ≡ behind_judged h (judge_units us d)
behind-units [] h d = refl
behind-units (u ∷ us) h d =
    let j = judge_unpacked (unit_seen u) d in
    ap (λ (q : Judgement). unless_leaving q.leaving q (judge_units us q.left)) (behind-unpacked (unit_seen u) h d)
    ∙ (ap (unless_leaving j.leaving (behind_judged h j)) (behind-units us h j.left)
    ∙ behind-unless j.leaving h j (judge_units us j.left))

-- what is kept is that of the state, as far as its next step depends on it
record Near (w : Fields) (y : EndState) : Type 0 where
  machine : StandsFor w.machine y.machine
  session : w.session ≡ session_in y.session
  waits : w.waiting ≡ y.session.waiting
  request : w.request ≡ y.request

near-kept : (x : EndState) → Near (fields_kept x) x
near-kept x = record { machine = refl; session = refl; waits = refl; request = refl }

-- the session of what is kept, behind the past
here-is : (w : Fields) (y : EndState) → Near w y → behind y.session.history (dialogue_of w) ≡ y.session
here-is w y h = λ i.
    let p = y.session.history in
    record {
      history = record {
        state = h.session i;
        phases = append-nil p.phases i;
        queue = append-nil p.queue i;
        judged = append-nil p.judged i;
        put = append-nil p.put i;
        taken = append-nil p.taken i;
        ended_in = p.ended_in;
      };
      waiting = h.waits i;
    }

-- a turn leads from one state to the other
record Goes (t : Turn Fields) (x y : EndState) : Type 0 where
  is : follow t x ≡ y
  near : Near t.left y

continued-append : (h : History) (ks ls : List History)
    → add_histories h (ks ++ ls) ≡ add_histories (add_histories h ks) ls
continued-append h [] ls = refl
continued-append h (k ∷ ks) ls = continued-append (join_histories h k) ks ls

follow-then : (t : Turn Fields) (next : Fields → Turn Fields) (x : EndState)
    → follow (turn_then t next) x ≡ follow (next t.left) (follow t x)
follow-then t next x = λ i.
    let u = next t.left in
    record {
      settings = x.settings;
      red = x.red;
      inputs = x.inputs;
      machine = history u.left.machine (sym (append_assoc x.machine.made t.made u.made) i)
          (sym (append_assoc x.machine.taken t.units u.units) i);
      session = record { history = continued-append x.session.history t.talks u.talks i; waiting = u.left.waiting };
      request = u.left.request;
      time = x.time;
    }

goes-then : (t : Turn Fields) (next : Fields → Turn Fields) (x y z : EndState) → Goes t x y → Goes (next t.left) y z
    → Goes (turn_then t next) x z
goes-then t next x y z h k =
    record { is = follow-then t next x ∙ (ap (follow (next t.left)) h.is ∙ k.is); near = k.near }

-- only what is kept changes
goes-still : (w : Fields) (y : EndState) (request : Option (List ℕ)) → Near w (record y { request = request })
    → Goes (still w) y (record y { request = request })
goes-still w y request h =
    record {
      is = λ i.
          record {
            settings = y.settings;
            red = y.red;
            inputs = y.inputs;
            machine = history (h.machine i) (append-nil y.machine.made i) (append-nil y.machine.taken i);
            session = record { history = y.session.history; waiting = h.waits i };
            request = h.request i;
            time = y.time;
          };
      near = h;
    }

-- the machine
goes-machine : (m : MachineTurn) (units : List (List ℕ)) (w : Fields) (y : EndState) (s : State)
    → MachineTurned m units y.machine s → Near w y
    → Goes (with_units units (machine_turn m w)) y (with_machine s y)
goes-machine m units w y s one h =
    record {
      is = λ i.
          record {
            settings = y.settings;
            red = y.red;
            inputs = y.inputs;
            machine = history (one.stands i) (sym one.made i) (sym one.taken i);
            session = record { history = y.session.history; waiting = h.waits i };
            request = h.request i;
            time = y.time;
          };
      near = record { machine = one.stands; session = h.session; waits = h.waits; request = h.request };
    }

-- the session
goes-session : (d e : Dialogue) (w : Fields) (y : EndState) → behind y.session.history d ≡ e → Near w y
    → Goes (session_turn d w) y (with_session e y)
goes-session d e w y same h =
    record {
      is = λ i.
          record {
            settings = y.settings;
            red = y.red;
            inputs = y.inputs;
            machine = history (h.machine i) (append-nil y.machine.made i) (append-nil y.machine.taken i);
            session = same i;
            request = h.request i;
            time = y.time;
          };
      near =
          record {
            machine = h.machine;
            session = ap session_in same;
            waits = ap (λ (q : Dialogue). q.waiting) same;
            request = h.request;
          };
    }

goes-meets : (event : Event) (w : Fields) (y : EndState) → Near w y
    → Goes (session_turn (process_event event (dialogue_of w)) w) y (with_session (process_event event y.session) y)
goes-meets event w y h =
    goes-session (process_event event (dialogue_of w)) (process_event event y.session) w y
    (sym (behind-meets event y.session.history (dialogue_of w)) ∙ ap (process_event event) (here-is w y h)) h

goes-if : (a b : Bool) (t u : Turn Fields) (x y z : EndState) → a ≡ b → Goes t x y → Goes u x z
    → Goes (if a then t else u) x (if b then y else z)
goes-if true b t u x y z e h k = subst (λ q. Goes t x (if q then y else z)) e h
goes-if false b t u x y z e h k = subst (λ q. Goes u x (if q then y else z)) e k

goes-settles : (w : Fields) (y : EndState) → Near w y → Goes (end_session_turn w) y (settle y)
goes-settles w y h =
    goes-if (is_closed w.machine.connection) (is_shut y) (session_turn (process_event Closes (dialogue_of w)) w)
    (still w) y (with_session (process_event Closes y.session) y) y
    (ap (λ (m : View). is_closed m.connection) h.machine) (goes-meets Closes w y h) (goes-still w y y.request h)

-- what is recorded beside the state
goes-beside : (next : Fields → Fields) (t : Turn Fields) (x y : EndState) → Near (next t.left) y → Goes t x y
    → Goes (turn_then t (λ v. still (next v))) x y
goes-beside next t x y n h = goes-then t (λ v. still (next v)) x y y h (goes-still (next t.left) y y.request n)

goes-departs : (cause : Option Departure) (t : Turn Fields) (x y : EndState) → Goes t x y
    → Goes (turn_then t (departure_turn cause)) x y
goes-departs cause t x y h =
    let n = h.near in
    goes-beside (λ v. record v { departed = known_departure cause v.departed }) t x y
    (record { machine = n.machine; session = n.session; waits = n.waits; request = n.request }) h

goes-counts : (answer : Outcome) (long now : ℕ) (t : Turn Fields) (x y : EndState) → Goes t x y
    → Goes (turn_then t (count_turn answer long now)) x y
goes-counts answer long now t x y h =
    let n = h.near in
    goes-beside (λ v. record v { parts = with_step answer long (now - v.machine.confirmed_at) v.parts }) t x y
    (record { machine = n.machine; session = n.session; waits = n.waits; request = n.request }) h

-- a move of the machine that sends no unit
goes-moved : (m : Move) (w : Fields) (y : EndState) → MaySend m w.machine → Near w y
    → MachineTurned (machine_move m w.machine) [] y.machine (move m y.machine)
    → Goes (turn_then (machine_turn (machine_move m w.machine) w) end_session_turn) y (moved m y)
goes-moved m w y may h one =
    let t = machine_turn (machine_move m w.machine) w in
    let z = with_machine (move m y.machine) y in
    let first = goes-machine (machine_move m w.machine) [] w y (move m y.machine) one h in
    goes-then t end_session_turn y z (settle z) first (goes-settles t.left z first.near)

pub guarded-is : (now : ℕ) (x : EndState) → guard_step now x ≡ moved (Guards now) x
guarded-is now x =
    let v = fields_kept x in
    let t = turn_then (machine_turn (machine_move (Guards now) v.machine) v) end_session_turn in
    (goes-departs (own_departure (overdue now v.machine) now) t x (moved (Guards now) x)
    (goes-moved (Guards now) v x tt (near-kept x) (machine_turns (Guards now) v.machine x.machine tt refl))).is

pub ticked-is : (now : ℕ) (x : EndState) → tick_step now x ≡ moved (Ticks now) x
ticked-is now x =
    let v = fields_kept x in
    let t = turn_then (machine_turn (machine_move (Ticks now) v.machine) v) end_session_turn in
    (goes-departs (own_departure (overdue now v.machine) now) t x (moved (Ticks now) x)
    (goes-moved (Ticks now) v x tt (near-kept x) (machine_turns (Ticks now) v.machine x.machine tt refl))).is

pub closed-is : (now : ℕ) (x : EndState) → step (close_turn now) x ≡ moved (Leaves ClosedByUser Unspecified now) x
closed-is now x =
    let v = fields_kept x in
    let m = Leaves ClosedByUser Unspecified now in
    let t = turn_then (machine_turn (machine_move m v.machine) v) end_session_turn in
    (goes-departs (own_departure (if is_closed v.machine.connection then None else Some (ClosedByUser, Unspecified))
    now) t x (moved m x)
    (goes-moved m v x tt (near-kept x) (machine_turns m v.machine x.machine tt refl))).is

-- A part, step by step: it is processed; the request is kept; the session goes up.
abbrev pub heard_alone : ℕ → List ℕ → EndState → EndState
heard_alone now octets x =
    let s = arrive_octets octets now x.machine in
    with_session (judge_units (handed_up x s) x.session).left (with_machine s x)

abbrev pub noted_from : ConnectionState → List ℕ → EndState → EndState
noted_from before octets x =
    record x { request = request_after (is_joining before x.machine.connection) octets x.request }

abbrev pub rises_from : ConnectionState → EndState → EndState
rises_from before x = with_session (bring_up (comes_up before x.machine.connection) x.session) x

goes-hears : (now : ℕ) (octets : List ℕ) (w : Fields) (y : EndState) → Near w y
    → Goes (judge_turn now octets w) y (heard_alone now octets y)
    × ((judge_part now octets w).leaving ≡ (judge_units (handed_up y (arrive_octets octets now y.machine))
    y.session).leaving)
goes-hears now octets w y h =
    let s : State = arrive_octets octets now y.machine in
    let m = machine_octets_turn octets now w.machine in
    let units = octets_units octets now w.machine in
    let one = octets_law_holds octets now w.machine y.machine h.machine in
    let first = goes-machine m units w y s one h in
    let t = with_units units (machine_turn m w) in
    let up : units ≡ handed_up y s = sym (ap (drop (length y.machine.taken)) one.taken
    ∙ drop-append_seam y.machine.taken units) in
    let p = y.session.history in
    let same : behind_judged p (judge_part now octets w) ≡ judge_units (handed_up y s) y.session =
    sym (behind-units units p (dialogue_of w))
    ∙ (ap (judge_units units) (here-is w y h) ∙ ap (λ us. judge_units us y.session) up) in
    let k = judge_units (handed_up y s) y.session in
    let second = goes-session (judge_part now octets w).left k.left t.left (with_machine s y)
    (ap (λ (j : Judgement). j.left) same) first.near in (
      goes-then t (session_turn (judge_part now octets w).left) y (with_machine s y) (heard_alone now octets y) first
          second,
      ap (λ (j : Judgement). j.leaving) same,
    )

goes-notes : (before : ConnectionState) (octets : List ℕ) (w : Fields) (y : EndState) → Near w y
    → Goes (note_request_turn before octets w) y (noted_from before octets y)
goes-notes before octets w y h =
    let request = request_after (is_joining before y.machine.connection) octets y.request in
    goes-still (record w { request = request_after (is_joining before w.machine.connection) octets w.request }) y
    request
    (record {
      machine = h.machine;
      session = h.session;
      waits = h.waits;
      request =
          ap (λ (m : View). request_after (is_joining before m.connection) octets w.request) h.machine
          ∙ ap (request_after (is_joining before y.machine.connection) octets) h.request;
    })

goes-goes_up : (before : ConnectionState) (w : Fields) (y : EndState) → Near w y
    → Goes (up_turn before w) y (rises_from before y)
goes-goes_up before w y h =
    let a = comes_up before w.machine.connection in
    let b = comes_up before y.machine.connection in
    goes-session (bring_up a (dialogue_of w)) (bring_up b y.session) w y
    (sym (behind-rises a y.session.history (dialogue_of w))
    ∙ (ap (bring_up a) (here-is w y h) ∙ ap (λ (m : View). bring_up (comes_up before m.connection) y.session)
    h.machine)) h

goes-leaves : (now : ℕ) (a b : Option Leaving) (w : Fields) (y : EndState) → a ≡ b → Near w y
    → Goes (leave_turn now a w) y (end_leave_turn now b y)
goes-leaves now a b w y same h = subst (λ q. Goes (leave_turn now a w) y (end_leave_turn now q y)) same (both a)
  where
    both : (a : Option Leaving) → Goes (leave_turn now a w) y (end_leave_turn now a y)
    both None = goes-still w y y.request h
    both (Some why) =
        let m = Leaves why.0 why.1 now in
        goes-machine (machine_move m w.machine) [] w y (move m y.machine)
        (machine_turns m w.machine y.machine tt h.machine) h

pub part-is : (now : ℕ) (octets : List ℕ) (x : EndState) → part_step now octets x ≡ settle (heard now octets x)
part-is now octets x =
    let v = fields_kept x in
    let before = x.machine.connection in
    let heard = goes-hears now octets v x (near-kept x) in
    let why = (judge_part now octets v).leaving in
    let asked = (judge_units (handed_up x (arrive_octets octets now x.machine)) x.session).leaving in
    let t0 = judge_turn now octets v in
    let t1 = turn_then t0 (note_request_turn before octets) in
    let t2 = turn_then t1 (up_turn before) in
    let t3 = turn_then t2 (leave_turn now why) in
    let x0 : EndState = heard_alone now octets x in
    let x1 : EndState = noted_from before octets x0 in
    let x2 : EndState = rises_from before x1 in
    let x3 : EndState = end_leave_turn now asked x2 in
    let h1 = goes-then t0 (note_request_turn before octets) x x0 x1 heard.0
    (goes-notes before octets t0.left x0 heard.0.near) in
    let h2 = goes-then t1 (up_turn before) x x1 x2 h1 (goes-goes_up before t1.left x1 h1.near) in
    let h3 = goes-then t2 (leave_turn now why) x x2 x3 h2 (goes-leaves now why asked t2.left x2 heard.1 h2.near) in
    let h4 = goes-then t3 end_session_turn x x3 (settle x3) h3 (goes-settles t3.left x3 h3.near) in
    (goes-counts (decoded_answer (safe_seen v.machine.settings.rule octets) now v.machine) (waiting_time now v) now
    (turn_then (turn_then t3 end_session_turn) (departure_turn (closing_departure now octets v))) x (settle x3)
    (goes-departs (closing_departure now octets v) (turn_then t3 end_session_turn) x (settle x3) h4)).is

-- one unit of the first waiting messages
pub packed-is : (now : ℕ) (x : EndState) → step (pack_turn now) x ≡ packed now x
packed-is now x = λ i.
    let unit = unit_text (take x.settings.n_maxpacket x.session.waiting) in
    let t = machine_move (Sends unit now) (fields_kept x).machine in
    record {
      settings = x.settings;
      red = x.red;
      inputs = x.inputs;
      machine = history t.left (ap (λ ms. x.machine.made ++ ms) (append-nil t.made) i) (x.machine.taken ++ []);
      session = record { history = x.session.history; waiting = drop x.settings.n_maxpacket x.session.waiting };
      request = x.request;
      time = x.time;
    }

-- what is put
pub queued-is : (kind : ℕ) (payload : List ℕ) (x : EndState) → step (queue_turn kind payload) x ≡ put_in kind payload x
queued-is kind payload x =
    let v = fields_kept x in
    let event = Puts kind payload (length x.session.waiting) in
    (goes-meets event (count_accepted (process_event event (dialogue_of v)) v) x
    (record { machine = refl; session = refl; waits = refl; request = refl })).is

pub finished-is : (x : EndState) → step finish_turn x ≡ put_done x
finished-is x = (goes-meets (Completes (length x.session.waiting)) (fields_kept x) x (near-kept x)).is

-- a unit may be packed
pub can_pack-is : (x : EndState) → can_pack (fields_kept x) ≡ (not (is_nil x.session.waiting) && may_send x.machine)
can_pack-is x =
    ap (λ b. not (is_nil x.session.waiting) && b) (machine_tells (fields_kept x).machine x.machine refl).room

pub may-pack : (x : EndState) → can_pack (fields_kept x) ≡ true → (may_send x.machine ≡ true)
    × (is_nil x.session.waiting ≡ false)
may-pack x can = both (is_nil x.session.waiting) (may_send x.machine) (sym (can_pack-is x) ∙ can)
  where
    both : (nil may : Bool) → (not nil && may) ≡ true → (may ≡ true) × (nil ≡ false)
    both false may e = (e, refl)
    both true may e = absurd (true≢false (sym e))

pub not-pack : (x : EndState) → can_pack (fields_kept x) ≡ false
    → (may_send x.machine ≡ false) ⊎ (is_nil x.session.waiting ≡ true)
not-pack x can = either (is_nil x.session.waiting) (may_send x.machine) (sym (can_pack-is x) ∙ can)
  where
    either : (nil may : Bool) → (not nil && may) ≡ false → (may ≡ false) ⊎ (nil ≡ true)
    either false may e = inl e
    either true may e = inr refl
