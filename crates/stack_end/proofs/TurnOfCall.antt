-- What a state of an end keeps takes the turn of each call; and before the first deadline a tick does nothing.
use Rattle.stack_end.proofs.Words.{[], upper_turn, ap, append-nil, append_assoc, arith, Bool, by_cond, can_pack, ClosedByUser, Closes}
use Rattle.stack_end.proofs.Words.{comes_up, Completes, init_done_turn, ConnectionState, Datagram, datagrams, Deliver, Dialogue, dialogue_of, Down, drop}
use Rattle.stack_end.proofs.Words.{Err, Event, false, Fields, turn_then, input_and_send_turn, up_turn, has_room, HasMade, judge_turn, octets_units}
use Rattle.stack_end.proofs.Words.{if◌then◌else◌, Input, Inside, is_closed, is_nil, is_none, is_over, Item, judge_messages}
use Rattle.stack_end.proofs.Words.{judge_read, judge_units, judge_unpacked, Judgement, judge_part, leave_turn, Leaving, length, length-append, List}
use Rattle.stack_end.proofs.Words.{machine_octets_turn, machine_still, machine_turn, MachineTurn, process_event, None, not, request_after, note_request_turn, number_after, Ok}
use Rattle.stack_end.proofs.Words.{opening_turn, Option, PackFault, pack_turn, pack_up_to_turn, Part, part_turn, parts_turn, parts_passed, Puts, put_turn, Receiver, input_turn}
use Rattle.stack_end.proofs.Words.{red_after, RedTick, refl, Result, bring_up, rule_of, sendings, send_turn, session_in, session_turn, Settings, end_session_turn}
use Rattle.stack_end.proofs.Words.{Some, Start, subst, suc, sym, take, Tele, tele_seen, TeleFault, ChannelHistory, true}
use Rattle.stack_end.proofs.Words.{true≢false, turn, unit_seen, unit_text, unless_leaving, Unspecified, View, zero, ℕ, ◌%◌, ◌&&◌, ◌++◌, ◌+◌, ◌^◌, ◌∙◌, ◌∷◌, ◌≡◌}
use Rattle.stack_end.proofs.Words.{◌≢◌}
use Rattle.pdi_session.specs.TelegramCounts.{is_item, items_in, items_read}
use Rattle.pdi_session.specs.Histories.{History, put_by}
use Rattle.pdi_session.specs.Laws.{items_of}
use Rattle.pdi_session.specs.Telegrams.{is_reserved}
use Rattle.pdi_session.specs.SessionStep.{item_of, put_refusal}
use Rattle.safe_machine.proofs.one.StepLemmas.{made_law_holds}
use Rattle.safe_machine.proofs.one.SameSettings.{settings_law_holds}
use Rattle.safe_machine.proofs.one.Runs.{ring_of-units}
use Rattle.safe_machine.proofs.one.TurnSteps.{octets_law_holds, tells_law_holds as machine_tells}
use Rattle.safe_machine.proofs.one.TurnSteps.{turns_law_holds as machine_turns}
use Rattle.safe_machine.specs.Made.{opening_body}
use Rattle.safe_machine.specs.Moves.{Move, move}
use Rattle.safe_machine.specs.Moves.Move.{Guards, Leaves, Sends, Ticks}
use Rattle.safe_machine.specs.Octets.{arrive_octets, move_of as heard_move, decoded_answer, seen_by}
use Rattle.safe_machine.specs.declared.Step.{Step as Outcome}
use Rattle.safe_machine.specs.State.{State, unconfirmed}
use Rattle.safe_machine.specs.Step.{send}
use Rattle.safe_machine.specs.TurnLaws.{MaySend, turn as machine_move, LeadsByTurn as MachineTurned}
use Rattle.safe_machine.specs.Turns.{sending_turn, new_view}
use Rattle.safe_machine.specs.retrans.Units.{octets_of}
use Rattle.safe_machine.specs.World.{is_joining}
use Rattle.safe_pdu.specs.Places.{safe_seen}
use Rattle.safe_pdu.specs.declared.Kind.TheVariants.{ConnReq}
use Rattle.stack_end.specs.Certain.{confirmed_in, confirmed_of, cap_count, found_messages, found_telegram, items_in_units, items_waiting, messages_in}
use Rattle.stack_end.specs.Certain.{telegrams_in}
use Rattle.stack_end.specs.EndValue.{EndTakesTurn, EndValue}
use Rattle.stack_end.proofs.Effects.{handed_up, leaves as end_leave_turn, moved, packed, sends as end_send_turn, settle, with_machine, with_session}
use Rattle.stack_end.proofs.TurnSteps.{closed-is, finished-is, guarded-is, heard_alone, noted_from, packed-is, part-is, queued-is, rises_from, ticked-is}
use Rattle.stack_end.specs.Ends.{Call, Close, EndState, InitDone, is_shut, Put, Tick, time_of}
use Rattle.stack_end.specs.Steps.{by_steps, guard_step, kept_of as fields_kept, part_step as end_part, parts_step as end_parts, input_step as end_input_turn, step, tick_step}
use Rattle.stack_end.specs.Steps.{whole_way, with_input}
use Rattle.stack_end.specs.Fields.{LayersTakeTurn, LayersRepresent, UpperRepresent}
use Rattle.stack_end.specs.Departures.{known_departure}
use Rattle.stack_end.specs.Statistics.{no_made_counts, with_made, with_step}
use Rattle.stack_end.specs.declared.statistics.PartCounts.{PartCounts}
use Rattle.stack_end.specs.declared.statistics.DatagramCounts.{DatagramCounts}
use Rattle.stack_end.specs.TurnLaws.{AnyChannelLaw, GrowsBy, LastLaw, DeterminesLaw, LeadsByTurn, TurnsLaw}
use Rattle.stack_end.specs.Departures.{own_departure}
use Rattle.stack_end.specs.Turns.{call_by, close_turn, closing_departure, count_turn, departure_turn, input_and_send_by, pack_by, queue_turn, still as end_still, Turn as EndTurn}
use Rattle.stack_end.specs.Turns.{waiting_time, with_units}
use Rattle.stack_end.specs.declared.departure.Departure.{Departure}
use Rattle.safe_machine.specs.Deadlines.{overdue}
use Rattle.stack_end.specs.declared.layers.Layers.{Layers}
use Rattle.std.proofs.Math.Seq.{drop-append_seam}
use Rattle.std.specs.Prelude.{min, ◌-◌}
use Rattle.stack_end.proofs.SentNumbers.{behind-wrap, datagrams-are, sendings-append, made-append}
use Rattle.stack_end.proofs.Deadlines.{quiet-tick, fallen-tick}
use Rattle.stack_end.proofs.Rides.{Rides, RidesJudged, rides-meets, rides-rises, rides-units}

packs-history : (n now : ℕ) (x : EndState) → (pack_by by_steps n now x).session.history ≡ x.session.history
packs-history zero now x = refl
packs-history (suc n) now x =
    by_cond (λ (y : EndState). y.session.history ≡ x.session.history) (can_pack (fields_kept x))
    (pack_by by_steps n now (step (pack_turn now) x)) x
    (λ _. packs-history n now (step (pack_turn now) x)) (λ _. refl)

pub puts-last : (kind : ℕ) (payload : List ℕ) (now : ℕ) (x : EndState)
    → put_refusal (session_in x.session) kind payload (length x.session.waiting) ≡ None
    → (call_by whole_way (Put kind payload now) x).session.history.put ≡ x.session.history.put ++ (kind, payload) ∷ []
puts-last kind payload now x accepted =
    let y : EndState = step (queue_turn kind payload) x in
    ap (λ (h : History). h.put) (packs-history (length y.session.waiting) now y)
    ∙ ap (λ r. x.session.history.put ++ (if is_none r then (kind, payload) ∷ [] else [])) accepted

-- who is opened sends nothing in turn
pub opens-made : (settings : Settings) (first now : ℕ) → HasMade (opening_turn settings first now).left
opens-made settings first now = by_client settings.client
  where
    by_client : (client : Bool) → HasMade
        (if client then sending_turn ConnReq (opening_body settings.n_sendmax) now (new_view settings first now Start)
        else machine_still
        (new_view settings first now Down)).left
    by_client true turn = absurd (true≢false (sym turn))
    by_client false turn = absurd (true≢false (sym turn))

-- Above the redundancy layer.
pub record UpperTurned (t : EndTurn Fields) (x y : EndState) : Type 0 where
  pub stands : UpperRepresent t.left y
  pub red : y.red ≡ x.red
  pub grew : GrowsBy t x y

grew-none : {V : Type 0} (v : V) (x : EndState) → GrowsBy (end_still v) x x
grew-none v x = record {
  settings = refl;
  more = [];
  made = sym (append-nil x.machine.made);
  sent = refl;
  taken = sym (append-nil x.session.history.taken);
}

grew-then : {V : Type 0} (t : EndTurn V) (next : V → EndTurn V) (x y z : EndState) → GrowsBy t x y
    → GrowsBy (next t.left) y z → GrowsBy (turn_then t next) x z
grew-then t next x y z h k =
    let start = length x.machine.made in
    let u = next t.left in
    let long : length y.machine.made ≡ start + length h.more = ap length h.made ∙ length-append x.machine.made h.more in
    record {
      settings = k.settings ∙ h.settings;
      more = h.more ++ k.more;
      made = k.made ∙ (ap (λ ms. ms ++ k.more) h.made ∙ append_assoc x.machine.made h.more k.more);
      sent =
          ap (λ xs. xs ++ u.sent) h.sent
          ∙ (ap (λ ys. sendings x.settings start h.more ++ ys)
          (k.sent ∙ (ap (λ s. sendings s (length y.machine.made) k.more) h.settings
          ∙ ap (λ i. sendings x.settings i k.more) long))
          ∙ sym (sendings-append x.settings start h.more k.more));
      taken = k.taken ∙ (ap (λ xs. xs ++ u.taken) h.taken ∙ append_assoc x.session.history.taken t.taken u.taken);
    }

upper-still : (v : Fields) (x : EndState) → UpperRepresent v x → UpperTurned (end_still v) x x
upper-still v x h = record { stands = h; red = refl; grew = grew-none v x }

upper-then : (t : EndTurn Fields) (next : Fields → EndTurn Fields) (x y z : EndState) → UpperTurned t x y
    → UpperTurned (next t.left) y z
    → UpperTurned (turn_then t next) x z
upper-then t next x y z h k =
    record { stands = k.stands; red = k.red ∙ h.red; grew = grew-then t next x y z h.grew k.grew }

-- one of two, on both sides
choose : {V : Type 0} (P : EndTurn V → EndState → Type 0) (a b : Bool) (t u : EndTurn V) (y z : EndState) → a ≡ b
    → P t y → P u z
    → P (if a then t else u) (if b then y else z)
choose P true b t u y z e h k = subst (λ q. P t (if q then y else z)) e h
choose P false b t u y z e h k = subst (λ q. P u (if q then y else z)) e k

-- a turn of the machine
upper-machine : (m : MachineTurn) (units : List (List ℕ)) (v : Fields) (x : EndState) (s : State)
    → MachineTurned m units x.machine s → HasMade m.left
    → s.settings ≡ x.machine.settings → UpperRepresent v x
    → UpperTurned (machine_turn m v) x (with_machine s x)
upper-machine m units v x s one has_made kept h =
    let start = length x.machine.made in
    let rule : v.machine.settings.rule ≡ rule_of x.settings = ap (λ (q : View). q.settings.rule) h.machine ∙ h.rule in
    record {
      stands =
          record {
            machine = one.stands;
            has_made = has_made;
            speaks = h.speaks;
            request = h.request;
            numbers =
                ap (λ n. number_after n m.made) h.numbers
                ∙ (behind-wrap start m.made ∙ ap (λ n. n % 2 ^ 32)
                (sym (ap length one.made ∙ length-append x.machine.made m.made)));
            count = h.count;
            max = h.max;
            accepted = h.accepted;
            made =
                ap (with_made m.made) h.made
                ∙ (sym (made-append x.machine.made m.made no_made_counts)
                ∙ ap (λ ms. with_made ms no_made_counts) (sym one.made));
            rule = ap (λ (q : Settings). q.rule) kept ∙ h.rule;
            t_max = h.t_max ∙ sym (ap (λ (q : Settings). q.t_max) kept);
          };
      red = refl;
      grew =
          record {
            settings = refl;
            more = m.made;
            made = one.made;
            sent =
                ap (λ r. datagrams r v.count v.numbers m.made) rule
                ∙ (ap (λ n. datagrams (rule_of x.settings) n v.numbers m.made) h.count
                ∙ (ap (λ n. datagrams (rule_of x.settings) x.settings.channels n m.made) h.numbers
                ∙ datagrams-are x.settings start m.made));
            taken = sym (append-nil x.session.history.taken);
          };
    }

upper-move : (m : Move) (v : Fields) (x : EndState) → MaySend m v.machine → UpperRepresent v x
    → UpperTurned (machine_turn (machine_move m v.machine) v) x (with_machine (move m x.machine) x)
upper-move m v x may h =
    upper-machine (machine_move m v.machine) _ v x (move m x.machine)
    (machine_turns m v.machine x.machine may h.machine)
    (made_law_holds m v.machine x.machine h.has_made h.machine)
    (settings_law_holds m x.machine) h

-- what is judged puts nothing in, and neither does going up
put-unless : (put : List Item) (a : Option Leaving) (first rest : Judgement) → first.left.history.put ≡ put
    → rest.left.history.put ≡ put
    → (unless_leaving a first rest).left.history.put ≡ put
put-unless put None first rest h k = k
put-unless put (Some why) first rest h k = h

put-read : (r : Result Tele TeleFault) (d : Dialogue) → (judge_read r d).left.history.put ≡ d.history.put
put-read (Ok t) d = append-nil d.history.put
put-read (Err fault) d = refl

put-messages : (ms : List (List ℕ)) (d : Dialogue) → (judge_messages ms d).left.history.put ≡ d.history.put
put-messages [] d = refl
put-messages (m ∷ ms) d =
    let first = judge_read (tele_seen m) d in
    put-unless d.history.put first.leaving first (judge_messages ms first.left) (put-read (tele_seen m) d)
    (put-messages ms first.left ∙ put-read (tele_seen m) d)

put-unpacked : (r : Result (List (List ℕ)) PackFault) (d : Dialogue)
    → (judge_unpacked r d).left.history.put ≡ d.history.put
put-unpacked (Ok ms) d = put-messages ms d
put-unpacked (Err fault) d = refl

put-units : (us : List (List ℕ)) (d : Dialogue) → (judge_units us d).left.history.put ≡ d.history.put
put-units [] d = refl
put-units (u ∷ us) d =
    let first = judge_unpacked (unit_seen u) d in
    put-unless d.history.put first.leaving first (judge_units us first.left) (put-unpacked (unit_seen u) d)
    (put-units us first.left ∙ put-unpacked (unit_seen u) d)

put-rises : (b : Bool) (d : Dialogue) → (bring_up b d).history.put ≡ d.history.put
put-rises true d = append-nil d.history.put
put-rises false d = refl

counted-more : (n m : ℕ) → min (min n (2 ^ 64 - 1) + m) (2 ^ 64 - 1) ≡ min (n + m) (2 ^ 64 - 1)
counted-more n m = omega arith

-- the session goes on
upper-counted : (n : ℕ) (d e : Dialogue) (v : Fields) (x : EndState) → n ≡ cap_count (length e.history.put)
    → Rides x.session.history.taken d e → UpperRepresent v x
    → UpperTurned (session_turn d (record v { accepted = n })) x (with_session e x)
upper-counted n d e v x c r h =
    record {
      stands = record {
        machine = h.machine;
        has_made = h.has_made;
        speaks = r.speaks;
        request = h.request;
        numbers = h.numbers;
        count = h.count;
        max = h.max;
        accepted = c;
        made = h.made;
        rule = h.rule;
        t_max = h.t_max;
      };
      red = refl;
      grew =
          record { settings = refl; more = []; made = sym (append-nil x.machine.made); sent = refl; taken = r.taken };
    }

-- if nothing is put
upper-session : (d e : Dialogue) (v : Fields) (x : EndState) → e.history.put ≡ x.session.history.put
    → Rides x.session.history.taken d e → UpperRepresent v x
    → UpperTurned (session_turn d v) x (with_session e x)
upper-session d e v x put r h =
    upper-counted v.accepted d e v x (h.accepted ∙ ap (λ (is : List Item). cap_count (length is)) (sym put)) r h

rides-here : (v : Fields) (x : EndState) → UpperRepresent v x → Rides x.session.history.taken (dialogue_of v) x.session
rides-here v x h = record { speaks = h.speaks; taken = sym (append-nil x.session.history.taken) }

upper-settles : (v : Fields) (x : EndState) → UpperRepresent v x → UpperTurned (end_session_turn v) x (settle x)
upper-settles v x h =
    choose (λ t y. UpperTurned t x y) (is_closed v.machine.connection) (is_shut x)
    (session_turn (process_event Closes (dialogue_of v)) v) (end_still v)
    (with_session (process_event Closes x.session) x) x
    (ap (λ (m : View). is_closed m.connection) h.machine)
    (upper-session (process_event Closes (dialogue_of v)) (process_event Closes x.session) v x
    (append-nil x.session.history.put)
    (rides-meets Closes x.session.history.taken (dialogue_of v) x.session (rides-here v x h)) h) (upper-still v x h)

upper-moved : (m : Move) (v : Fields) (x : EndState) → MaySend m v.machine → UpperRepresent v x
    → UpperTurned (turn_then (machine_turn (machine_move m v.machine) v) end_session_turn) x (moved m x)
upper-moved m v x may h =
    let y : EndState = with_machine (move m x.machine) x in
    let t = machine_turn (machine_move m v.machine) v in
    let one = upper-move m v x may h in
    upper-then t end_session_turn x y (settle y) one (upper-settles t.left y one.stands)

upper-leaves : (now : ℕ) (a b : Option Leaving) (v : Fields) (x : EndState) → a ≡ b → UpperRepresent v x
    → UpperTurned (leave_turn now a v) x (end_leave_turn now b x)
upper-leaves now a b v x same h = subst (λ q. UpperTurned (leave_turn now a v) x (end_leave_turn now q x)) same (both a)
  where
    both : (a : Option Leaving) → UpperTurned (leave_turn now a v) x (end_leave_turn now a x)
    both None = upper-still v x h
    both (Some why) = upper-move (Leaves why.0 why.1 now) v x tt h

-- A part, step by step.
upper-hears : (now : ℕ) (octets : List ℕ) (v : Fields) (x : EndState) → UpperRepresent v x
    → UpperTurned (judge_turn now octets v) x (heard_alone now octets x)
    × ((judge_part now octets v).leaving ≡ (judge_units (handed_up x (arrive_octets octets now x.machine))
    x.session).leaving)
upper-hears now octets v x h =
    let s : State = arrive_octets octets now x.machine in
    let m = machine_octets_turn octets now v.machine in
    let units = octets_units octets now v.machine in
    let one = octets_law_holds octets now v.machine x.machine h.machine in
    let has_made = made_law_holds (heard_move (safe_seen v.machine.settings.rule octets) now) v.machine x.machine
    h.has_made h.machine in
    let first = upper-machine m units v x s one has_made
    (settings_law_holds (heard_move (seen_by x.machine octets) now) x.machine) h in
    let up : units ≡ handed_up x s = sym (ap (drop (length x.machine.taken)) one.taken
    ∙ drop-append_seam x.machine.taken units) in
    let before = x.session.history.taken in
    let both = subst (λ us. RidesJudged before (judge_part now octets v) (judge_units us x.session)) up
    (rides-units before units (dialogue_of v) x.session (rides-here v x h)) in
    let second = upper-session (judge_part now octets v).left (judge_units (handed_up x s) x.session).left
    (machine_turn m v).left (with_machine s x)
    (put-units (handed_up x s) x.session) both.left first.stands in (
      upper-then (with_units units (machine_turn m v)) (session_turn (judge_part now octets v).left) x
          (with_machine s x) (heard_alone now octets x)
          (record { stands = first.stands; red = first.red; grew = delivers first.grew }) second,
      both.leaving,
    )
  where
    delivers : {t : EndTurn Fields} {x y : EndState} {us : List (List ℕ)} → GrowsBy t x y
        → GrowsBy (with_units us t) x y
    delivers g = record { settings = g.settings; more = g.more; made = g.made; sent = g.sent; taken = g.taken }

upper-notes : (before : ConnectionState) (octets : List ℕ) (v : Fields) (x : EndState) → UpperRepresent v x
    → UpperTurned (note_request_turn before octets v) x (noted_from before octets x)
upper-notes before octets v x h =
    let same : request_after (is_joining before v.machine.connection) octets v.request
    ≡ request_after (is_joining before x.machine.connection) octets x.request =
    ap (λ (m : View). request_after (is_joining before m.connection) octets v.request) h.machine
    ∙ ap (request_after (is_joining before x.machine.connection) octets) h.request in
    record {
      stands = record {
        machine = h.machine;
        has_made = h.has_made;
        speaks = h.speaks;
        request = same;
        numbers = h.numbers;
        count = h.count;
        max = h.max;
        accepted = h.accepted;
        made = h.made;
        rule = h.rule;
        t_max = h.t_max;
      };
      red = refl;
      grew = record {
        settings = refl;
        more = [];
        made = sym (append-nil x.machine.made);
        sent = refl;
        taken = sym (append-nil x.session.history.taken);
      };
    }

-- what is kept next to what represents the state
upper-beside : (t : EndTurn Fields) (next : Fields → Fields) (x y : EndState) → UpperRepresent (next t.left) y
    → UpperTurned t x y
    → UpperTurned (turn_then t (λ v. end_still (next v))) x y
upper-beside t next x y s h =
    upper-then t (λ v. end_still (next v)) x y y h
    (record {
      stands = s;
      red = refl;
      grew = record {
        settings = refl;
        more = [];
        made = sym (append-nil y.machine.made);
        sent = refl;
        taken = sym (append-nil y.session.history.taken);
      };
    })

-- departure and counts of parts are no part of what represents the state
beside-stands : (v : Fields) (y : EndState) (departed : Option Departure) (parts_turn : PartCounts) → UpperRepresent v y
    → UpperRepresent (record v { departed = departed; parts = parts_turn }) y
beside-stands v y departed parts_turn s =
    record {
      machine = s.machine;
      has_made = s.has_made;
      speaks = s.speaks;
      request = s.request;
      numbers = s.numbers;
      count = s.count;
      max = s.max;
      accepted = s.accepted;
      made = s.made;
      rule = s.rule;
      t_max = s.t_max;
    }

-- the recorded departure is kept next to it
upper-departs : (cause : Option Departure) (t : EndTurn Fields) (x y : EndState) → UpperTurned t x y
    → UpperTurned (turn_then t (departure_turn cause)) x y
upper-departs cause t x y h =
    upper-beside t (λ v. record v { departed = known_departure cause v.departed }) x y
    (beside-stands t.left y (known_departure cause t.left.departed) t.left.parts h.stands) h

-- and so are the counts of parts
upper-counts : (answer : Outcome) (long now : ℕ) (t : EndTurn Fields) (x y : EndState) → UpperTurned t x y
    → UpperTurned (turn_then t (count_turn answer long now)) x y
upper-counts answer long now t x y h =
    upper-beside t (λ v. record v { parts = with_step answer long (now - v.machine.confirmed_at) v.parts }) x y
    (beside-stands t.left y t.left.departed (with_step answer long (now - t.left.machine.confirmed_at) t.left.parts)
    h.stands) h

upper-goes_up : (before : ConnectionState) (v : Fields) (x : EndState) → UpperRepresent v x
    → UpperTurned (up_turn before v) x (rises_from before x)
upper-goes_up before v x h =
    let a = comes_up before v.machine.connection in
    let b = comes_up before x.machine.connection in
    upper-session (bring_up a (dialogue_of v)) (bring_up b x.session) v x (put-rises b x.session)
    (rides-rises a b x.session.history.taken (dialogue_of v) x.session
    (ap (λ (m : View). comes_up before m.connection) h.machine) (rides-here v x h)) h

upper-part : (now : ℕ) (octets : List ℕ) (v : Fields) (x : EndState) → UpperRepresent v x
    → UpperTurned (part_turn now octets v) x (end_part now octets x)
upper-part now octets v x h =
    let before = v.machine.connection in
    let heard = upper-hears now octets v x h in
    let why = (judge_part now octets v).leaving in
    let asked = (judge_units (handed_up x (arrive_octets octets now x.machine)) x.session).leaving in
    let t0 = judge_turn now octets v in
    let t1 = turn_then t0 (note_request_turn before octets) in
    let t2 = turn_then t1 (up_turn before) in
    let t3 = turn_then t2 (leave_turn now why) in
    let x0 : EndState = heard_alone now octets x in
    let x1 : EndState = noted_from before octets x0 in
    let x2 : EndState = rises_from before x1 in
    let x3 : EndState = end_leave_turn now asked x2 in
    let h1 = upper-then t0 (note_request_turn before octets) x x0 x1 heard.0
    (upper-notes before octets t0.left x0 heard.0.stands) in
    let h2 = upper-then t1 (up_turn before) x x1 x2 h1 (upper-goes_up before t1.left x1 h1.stands) in
    let h3 = upper-then t2 (leave_turn now why) x x2 x3 h2 (upper-leaves now why asked t2.left x2 heard.1 h2.stands) in
    let h4 = upper-then t3 end_session_turn x x3 (settle x3) h3 (upper-settles t3.left x3 h3.stands) in
    subst (UpperTurned (part_turn now octets v) x)
    (ap (λ (q : ConnectionState). settle (end_leave_turn now asked (rises_from q (noted_from q octets x0))))
    (ap (λ (m : View). m.connection) h.machine)
    ∙ sym (part-is now octets x))
    (upper-counts (decoded_answer (safe_seen v.machine.settings.rule octets) now v.machine) (waiting_time now v) now
    (turn_then (turn_then t3 end_session_turn) (departure_turn (closing_departure now octets v))) x (settle x3)
    (upper-departs (closing_departure now octets v) (turn_then t3 end_session_turn) x (settle x3) h4))

upper-parts : (now : ℕ) (ps : List Part) (v : Fields) (x : EndState) → UpperRepresent v x
    → UpperTurned (parts_turn now ps v) x (end_parts now ps x)
upper-parts now [] v x h = upper-still v x h
upper-parts now (p ∷ ps) v x h =
    let t = part_turn now p.1 v in
    let y : EndState = end_part now p.1 x in
    let one = upper-part now p.1 v x h in
    upper-then t (parts_turn now ps) x y (end_parts now ps y) one (upper-parts now ps t.left y one.stands)

-- a unit goes out, and what is left of the messages
abbrev sent_out : List ℕ → List (List ℕ) → ℕ → EndState → EndState
sent_out unit rest now x =
    record x { machine = send unit now x.machine; session = record { history = x.session.history; waiting = rest } }

upper-packs : (now : ℕ) (v : Fields) (x : EndState) → UpperRepresent v x
    → UpperTurned (pack_turn now v) x (step (pack_turn now) x)
upper-packs now v x h =
    let unit = unit_text (take v.max v.waiting) in
    let rest = drop v.max v.waiting in
    let y : EndState = with_machine (send unit now x.machine) x in
    let z : EndState = sent_out unit rest now x in
    let t = machine_turn (machine_move (Sends unit now) v.machine) v in
    let one = upper-move (Sends unit now) v x h.has_made h in
    let s = one.stands in
    let behind : UpperTurned (end_still (record t.left { waiting = rest })) y z =
    record {
      stands = record {
        machine = s.machine;
        has_made = s.has_made;
        speaks = record { state = s.speaks.state; waits = refl };
        request = s.request;
        numbers = s.numbers;
        count = s.count;
        max = s.max;
        accepted = s.accepted;
        made = s.made;
        rule = s.rule;
        t_max = s.t_max;
      };
      red = refl;
      grew = record {
        settings = refl;
        more = [];
        made = sym (append-nil y.machine.made);
        sent = refl;
        taken = sym (append-nil x.session.history.taken);
      };
    } in
    let is : z ≡ packed now x =
    ap (λ n. sent_out (unit_text (take n v.waiting)) (drop n v.waiting) now x) h.max
    ∙ ap (λ ws. sent_out (unit_text (take x.settings.n_maxpacket ws)) (drop x.settings.n_maxpacket ws) now x)
    h.speaks.waits in
    subst (UpperTurned (pack_turn now v) x) (is ∙ sym (packed-is now x))
    (upper-then t (λ w. end_still (record w { waiting = rest })) x y z one behind)

upper-up_to : (n now : ℕ) (v : Fields) (x : EndState) → UpperRepresent v x
    → UpperTurned (pack_up_to_turn n now v) x (pack_by by_steps n now x)
upper-up_to zero now v x h = upper-still v x h
upper-up_to (suc n) now v x h =
    let t = pack_turn now v in
    let y : EndState = step (pack_turn now) x in
    let z : EndState = pack_by by_steps n now y in
    let one = upper-packs now v x h in
    let more = upper-then t (pack_up_to_turn n now) x y z one (upper-up_to n now t.left y one.stands) in
    let nil = is_nil x.session.waiting in
    let can : can_pack v ≡ can_pack (fields_kept x) =
    ap (λ ws. not (is_nil ws) && has_room v.machine) h.speaks.waits
    ∙ ap (λ (m : View). not nil && has_room m) h.machine in
    choose (λ q w. UpperTurned q x w) (can_pack v) (can_pack (fields_kept x)) (turn_then t (pack_up_to_turn n now))
    (end_still v) z x can more (upper-still v x h)

upper-sends : (now : ℕ) (v : Fields) (x : EndState) → UpperRepresent v x
    → UpperTurned (send_turn now v) x (end_send_turn now x)
upper-sends now v x h = subst (λ ws. UpperTurned (send_turn now v) x (pack_by by_steps (length ws) now x))
    h.speaks.waits (upper-up_to (length v.waiting) now v x h)

-- an event of the session that knows how many messages wait, and then sending
upper-event : (event : ℕ → Event) (n now : ℕ) (v : Fields) (x : EndState)
    → n ≡ cap_count (length (process_event (event (length x.session.waiting)) x.session).history.put)
    → UpperRepresent v x
    → UpperTurned (turn_then (session_turn (process_event (event (length v.waiting)) (dialogue_of v))
    (record v { accepted = n })) (send_turn now)) x
    (end_send_turn now (with_session (process_event (event (length x.session.waiting)) x.session) x))
upper-event event n now v x c h =
    let d = process_event (event (length v.waiting)) (dialogue_of v) in
    let e = process_event (event (length x.session.waiting)) x.session in
    let before = x.session.history.taken in
    let rides : Rides before d e =
    subst (λ ws. Rides before d (process_event (event (length ws)) x.session)) h.speaks.waits
    (rides-meets (event (length v.waiting)) before (dialogue_of v) x.session (rides-here v x h)) in
    let y : EndState = with_session e x in
    let one = upper-counted n d e v x c rides h in
    let t = session_turn d (record v { accepted = n }) in
    upper-then t (send_turn now) x y (end_send_turn now y) one (upper-sends now t.left y one.stands)

-- a telegram that is put is counted
puts-counted : (kind : ℕ) (payload : List ℕ) (v : Fields) (x : EndState) → UpperRepresent v x
    → min (v.accepted + length (put_by (Puts kind payload (length v.waiting)) v.session)) (2 ^ 64 - 1)
    ≡ cap_count (length (process_event (Puts kind payload (length x.session.waiting)) x.session).history.put)
puts-counted kind payload v x h =
    let before = x.session.history.put in
    let more = put_by (Puts kind payload (length x.session.waiting)) (session_in x.session) in
    ap (λ (n : ℕ). min (n + length (put_by (Puts kind payload (length v.waiting)) v.session)) (2 ^ 64 - 1)) h.accepted
    ∙ ap (λ s. min (cap_count (length before) + length (put_by (Puts kind payload (length v.waiting)) s)) (2 ^ 64 - 1))
    h.speaks.state
    ∙ ap (λ (ws : List (List ℕ)). min (cap_count (length before)
    + length (put_by (Puts kind payload (length ws)) (session_in x.session))) (2 ^ 64 - 1))
    h.speaks.waits
    ∙ counted-more (length before) (length more) ∙ ap cap_count (sym (length-append before more))

-- All layers.
whole-still : (v : Inside) (x : EndState) → LayersRepresent v x → LeadsByTurn (end_still v) x x
whole-still v x h = record { stands = h; grew = grew-none v x }

whole-then : (t : EndTurn Inside) (next : Inside → EndTurn Inside) (x y z : EndState) → LeadsByTurn t x y
    → LeadsByTurn (next t.left) y z → LeadsByTurn (turn_then t next) x z
whole-then t next x y z h k = record { stands = k.stands; grew = grew-then t next x y z h.grew k.grew }

whole-above : (next : Fields → EndTurn Fields) (v : Inside) (x y : EndState) → LayersRepresent v x
    → UpperTurned (next v.upper) x y → LeadsByTurn (upper_turn next v) x y
whole-above next v x y h k =
    record {
      stands = record { red = h.red ∙ sym k.red; upper = k.stands };
      grew = record {
        settings = k.grew.settings;
        more = k.grew.more;
        made = k.grew.made;
        sent = k.grew.sent;
        taken = k.grew.taken;
      };
    }

whole-receives : (now : ℕ) (i : Input) (v : Inside) (x : EndState) → LayersRepresent v x
    → LeadsByTurn (input_turn now i v) x (end_input_turn now i x)
whole-receives now i v x h =
    let y : EndState = with_input i x in
    let s = h.upper in
    let noted_too : UpperRepresent v.upper y =
    record {
      machine = s.machine;
      has_made = s.has_made;
      speaks = s.speaks;
      request = s.request;
      numbers = s.numbers;
      count = s.count;
      max = s.max;
      accepted = s.accepted;
      made = s.made;
      rule = s.rule;
      t_max = s.t_max;
    } in
    let k = subst (λ (r : Receiver). UpperTurned (parts_turn now (parts_passed i v.red) v.upper) y
    (end_parts now (parts_passed i r) y)) h.red
    (upper-parts now (parts_passed i v.red) v.upper y noted_too) in
    record {
      stands = record { red = ap (red_after i) h.red ∙ sym k.red; upper = k.stands };
      grew = record {
        settings = k.grew.settings;
        more = k.grew.more;
        made = k.grew.made;
        sent = k.grew.sent;
        taken = k.grew.taken;
      };
    }

over-is : (v : Inside) (x : EndState) → LayersRepresent v x → is_over v ≡ is_shut x
over-is v x h = ap (λ (m : View). is_closed m.connection) h.upper.machine

whole-goes_on : (now : ℕ) (i : Input) (v : Inside) (x : EndState) → LayersRepresent v x
    → LeadsByTurn (input_and_send_turn now i v) x (input_and_send_by whole_way now i x)
whole-goes_on now i v x h =
    let t = input_turn now i v in
    let y : EndState = end_input_turn now i x in
    let one = whole-receives now i v x h in
    let more = whole-then t (upper_turn (send_turn now)) x y (end_send_turn now y) one
    (whole-above (send_turn now) t.left y (end_send_turn now y) one.stands
    (upper-sends now t.left.upper y one.stands.upper)) in
    choose (λ q w. LeadsByTurn q x w) (is_over v) (is_shut x) (end_still v) (turn_then t (upper_turn (send_turn now))) x
    (end_send_turn now y)
    (over-is v x h) (whole-still v x h) more

-- the machine first, and then what follows
whole-first : (m : Move) (now : ℕ) (i : Input) (v : Inside) (x y : EndState) → y ≡ moved m x → MaySend m v.upper.machine
    → LayersRepresent v x
    → LeadsByTurn
    (if is_over v then end_still v else turn_then
    (upper_turn (λ w. turn_then (turn_then (machine_turn (machine_move m w.machine) w) end_session_turn)
    (departure_turn (own_departure (overdue now w.machine) now))) v)
    (input_and_send_turn now i)) x
    (if is_shut x then x else input_and_send_by whole_way now i y)
whole-first m now i v x y is may h =
    let cause = own_departure (overdue now v.upper.machine) now in
    let next = λ (w : Fields). turn_then (turn_then (machine_turn (machine_move m w.machine) w) end_session_turn)
    (departure_turn (own_departure (overdue now w.machine) now)) in
    let t = upper_turn next v in
    let one = whole-above next v x y h
    (subst (UpperTurned (next v.upper) x) (sym is)
    (upper-departs cause _ x (moved m x) (upper-moved m v.upper x may h.upper))) in
    choose (λ q w. LeadsByTurn q x w) (is_over v) (is_shut x) (end_still v) (turn_then t (input_and_send_turn now i)) x
    (input_and_send_by whole_way now i y) (over-is v x h)
    (whole-still v x h)
    (whole-then t (input_and_send_turn now i) x y (input_and_send_by whole_way now i y) one
    (whole-goes_on now i t.left y one.stands))

pub turns_did : (c : Call) (v : Inside) (x : EndState) → LayersRepresent v x
    → LeadsByTurn (turn c v) x (call_by whole_way c x)
turns_did (Close now) v x h = whole-above (close_turn now) v x (step (close_turn now) x) h
    (subst (UpperTurned (close_turn now v.upper) x) (sym (closed-is now x))
    (upper-departs _ _ x (moved (Leaves ClosedByUser Unspecified now) x)
    (upper-moved (Leaves ClosedByUser Unspecified now) v.upper x tt h.upper)))
turns_did (Put kind payload now) v x h =
    whole-above (put_turn kind payload now) v x (call_by whole_way (Put kind payload now) x) h
    (subst (λ (y : EndState). UpperTurned (put_turn kind payload now v.upper) x (end_send_turn now y))
    (sym (queued-is kind payload x))
    (upper-event (λ n. Puts kind payload n) _ now v.upper x (puts-counted kind payload v.upper x h.upper) h.upper))
turns_did (InitDone now) v x h = whole-above (init_done_turn now) v x (call_by whole_way (InitDone now) x) h
    (subst (λ (y : EndState). UpperTurned (init_done_turn now v.upper) x (end_send_turn now y)) (sym (finished-is x))
    (upper-event (λ n. Completes n) v.upper.accepted now v.upper x
    (h.upper.accepted ∙ ap (λ (is : List Item). cap_count (length is)) (sym (append-nil x.session.history.put)))
    h.upper))
turns_did (Tick now) v x h = whole-first (Ticks now) now (RedTick now) v x (tick_step now x) (ticked-is now x) tt h
turns_did (Deliver channel octets now) v x h =
    whole-first (Guards now) now (Datagram octets now) v x (guard_step now x) (guarded-is now x) tt h

-- the time of a call does not change what the layers represent
timed : (v : Inside) (x : EndState) (time : ℕ) → LayersRepresent v x → LayersRepresent v (record x { time = time })
timed v x time h =
    let u = h.upper in
    record {
      red = h.red;
      upper = record {
        machine = u.machine;
        has_made = u.has_made;
        speaks = u.speaks;
        request = u.request;
        numbers = u.numbers;
        count = u.count;
        max = u.max;
        accepted = u.accepted;
        made = u.made;
        rule = u.rule;
        t_max = u.t_max;
      };
    }

pub turns_law_holds : TurnsLaw
turns_law_holds c v x h =
    let one = turns_did c v x h in
    let g = one.grew in
    record {
      stands = timed _ (call_by whole_way c x) (time_of c) one.stands;
      grew = record { settings = g.settings; more = g.more; made = g.made; sent = g.sent; taken = g.taken };
    }

-- lists of equal length are both empty, or neither is
nil-alike : {X Y : Type 0} (xs : List X) (ys : List Y) → length xs ≡ length ys → is_nil xs ≡ is_nil ys
nil-alike [] [] e = refl
nil-alike [] (y ∷ ys) e = absurd (omega (arith, e))
nil-alike (x ∷ xs) [] e = absurd (omega (arith, e))
nil-alike (x ∷ xs) (y ∷ ys) e = refl

-- the commands or status counted are those found
items-append : (ms ns : List (List ℕ)) → items_in (ms ++ ns) ≡ items_in ms + items_in ns
items-append [] ns = omega arith
items-append (m ∷ ms) ns = let k = items-append ms ns in omega (arith, k)

items-found : (r : Result Tele TeleFault) (ts : List Tele)
    → length (items_of (found_telegram r ++ ts)) ≡ (if is_item r then 1 else 0) + length (items_of ts)
items-found (Ok t) ts = by_kind (is_reserved t.kind)
  where
    by_kind : (b : Bool) → length (if b then items_of ts else item_of t ∷ items_of ts)
        ≡ (if not b then 1 else 0) + length (items_of ts)
    by_kind true = omega arith
    by_kind false = omega arith
items-found (Err fault) ts = omega arith

items-counted : (ms : List (List ℕ)) → items_in ms ≡ length (items_of (telegrams_in ms))
items-counted [] = refl
items-counted (m ∷ ms) =
    ap (λ n. (if is_item (tele_seen m) then 1 else 0) + n) (items-counted ms)
    ∙ sym (items-found (tele_seen m) (telegrams_in ms))

items-read : (r : Result (List (List ℕ)) PackFault) → items_read r ≡ items_in (found_messages r)
items-read (Ok ms) = refl
items-read (Err fault) = refl

units-counted : (us : List (List ℕ)) → items_in_units us ≡ items_in (messages_in us)
units-counted [] = refl
units-counted (u ∷ us) =
    ap (λ n. n + items_in_units us) (items-read (unit_seen u))
    ∙ ap (λ n. items_in (found_messages (unit_seen u)) + n) (units-counted us)
    ∙ sym (items-append (found_messages (unit_seen u)) (messages_in us))

confirmed-tells : (v : Fields) (x : EndState) → UpperRepresent v x → confirmed_in v ≡ confirmed_of x
confirmed-tells v x h =
    let held : octets_of v.machine.ring ≡ unconfirmed x.machine = ap (λ (m : View). octets_of m.ring) h.machine
    ∙ ring_of-units x.machine in
    let units = ap items_in_units held ∙ units-counted (unconfirmed x.machine)
    ∙ items-counted (messages_in (unconfirmed x.machine)) in
    let waits = ap items_in h.speaks.waits ∙ items-counted x.session.waiting in
    ap (λ n. n - (items_in v.waiting + items_in_units (octets_of v.machine.ring))) h.accepted
    ∙ ap (λ n. cap_count (length x.session.history.put) - (n + items_in_units (octets_of v.machine.ring))) waits
    ∙ ap (λ n. cap_count (length x.session.history.put) - (length (items_waiting x) + n)) units

pub tells_law_holds : DeterminesLaw
tells_law_holds v x h =
    let u = h.upper in
    let count = (machine_tells v.upper.machine x.machine u.machine).awaiting in
    let waiting = v.upper.waiting in
    let ring = v.upper.machine.ring in
    record {
      settled =
          ap (λ (m : View). not (is_closed m.connection) && (is_nil waiting && is_nil ring)) u.machine
          ∙ (ap (λ (ws : List (List ℕ)). not (is_shut x) && (is_nil ws && is_nil ring)) u.speaks.waits
          ∙ ap (λ (b : Bool). not (is_shut x) && (is_nil x.session.waiting && b))
          (nil-alike ring (unconfirmed x.machine) count));
      unconfirmed = count;
      confirmed = confirmed-tells v.upper x u;
      quiet = λ now. quiet-tick now v.upper.machine x.machine u.machine;
      fallen = λ now. fallen-tick now v.upper.machine x.machine u.machine;
    }

pub last_law_holds : LastLaw
last_law_holds kind payload now x accepted = puts-last kind payload now x accepted

pub any_channel_law_holds : AnyChannelLaw
any_channel_law_holds channel other octets now v = refl

-- a turn of the layers of an end is its turn
pub layers-turn : {C A T : Type 0} (told : C → ChannelHistory) (takes : T → Item → T → Type 0) (next : Inside
    → EndTurn Inside) (l m : Layers C A) (time now : ℕ)
    (r s : DatagramCounts) (v : EndValue C A) (t u : T) → record { layers = l; time = time; receptions = r } ≡ v
    → LayersTakeTurn told takes next l t m u
    → EndTakesTurn told takes next v t (record { layers = m; time = now; receptions = s }) u
layers-turn {C} {A} told takes next l m time now r s v t u e h =
    let w : EndValue C A = record { layers = m; time = now; receptions = s } in
    subst (λ q. EndTakesTurn told takes next q t w u) e h
