-- What an end does in one call: what it keeps afterwards, and the PDUs that it made, in order
-- (safety and retransmission layer of DIN VDE V 0831-200:2015).
use Rattle.std.specs.Prelude.{ℕ, ◌+◌, ◌%◌, ◌&&◌, nat_le, nat_lt, Bool, List, [], ◌∷◌, ◌++◌, length, if◌then◌else◌}
use Rattle.std.specs.List.{FoldsTo}
use Rattle.safe_machine.specs.retrans.Units.{above, octets_of, renumber_units}
use Rattle.safe_pdu.specs.declared.Kind.{Kind}
use Rattle.safe_pdu.specs.declared.Kind.TheVariants.{ConnReq, ConnResp, RetrReq, RetrResp, DiscReq, Heartbeat, Data, RetrData}
use Rattle.safe_pdu.specs.declared.CodeRule.{CodeRule}
use Rattle.safe_pdu.specs.Pdu.{Pdu}
use Rattle.safe_pdu.specs.Bodies.{window_of}
use Rattle.safe_machine.specs.declared.ConnectionState.{ConnectionState}
use Rattle.safe_machine.specs.declared.ConnectionState.TheVariants.{Closed, Down, Start, Up, RetrReq as Requesting, RetrRun}
use Rattle.safe_pdu.specs.declared.reasons.Reason.{Reason}
use Rattle.safe_pdu.specs.declared.reasons.Reason.TheVariants.{WrongVersion}
use Rattle.safe_pdu.specs.declared.reasons.Detail.{Detail}
use Rattle.safe_pdu.specs.declared.reasons.Detail.TheVariants.{Unspecified}
use Rattle.safe_machine.specs.declared.arrival.Decision.{Decision}
use Rattle.safe_machine.specs.declared.arrival.Decision.TheVariants.{Nothing, Drops, Shuts, Leaves, Rejects, Accepts, Connects, Takes, Asks, Resumes, AnswersNext, AnswersEarly}
use Rattle.octets.specs.declared.limits.TheConstants.{WINDOW_MAX}
use Rattle.safe_machine.specs.Connections.{in_turn, is_live}
use Rattle.safe_machine.specs.Deadlines.{beat_due, by_guard}
use Rattle.safe_machine.specs.Decision.{answer_of, cs_step, cts_step, decide, distance}
use Rattle.safe_machine.specs.Made.{Made, is_carrier_kind, leaving_body, opening_body}
use Rattle.safe_machine.specs.Numbers.{sn_of, wrap}
use Rattle.safe_machine.specs.Settings.{Settings}
use Rattle.safe_machine.specs.declared.Step.{Step as Outcome}
use Rattle.safe_machine.specs.declared.Step.TheVariants.{Left}
use Rattle.safe_machine.specs.View.{View, texts}

-- The result of a turn.
pub record Turn : Type 0 where
  -- What is kept afterwards.
  pub left : View
  -- The PDUs made, in order.
  pub made : List Made

-- Nothing is made.
abbrev pub still : View → Turn
still v = record { left = v; made = [] }

-- One turn, and then another.
abbrev pub goes_on : Turn → (View → Turn) → Turn
goes_on t next = record { left = (next t.left).left; made = t.made ++ (next t.left).made }

-- The next PDU.
abbrev pub next_made : View → Kind → List ℕ → ℕ → Made
next_made v kind body now =
    record {
      pdu =
          record {
            kind = kind;
            receiver = v.settings.peer;
            sender = v.settings.own;
            sn = sn_of v.first v.made;
            cs = v.last_sn;
            ts = now % wrap;
            cts = v.last_ts;
            body = body;
          };
      time = now;
      behind = v.expected;
    }

-- A PDU is counted: one more is made, at this time, and no unit is taken since.
abbrev pub count_pdu : ℕ → View → View
count_pdu now v = record v { made = v.made + 1; last_made = now; since = 0 }

-- A PDU is made: a sending.
abbrev pub sending_turn : Kind → List ℕ → ℕ → View → Turn
sending_turn kind body now v = record { left = count_pdu now v; made = next_made v kind body now ∷ [] }

-- The state of the connection changes after the PDUs were made.
abbrev pub moved_to : ConnectionState → Turn → Turn
moved_to connection t = record { left = record t.left { connection = connection }; made = t.made }

-- A DiscReq if there is a connection, and Closed.
abbrev pub leave_turn : Reason → Detail → ℕ → View → Turn
leave_turn reason detail now v =
    moved_to Closed (if is_live v.connection then sending_turn DiscReq (leaving_body reason detail) now v else still v)

-- A retransmission is requested.
abbrev pub request_turn : ℕ → View → Turn
request_turn now v = moved_to Requesting (sending_turn RetrReq [] now v)

-- Everything up to the PDU at distance d is passed.
abbrev pub move_past : Pdu → ℕ → View → View
move_past p d v = record v { expected = v.expected + d + 1; last_sn = p.sn; last_ts = p.ts }

-- The peer's window is set.
abbrev pub with_window : ℕ → View → View
with_window window v = record v { window = window }

-- The confirmed number moves on, and the units up to it are dropped.
abbrev pub units_confirmed : Pdu → View → View
units_confirmed p v =
    record v { confirmed = v.confirmed + cs_step v p; ring = above (v.confirmed + cs_step v p) v.ring }

-- The confirmed number and the confirmed time move on, and the units up to that number are dropped.
abbrev pub both_confirmed : Pdu → View → View
both_confirmed p v =
    record v {
      confirmed = v.confirmed + cs_step v p;
      ring = above (v.confirmed + cs_step v p) v.ring;
      confirmed_at = v.confirmed_at + cts_step v p;
    }

-- Everything up to the PDU with this index, the last one made, is confirmed. So no unit is unconfirmed.
abbrev pub confirmed_to : ℕ → ℕ → Turn → Turn
confirmed_to index now t =
    record { left = record t.left { confirmed = index; confirmed_at = now; ring = [] }; made = t.made }

-- A RetrReq at distance d was handled.
abbrev pub mark_answered : ℕ → View → View
mark_answered d v = record v { answered = v.expected + d }

-- A ConnReq is rejected because of its version.
abbrev pub rejection_turn : Pdu → ℕ → View → Turn
rejection_turn p now v =
    moved_to Closed (sending_turn DiscReq (leaving_body WrongVersion Unspecified) now (move_past p 0 v))

-- A ConnReq is accepted.
abbrev pub acceptance_turn : Pdu → ℕ → View → Turn
acceptance_turn p now v =
    moved_to Start (confirmed_to v.made now
    (sending_turn ConnResp (opening_body v.settings.n_sendmax) now (with_window (window_of p.body) (move_past p 0 v))))

-- The ConnResp has come.
abbrev pub connection_turn : Pdu → ℕ → View → Turn
connection_turn p now v =
    moved_to Up (sending_turn Heartbeat [] now (with_window (window_of p.body) (move_past p 0 (both_confirmed p v))))

-- A unit is delivered, and a heartbeat is made if it is the mwa-th since the last sending.
abbrev pub take_unit_turn : Pdu → ℕ → View → Turn
take_unit_turn p now v =
    let u = record v { since = v.since + 1 } in
    if is_carrier_kind p.kind then (if nat_le v.settings.mwa u.since then sending_turn Heartbeat [] now u else still u)
    else still v

-- A PDU is taken, and leads to this state.
abbrev pub take_next_turn : ConnectionState → Pdu → ℕ → View → Turn
take_next_turn connection p now v =
    take_unit_turn p now (record (move_past p 0 (both_confirmed p v)) { connection = connection })

-- The RetrResp to the own request has come.
abbrev pub resume : Pdu → View → View
resume p v = record (move_past p (distance v p) (both_confirmed p v)) { connection = RetrRun }

-- Units are sent again, as RetrData.
abbrev pub resend_turn : List (List ℕ) → ℕ → View → Turn
resend_turn [] now v = still v
resend_turn (unit ∷ units) now v = goes_on (sending_turn RetrData unit now v) (resend_turn units now)

-- The units of the ring get the numbers from this one on.
abbrev pub renumber_ring : ℕ → View → View
renumber_ring first v = record v { ring = renumber_units first (octets_of v.ring) }

-- A RetrResp, each unconfirmed unit as RetrData, and a heartbeat.
abbrev pub reply_turn : ℕ → View → Turn
reply_turn now v =
    goes_on (sending_turn RetrResp [] now v)
    (λ w. goes_on (resend_turn (octets_of w.ring) now w) (λ u. sending_turn Heartbeat [] now (renumber_ring w.made u)))

-- The answer to a RetrReq that is the next PDU.
abbrev pub answer_next_turn : Pdu → ℕ → View → Turn
answer_next_turn p now v = reply_turn now (move_past p 0 (mark_answered 0 (both_confirmed p v)))

-- The answer to a RetrReq that is not the next PDU.
abbrev pub answer_ahead_turn : Pdu → ℕ → View → Turn
answer_ahead_turn p now v = reply_turn now (mark_answered (distance v p) (units_confirmed p v))

-- The same answer, and then a request of its own if the end takes units in order.
abbrev pub answer_early_turn : Pdu → ℕ → View → Turn
answer_early_turn p now v =
    if in_turn v.connection then goes_on (answer_ahead_turn p now v) (request_turn now) else answer_ahead_turn p now v

-- What an end does by its decision.
abbrev pub decision_turn : Pdu → ℕ → Decision → View → Turn
decision_turn p now Nothing v = still v
decision_turn p now (Drops cause) v = still v
decision_turn p now Shuts v = moved_to Closed (still v)
decision_turn p now (Leaves reason detail) v = leave_turn reason detail now v
decision_turn p now Rejects v = rejection_turn p now v
decision_turn p now Accepts v = acceptance_turn p now v
decision_turn p now Connects v = connection_turn p now v
decision_turn p now (Takes connection) v = take_next_turn connection p now v
decision_turn p now Asks v = request_turn now v
decision_turn p now Resumes v = still (resume p v)
decision_turn p now AnswersNext v = answer_next_turn p now v
decision_turn p now AnswersEarly v = answer_early_turn p now v

-- The timeout check: T_max, then the limit of PDUs.
abbrev pub guard_turn : ℕ → View → Turn
guard_turn now v = by_guard now v (λ reason detail. leave_turn reason detail now v) (still v)

-- An arrival after the timeout check.
abbrev pub response_turn : Pdu → ℕ → View → Turn
response_turn p now v = decision_turn p now (decide v p now) v

-- An arrival.
abbrev pub arrival_turn : Pdu → ℕ → View → Turn
arrival_turn p now v = goes_on (guard_turn now v) (response_turn p now)

-- The given step, unless the timeout check disconnects.
abbrev pub unless_guarded : ℕ → View → Outcome → Outcome
unless_guarded now v answer = by_guard now v Left answer

-- The step that is reported for an arrival.
abbrev pub arrive_answer : Pdu → ℕ → View → Outcome
arrive_answer p now v = unless_guarded now v (answer_of (decide v p now))

-- A heartbeat if one is due.
abbrev pub heartbeat_turn : ℕ → View → Turn
heartbeat_turn now v = if beat_due now v then sending_turn Heartbeat [] now v else still v

-- Time passes.
abbrev pub tick_turn : ℕ → View → Turn
tick_turn now v = goes_on (guard_turn now v) (heartbeat_turn now)

-- Units are sent in order, and fewer are unconfirmed than the peer's window.
abbrev pub is_open : ConnectionState → (awaiting window : ℕ) → Bool
is_open connection awaiting window = in_turn connection && nat_lt awaiting window

-- A unit may be sent.
abbrev pub has_room : View → Bool
has_room v = is_open v.connection (length v.ring) v.window

-- A unit is sent, and kept under the number of its PDU.
abbrev pub send_unit_turn : List ℕ → ℕ → View → Turn
send_unit_turn unit now v =
    let t = sending_turn Data unit now v in
    record { left = record t.left { ring = v.ring ++ record { number = v.made; octets = unit } ∷ [] }; made = t.made }

-- The same if a unit may be sent, otherwise nothing.
abbrev pub send_turn : List ℕ → ℕ → View → Turn
send_turn unit now v = if has_room v then send_unit_turn unit now v else still v

-- An end that has made nothing.
abbrev pub new_view : Settings → ℕ → ℕ → ConnectionState → View
new_view settings first now connection =
    record {
      settings = settings;
      first = first;
      connection = connection;
      made = 0;
      last_made = 0;
      since = 0;
      expected = 0;
      last_sn = 0;
      last_ts = 0;
      confirmed = 0;
      confirmed_at = now;
      answered = 0;
      window = 0;
      ring = [];
      room = WINDOW_MAX;
    }

-- An opening: the client requests the connection, the server waits.
abbrev pub opening_turn : Settings → ℕ → ℕ → Turn
opening_turn settings first now =
    if settings.client
    then sending_turn ConnReq (opening_body settings.n_sendmax) now (new_view settings first now Start)
    else still (new_view settings first now Down)

-- The unit that a PDU carries.
abbrev pub carried_unit : Pdu → List (List ℕ)
carried_unit p = if is_carrier_kind p.kind then p.body ∷ [] else []

-- The units that a decision hands up.
abbrev pub handed_by : Decision → Pdu → List (List ℕ)
handed_by (Takes connection) p = carried_unit p
handed_by _ p = []

-- The units that an arrival hands up.
abbrev pub handed_units : Pdu → ℕ → View → List (List ℕ)
handed_units p now v = by_guard now v (λ reason detail. []) (handed_by (decide v p now) p)

-- The PDUs of the turn were handed out, encoded and in order.
abbrev pub Out : {O : Type 0} → (O → List ℕ → O → Type 0) → CodeRule → O → Turn → O → Type 0
Out makes rule before t after = FoldsTo makes before (texts rule t.made) after
