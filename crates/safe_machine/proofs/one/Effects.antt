-- What turns do to a history, change by change: the vocabulary of the laws' proofs. `Turns` defines turns; `TurnSteps`
-- proves that a step is one.
use Rattle.std.specs.Prelude.{ℕ, ◌+◌, nat_le, List, [], ◌∷◌, ◌++◌, length, if◌then◌else◌}
use Rattle.safe_pdu.specs.declared.Kind.{Kind}
use Rattle.safe_pdu.specs.declared.Kind.TheVariants.{ConnResp, RetrReq, RetrResp, DiscReq, Heartbeat, RetrData}
use Rattle.safe_pdu.specs.Pdu.{Pdu}
use Rattle.safe_pdu.specs.Bodies.{window_of}
use Rattle.safe_pdu.specs.declared.reasons.Reason.{Reason}
use Rattle.safe_pdu.specs.declared.reasons.Reason.TheVariants.{WrongVersion}
use Rattle.safe_pdu.specs.declared.reasons.Detail.{Detail}
use Rattle.safe_pdu.specs.declared.reasons.Detail.TheVariants.{Unspecified}
use Rattle.safe_machine.specs.declared.ConnectionState.{ConnectionState}
use Rattle.safe_machine.specs.declared.ConnectionState.TheVariants.{Closed, Start, Up, RetrReq as Requesting, RetrRun}
use Rattle.safe_machine.specs.declared.arrival.Decision.{Decision}
use Rattle.safe_machine.specs.declared.arrival.Decision.TheVariants.{Nothing, Drops, Shuts, Leaves, Rejects, Accepts, Connects, Takes, Asks, Resumes, AnswersNext, AnswersEarly}
use Rattle.safe_machine.specs.Connections.{in_turn, is_live}
use Rattle.safe_machine.specs.Deadlines.{beat_due, by_guard}
use Rattle.safe_machine.specs.Decision.{decide, distance}
use Rattle.safe_machine.specs.Made.{Made, is_carrier_kind, leaving_body, opening_body}
use Rattle.safe_machine.specs.Settings.{Settings}
use Rattle.safe_machine.specs.State.{State, unconfirmed}
use Rattle.safe_machine.specs.Step.{history, leave}
use Rattle.safe_machine.specs.Turns.{both_confirmed, count_pdu, next_made as next_of, move_past, mark_answered, units_confirmed, new_view, with_window}
use Rattle.safe_machine.specs.View.{View, kept_of}

-- What is kept changes, and nothing is made or taken.
abbrev pub changes : (View → View) → State → State
changes f s = history (f (kept_of s)) s.made s.taken

-- The PDU that an end makes next.
abbrev pub next_made : State → Kind → List ℕ → ℕ → Made
next_made s = next_of (kept_of s)

-- A PDU is made: a sending.
abbrev pub make : Kind → List ℕ → ℕ → State → State
make kind body now s = history (count_pdu now (kept_of s)) (s.made ++ next_made s kind body now ∷ []) s.taken

-- The state of the connection changes.
abbrev pub move_to : ConnectionState → State → State
move_to connection = changes (λ v. record v { connection = connection })

-- Everything up to the PDU at distance d is passed.
abbrev pub pass : Pdu → ℕ → State → State
pass p d = changes (move_past p d)

-- The unit is delivered.
abbrev pub hand_up : Pdu → State → State
hand_up p s = history (record (kept_of s) { since = s.since + 1 }) s.made (s.taken ++ p.body ∷ [])

-- A RetrReq was handled.
abbrev pub note_request : ℕ → State → State
note_request d = changes (mark_answered d)

-- Units are sent again, as RetrData.
abbrev pub resend : List (List ℕ) → ℕ → State → State
resend [] now s = s
resend (unit ∷ units) now s = resend units now (make RetrData unit now s)

-- RetrResp, each unconfirmed unit as RetrData, HB
abbrev pub reply : ℕ → State → State
reply now s = make Heartbeat [] now (resend (unconfirmed s) now (make RetrResp [] now s))

-- A retransmission is requested.
abbrev pub ask : ℕ → State → State
ask now s = move_to Requesting (make RetrReq [] now s)

-- A DiscReq if there is a connection, and Closed.
abbrev pub left_by : Reason → Detail → ℕ → State → State
left_by reason detail now s =
    move_to Closed (if is_live s.connection then make DiscReq (leaving_body reason detail) now s else s)

-- The confirmed number moves on.
abbrev pub confirm_units : Pdu → State → State
confirm_units p = changes (units_confirmed p)

-- The peer's window is set.
abbrev pub set_window : ℕ → State → State
set_window window = changes (with_window window)

-- Everything up to this index is confirmed.
abbrev pub confirm_to : ℕ → ℕ → State → State
confirm_to index now s = record s { confirmed = index; confirmed_at = now }

-- A heartbeat if the unit just delivered is the mwa-th since the last sending.
abbrev pub beat : ℕ → State → State
beat now s = if nat_le s.settings.mwa s.since then make Heartbeat [] now s else s

-- The unit is delivered, if there is one.
abbrev pub take_unit : Pdu → ℕ → State → State
take_unit p now s = if is_carrier_kind p.kind then beat now (hand_up p s) else s

-- The confirmed number and the confirmed time move on.
abbrev pub tests_passed : Pdu → State → State
tests_passed p = changes (both_confirmed p)

-- The answer to a RetrReq that is not the next PDU.
abbrev pub answered_ahead : Pdu → ℕ → State → State
answered_ahead p now s = reply now (note_request (distance (kept_of s) p) (confirm_units p s))

-- What an end does by its decision.
abbrev pub carry_out : Pdu → ℕ → Decision → State → State
carry_out p now Nothing s = s
carry_out p now (Drops cause) s = s
carry_out p now Shuts s = move_to Closed s
carry_out p now (Leaves reason detail) s = leave reason detail now s
carry_out p now Rejects s = move_to Closed (make DiscReq (leaving_body WrongVersion Unspecified) now (pass p 0 s))
carry_out p now Accepts s =
    move_to Start (confirm_to (length s.made) now
    (make ConnResp (opening_body s.settings.n_sendmax) now (set_window (window_of p.body) (pass p 0 s))))
carry_out p now Connects s =
    move_to Up (make Heartbeat [] now (set_window (window_of p.body) (pass p 0 (tests_passed p s))))
carry_out p now (Takes connection) s = take_unit p now (move_to connection (pass p 0 (tests_passed p s)))
carry_out p now Asks s = ask now s
carry_out p now Resumes s = move_to RetrRun (pass p (distance (kept_of s) p) (tests_passed p s))
carry_out p now AnswersNext s = reply now (pass p 0 (note_request 0 (tests_passed p s)))
carry_out p now AnswersEarly s =
    if in_turn s.connection then ask now (answered_ahead p now s) else answered_ahead p now s

-- The timeout check: T_max, then the limit of PDUs.
abbrev pub guarded : ℕ → State → State
guarded now s = by_guard now (kept_of s) (λ reason detail. leave reason detail now s) s

-- An arrival after the timeout check.
abbrev pub respond : Pdu → ℕ → State → State
respond p now s = carry_out p now (decide (kept_of s) p now) s

-- A heartbeat if one is due.
abbrev pub heartbeat : ℕ → State → State
heartbeat now s = if beat_due now (kept_of s) then make Heartbeat [] now s else s

-- An end when it is opened.
abbrev pub blank : Settings → ℕ → ℕ → ConnectionState → State
blank settings first now connection = history (new_view settings first now connection) [] []
