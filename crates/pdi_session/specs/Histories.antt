-- The history of a session: its state, and the lists that its events extend.
use Rattle.std.specs.Prelude.{◌≡◌, ℕ, Bool, true, false, not, ◌&&◌, if◌then◌else◌, List, [], ◌∷◌, ◌++◌, Option, Some, None, is_none}
use Rattle.pdi_session.specs.telegram.Tele.{Tele}
use Rattle.pdi_session.specs.declared.Phase.{Phase}
use Rattle.pdi_session.specs.declared.Phase.TheVariants.{Idle, Ended}
use Rattle.pdi_session.specs.Settings.{Addressing, Role}
use Rattle.pdi_session.specs.SessionStep.{Event, Arrives, Puts, Item, SessionState, added_by, after, end_of, judge_telegram, new_session, phase_after, put_refusal, taken_by, texts}

-- what a session has done, from its creation on
pub record History : Type 0 where
  -- the present state
  pub state : SessionState
  -- the phases it was in, the first one first
  pub phases : List Phase
  -- all telegrams that it added, sent or not
  pub queue : List Tele
  -- the telegrams that arrived
  pub judged : List Tele
  -- the commands or status whose put was accepted
  pub put : List Item
  -- the commands or status that the application took
  pub taken : List Item
  -- the phase in which a telegram ended it, if one did
  pub ended_in : Option Phase

-- the history of a new session
abbrev pub new_history : Addressing → Role → History
new_history addressing role =
    record {
      state = new_session addressing role;
      phases = Idle ∷ [];
      queue = [];
      judged = [];
      put = [];
      taken = [];
      ended_in = None;
    }

-- the telegram that arrives with an event, if any
abbrev pub handed_by : Event → List Tele
handed_by (Arrives t) = t ∷ []
handed_by e = []

-- the command or status of an accepted put
abbrev pub put_by : Event → SessionState → List Item
put_by (Puts kind payload waits) s = if is_none (put_refusal s kind payload waits) then (kind, payload) ∷ [] else []
put_by e s = []

-- the phase is Ended
abbrev pub is_ended : Phase → Bool
is_ended Ended = true
is_ended phase = false

-- an arriving telegram ends a session that is not over
abbrev pub ends_by : Event → SessionState → Bool
ends_by (Arrives t) s = not (is_ended s.phase) && not (is_none (end_of (judge_telegram s t)))
ends_by e s = false

-- the history after one more event
abbrev pub add_event : Event → History → History
add_event e h =
    record {
      state = after e h.state;
      phases = h.phases ++ phase_after e h.state ∷ [];
      queue = h.queue ++ added_by e h.state;
      judged = h.judged ++ handed_by e;
      put = h.put ++ put_by e h.state;
      taken = h.taken ++ taken_by e h.state;
      ended_in = if ends_by e h.state then Some h.state.phase else h.ended_in;
    }

-- the history after a list of events
abbrev pub add_events : List Event → History → History
add_events [] h = h
add_events (e ∷ es) h = add_events es (add_event e h)

-- a session and its waiting messages fit a history: it has this state, and the waiting messages are the last ones of
-- its queue
pub record StandsFor (s : SessionState) (waiting : List (List ℕ)) (h : History) : Type 0 where
  -- the state of the history is that of the session
  pub state : h.state ≡ s
  -- the messages that no longer wait
  pub gone : List (List ℕ)
  -- the queue's messages are those and then the waiting ones
  pub queue : texts h.queue ≡ gone ++ waiting
