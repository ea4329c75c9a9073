-- The dialogue that the code's session, with its waiting messages, represents.
use Rattle.std.specs.Prelude.{◌≡◌, ℕ, Option, Some, None, List, ◌++◌, map}
use Rattle.std.specs.Borrow.{Bor}
use Rattle.std.specs.List.{FoldsTo}
use Rattle.pdi_session.specs.packing.Places.{unit_seen}
use Rattle.pdi_session.specs.SessionStep.{Item, SessionState}
use Rattle.stack_end.specs.Dialogue.{Dialogue, Judgement, Leaving, judge_unpacked, judge_as, session_in}

-- a session, its waiting messages, and the taker
pub record Talk (T : Type 0) : Type 0 where
  pub session : SessionState  -- the state of the session
  pub waiting : List (List ℕ)  -- the messages that wait to be sent
  pub taker : T  -- the application

-- the three together
abbrev pub talk : {T : Type 0} → SessionState → List (List ℕ) → T → Talk T
talk session waiting taker = record { session = session; waiting = waiting; taker = taker }

-- the session and its waiting messages represent the dialogue
pub record RepresentsDialogue (session : SessionState) (waiting : List (List ℕ)) (d : Dialogue) : Type 0 where
  pub state : session ≡ session_in d  -- its present state
  pub waits : waiting ≡ d.waiting  -- its waiting messages

-- the taker got, in order, what the application takes between two dialogues
pub record TakesBetween {T : Type 0} (takes : T → Item → T → Type 0) (before : T) (d e : Dialogue) (after : T) : Type 0
  where
    pub more : List Item  -- what it takes
    pub grown : e.history.taken ≡ d.history.taken ++ more  -- the history has grown by it
    pub handed : FoldsTo takes before more after  -- the taker got each of it

-- from one dialogue to another, for the session and for its taker
pub record LeadsToDialogue {T : Type 0} (takes : T → Item → T → Type 0) (d e : Dialogue) (s t : Talk T) : Type 0 where
  pub speaks : RepresentsDialogue t.session t.waiting e  -- the session represents the second
  pub took : TakesBetween takes s.taker d e t.taker  -- the taker got what was taken between them

-- of any dialogue that they represented, they now represent what judging leaves, with this reason to disconnect
abbrev pub JudgesDialogue : {T : Type 0} → (T → Item → T → Type 0) → (Dialogue → Judgement) → Talk T → Talk T
    → Option Leaving → Type 0
JudgesDialogue takes judge s t asked =
    (d : Dialogue) → RepresentsDialogue s.session s.waiting d → LeadsToDialogue takes d (judge d).left s t
    × (asked ≡ (judge d).leaving)

-- a unit is judged only if the end did not have to disconnect before
abbrev pub judge_next : Option Leaving → List ℕ → Dialogue → Judgement
judge_next (Some why) unit d = judge_as why d
judge_next None unit d = judge_unpacked (unit_seen unit) d

-- the bytes of messages, without their places in memory
abbrev pub texts_of : List (Bor (List ℕ)) → List (List ℕ)
texts_of messages = map (λ (m : Bor (List ℕ)). m.now) messages
