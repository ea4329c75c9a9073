-- Worlds at which one clause of nothing lost is false while its other clauses hold. Every PDU has arrived there.
use Rattle.std.specs.Prelude.{ℕ, Some, List, [], ◌∷◌}
use Rattle.safe_pdu.specs.declared.Kind.TheVariants.{RetrReq}
use Rattle.safe_machine.specs.declared.ConnectionState.{ConnectionState}
use Rattle.safe_machine.specs.declared.ConnectionState.TheVariants.{Closed, Start, Up}
use Rattle.safe_machine.specs.Made.{Made}
use Rattle.pdi_session.specs.declared.Phase.{Phase}
use Rattle.pdi_session.specs.declared.Phase.TheVariants.{Initialising, Established}
use Rattle.pdi_session.specs.SessionStep.{Item}
use Rattle.pdi_session.specs.telegram.TeleText.{tele_text}
use Rattle.stack_end.specs.Ends.{EndState}
use Rattle.stack_engine.specs.Pairs.{World}
use Rattle.stack_engine.specs.Faithful.{Match, AllThere, NothingLost, IlWaits, FeWaits, IlKeeps, FeKeeps, CommandsThere, StatusThere, IlUp, FeUp, StayInStep}
use Rattle.stack_engine.specs.Instances.{joined_to, one, world_of}

-- an end with this identifier and name, and those of its peer: the two ends of a connection match
abbrev pub with_identity : (own peer : ℕ) → EndState → EndState
with_identity own peer x =
    record x {
      settings =
          record x.settings {
            connection = record x.settings.connection { own = own; peer = peer };
            addressing = record x.settings.addressing { own = own ∷ []; peer = peer ∷ [] };
            versions = 3 ∷ [];
          };
    }

-- the history of an end that made no PDU
pub record Course : Type 0 where
  pub connection : ConnectionState  -- the state of its connection
  pub phase : Phase  -- the phase of its session
  pub put : List Item  -- the telegrams put
  pub taken : List Item  -- the telegrams taken
  pub waiting : List (List ℕ)  -- the messages that wait
  pub window : ℕ  -- the most units that may be unconfirmed

-- an end with this history
abbrev pub with_course : Course → EndState → EndState
with_course c x =
    record x {
      machine = record x.machine { connection = c.connection; made = []; confirmed = 0; window = c.window };
      session =
          record {
            history =
                record x.session.history {
                  state = record x.session.history.state { phase = c.phase };
                  phases = Established ∷ [];
                  put = c.put;
                  taken = c.taken;
                };
            waiting = c.waiting;
          };
    }

-- established, and nothing else
abbrev pub plain : Course
plain = record { connection = Up; phase = Established; put = []; taken = []; waiting = []; window = 1 }

-- an interlocking with this history
abbrev pub il_with : Course → EndState → EndState
il_with c x = with_course c (with_identity 1 2 x)

-- a field element with this history
abbrev pub fe_with : Course → EndState → EndState
fe_with c x = with_course c (with_identity 2 1 x)

-- a message waits that is not a telegram
abbrev pub waiting_course : Course
waiting_course = record plain { waiting = [] ∷ [] }

-- a telegram was put, and neither waits nor was taken
abbrev pub lost_course : Course
lost_course = record plain { put = one ∷ [] }

-- the connection is not Up
abbrev pub not_up : Course
not_up = record plain { connection = Start }

-- the session is still Initialising
abbrev pub early : Course
early = record plain { phase = Initialising }

-- the message of a telegram that the application put
abbrev pub one_message : List ℕ
one_message =
    tele_text (record { protocol = 1; kind = one.0; sender = 65 ∷ []; receiver = 66 ∷ []; payload = one.1 })

-- closed, with the telegram that was put, while its window is full: of no units
abbrev pub keeping : Course
keeping = record plain { connection = Closed; put = one ∷ []; waiting = one_message ∷ []; window = 0 }

-- a field element with this history, whose peer is not the interlocking: their settings do not match
abbrev pub stranger_with : Course → EndState → EndState
stranger_with c x = with_course c (with_identity 2 3 x)

-- the world of these two ends, joined
abbrev pub world_of_two : EndState → EndState → World
world_of_two il fe = world_of (il ∷ []) (joined_to (Some 1) fe ∷ [])

-- an end that requested a retransmission
abbrev pub requesting_end : Made → EndState → EndState
requesting_end m x =
    record x { machine = record x.machine { made = record m { pdu = record m.pdu { kind = RetrReq } } ∷ [] } }

-- two ends at which nothing lost is false, while these eight clauses of it hold
abbrev pub FailsOnlyBy : (A B C D E F G H : EndState → EndState → Type 0) → (il fe : EndState) → Type 0
FailsOnlyBy A B C D E F G H il fe =
    (NothingLost (world_of_two il fe) → ⊥) × A il fe × B il fe × C il fe × D il fe × E il fe × F il fe × G il fe
    × H il fe

-- one world for each clause
pub record LossInstances (x : EndState) (m : Made) : Type 0 where
  -- the settings of both ends match
  pub match : Match (il_with plain x) (fe_with plain x)
  -- two plain ends fulfil every clause
  pub holds : AllThere (il_with plain x) (fe_with plain x)
  -- the interlocking requested a retransmission
  pub il_asks : NothingLost (world_of (requesting_end m x ∷ []) []) → ⊥
  -- the field element requested a retransmission
  pub fe_asks : NothingLost (world_of [] (joined_to (Some 1) (requesting_end m x) ∷ [])) → ⊥
  -- a message waits at the interlocking while its window is open
  pub il_waits : FailsOnlyBy FeWaits IlKeeps FeKeeps CommandsThere StatusThere IlUp FeUp StayInStep
      (il_with waiting_course x) (fe_with plain x)
  -- a message waits at the field element while its window is open
  pub fe_waits : FailsOnlyBy IlWaits IlKeeps FeKeeps CommandsThere StatusThere IlUp FeUp StayInStep
      (il_with plain x) (fe_with waiting_course x)
  -- a closed interlocking keeps a message: a command
  pub il_keeps : FailsOnlyBy IlWaits FeWaits FeKeeps CommandsThere StatusThere IlUp FeUp StayInStep
      (il_with keeping x) (stranger_with plain x)
  -- a closed field element keeps a message: a status
  pub fe_keeps : FailsOnlyBy IlWaits FeWaits IlKeeps CommandsThere StatusThere IlUp FeUp StayInStep
      (il_with plain x) (stranger_with keeping x)
  -- a command is lost
  pub commands : FailsOnlyBy IlWaits FeWaits IlKeeps FeKeeps StatusThere IlUp FeUp StayInStep
      (il_with lost_course x) (fe_with plain x)
  -- a status is lost
  pub status : FailsOnlyBy IlWaits FeWaits IlKeeps FeKeeps CommandsThere IlUp FeUp StayInStep
      (il_with plain x) (fe_with lost_course x)
  -- the interlocking is not Up
  pub il_starts : FailsOnlyBy IlWaits FeWaits IlKeeps FeKeeps CommandsThere StatusThere FeUp StayInStep
      (il_with not_up x) (fe_with plain x)
  -- the field element is not Up
  pub fe_starts : FailsOnlyBy IlWaits FeWaits IlKeeps FeKeeps CommandsThere StatusThere IlUp StayInStep
      (il_with plain x) (fe_with not_up x)
  -- the interlocking is Initialising, the field element Established
  pub il_early : FailsOnlyBy IlWaits FeWaits IlKeeps FeKeeps CommandsThere StatusThere IlUp FeUp
      (il_with early x) (fe_with plain x)
  -- the field element is Initialising, the interlocking Established
  pub fe_early : FailsOnlyBy IlWaits FeWaits IlKeeps FeKeeps CommandsThere StatusThere IlUp FeUp
      (il_with plain x) (fe_with early x)
