-- One incarnation of an end, with all PDUs that it made, and all telegrams put and taken.
use Rattle.std.specs.Prelude.{◌≡◌, ℕ, ◌+◌, ◌≤◌, ◌/◌, min, Option, None, List, [], ◌∷◌, ◌++◌, length}
use Rattle.std.specs.Option.{option_map}
use Rattle.octets.specs.declared.limits.TheConstants.{PAYLOAD_MAX}
use Rattle.red_layer.specs.pdu.RedText.{red_text}
use Rattle.safe_machine.specs.Made.{Made}
use Rattle.pdi_session.specs.SessionStep.{Item}
use Rattle.end_settings.specs.EndSettings.{EndSettings, rule_of}
use Rattle.end_settings.specs.ConfigValue.{settings_of}
use Rattle.stack_end.specs.Datagrams.{upper_of}
use Rattle.stack_end.specs.Ends.{EndState, Call, time_of}
use Rattle.stack_end.specs.Ends.Call.{InitDone, Put}
use Rattle.stack_end.specs.Steps.{call}
use Rattle.stack_end.specs.EndValue.{EndRepresents, EndTakesTurn, channels_of, inside}
use Rattle.stack_end.specs.Turns.{init_answer, put_answer, turn}
use Rattle.stack_engine.specs.declared.incarnation.Incarnation.{Incarnation}
use Rattle.stack_engine.specs.declared.past.Past.{Past}
use Rattle.stack_engine.specs.Bounds.{FewMore, most_pdus, most_taken}
use Rattle.stack_engine.specs.Keeper.{told_of, sure_room}
use Rattle.stack_engine.specs.Texts.{Shelf}
use Rattle.stack_engine.specs.Events.{put_size}
use Rattle.stack_engine.specs.Pairs.{InitRefused, PutRefused, Refusal}
use Rattle.stack_engine.specs.declared.event.Call.{Call as CodeCall}

-- the datagrams of PDUs, the first of which has this index
abbrev pub datagrams_of : EndSettings → ℕ → List Made → List (List ℕ)
datagrams_of s index [] = []
datagrams_of s index (m ∷ ms) = red_text index (upper_of (rule_of s) m) ∷ datagrams_of s (index + 1) ms

-- how many telegrams of the greatest size there is room for
abbrev pub sure_items : Shelf ℕ → ℕ
sure_items s = min s.places (s.octets / PAYLOAD_MAX)

-- a telegram is added after the others if there is room for it
abbrev pub TakesItem : Shelf ℕ → Item → Shelf ℕ → Type 0
TakesItem s item t = length item.1 ≤ PAYLOAD_MAX → 1 ≤ sure_items s → (t.texts ≡ s.texts ++ item ∷ [])
    × (sure_items s ≤ sure_items t + 1)

-- the incarnation represents the state: its end does, and all that was made, put and taken is kept
pub record IncarnationRepresents {A : Type 0} (i : Incarnation A) (x : EndState) : Type 0 where
  pub end : EndRepresents told_of i.end x  -- the end represents the state
  pub config : settings_of i.config ≡ x.settings  -- it was opened with the settings of the state
  -- the kept datagrams are those of all PDUs made
  pub kept : (channels_of i.end).datagrams ≡ datagrams_of x.settings 0 x.machine.made
  pub put : i.put.texts ≡ x.session.history.put  -- the telegrams put
  pub taken : i.taken.texts ≡ x.session.history.taken  -- the telegrams taken

-- what is kept of an earlier incarnation represents the state: all that was made, put and taken is kept
pub record PastRepresents {A : Type 0} (p : Past A) (x : EndState) : Type 0 where
  -- the kept datagrams are those of all PDUs made
  pub kept : p.keeper.datagrams ≡ datagrams_of x.settings 0 x.machine.made
  pub put : p.put.texts ≡ x.session.history.put  -- the telegrams put
  pub taken : p.taken.texts ≡ x.session.history.taken  -- the telegrams taken

-- there is room for all PDUs that a call makes and all telegrams that it takes
abbrev pub HasRoom : {A : Type 0} → Incarnation A → Type 0
HasRoom i = (most_pdus ≤ sure_room (channels_of i.end)) × (most_taken ≤ sure_items i.taken)

-- and for the telegram that it puts
abbrev pub HasRoomFor : {A : Type 0} → CodeCall → Incarnation A → Type 0
HasRoomFor c i = HasRoom i × (1 ≤ i.put.places) × (put_size c ≤ i.put.octets)

-- the telegram that an accepted call puts
abbrev pub puts_in : Call → List Item
puts_in (Put kind payload now) = (kind, payload) ∷ []
puts_in _ = []

-- why the session refuses a call
abbrev pub inc_refusal : {A : Type 0} → Call → Incarnation A → Option Refusal
inc_refusal (Put kind payload now) i = option_map PutRefused (put_answer kind payload (inside i.end).upper)
inc_refusal (InitDone now) i = option_map InitRefused (init_answer (inside i.end).upper)
inc_refusal _ i = None

-- the end took the turn of the call, and its telegrams are kept
pub record IncarnationTakesTurn {A : Type 0} (c : Call) (i j : Incarnation A) : Type 0 where
  -- the turn, with the telegrams that it delivers
  pub end : EndTakesTurn told_of TakesItem (turn c) i.end i.taken j.end j.taken
  pub time : j.end.time ≡ time_of c  -- the end has the time of the call
  pub put : j.put.texts ≡ i.put.texts ++ puts_in c  -- a telegram that was put is added
  pub config : j.config ≡ i.config  -- the settings are unchanged

-- a refused call leaves everything that represents the state
pub record IncarnationStays {A : Type 0} (i j : Incarnation A) : Type 0 where
  pub end : j.end ≡ i.end  -- the end
  pub put : j.put ≡ i.put  -- the telegrams put
  pub taken : j.taken ≡ i.taken  -- the telegrams taken
  pub config : j.config ≡ i.config  -- the settings

-- of each state that it represented it now represents the one after the call, if that makes no more than the bounds
-- allow
abbrev pub IncarnationTakesCall : {A : Type 0} → Call → Incarnation A → Incarnation A → Type 0
IncarnationTakesCall c i j = (x : EndState) → IncarnationRepresents i x → FewMore x (call c x)
    → IncarnationRepresents j (call c x)
