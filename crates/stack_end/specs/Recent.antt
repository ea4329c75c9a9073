-- What is taken is recent: the confirmed timestamp of its PDU, as the end reads it, is less than its T_max old.
use Rattle.std.specs.Prelude.{◌≡◌, ◌⊎◌, ℕ, true, false, List, [], ◌∷◌}
use Rattle.std.specs.List.{FoldsTo}
use Rattle.red_layer.specs.Parts.{Part}
use Rattle.red_layer.specs.Redundancy.{Datagram, Input, Tick as RedTick, parts_passed}
use Rattle.safe_pdu.specs.Places.{safe_seen}
use Rattle.safe_machine.specs.Properties.{IsRecent}
use Rattle.pdi_session.specs.SessionStep.{Item}
use Rattle.stack_end.specs.Turns.{Fields, Inside, upper_turn, guard_turn, is_over, part_turn, tick_turn}

-- these bytes are a PDU whose confirmed timestamp is recent to the end at this time
abbrev pub RecentAt : ℕ → List ℕ → Fields → Type 0
RecentAt now octets v = IsRecent (safe_seen v.machine.settings.rule octets) now v.machine

-- parts go up one by one; from each the taker gets what the end takes of it, and if that is anything, the part is
-- recent
abbrev pub TakesRecent : {T : Type 0} → (T → Item → T → Type 0) → ℕ → List Part → Fields → T → T → Type 0
TakesRecent takes now [] v t u = t ≡ u
TakesRecent {T = T} takes now (p ∷ ps) v t u =
    (mid : T) × FoldsTo takes t (part_turn now p.1 v).taken mid
    × (((part_turn now p.1 v).taken ≡ []) ⊎ RecentAt now p.1 v)
    × TakesRecent takes now ps (part_turn now p.1 v).left mid u

-- an input of the redundancy layer: at a closed end nothing is taken; at an open one, only from recent parts
abbrev pub InputRecent : {T : Type 0} → (T → Item → T → Type 0) → ℕ → Input → Inside → T → T → Type 0
InputRecent takes now i v t u =
    (is_over v ≡ true → t ≡ u) × (is_over v ≡ false → TakesRecent takes now (parts_passed i v.red) v.upper t u)

-- a datagram: anything taken from it, after the timeout check, is recent
abbrev pub DatagramRecent : {T : Type 0} → (T → Item → T → Type 0) → ℕ → List ℕ → Inside → T → T → Type 0
DatagramRecent takes now octets v t u =
    (is_over v ≡ true → t ≡ u) × (is_over v ≡ false
    → InputRecent takes now (Datagram octets now) (upper_turn (guard_turn now) v).left t u)

-- a tick: anything taken from the parts that it lets up, after the machine's timers, is recent
abbrev pub TickRecent : {T : Type 0} → (T → Item → T → Type 0) → ℕ → Inside → T → T → Type 0
TickRecent takes now v t u = (is_over v ≡ true → t ≡ u)
    × (is_over v ≡ false → InputRecent takes now (RedTick now) (upper_turn (tick_turn now) v).left t u)
