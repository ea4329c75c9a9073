-- One turn of an end: it receives, then it puts telegrams of its list.
use Rattle.std.specs.Prelude.{◌≡◌, ℕ, ◌+◌, ◌-◌, ◌^◌, ◌&&◌, not, min, nat_lt, length, ◌==◌, Bool, true, false, List, Option, Some, None, if◌then◌else◌}
use Rattle.channels.specs.ChannelHistory.{ChannelHistory}
use Rattle.end_settings.specs.declared.Side.{Side}
use Rattle.pdi_session.specs.SessionStep.{Item}
use Rattle.rasta_run.specs.TelegramPuts.{EndsInitialisationIf, PutsBeginning}
use Rattle.rasta_run.specs.ExpectedStates.{ends_initialisation_in, puts_list_in}
use Rattle.rasta_run.specs.declared.notices.Notice.{Notice}
use Rattle.rasta_run.specs.declared.notices.Notice.TheVariants.{InDoubt, NoTurn}
use Rattle.settings_file.specs.declared.values.PutEntry.{PutEntry as Telegram}
use Rattle.stack_end.specs.EndValue.{EndTakesTurn, EndValue, inside}
use Rattle.stack_end.specs.Poll.{ProcessesUntilFault, IsPoll, With, most_datagrams}
use Rattle.stack_end.specs.Statistics.{count_expired}
use Rattle.stack_end.specs.Turns.{is_over, tick_expires_deferral, time_turn}

-- an end was polled. If a reception failed, time passed all the same.
abbrev pub PollsEnd : {C A T : Type 0} → (C → ChannelHistory) → (T → Item → T → Type 0) → (works : Bool) → ℕ
    → With C A T → With C A T → Type 0
PollsEnd told takes true now s t = IsPoll told takes most_datagrams now s t
PollsEnd {C} {A} {T} told takes false now s t =
    (mid : With C A T) × ProcessesUntilFault told takes most_datagrams now s mid
    × EndTakesTurn told takes (time_turn now) mid.0 mid.1 t.0 t.1
    × (t.0.time ≡ now) × (t.0.receptions ≡ count_expired (tick_expires_deferral now (inside mid.0)) mid.0.receptions)

-- what a turn changes: the end, the telegrams that are left, the numbers of those put and refused, the application, the
-- number of turns in a row in which a reception failed, and whether the connection was found closed
pub record Course (C A T : Type 0) : Type 0 where
  pub end : EndValue C A
  pub left : List Telegram
  pub put : ℕ
  pub refused : ℕ
  pub app : T
  pub deaf : ℕ
  pub closed : Bool

-- the telegrams that are left are put until the end is full, if it is the time for them
abbrev pub PutsListIf : {C A T : Type 0} → (C → ChannelHistory) → (T → List ℕ → T → Type 0) → ℕ → Bool → Course C A T
    → Course C A T → Type 0
PutsListIf told refuses now true s t =
    PutsBeginning told refuses now s.left (s.end, s.put, s.app, s.refused) t.left (t.end, t.put, t.app, t.refused)
    × (t.deaf ≡ s.deaf) × (t.closed ≡ s.closed)
PutsListIf told refuses now false s t = t ≡ s

-- an end puts what it may, and ends its initialisation once nothing is left
abbrev pub PutsAllowed : {C A T : Type 0} → (C → ChannelHistory) → (T → List ℕ → T → Type 0) → ℕ → Side → Course C A T
    → Course C A T → Type 0
PutsAllowed {C} {A} {T} told refuses now side s t =
    (mid : Course C A T) × PutsListIf told refuses now (puts_list_in side (inside s.end).upper.session.phase) s mid
    × EndsInitialisationIf told refuses now (ends_initialisation_in side (inside mid.end).upper.session.phase
    (length mid.left == 0)) (mid.end, mid.app) (t.end, t.app)
    × (t.left ≡ mid.left) × (t.put ≡ mid.put) × (t.refused ≡ mid.refused) × (t.deaf ≡ mid.deaf)
    × (t.closed ≡ mid.closed)

-- the number of turns in a row in which a reception failed
abbrev pub deaf_after : (works : Bool) → ℕ → ℕ
deaf_after true count = 0
deaf_after false count = min (count + 1) (2 ^ 64 - 1)

-- the end receives, and the application loses nothing that it takes; nothing is put
abbrev pub Hears : {C A T : Type 0} → (C → ChannelHistory) → (T → Item → T → Type 0) → (T → Bool) → ℕ → Course C A T
    → Course C A T → Type 0
Hears told takes lost now s t =
    (works : Bool) × PollsEnd told takes works now (s.end, s.app) (t.end, t.app) × (lost t.app ≡ false)
    × (t.left ≡ s.left) × (t.put ≡ s.put) × (t.refused ≡ s.refused) × (t.deaf ≡ deaf_after works s.deaf)
    × (t.closed ≡ is_over (inside t.end))

-- a turn: the end receives, and the application loses nothing that it takes; then the end puts
abbrev pub TakesTurn : {C A T : Type 0} → (C → ChannelHistory) → (T → Item → T → Type 0) → (T → Bool)
    → (T → List ℕ → T → Type 0) → ℕ → Side → Course C A T → Course C A T → Type 0
TakesTurn {C} {A} {T} told takes lost refuses now side s t =
    (works : Bool) × (end : EndValue C A) × (app : T) × PollsEnd told takes works now (s.end, s.app) (end, app)
    × (lost app ≡ false)
    × PutsAllowed told refuses now side
    (record {
      end = end;
      left = s.left;
      put = s.put;
      refused = s.refused;
      app = app;
      deaf = deaf_after works s.deaf;
      closed = is_over (inside end);
    }) t

-- the longest time between two turns that is not logged, in milliseconds
abbrev pub gap_most : ℕ
gap_most = 1_500

-- the notice of a time without a turn, if it is long
abbrev pub gap_notice : (gap : ℕ) → Option Notice
gap_notice gap = if nat_lt gap_most gap then Some (NoTurn gap) else None

-- the notice of a connection that is found closed with telegrams that are not confirmed
abbrev pub loss_notice : (before now : Bool) → (kept unsent : ℕ) → Option Notice
loss_notice before now kept unsent =
    if now && (not before && nat_lt 0 kept) then Some (InDoubt (kept - unsent) unsent) else None
