-- One poll of an end: the datagrams that its channels have received are processed in order, then time passes.
use Rattle.std.specs.Prelude.{◌≡◌, ℕ, ◌<◌, ◌≤◌, ◌⊎◌, Bool, true, false, Option, Some, None, List, length, take, Result, Ok, Err}
use Rattle.std.specs.List.{FoldsTo}
use Rattle.pdi_session.specs.SessionStep.{Item}
use Rattle.channels.specs.ChannelHistory.{ChannelHistory, after_receive}
use Rattle.channels.specs.declared.ChannelFault.{ChannelFault}
use Rattle.octets.specs.declared.limits.TheConstants.{RED_PDU_MAX}
use Rattle.stack_end.specs.Recent.{DatagramRecent, TickRecent}
use Rattle.stack_end.specs.EndValue.{EndTakesTurn, EndValue, channels_of, inside}
use Rattle.stack_end.specs.Statistics.{count_datagram, count_expired}
use Rattle.stack_end.specs.Turns.{arrival_turn, event_of, tick_expires_deferral, time_turn}
use Rattle.red_layer.specs.Redundancy.{is_due}

-- the length in bytes of the buffer of a poll: a longer datagram is cut
abbrev pub buffer_size : ℕ
buffer_size = 2048

-- the most datagrams that one poll processes, so that it ends however many come
abbrev pub most_datagrams : ℕ
most_datagrams = 64

-- a datagram was requested of the channels with the whole buffer, and nothing else of the end changed
pub record RequestsDatagram {C A : Type 0} (told : C → ChannelHistory) (result : Result (Option (ℕ × ℕ)) ChannelFault)
    (buffer : List ℕ) (v w : EndValue C A) : Type 0 where
  pub size : length buffer ≡ buffer_size  -- the buffer has its full length
  pub longest : RED_PDU_MAX ≤ length buffer  -- the longest datagram fits it
  -- the channels have recorded this result
  pub answer : told (channels_of w) ≡ after_receive result buffer (told (channels_of v))
  pub same : inside w ≡ inside v  -- the layers are unchanged
  pub time : w.time ≡ v.time  -- so is the time
  pub received : w.receptions ≡ v.receptions  -- and what was counted

-- an end and its taker
abbrev pub With : Type 0 → Type 0 → Type 0 → Type 0
With C A T = EndValue C A × T

-- a datagram came on a channel, was processed, and counted; anything taken is recent
abbrev pub ProcessesDatagram : {C A T : Type 0} → (C → ChannelHistory) → (T → Item → T → Type 0) → ℕ → With C A T
    → ℕ × List ℕ → With C A T → Type 0
ProcessesDatagram {C = C} {A = A} told takes now s d t =
    (size : ℕ) × (buffer : List ℕ) × (asked : EndValue C A)
    × (take size buffer ≡ d.1) × RequestsDatagram told (Ok (Some (d.0, size))) buffer s.0 asked
    × EndTakesTurn told takes (arrival_turn now d.1) asked s.1 t.0 t.1
    × (t.0.time ≡ now) × (t.0.receptions ≡ count_datagram d.0 (event_of now d.1 (inside asked))
    (is_due now (inside asked).red) now asked.receptions)
    × DatagramRecent takes now d.1 (inside asked) s.1 t.1

-- one request to the channels had this result, and the taker got nothing
abbrev pub RequestsOnce : {C A T : Type 0} → (C → ChannelHistory) → Result (Option (ℕ × ℕ)) ChannelFault → With C A T
    → With C A T → Type 0
RequestsOnce told answer s t = (buffer : List ℕ) × RequestsDatagram told answer buffer s.0 t.0 × (t.1 ≡ s.1)

-- a datagram came and was processed, or nothing had come
abbrev pub ProcessesNext : {C A T : Type 0} → (C → ChannelHistory) → (T → Item → T → Type 0) → ℕ → (came : Bool)
    → With C A T → With C A T → Type 0
ProcessesNext told takes now true s t = (d : ℕ × List ℕ) × ProcessesDatagram told takes now s d t
ProcessesNext told takes now false s t = RequestsOnce told (Ok None) s t

-- up to the most datagrams were processed, fewer only if nothing more came
abbrev pub ProcessesAll : {C A T : Type 0} → (C → ChannelHistory) → (T → Item → T → Type 0) → (most now : ℕ)
    → With C A T → With C A T → Type 0
ProcessesAll {C = C} {A = A} {T = T} told takes most now s t =
    (heard : List (ℕ × List ℕ)) × (left : With C A T) × FoldsTo (ProcessesDatagram told takes now) s heard left
    × (((length heard ≡ most) × (t ≡ left)) ⊎ ((length heard < most) × RequestsOnce told (Ok None) left t))

-- fewer than the most datagrams were processed before a reception failed
abbrev pub ProcessesUntilFault : {C A T : Type 0} → (C → ChannelHistory) → (T → Item → T → Type 0) → (most now : ℕ)
    → With C A T → With C A T → Type 0
ProcessesUntilFault {C = C} {A = A} {T = T} told takes most now s t =
    (heard : List (ℕ × List ℕ)) × (left : With C A T) × FoldsTo (ProcessesDatagram told takes now) s heard left
    × (length heard < most) × (fault : ChannelFault) × RequestsOnce told (Err fault) left t

-- datagrams were processed up to the most, then time passed
abbrev pub IsPoll : {C A T : Type 0} → (C → ChannelHistory) → (T → Item → T → Type 0) → (most now : ℕ) → With C A T
    → With C A T → Type 0
IsPoll {C = C} {A = A} {T = T} told takes most now s t =
    (left : With C A T) × ProcessesAll told takes most now s left
    × EndTakesTurn told takes (time_turn now) left.0 left.1 t.0 t.1
    × (t.0.time ≡ now) × (t.0.receptions ≡ count_expired (tick_expires_deferral now (inside left.0)) left.0.receptions)
    × TickRecent takes now (inside left.0) left.1 t.1
