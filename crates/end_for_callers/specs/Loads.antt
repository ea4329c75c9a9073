-- How many datagrams one call sends at most, and how long they are.
use Rattle.std.specs.Prelude.{◌≡◌, ℕ, ◌+◌, ◌*◌, ◌==◌, ◌≤◌, List, length, if◌then◌else◌}
use Rattle.std.specs.List.{AllByRecursion, count_by}
use Rattle.octets.specs.declared.limits.TheConstants.{CHANNELS_MAX, MESSAGE_MAX, NAME_LENGTH, Q_MAX, RED_PDU_MAX, UNIT_MAX, UNIT_MESSAGES, WINDOW_MAX}
use Rattle.safe_machine.specs.retrans.Units.{Numbered}
use Rattle.pdi_session.specs.Settings.{checksum_of}
use Rattle.pdi_session.specs.declared.TheConstants.{CHECKSUM_MAX}
use Rattle.channels.specs.ChannelHistory.{SentDatagram}
use Rattle.stack_end.specs.Bounds.{IsBounded}
use Rattle.stack_end.specs.Ends.{Call}
use Rattle.stack_end.specs.Turns.{Fields, Inside, turn}
use Rattle.end_for_callers.specs.declared.TheConstants.{PART_PDUS}
use Rattle.end_for_callers.specs.Boxes.{DatagramQueue}
use Rattle.end_for_callers.specs.Calls.{has_room}

-- how many of these datagrams are on this channel
abbrev pub sent_on : ℕ → List SentDatagram → ℕ
sent_on channel xs = count_by (λ x. x.0 == channel) xs

-- the most datagrams of one call on one channel: those of nine parts, the one that arrives and the eight of the longest
-- deferral queue, each with a retransmission of the greatest window
abbrev pub most_on_channel : ℕ
most_on_channel = (Q_MAX + 1) * (WINDOW_MAX + PART_PDUS)

-- whatever an end keeps within its bounds, no call sends more on any channel
abbrev pub LoadLaw : Type 0
LoadLaw =
    (c : Call) (v : Inside) → IsBounded v → length v.red.waiting ≤ Q_MAX → (channel : ℕ)
    → sent_on channel (turn c v).sent ≤ most_on_channel

-- what an end keeps from which it makes PDUs has the sizes that units, messages and names have
pub record IsSized (v : Fields) : Type 0 where
  pub units : AllByRecursion (λ (u : Numbered). length u.octets ≤ UNIT_MAX) v.machine.ring  -- the unconfirmed units
  pub messages : AllByRecursion (λ (m : List ℕ). length m ≤ MESSAGE_MAX) v.waiting  -- the messages that wait to be sent
  pub together : v.max ≤ UNIT_MESSAGES  -- how many messages go into one unit
  pub own : length v.session.addressing.own ≤ NAME_LENGTH  -- the own name
  pub peer : length v.session.addressing.peer ≤ NAME_LENGTH  -- the peer's name
  pub checksum : length (checksum_of v.session.role) ≤ CHECKSUM_MAX  -- the checksum of a field element's reply

-- a datagram is on one of these channels, and not longer than the longest redundancy PDU
pub record IsPlaced (channels : ℕ) (x : SentDatagram) : Type 0 where
  pub least : 1 ≤ x.0  -- channels are numbered from 1
  pub most : x.0 ≤ channels  -- to the number of channels
  pub short : length x.1 ≤ RED_PDU_MAX  -- the number of bytes

-- what a call sends at such sizes, and what it leaves
pub record Sized (c : Call) (v : Inside) : Type 0 where
  -- each datagram is on a channel of the end, with at most 1,258 bytes
  pub placed : AllByRecursion (IsPlaced v.upper.count) (turn c v).sent
  pub sized : IsSized (turn c v).left.upper  -- the sizes still hold
  pub count : (turn c v).left.upper.count ≡ v.upper.count  -- the number of channels stays

-- at such sizes no call sends a datagram of more than 1,258 bytes, and the sizes hold after it
abbrev pub SizeLaw : Type 0
SizeLaw = (c : Call) (v : Inside) → IsSized v.upper → Sized c v

-- what holds of the end of a station at any time: the reserve is for its channels, its numbers are within their limits,
-- and its sizes hold
pub record IsReady (reserve : ℕ) (v : Inside) : Type 0 where
  pub reserved : reserve ≡ (WINDOW_MAX + PART_PDUS) * v.upper.count  -- the reserve
  pub channels : v.upper.count ≤ CHANNELS_MAX  -- the number of channels
  pub deferring : v.red.q ≤ Q_MAX  -- the length of the deferral queue
  pub sized : IsSized v.upper  -- units, messages and names

-- how many places are set aside for each of this number of channels: with room for whatever one call sends, as many as
-- that, and otherwise none
abbrev pub each_aside : ℕ → DatagramQueue → ℕ
each_aside channels o = if has_room (most_on_channel * channels) RED_PDU_MAX o.queue then most_on_channel else 0
