-- The datagrams sent, the telegrams taken and the notes that the caller has not fetched, and what the end adds to them.
use Rattle.std.specs.Prelude.{◌≡◌, ◌==◌, ℕ, ◌+◌, ◌-◌, ◌*◌, ◌^◌, ◌<◌, Bool, true, false, not, ◌&&◌, nat_le, nat_lt, Some, None}
use Rattle.std.specs.Prelude.{List, ◌++◌, length, if◌then◌else◌}
use Rattle.std.specs.List.{FoldsTo}
use Rattle.octets.specs.Lists.{IsBeginning}
use Rattle.octets.specs.declared.limits.TheConstants.{RED_PDU_MAX}
use Rattle.pdi_session.specs.SessionStep.{Item}
use Rattle.channels.specs.ChannelHistory.{SentDatagram, SendsOne, ChannelHistory, count_failure}
use Rattle.end_for_callers.specs.Queues.{Queued, empty_queue, has_place_for, new_queue, with_piece}
use Rattle.end_for_callers.specs.Notes.{NoteQueue, heard_anew}
use Rattle.end_for_callers.specs.declared.outbox.Shares.{Shares}

-- the datagrams that wait for the caller
pub record DatagramQueue : Type 0 where
  -- each with its channel as tag
  pub queue : Queued ℕ
  -- how many found no room, modulo 2^64; these are lost, as on a channel
  pub unsent : ℕ
  -- the notes that wait for the caller
  pub notes : NoteQueue

-- no datagram waits, there is room for this number, and no note is kept
abbrev pub new_outgoing : ℕ → DatagramQueue
new_outgoing datagrams =
    record { queue = new_queue datagrams (datagrams * RED_PDU_MAX); unsent = 0; notes = heard_anew false }

-- no datagram waits, and none is counted; the notes stay
abbrev pub clear_outgoing : DatagramQueue → DatagramQueue
clear_outgoing o = record o { queue = empty_queue o.queue; unsent = 0 }

-- what the contracts of an end know of these datagrams as its channels
abbrev pub told_of : DatagramQueue → ChannelHistory
told_of o = record {
  sent = Some o.queue.waiting;
  answers = None;
  asked = None;
  failed_sends = o.unsent;
  failed_receives = 0;
  room = λ _. 0;
}

-- the places set aside for a channel
abbrev pub share_of : Shares → ℕ → ℕ
share_of s channel =
    if channel == 1 then s.first
    else if channel == 2 then s.second
    else if channel == 3 then s.third
    else if channel == 4 then s.fourth
    else 0

-- the places set aside for all channels
abbrev pub sum_of_shares : Shares → ℕ
sum_of_shares s = s.first + s.second + s.third + s.fourth

-- one place less for a channel, if one is set aside for it
abbrev pub spent_on : ℕ → Shares → Shares
spent_on channel s =
    record {
      first = s.first - (if channel == 1 then 1 else 0);
      second = s.second - (if channel == 2 then 1 else 0);
      third = s.third - (if channel == 3 then 1 else 0);
      fourth = s.fourth - (if channel == 4 then 1 else 0);
    }

-- this number of places for each of this number of channels
abbrev pub shares_of : (channels each : ℕ) → Shares
shares_of channels each =
    record {
      first = if nat_le 1 channels then each else 0;
      second = if nat_le 2 channels then each else 0;
      third = if nat_le 3 channels then each else 0;
      fourth = if nat_le 4 channels then each else 0;
    }

-- the outbox of a station
pub record OutboxValue : Type 0 where
  -- the datagrams that wait
  pub out : DatagramQueue
  -- the places set aside for the call that goes on
  pub shares : Shares

-- what the contracts of an end know of the outbox as its channels: a send on a channel with a place set aside is sure
abbrev pub told_in : OutboxValue → ChannelHistory
told_in p = record (told_of p.out) { room = λ channel. share_of p.shares channel }

-- a datagram of this size leaves this number of places free, each with the room of the longest datagram
abbrev pub leaves_free : (rest size : ℕ) → Queued ℕ → Bool
leaves_free rest size q = nat_lt rest q.places && nat_le (rest * RED_PDU_MAX + size) q.room

-- after a send: the datagram is appended if the places set aside for others stay free, and counted otherwise
abbrev pub with_posting : SentDatagram → OutboxValue → OutboxValue
with_posting x p =
    let rest = spent_on x.0 p.shares in
    if leaves_free (sum_of_shares rest) (length x.1) p.out.queue
    then record { out = record p.out { queue = with_piece x p.out.queue }; shares = rest }
    else record p { out = record p.out { unsent = count_failure false p.out.unsent } }

-- datagrams were sent in order: each is appended or counted; if the count did not change, all are appended
pub record Posted (o : DatagramQueue) (xs : List SentDatagram) (p : DatagramQueue) : Type 0 where
  -- each is a send of channels, in order
  pub each : FoldsTo SendsOne (told_of o) xs (told_of p)
  -- fewer than 2^64 datagrams, with the count unchanged, are all appended
  pub all : length xs < 2 ^ 64 → p.unsent ≡ o.unsent → p.queue.waiting ≡ o.queue.waiting ++ xs

-- the telegrams that wait for the caller
pub record TelegramQueue : Type 0 where
  -- each with its message type as tag
  pub queue : Queued ℕ
  -- one found no room, and nothing was added since
  pub lost : Bool

-- after a telegram: it is appended if it fits and none was lost; otherwise one is lost, so the queue stays a prefix of
-- what was taken
abbrev pub with_item : Item → TelegramQueue → TelegramQueue
with_item i n =
    if not n.lost && has_place_for (length i.1) n.queue
    then record n { queue = with_piece i n.queue }
    else record n { lost = true }

-- the relation of one call of `take`
abbrev pub takes_of : TelegramQueue → Item → TelegramQueue → Type 0
takes_of n i m = m ≡ with_item i n

-- telegrams were taken in order: a prefix of them is appended, and all of them if none is lost
pub record Came (n : TelegramQueue) (items : List Item) (m : TelegramQueue) : Type 0 where
  -- the telegrams appended
  pub added : List Item
  -- they follow those that waited
  pub waiting : m.queue.waiting ≡ n.queue.waiting ++ added
  -- they are a prefix of the telegrams taken
  pub beginning : IsBeginning added items
  -- if none is lost, they are all of them
  pub all : m.lost ≡ false → added ≡ items
  -- a loss is never taken back
  pub stays : n.lost ≡ true → m.lost ≡ true
