-- Channels in memory: their state, and how a send and a reception change it.
use Rattle.std.specs.Prelude.{ℕ, ◌+◌, ◌-◌, Bool, false, ◌&&◌, nat_lt, nat_le, Some, None, List, [], ◌∷◌, ◌++◌, length, take, if◌then◌else◌}
use Rattle.octets.specs.declared.limits.TheConstants.{RED_PDU_MAX}
use Rattle.channels.specs.ChannelHistory.{SentDatagram, Answer, ChannelHistory, count_failure}

-- the state of channels in memory
pub record MemoryValue : Type 0 where
  -- the datagrams sent, in order
  pub sent : List SentDatagram
  -- the datagrams added and not received yet, in order
  pub waiting : List SentDatagram
  -- the results of the receptions, in order
  pub answers : List Answer
  -- the buffer length of the last reception, 0 before the first
  pub asked : ℕ
  -- how many more sends there is room for
  pub sends_left : ℕ
  -- how many more results there is room for
  pub answers_left : ℕ
  -- how many sends failed, modulo 2^64
  pub failed_sends : ℕ
  -- how many receptions failed, modulo 2^64
  pub failed_receives : ℕ

-- the state as contracts of `Channels` see it: both lists are known; no send is sure on a channel, since all channels
-- share the room
abbrev pub told_of : MemoryValue → ChannelHistory
told_of k =
    record {
      sent = Some k.sent;
      answers = Some k.answers;
      asked = Some k.asked;
      failed_sends = k.failed_sends;
      failed_receives = k.failed_receives;
      room = λ _. 0;
    }

-- the state with room for `room` sends and as many results, and nothing sent or waiting
abbrev pub new_kept : ℕ → MemoryValue
new_kept room =
    record {
      sent = [];
      waiting = [];
      answers = [];
      asked = 0;
      sends_left = room;
      answers_left = room;
      failed_sends = 0;
      failed_receives = 0;
    }

-- the state with room for `more` sends and results in addition
abbrev pub with_more_room : ℕ → MemoryValue → MemoryValue
with_more_room more k = record k { sends_left = k.sends_left + more; answers_left = k.answers_left + more }

-- the state with a datagram added after all that wait
abbrev pub with_waiting : SentDatagram → MemoryValue → MemoryValue
with_waiting x k = record k { waiting = k.waiting ++ x ∷ [] }

-- a send of this datagram succeeds: there is room, and it is not longer than a redundancy PDU
abbrev pub goes_out : List ℕ → MemoryValue → Bool
goes_out datagram k = nat_lt 0 k.sends_left && nat_le (length datagram) RED_PDU_MAX

-- the state after a send: the datagram is kept, or the failure counted
abbrev pub with_sending : SentDatagram → MemoryValue → MemoryValue
with_sending x k =
    if goes_out x.1 k
    then record k { sent = k.sent ++ x ∷ []; sends_left = k.sends_left - 1 }
    else record k { failed_sends = count_failure false k.failed_sends }

-- the first waiting datagram cut to the buffer's length, or None if nothing waits
abbrev pub first_answer : ℕ → List SentDatagram → Answer
first_answer size [] = None
first_answer size (x ∷ xs) = Some (x.0, take size x.1)

-- the waiting datagrams after the first
abbrev pub behind_first : List SentDatagram → List SentDatagram
behind_first [] = []
behind_first (x ∷ xs) = xs

-- the state after a reception into a buffer of this length
abbrev pub with_reception : ℕ → MemoryValue → MemoryValue
with_reception size k =
    if nat_lt 0 k.answers_left
    then record k {
      waiting = behind_first k.waiting;
      answers = k.answers ++ first_answer size k.waiting ∷ [];
      asked = size;
      answers_left = k.answers_left - 1;
    }
    else record k { asked = size; failed_receives = count_failure false k.failed_receives }
