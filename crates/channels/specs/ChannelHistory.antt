-- What contracts know of the channels of an end, and how a send and a reception change it.
use Rattle.std.specs.Prelude.{◌≡◌, ◌==◌, ℕ, ◌+◌, ◌%◌, ◌^◌, ◌≤◌, Bool, true, Option, Some, None, option_map, is_ok, List, [], ◌∷◌, ◌++◌, length, take, Result, Ok, Err, if◌then◌else◌}
use Rattle.octets.specs.declared.limits.TheConstants.{RED_PDU_MAX}
use Rattle.channels.specs.declared.ChannelFault.{ChannelFault}

-- a channel, from 1 on, and the bytes sent on it
abbrev pub SentDatagram : Type 0
SentDatagram = ℕ × List ℕ

-- the result of a reception: a channel and the bytes received on it, or None
abbrev pub Answer : Type 0
Answer = Option (ℕ × List ℕ)

-- what contracts know of channels; the first three fields are None for sockets
pub record ChannelHistory : Type 0 where
  -- the datagrams sent, in order, if known
  pub sent : Option (List SentDatagram)
  -- the results of the receptions, in order, if known
  pub answers : Option (List Answer)
  -- the buffer length of the last reception, if known, so that an end that receives into less than its buffer has no
  -- proof
  pub asked : Option ℕ
  -- how many sends failed, modulo 2^64
  pub failed_sends : ℕ
  -- how many receptions failed, modulo 2^64
  pub failed_receives : ℕ
  -- for each channel, how many sends of at most 1,258 bytes are sure to succeed, 0 if unknown
  pub room : ℕ → ℕ

-- the count of failures after a call, modulo 2^64: one more if it failed
abbrev pub count_failure : Bool → ℕ → ℕ
count_failure went n = if went then n else (n + 1) % 2 ^ 64

-- one send: it succeeds, or is counted as failed
pub record Sends (went : Bool) (before : ChannelHistory) (x : SentDatagram) (after : ChannelHistory) : Type 0 where
  -- a successful send appends the datagram and its channel
  pub sent : after.sent ≡ option_map (λ xs. xs ++ (if went then x ∷ [] else [])) before.sent
  -- a failed send is counted
  pub failed : after.failed_sends ≡ count_failure went before.failed_sends
  -- a send on a channel with sure room succeeds
  pub sure : 1 ≤ before.room x.0 → length x.1 ≤ RED_PDU_MAX → went ≡ true
  -- a send uses at most one sure place, of its channel
  pub left : (k : ℕ) → before.room k ≤ after.room k + (if k == x.0 then 1 else 0)
  -- nothing of the receptions changes
  pub answers : after.answers ≡ before.answers
  pub asked : after.asked ≡ before.asked
  pub failed_receives : after.failed_receives ≡ before.failed_receives

-- one send, successful or not
abbrev pub SendsOne : ChannelHistory → SentDatagram → ChannelHistory → Type 0
SendsOne before x after = (went : Bool) × Sends went before x after

-- the result that a reception appends: the channel and the bytes at the start of the buffer, or None; a failed one
-- appends nothing
abbrev pub answers_of : Result (Option (ℕ × ℕ)) ChannelFault → List ℕ → List Answer
answers_of (Ok (Some (channel, size))) buffer = Some (channel, take size buffer) ∷ []
answers_of (Ok None) buffer = None ∷ []
answers_of (Err fault) buffer = []

-- what is known after one reception: its result is appended, or its failure counted
abbrev pub after_receive : Result (Option (ℕ × ℕ)) ChannelFault → List ℕ → ChannelHistory → ChannelHistory
after_receive result buffer before =
    record {
      sent = before.sent;
      answers = option_map (λ xs. xs ++ answers_of result buffer) before.answers;
      asked = option_map (λ _. length buffer) before.asked;
      failed_sends = before.failed_sends;
      failed_receives = count_failure (is_ok result) before.failed_receives;
      room = before.room;
    }
