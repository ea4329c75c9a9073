-- Channels over sockets: what a send and a reception do to the channels, and what contracts know of them.
use Rattle.std.specs.Prelude.{◌≡◌, ℕ, ◌+◌, ◌-◌, ◌%◌, ◌^◌, ◌≤◌, ◌==◌, ◌&&◌, ◌⊎◌, Bool, true, false, nat_le, if◌then◌else◌, Option, None, Some, option_map, Result, Ok, Err, is_ok, List, [], ◌∷◌, length, take, drop, slice_get, slice_set}
use Rattle.octets.specs.declared.limits.TheConstants.{CHANNELS_MAX}
use Rattle.channels.specs.ChannelHistory.{Answer, ChannelHistory}
use Rattle.channels.specs.declared.ChannelFault.{ChannelFault}
use Rattle.channels.specs.declared.ChannelFault.TheVariants as fault
use Rattle.udp_channels.specs.declared.sockets.CallFault.{CallFault}
use Rattle.udp_channels.specs.declared.sockets.FailedCalls.{FailedCalls}
use Rattle.udp_channels.specs.declared.sockets.Failures.{Failures}
use Rattle.udp_channels.specs.declared.sockets.Reception.{Reception}
use Rattle.udp_channels.specs.declared.sockets.Reception.TheVariants.{Came, Nothing, Refused}

-- one channel: its socket, and the calls that failed
pub record ChannelState (S : Type 0) : Type 0 where
  pub socket : S
  pub failures : Failures

-- the channels, that of number 1 first, the number of the one that gave the last datagram (0 before the first), and the
-- counts, modulo 2^64
pub record SocketsState (S : Type 0) : Type 0 where
  pub channels : List (ChannelState S)
  pub last : ℕ
  pub failed_sends : ℕ
  pub failed_receives : ℕ
  pub received : ℕ

-- no call of a kind has failed
abbrev pub no_failed_calls : FailedCalls
no_failed_calls = record { count = 0; last = None }

-- the failures of a channel on which nothing has failed
abbrev pub no_failures : Failures
no_failures = record { sends = no_failed_calls; receives = no_failed_calls }

-- one more call has failed: it is counted, and its cause is the last one
abbrev pub one_more : CallFault → FailedCalls → FailedCalls
one_more why calls = record { count = (calls.count + 1) % 2 ^ 64; last = Some why }

-- the calls that failed after one more call, which failed for this cause, if it did
abbrev pub count_call : Option CallFault → FailedCalls → FailedCalls
count_call None calls = calls
count_call (Some why) calls = one_more why calls

-- a channel on which nothing has failed
abbrev pub new_channel : {S : Type 0} → S → ChannelState S
new_channel socket = record { socket = socket; failures = no_failures }

-- channels that were not used yet
abbrev pub new_sockets_state : {S : Type 0} → List (ChannelState S) → SocketsState S
new_sockets_state channels =
    record { channels = channels; last = 0; failed_sends = 0; failed_receives = 0; received = 0 }

-- the state as contracts of `Channels` see it: only the failures are known, not what a socket sends or delivers
abbrev pub history_of : {S : Type 0} → SocketsState S → ChannelHistory
history_of c =
    record {
      sent = None;
      answers = None;
      asked = None;
      failed_sends = c.failed_sends;
      failed_receives = c.failed_receives;
      room = λ _. 0;
    }

-- the bytes received
abbrev pub octets_of : Reception → List ℕ → List ℕ
octets_of (Came size) buffer = take size buffer
octets_of Nothing buffer = []
octets_of (Refused why) buffer = []

-- a datagram received is not longer than the buffer
abbrev pub FitsBuffer : Reception → ℕ → Type 0
FitsBuffer (Came size) room = size ≤ room
FitsBuffer Nothing room = Unit {0}
FitsBuffer (Refused why) room = Unit {0}

-- why a socket did not accept a datagram, if it did not
abbrev pub send_fault : Result (Unit {0}) CallFault → Option CallFault
send_fault (Ok done) = None
send_fault (Err why) = Some why

-- why a socket refused a reception, if it did
abbrev pub receive_fault : Reception → Option CallFault
receive_fault (Came size) = None
receive_fault Nothing = None
receive_fault (Refused why) = Some why

-- there is such a channel; channels are numbered from 1
abbrev pub has_channel : {S : Type 0} → ℕ → List S → Bool
has_channel channel channels = nat_le 1 channel && nat_le channel (length channels)

-- the failures of a channel, if there is one of this number
abbrev pub failures_of : {S : Type 0} → ℕ → List (ChannelState S) → Option Failures
failures_of channel channels =
    if has_channel channel channels then option_map (λ c. c.failures) (slice_get channels (channel - 1)) else None

-- a send on one channel: its socket makes one send, and the channel counts a failure with its cause
pub record IsSent {S : Type 0} (sends : S → List ℕ → Result (Unit {0}) CallFault → S → Type 0) (datagram : List ℕ)
    (given : Result (Unit {0}) CallFault) (before after : ChannelState S) : Type 0 where
  -- the socket makes one send of the datagram, and accepts it or not
  pub sent : sends before.socket datagram given after.socket
  -- a datagram that it does not accept adds 1 to this channel's failed sends, with its cause
  pub failures : after.failures ≡ record {
    sends = count_call (send_fault given) before.failures.sends;
    receives = before.failures.receives;
  }

-- a send on a channel: only this channel changes, and it makes the send
pub record SendsOn {S : Type 0} (sends : S → List ℕ → Result (Unit {0}) CallFault → S
    → Type 0) (channel : ℕ) (datagram : List ℕ) (went : Bool) (before after : List (ChannelState S)) : Type 0 where
  -- if there is such a channel, it makes one send, and the others do not change
  pub own : has_channel channel before ≡ true → (given : Result (Unit {0}) CallFault) × (used left : ChannelState S)
      × (slice_get before (channel - 1) ≡ Some used) × IsSent sends datagram given used left × (went ≡ is_ok given)
      × (after ≡ slice_set before (channel - 1) left)
  -- if there is no such channel, nothing is sent
  pub none : has_channel channel before ≡ false → (went ≡ false) × (after ≡ before)

-- why a send on this channel fails
abbrev pub fault_on : {S : Type 0} → ℕ → List S → ChannelFault
fault_on channel channels = if has_channel channel channels then fault.System else fault.Room

-- one channel is asked: its socket makes one reception, and the channel counts a refusal with its cause
pub record IsAsked {S : Type 0} (receives : S → ℕ → Reception → List ℕ → S → Type 0) (room : ℕ) (reception : Reception)
    (octets : List ℕ) (before after : ChannelState S) : Type 0 where
  -- the socket makes one reception with this result and these bytes
  pub received : receives before.socket room reception octets after.socket
  -- a refusal adds 1 to this channel's failed receptions, with its cause
  pub failures : after.failures ≡ record {
    sends = before.failures.sends;
    receives = count_call (receive_fault reception) before.failures.receives;
  }

-- the result of several channels if one more of them has nothing
abbrev pub unless_failed : Result (Option (ℕ × ℕ)) ChannelFault → Result (Option (ℕ × ℕ)) ChannelFault
unless_failed (Ok came) = Ok came
unless_failed (Err why) = Ok None

-- the answer of several channels if one of them has nothing: what the others answer, but None if they all refuse
abbrev pub or_none : List Answer → List Answer
or_none [] = None ∷ []
or_none (x ∷ xs) = x ∷ xs

-- channels are asked in order, the first as the one of this number, until one gives a datagram; later ones are not
-- asked. The answer is that datagram; None if no channel gives one and at least one has nothing; and no answer if all
-- refuse
abbrev pub AsksChannels : {S : Type 0} → (S → ℕ → Reception → List ℕ → S → Type 0) → (room channel : ℕ) → List Answer
    → (before after : List (ChannelState S)) → Type 0
AsksChannels receives room channel answers [] after = (answers ≡ []) × (after ≡ [])
AsksChannels {S} receives room channel answers (asked ∷ others) after =
    (left : ChannelState S) × (rest : List (ChannelState S)) × (after ≡ left ∷ rest)
    × (((size : ℕ) × (octets : List ℕ) × IsAsked receives room (Came size) octets asked left
    × (answers ≡ Some (channel, octets) ∷ []) × (rest ≡ others))
    ⊎ (((later : List Answer) × IsAsked receives room Nothing [] asked left
    × AsksChannels receives room (channel + 1) later others rest × (answers ≡ or_none later))
    ⊎ ((why : CallFault) × IsAsked receives room (Refused why) [] asked left
    × AsksChannels receives room (channel + 1) answers others rest)))

-- after these answers of the later channels, those from channel 1 on are asked, unless a datagram was given
abbrev pub AsksLaterChannels : {S : Type 0} → (S → ℕ → Reception → List ℕ → S → Type 0) → ℕ
    → (later answers : List Answer) → (before after : List (ChannelState S)) → Type 0
AsksLaterChannels receives room [] answers before after = AsksChannels receives room 1 answers before after
AsksLaterChannels receives room (None ∷ xs) answers before after =
    (earlier : List Answer) × AsksChannels receives room 1 earlier before after × (answers ≡ or_none earlier)
AsksLaterChannels receives room (Some x ∷ xs) answers before after = (answers ≡ Some x ∷ []) × (after ≡ before)

-- the channels are asked in a circle: first those after the one that gave the last datagram, then the others
abbrev pub AsksAround : {S : Type 0} → (S → ℕ → Reception → List ℕ → S → Type 0) → (room last : ℕ) → List Answer
    → (before after : List (ChannelState S)) → Type 0
AsksAround receives room last answers before after =
    (later : List Answer) × AsksChannels receives room (last + 1) later (drop last before) (drop last after)
    × AsksLaterChannels receives room later answers (take last before) (take last after)

-- the number of the channel that gave the last datagram, after a reception
abbrev pub last_after : Result (Option (ℕ × ℕ)) ChannelFault → ℕ → ℕ
last_after (Ok (Some (channel, size))) last = channel
last_after (Ok None) last = last
last_after (Err why) last = last

-- the count of datagrams after a reception, modulo 2^64
abbrev pub received_count_after : Result (Option (ℕ × ℕ)) ChannelFault → ℕ → ℕ
received_count_after (Ok (Some _)) n = (n + 1) % 2 ^ 64
received_count_after (Ok None) n = n
received_count_after (Err _) n = n

-- a remote address for each local one, of 1 to 4
abbrev pub are_paired : {T : Type 0} → List T → List T → Bool
are_paired local remote =
    (length local == length remote) && (nat_le 1 (length local) && nat_le (length local) CHANNELS_MAX)
