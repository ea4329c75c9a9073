-- The value of a keeper of datagrams, and what it shows as channels.
use Rattle.std.specs.Prelude.{ℕ, ◌/◌, ◌==◌, min, Bool, Some, None, List, map, drop, if◌then◌else◌}
use Rattle.std.specs.List.{list_any}
use Rattle.std.specs.Str.{bytes_eq}
use Rattle.octets.specs.declared.limits.TheConstants.{RED_HEADER, RED_PDU_MAX}
use Rattle.channels.specs.ChannelHistory.{ChannelHistory, SentDatagram}

-- the value of a keeper
pub record KeeperValue : Type 0 where
  pub datagrams : List (List ℕ)  -- the datagrams kept, in order
  pub places : ℕ  -- for how many more datagrams there is room
  pub octets : ℕ  -- for how many of their bytes there is room
  pub failed_sends : ℕ  -- how many sends failed, modulo 2^64

-- a kept datagram was sent on channel 1
abbrev pub on_first : List ℕ → SentDatagram
on_first datagram = (1, datagram)

-- for how many datagrams of the greatest size there is room
abbrev pub sure_room : KeeperValue → ℕ
sure_room k = min k.places (k.octets / RED_PDU_MAX)

-- what the keeper shows as channels: receptions are not recorded, and a send is only sure to succeed on channel 1
abbrev pub told_of : KeeperValue → ChannelHistory
told_of k =
    record {
      sent = Some (map on_first k.datagrams);
      answers = None;
      asked = None;
      failed_sends = k.failed_sends;
      failed_receives = 0;
      room = λ channel. if channel == 1 then sure_room k else 0;
    }

-- one of the datagrams has this part
abbrev pub has_part : List ℕ → List (List ℕ) → Bool
has_part part datagrams = list_any (λ d. bytes_eq part (drop RED_HEADER d)) datagrams
