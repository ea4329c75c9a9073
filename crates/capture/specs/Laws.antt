-- The laws of a capture: what holds for every list of numbers and of datagrams.
use Rattle.std.specs.Prelude.{◌≡◌, ℕ, ◌+◌, ◌-◌, ◌^◌, ◌<◌, List, [], ◌∷◌, length}
use Rattle.capture.specs.declared.connections.TheConstants.{CONNECTIONS}
use Rattle.capture.specs.declared.direction.TheConstants.{CHANNELS}
use Rattle.capture.specs.declared.line.TheConstants.{PAYLOAD_ROOM}
use Rattle.capture.specs.declared.ports.TheConstants.{RANGES}
use Rattle.capture.specs.declared.window.TheConstants.{KEPT, LATE_MAX, PASSED_MAX}
use Rattle.capture.specs.declared.words.TheConstants.{SECONDS_MAX}
use Rattle.capture.specs.declared.connections.Connection.{Connection}
use Rattle.capture.specs.declared.follower.Totals.{Totals}
use Rattle.capture.specs.declared.datagram.DecodedDatagram.{DecodedDatagram}
use Rattle.capture.specs.declared.line.Record.{Record}
use Rattle.capture.specs.declared.window.SeenNumber.{SeenNumber}
use Rattle.capture.specs.declared.window.Window.{Window}
use Rattle.capture.specs.declared.window.NumberOrder.{NumberOrder}
use Rattle.capture.specs.declared.window.NumberOrder.TheVariants.{First, Next, Ahead, Anew}
use Rattle.capture.specs.Numbers.{limited_sum, number_order, note_number, open_window}
use Rattle.capture.specs.WholeCapture.{connections_after, damaged_count_after, forgotten_totals_after, no_totals, totals_of}

-- The limits, as numbers. Numbers are kept by their remainder modulo 32, a power of two, since the ring of 2^32 wraps
-- within it; so 31 before the newest may come late. A gap of more than 16 bits starts again. Two channels are RaSTA's
-- own, four leave room. 256 connections take 7.6 MB. A payload is kept up to the power of two above the longest
-- redundancy PDU, of 1,258 bytes. The latest second is the last of twelve digits.
abbrev pub LimitsAre : Type 0
LimitsAre =
    (KEPT ≡ 32) × (LATE_MAX ≡ 31) × (PASSED_MAX ≡ 65535) × (CHANNELS ≡ 4) × (RANGES ≡ 4) × (CONNECTIONS ≡ 256)
    × (PAYLOAD_ROOM ≡ 2048)
    × (SECONDS_MAX ≡ 999999999999)

-- How many new numbers a number reaches: the skipped ones and itself.
abbrev pub reach_of : NumberOrder → ℕ
reach_of First = 1
reach_of Next = 1
reach_of (Ahead passed) = passed + 1
reach_of Anew = 1
reach_of _ = 0

-- How many numbers a list of them reaches.
abbrev pub reach_of_all : Window → List SeenNumber → ℕ
reach_of_all w [] = 0
reach_of_all w (s ∷ ss) =
    reach_of (number_order w s.number s.fingerprint) + reach_of_all (note_number w s.number s.line s.fingerprint) ss

-- The window after a list of numbers.
abbrev pub note_all : Window → List SeenNumber → Window
note_all w [] = w
note_all w (s ∷ ss) = note_all (note_number w s.number s.line s.fingerprint) ss

-- Each number that was reached came in order, came late, or is missing.
abbrev pub EachOnce : Type 0
EachOnce = (ss : List SeenNumber) → reach_of_all open_window ss < 2 ^ 64
    → let w = note_all open_window ss in w.heard + w.late + w.missing ≡ reach_of_all open_window ss

-- How many datagrams a window has counted.
abbrev pub datagrams_in : Window → ℕ
datagrams_in w = w.heard + w.late + w.repeats + w.differing + w.stale

-- Each datagram is counted once.
abbrev pub EachCounted : Type 0
EachCounted = (ss : List SeenNumber) → length ss < 2 ^ 64 → datagrams_in (note_all open_window ss) ≡ length ss

-- A datagram of a capture.
pub record CapturedDatagram : Type 0 where
  pub line : ℕ  -- the number of its line
  pub from : Record  -- its time and addresses
  pub heard : DecodedDatagram  -- decoded

-- The state of a capture.
pub record CaptureState : Type 0 where
  pub connections : List Connection
  pub gone : Totals  -- sums over the connections that were forgotten
  pub damaged : ℕ  -- datagrams that are not a PDU
  pub datagrams : ℕ

-- The state before the first datagram.
abbrev pub new_capture : CaptureState
new_capture = record { connections = []; gone = no_totals; damaged = 0; datagrams = 0 }

-- The state after one more datagram.
abbrev pub capture_after : CaptureState → CapturedDatagram → CaptureState
capture_after k c =
    record {
      connections = connections_after k.connections c.line c.from c.heard;
      gone = forgotten_totals_after k.gone k.connections c.from c.heard;
      damaged = damaged_count_after k.damaged c.heard;
      datagrams = limited_sum k.datagrams 1;
    }

-- The state after a list of datagrams.
abbrev pub capture_after_all : CaptureState → List CapturedDatagram → CaptureState
capture_after_all k [] = k
capture_after_all k (c ∷ cs) = capture_after_all (capture_after k c) cs

-- How many datagrams are counted in sums.
abbrev pub datagrams_of : Totals → ℕ
datagrams_of t = t.heard + t.late + t.repeats + t.differing + t.stale

-- The sums add up: each datagram is a PDU in order, late, a repeat, differing or stale, or it is damaged.
abbrev pub SumsAddUp : Type 0
SumsAddUp = (cs : List CapturedDatagram) → length cs < 2 ^ 64 - 1
    → let k = capture_after_all new_capture cs in
    (datagrams_of (totals_of k.gone k.connections) + k.damaged ≡ length cs) × (k.datagrams ≡ length cs)
