-- The lines that wait until a standard stream takes them.
use Rattle.std.specs.Prelude.{◌≡◌, ◌≢◌, ◌⊎◌, ℕ, zero, suc, ◌+◌, ◌-◌, ◌^◌, ◌≤◌, ◌<◌, ◌==◌, ◌||◌, ◌&&◌, not, nat_lt, nat_le, Bool, true, false, min, max, length, take, drop, reverse, slice_get, Option, None, Some, Result, Ok, Err, List, [], ◌∷◌, codes, if◌then◌else◌}
use Rattle.std.specs.Fmt.{decimal}
use Rattle.std.specs.Io.KnownBytes.{Appends}
use Rattle.pdu_text.specs.Lines.{join_pieces}
use Rattle.rasta_run.specs.InputLines.{feed_place, is_open, lines_left}
use Rattle.rasta_run.specs.declared.backlog.WriteOutcome.{WriteOutcome}
use Rattle.rasta_run.specs.declared.backlog.WriteOutcome.TheVariants.{On, Over, Failed}
use Rattle.rasta_run.specs.declared.readiness.Stream.{Stream}
use Rattle.rasta_run.specs.declared.readiness.Stream.TheVariants as stream
use Rattle.settings_file.specs.declared.values.Ends.{Ends}
use Rattle.settings_file.specs.declared.values.Ends.TheVariants as ends
use Rattle.rasta_words.specs.declared.status.Fault.{Fault}
use Rattle.rasta_words.specs.declared.status.Fault.TheVariants as fault

-- the descriptor of a standard stream, and that which ends a run
abbrev pub descriptor_of : Stream → ℕ
descriptor_of stream.Input = 0
descriptor_of stream.Output = 1
descriptor_of stream.Error = 2
descriptor_of stream.End = 3

-- the greatest number of bytes of one write
abbrev pub write_most : ℕ
write_most = 4_096

-- the greatest number of writes in a row
abbrev pub writes_most : ℕ
writes_most = 4_194_304

-- one more line left out
abbrev pub one_more : ℕ → ℕ
one_more count = min (count + 1) (2 ^ 64 - 1)

-- no text is taken: it would begin a line, and a line was left out or there is no room
abbrev pub is_refused : List ℕ → (room left_out : ℕ) → Bool
is_refused octets room left_out =
    not (is_open (slice_get octets (length octets - 1))) && (nat_lt 0 left_out || nat_le room (length octets))

-- how many of the first bytes are up to the last line feed, if this many come after it; all of them if there is none
abbrev pub cut_size : ℕ → Option ℕ → ℕ
cut_size most (Some after) = most - after
cut_size most None = most

-- the bytes of the next write: up to the last line feed of the first 4,096 bytes, or all of these if they have none
abbrev pub front_size : List ℕ → ℕ
front_size octets =
    cut_size (min (length octets) write_most) (feed_place (reverse (take (min (length octets) write_most) octets)))

-- a writer, the bytes that wait for it, and the gate that knows whether it is ready
pub record GatedWriter (W G : Type 0) : Type 0 where
  pub writer : W
  pub octets : List ℕ
  pub gate : G

-- one write at most, of at most the front: exactly what the writer takes of it is removed, and only if it takes
-- something the step goes on
abbrev pub WritesFront : {W G : Type 0} → (W → Option (List ℕ)) → GatedWriter W G → WriteOutcome → GatedWriter W G
    → Type 0
WritesFront contents s step t =
    (size : ℕ) × (size ≤ front_size s.octets) × (t.octets ≡ drop size s.octets)
    × Appends (contents s.writer) (contents t.writer) (take size s.octets)
    × (step ≡ On → 0 < size) × (step ≢ On → size ≡ 0)

-- one step of passing on
pub record PassesOnce {W G : Type 0} (contents : W → Option (List ℕ)) (asks : G → Stream → Bool → G
    → Type 0) (stream : Stream) (s : GatedWriter W G) (step : WriteOutcome) (t : GatedWriter W G) : Type 0 where
  -- if nothing waits, the step is over, and nothing is asked or written
  pub idle : s.octets ≡ [] → (step ≡ Over) × (t ≡ s)
  -- else the gate is asked once; if the stream is not ready, the step is over, and nothing is written
  pub asked : s.octets ≢ [] → (ready : Bool) × asks s.gate stream ready t.gate
      × (ready ≡ false → (step ≡ Over) × (t.writer ≡ s.writer) × (t.octets ≡ s.octets))
  -- at most the front is written
  pub passed : WritesFront contents s step t

-- this many steps, in each of which the writer took something
abbrev pub PassesManyTimes : {W G : Type 0} → (W → Option (List ℕ)) → (G → Stream → Bool → G → Type 0) → Stream → ℕ
    → (s t : GatedWriter W G) → Type 0
PassesManyTimes contents asks stream zero s t = t ≡ s
PassesManyTimes {W} {G} contents asks stream (suc n) s t =
    (mid : GatedWriter W G) × PassesManyTimes contents asks stream n s mid × PassesOnce contents asks stream mid On t

-- the last step: it is over, or it fails, or there were enough
abbrev pub EndsPassing : {W G : Type 0} → (W → Option (List ℕ)) → (G → Stream → Bool → G → Type 0) → Stream → ℕ
    → (s : GatedWriter W G) → Bool → (t : GatedWriter W G) → Type 0
EndsPassing contents asks stream count s works t =
    ((count ≡ writes_most) × (works ≡ true) × (t ≡ s))
    ⊎ (((works ≡ true) × PassesOnce contents asks stream s Over t)
    ⊎ ((works ≡ false) × PassesOnce contents asks stream s Failed t))

-- steps until one is over or fails
pub record PassesAll {W G : Type 0} (contents : W → Option (List ℕ)) (asks : G → Stream → Bool → G
    → Type 0) (stream : Stream) (s : GatedWriter W G) (works : Bool) (t : GatedWriter W G) : Type 0 where
  -- the number of steps before the last one
  pub count : ℕ
  -- the state before the last one
  pub mid : GatedWriter W G
  -- in each of these steps the writer took something
  pub goes : PassesManyTimes contents asks stream count s mid
  -- the last step
  pub stops : EndsPassing contents asks stream count mid works t

-- when lines that wait are tried again: 10 ms later, if any wait
abbrev pub next_try : (out err : List ℕ) → ℕ → Option ℕ
next_try out err now =
    if not (length out == 0) || not (length err == 0) then Some (min (now + 10) (2 ^ 64 - 1)) else None

-- the lines that were not printed: those left out, and those that wait
abbrev pub unread_lines : ℕ → List ℕ → ℕ
unread_lines left_out octets = min (left_out + lines_left octets) (2 ^ 64 - 1)

-- the line of how many lines of the log were left out
unfoldable pub left_out_text : ℕ → List ℕ
left_out_text count = join_pieces (codes "log: " ∷ decimal count ∷ codes " lines left out\n" ∷ [])

-- the line of how many lines of standard output were not printed
unfoldable pub unread_text : ℕ → List ℕ
unread_text count =
    join_pieces (codes "output: " ∷ decimal count ∷ codes " lines not printed\n" ∷ [])

-- turns that end because a line of standard output had no room count as no fault
abbrev pub unless_unread : Result (Unit {0}) Fault → Bool → Result (Unit {0}) Fault
unless_unread (Err fault.Output) true = Ok tt
unless_unread ran has_left_out = ran

-- how long the end of a run waits for a reader: T_max, and of two ends the longer
abbrev pub longest_patience : Ends → ℕ
longest_patience (ends.Il il) = il.config.t_max
longest_patience (ends.Fe fe) = fe.config.t_max
longest_patience (ends.Pair il fe) = max il.config.t_max fe.config.t_max
