-- The times of `follow`: their form, the first and the last instant, and how often the sums are printed.
use Rattle.std.specs.Prelude.{◌≡◌, ℕ, nat_lt, Bool, false, true, List, codes, Option, None, Some}
use Rattle.capture.specs.Instants.{instant_of}
use Rattle.capture.specs.declared.instants.Instant.{Instant}
use Rattle.capture.specs.declared.instants.Instant.TheVariants.{Since, At}
use Rattle.capture.specs.declared.instants.Span.{Span}
use Rattle.capture_text.specs.declared.pieces.TimeForm.{TimeForm}
use Rattle.capture_text.specs.declared.pieces.TimeForm.TheVariants.{Since, Epoch, Utc}
use Rattle.clap.specs.Words.{Row, Text, first_of}
use Rattle.rasta_words.specs.Seconds.{AreSecondsChosen}
use Rattle.rasta_words.specs.declared.command_line.FollowTimes.{FollowTimes}

-- the word for a form of times
abbrev pub times_word : TimeForm → Text
times_word Since = codes "since"
times_word Epoch = codes "epoch"
times_word Utc = codes "utc"

-- the form that the word of `--time` names; without the option seconds since the first datagram
abbrev pub IsFormChosen : Option Text → TimeForm → Type 0
IsFormChosen None form = form ≡ Since
IsFormChosen (Some word) form = word ≡ times_word form

-- the word names this instant
abbrev pub IsInstant : Text → Option Instant → Type 0
IsInstant word None = ⊥
IsInstant word (Some instant) = instant_of word ≡ Some instant

-- the instant that the word of `--from` or `--to` names; without the option none
abbrev pub IsInstantChosen : Option Text → Option Instant → Type 0
IsInstantChosen None instant = instant ≡ None
IsInstantChosen (Some word) instant = IsInstant word instant

-- one instant is before another; instants of two forms are not compared, since only a recording has both
abbrev pub is_earlier : Option Instant → Option Instant → Bool
is_earlier (Some (Since one)) (Some (Since other)) = nat_lt one other
is_earlier (Some (At one)) (Some (At other)) = nat_lt one other
is_earlier _ _ = false

-- the time ends before it begins
abbrev pub is_reversed : Span → Bool
is_reversed s = is_earlier s.to s.from

-- each of the times of `follow` has the value of its entry
abbrev pub HasEachTime : List Row → FollowTimes → Type 0
HasEachTime rows t =
    IsFormChosen (first_of (codes "time") rows) t.form × IsInstantChosen (first_of (codes "from") rows) t.span.from
    × IsInstantChosen (first_of (codes "to") rows) t.span.to × AreSecondsChosen (first_of (codes "every") rows) t.every

-- the times of `follow` have the values of the entries that clap found, and do not end before they begin
abbrev pub HasTimes : List Row → FollowTimes → Type 0
HasTimes rows t = HasEachTime rows t × (is_reversed t.span ≡ false)

--- these entries give no times: a value is invalid, or the end is before the beginning
abbrev pub HasNoTimes : List Row → Type 0
HasNoTimes rows = (t : FollowTimes) → ¬ HasTimes rows t

-- `--time` of `follow` is valid or absent
abbrev pub HasForm : List Row → Type 0
HasForm rows = (form : TimeForm) × IsFormChosen (first_of (codes "time") rows) form

-- `--from` is valid or absent
abbrev pub HasFrom : List Row → Type 0
HasFrom rows = (instant : Option Instant) × IsInstantChosen (first_of (codes "from") rows) instant

-- `--to` is valid or absent
abbrev pub HasTo : List Row → Type 0
HasTo rows = (instant : Option Instant) × IsInstantChosen (first_of (codes "to") rows) instant
