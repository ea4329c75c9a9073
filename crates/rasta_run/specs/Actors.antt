-- One or two ends that run: what they leave undone, how they are at the end, and when they are over.
use Rattle.std.specs.Prelude.{◌≡◌, ℕ, ◌+◌, ◌-◌, ◌^◌, ◌==◌, ◌&&◌, ◌||◌, not, min, max, length, Bool, true, false, Option, Some, None}
use Rattle.rasta_run.specs.Progress as progress
use Rattle.rasta_run.specs.ExpectedStates.{is_expected}
use Rattle.rasta_run.specs.InputLines.{Input}
use Rattle.rasta_run.specs.Leftovers as undone
use Rattle.rasta_run.specs.TelegramPuts.{EndWithInput}
use Rattle.rasta_run.specs.Turns.{Course}
use Rattle.rasta_run.specs.declared.recorded_channels.RecordedChannels.{RecordedChannels}
use Rattle.rasta_run.specs.declared.turns.Actor.{Actor}
use Rattle.rasta_run.specs.declared.leftovers.Leftovers.{Leftovers}
use Rattle.rasta_words.specs.declared.status.ExpectedState.{ExpectedState}
use Rattle.rasta_words.specs.declared.status.RunLength.{RunLength}
use Rattle.rasta_words.specs.declared.status.RunLength.TheVariants.{Turns, UntilEnd}
use Rattle.pdi_session.specs.TelegramCounts.{items_in}
use Rattle.stack_end.specs.Certain.{confirmed_in}
use Rattle.stack_end.specs.EndValue.{inside}
use Rattle.stack_end.specs.Turns.{is_settled}

-- what a turn changes of an end, and its application
abbrev pub course_of : {C A T : Type 0} → Actor C A → T → Course (RecordedChannels C) A T
course_of a app =
    record {
      end = a.end;
      left = a.left.now;
      put = a.put;
      refused = a.refused_entries;
      app = app;
      deaf = a.deaf_turns;
      closed = a.was_closed;
    }

-- what lines of input change of an end, its application, and the input
abbrev pub with_input : {C A T : Type 0} → Actor C A → T → Input → EndWithInput (RecordedChannels C) A T
with_input a app input = record { end = a.end; put = a.put; app = app; refused = a.refused_lines; input = input }

-- nothing changes but the end, its list and its log, and the numbers of telegrams put and refused
abbrev pub OnlyPuts : {C A : Type 0} → Actor C A → Actor C A → Type 0
OnlyPuts s t =
    t ≡ record s {
      end = t.end;
      left = t.left;
      put = t.put;
      refused_entries = t.refused_entries;
      log = t.log;
    }

-- nothing changes but the end, its log, and the numbers of telegrams put and lines refused
abbrev pub OnlyPutsLines : {C A : Type 0} → Actor C A → Actor C A → Type 0
OnlyPutsLines s t =
    t ≡ record s { end = t.end; put = t.put; refused_lines = t.refused_lines; log = t.log }

-- what an end leaves undone, if this many lines of input were not offered to it
abbrev pub leftovers_of : {C A : Type 0} → Actor C A → (lines : ℕ) → Leftovers
leftovers_of a lines =
    record {
      lines = min (lines + a.refused_lines) (2 ^ 64 - 1);
      entries = min (length a.left.now + a.refused_entries) (2 ^ 64 - 1);
      doubt = min (a.lost + undone.doubt_of a.put a.before (confirmed_in (inside a.end).upper)) (2 ^ 64 - 1)
          - min (a.lost_unsent + items_in (inside a.end).upper.waiting) (2 ^ 64 - 1);
      unsent = min (a.lost_unsent + items_in (inside a.end).upper.waiting) (2 ^ 64 - 1);
    }

-- an end is in the expected state
abbrev pub is_as_expected : {C A : Type 0} → Option ExpectedState → (lines : ℕ) → Actor C A → Bool
is_as_expected expected lines a = is_expected expected (inside a.end).upper.session.phase (is_settled (inside a.end))
    (undone.is_nothing (leftovers_of a lines))

-- the second end is, if there is one
abbrev pub is_second_as_expected : {C A : Type 0} → Option ExpectedState → Option (Actor C A) → Bool
is_second_as_expected expected None = true
is_second_as_expected expected (Some a) = is_as_expected expected 0 a

-- nothing is left undone by the second end, if there is one
abbrev pub is_second_done : {C A : Type 0} → Option (Actor C A) → Bool
is_second_done None = true
is_second_done (Some a) = undone.is_nothing (leftovers_of a 0)

-- a run lasts until its input ends
abbrev pub is_until_end : RunLength → Bool
is_until_end UntilEnd = true
is_until_end (Turns count) = false

-- nothing is left undone that a run was to do: one of counted turns leaves nothing undone
abbrev pub is_finished : {C A : Type 0} → RunLength → (lines : ℕ) → Actor C A → Option (Actor C A) → Bool
is_finished length lines a b =
    not (is_until_end length) || (undone.is_nothing (leftovers_of a lines) && is_second_done b)

-- when an end gives up
abbrev pub limit_of : {C A : Type 0} → Actor C A → ℕ
limit_of a = progress.limit_of a.progress.at a.keeper.config.t_max

-- an end is over, once its input is done
abbrev pub is_actor_over : {C A : Type 0} → (input_done : Bool) → (now : ℕ) → Actor C A → Bool
is_actor_over input_done now a =
    progress.is_over input_done
    (progress.is_finished (inside a.end).upper.machine.connection a.is_kept (length a.left.now == 0)
    (is_settled (inside a.end))) (limit_of a) now

-- the second end is, if there is one: it has no input
abbrev pub is_second_over : {C A : Type 0} → (now : ℕ) → Option (Actor C A) → Bool
is_second_over now None = true
is_second_over now (Some a) = is_actor_over true now a

-- when the later of all ends gives up
abbrev pub later_limit : {C A : Type 0} → Actor C A → Option (Actor C A) → ℕ
later_limit a None = limit_of a
later_limit a (Some b) = max (limit_of a) (limit_of b)
