-- When a channel is logged as silent, and when it receives again.
use Rattle.std.specs.Prelude.{ℕ, ◌+◌, ◌-◌, nat_eq, nat_le, nat_lt, Bool, true, false, List, slice_index_or, slice_set, Option, Some, None, if◌then◌else◌}
use Rattle.rasta_run.specs.declared.silence.ChannelSilence.{ChannelSilence}
use Rattle.rasta_run.specs.declared.silence.SilenceChange.{SilenceChange}
use Rattle.rasta_run.specs.declared.silence.SilenceChange.TheVariants.{Nothing, Silent, Heard}
use Rattle.pdu_text.specs.declared.lines.EndEvent.{EndEvent}
use Rattle.pdu_text.specs.declared.lines.EndEvent.TheVariants as happening
use Rattle.stack_end.specs.Statistics.{no_reception_counts}
use Rattle.stack_end.specs.declared.statistics.ReceptionCounts.{ReceptionCounts}

-- the channel after a look: a datagram came, or none for longer than T_max
abbrev pub look_at_channel : ChannelSilence → ℕ → ℕ → ℕ → ChannelSilence
look_at_channel l came now t_max =
    if nat_eq came l.came
    then (if nat_lt t_max (now - l.at) then record l { silent = true } else l)
    else record { came = came; at = now; silent = false }

-- the change from silent or not to silent or not
abbrev pub change_between : Bool → Bool → SilenceChange
change_between false true = Silent
change_between true false = Heard
change_between true true = Nothing
change_between false false = Nothing

-- the change that is logged
abbrev pub silence_change_of : ChannelSilence → ChannelSilence → SilenceChange
silence_change_of l m = change_between l.silent m.silent

-- a channel that has received nothing since a time
abbrev pub new_silence : ℕ → ChannelSilence
new_silence at = record { came = 0; at = at; silent = false }

-- the channel at a place after a look at the counts of all
abbrev pub silence_now : List ChannelSilence → List ReceptionCounts → (place now t_max : ℕ) → ChannelSilence
silence_now ls rs place now t_max =
    look_at_channel (slice_index_or ls place (new_silence 0)) (slice_index_or rs place no_reception_counts).received now
    t_max

-- the channels after a look at the one at a place, from 0, if the end has it
abbrev pub silences_at : List ReceptionCounts → (count now t_max place : ℕ) → List ChannelSilence → List ChannelSilence
silences_at rs count now t_max place ls =
    if nat_le count place then ls else slice_set ls place (silence_now ls rs place now t_max)

-- the channels after a look at all of them
abbrev pub all_silences : List ReceptionCounts → (count now t_max : ℕ) → List ChannelSilence → List ChannelSilence
all_silences rs count now t_max ls =
    silences_at rs count now t_max 3 (silences_at rs count now t_max 2
    (silences_at rs count now t_max 1 (silences_at rs count now t_max 0 ls)))

-- the event of a change of a channel, numbered from 1
abbrev pub silence_event : SilenceChange → (channel : ℕ) → Option EndEvent
silence_event Nothing channel = None
silence_event Silent channel = Some (happening.Silent channel)
silence_event Heard channel = Some (happening.Heard channel)
