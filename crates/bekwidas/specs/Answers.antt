-- The result of each exported function, and what it leaves in the slot: for each code exactly when it is returned.
use Rattle.std.specs.Prelude.{◌≡◌, ◌==◌, ◌⊎◌, not, ℤ, ℕ, pos, Option, Some, None, List, length, if◌then◌else◌}
use Rattle.stack_end.specs.Ends.{Call, Close, Deliver, InitDone, Put, time_of}
use Rattle.stack_end.specs.EndValue.{inside}
use Rattle.stack_end.specs.Turns.{is_settled}
use Rattle.end_for_callers.specs.Openings.{last_departure}
use Rattle.end_for_callers.specs.Totals.{plus}
use Rattle.end_for_callers.specs.Calls.{Does, IsNextTick, is_due, Reopens, StationValue, outbox_of, outcome_of, refusal, refusal_to_close, refusal_to_init, refusal_to_put, refusal_to_reopen, LosesNone, SameButNotes}
use Rattle.end_for_callers.specs.Notes.{heard_anew, next_of, rest_of}
use Rattle.end_for_callers.specs.declared.notes.StationNote.{StationNote}
use Rattle.pdi_session.specs.SessionStep.{Agreement}
use Rattle.bekwidas.specs.Agreements.{agreement_in}
use Rattle.bekwidas.specs.declared.agreement.PlainAgreement.{PlainAgreement}
use Rattle.bekwidas.specs.Notes.{note_in}
use Rattle.bekwidas.specs.declared.notes.PlainNote.{PlainNote}
use Rattle.end_for_callers.specs.declared.CallFault.{CallFault}
use Rattle.stack_end.specs.Certain.{confirmed_in}
use Rattle.bekwidas.specs.Statistics.{statistics_in}
use Rattle.bekwidas.specs.declared.statistics.PlainStatistics.{PlainStatistics}
use Rattle.stack_end.specs.EndValue.{statistics_of}
use Rattle.stack_end.specs.declared.departure.Departure.{Departure}
use Rattle.bekwidas.specs.Codes.{code_of_fault, code_of_leaver, code_of_outcome, code_of_phase, code_of_state, code_of_version}
use Rattle.bekwidas.specs.Held.{Became}
use Rattle.bekwidas.specs.Slots.{NoDatagram, NoTelegram, StaysDatagram, StaysTelegram, ReturnsFact, TookDatagram, TookTelegram}
use Rattle.bekwidas.specs.declared.codes.TheConstants.{NOTHING, OK, TOO_SMALL}
use Rattle.bekwidas.specs.declared.exports.Counts.{Counts}
use Rattle.bekwidas.specs.declared.exports.PlainDeparture.{PlainDeparture}
use Rattle.bekwidas.specs.declared.handle.Slot.{Slot}

-- a slot that held an end still holds one, and this relation holds between the end before and after
abbrev pub StaysOpen : (StationValue → StationValue → Type 0) → Slot → Slot → Type 0
StaysOpen R before after = (after.is_open ≡ 1) × Became R before.handle.held after.handle.held

-- if there is a reason to refuse a call, its code is returned and nothing changes; otherwise the call is done, and the
-- code is that of its outcome. With the room for whatever one call sends, no datagram is lost.
abbrev pub AnswersCall : Call → Option CallFault → ℤ → StationValue → StationValue → Type 0
AnswersCall c (Some why) code s t = (code ≡ code_of_fault why) × (t ≡ s)
AnswersCall c None code s t =
    (code ≡ code_of_outcome (outcome_of s t)) × Does c s t × (t.time ≡ time_of c) × LosesNone s t

-- a received datagram
abbrev pub AnswersArrive : (channel : ℕ) (octets : List ℕ) (now : ℕ) → ℤ → StationValue → StationValue → Type 0
AnswersArrive channel octets now code s t = AnswersCall (Deliver channel octets now) (refusal now s) code s t

-- a tick
abbrev pub AnswersTick : (now : ℕ) → ℤ → StationValue → StationValue → Type 0
AnswersTick now code s t = AnswersCall (Call.Tick now) (refusal now s) code s t

-- a put
abbrev pub AnswersPut : (kind : ℕ) (payload : List ℕ) (now : ℕ) → ℤ → StationValue → StationValue → Type 0
AnswersPut kind payload now code s t = AnswersCall (Put kind payload now) (refusal_to_put now kind payload s) code s t

-- the end of the initialisation
abbrev pub AnswersInitDone : (now : ℕ) → ℤ → StationValue → StationValue → Type 0
AnswersInitDone now code s t = AnswersCall (InitDone now) (refusal_to_init now s) code s t

-- a closing
abbrev pub AnswersClose : (now : ℕ) → ℤ → StationValue → StationValue → Type 0
AnswersClose now code s t = AnswersCall (Close now) (refusal_to_close now s) code s t

-- a reopening that is refused returns the code of the reason and changes nothing; otherwise the code is OK, and the end
-- has opened again
abbrev pub AnswersReopening : (first now : ℕ) → Option CallFault → ℤ → StationValue → StationValue → Type 0
AnswersReopening first now (Some why) code s t = (code ≡ code_of_fault why) × (t ≡ s)
AnswersReopening first now None code s t = (code ≡ OK) × Reopens first now s t

-- a reopening
abbrev pub AnswersReopen : (first now : ℕ) → ℤ → StationValue → StationValue → Type 0
AnswersReopen first now code s t = AnswersReopening first now (refusal_to_reopen now s) code s t

-- exactly one of three: OK, and the oldest telegram is fetched; TOO_SMALL, and only its length is written; NOTHING, and
-- none waits
abbrev pub AnswersTake : (kind kind_after length length_after : ℕ) (buffer after : List ℕ) → ℤ → StationValue
    → StationValue → Type 0
AnswersTake kind kind_after length length_after buffer after code s t =
    ((code ≡ OK) × TookTelegram kind_after length_after buffer after s t)
    ⊎ (((code ≡ TOO_SMALL) × StaysTelegram length_after buffer after s t × (kind_after ≡ kind))
    ⊎ ((code ≡ NOTHING) × NoTelegram s t × (kind_after ≡ kind) × (length_after ≡ length) × (after ≡ buffer)))

-- the same for the oldest datagram
abbrev pub AnswersNextDatagram : (channel channel_after length length_after : ℕ) (buffer after : List ℕ) → ℤ
    → StationValue → StationValue → Type 0
AnswersNextDatagram channel channel_after length length_after buffer after code s t =
    ((code ≡ OK) × TookDatagram channel_after length_after buffer after s t)
    ⊎ (((code ≡ TOO_SMALL) × StaysDatagram length_after buffer after s t × (channel_after ≡ channel))
    ⊎ ((code ≡ NOTHING) × NoDatagram s t × (channel_after ≡ channel) × (length_after ≡ length) × (after ≡ buffer)))

-- OK if the deadline is written, NOTHING if the station has no deadline; the station does not change
abbrev pub AnswersNextDeadline : (deadline after : ℕ) → ℤ → StationValue → StationValue → Type 0
AnswersNextDeadline deadline after code s t =
    (t ≡ s) × (((code ≡ OK) × IsNextTick (Some after) s)
    ⊎ ((code ≡ NOTHING) × IsNextTick None s × (after ≡ deadline)))

-- the number of the connection state; the station does not change
abbrev pub AnswersState : ℤ → StationValue → StationValue → Type 0
AnswersState = ReturnsFact (λ v. code_of_state v.upper.machine.connection)

-- the number of the session phase; the station does not change
abbrev pub AnswersPhase : ℤ → StationValue → StationValue → Type 0
AnswersPhase = ReturnsFact (λ v. code_of_phase v.upper.session.phase)

-- 1 if the end is settled, and 0 if not; the station does not change
abbrev pub AnswersSettled : ℤ → StationValue → StationValue → Type 0
AnswersSettled = ReturnsFact (λ v. if is_settled v then pos 1 else pos 0)

-- the numbers of waiting telegrams, waiting datagrams, unsent datagrams and openings; the station does not change
abbrev pub AnswersCounts : Counts → ℤ → StationValue → StationValue → Type 0
AnswersCounts told code s t =
    (t ≡ s) × (code ≡ OK) × (told.telegrams ≡ length s.inbox.queue.waiting)
    × (told.datagrams ≡ length (outbox_of s).queue.waiting)
    × (told.unsent ≡ (outbox_of s).unsent)
    × (told.openings ≡ s.openings.count)

-- OK and all counts of the end; the station does not change
abbrev pub AnswersStatistics : PlainStatistics → ℤ → StationValue → StationValue → Type 0
AnswersStatistics told code s t = (t ≡ s) × (code ≡ OK) × (told ≡ statistics_in (statistics_of s.end))

-- OK and the sums of all counts over the openings of the end; the station does not change
abbrev pub AnswersTotals : PlainStatistics → ℤ → StationValue → StationValue → Type 0
AnswersTotals told code s t =
    (t ≡ s) × (code ≡ OK) × (told ≡ statistics_in (plus s.openings.earlier (statistics_of s.end)))

-- 1 if the end is due to be opened again, and 0 if not; the station does not change
abbrev pub AnswersStale : ℤ → StationValue → StationValue → Type 0
AnswersStale code s t = (t ≡ s) × (code ≡ (if is_due s then pos 1 else pos 0))

-- OK and the number of telegrams that are certain; the station does not change
abbrev pub AnswersConfirmed : ℕ → ℤ → StationValue → StationValue → Type 0
AnswersConfirmed count code s t = (t ≡ s) × (code ≡ OK) × (count ≡ confirmed_in (inside s.end).upper)

-- OK and the own time that the peer last confirmed; the station does not change
abbrev pub AnswersConfirmedTime : ℕ → ℤ → StationValue → StationValue → Type 0
AnswersConfirmedTime time code s t = (t ≡ s) × (code ≡ OK) × (time ≡ (inside s.end).upper.machine.confirmed_at)

-- a departure in numbers
abbrev pub departure_of : Departure → PlainDeparture
departure_of d = record {
  time = d.time;
  by = code_of_leaver d.by;
  reason = d.reason;
  detail = d.detail;
  version = code_of_version d.version;
}

-- OK and the departure is written, if there is one; otherwise NOTHING, and nothing is written
abbrev pub TellsDeparture : Option Departure → (before after : PlainDeparture) → ℤ → Type 0
TellsDeparture (Some left) before after code = (code ≡ OK) × (after ≡ departure_of left)
TellsDeparture None before after code = (code ≡ NOTHING) × (after ≡ before)

-- the departure that the end has recorded, or else the latest before its last opening; the station does not change
abbrev pub AnswersDeparture : (before after : PlainDeparture) → ℤ → StationValue → StationValue → Type 0
AnswersDeparture before after code s t =
    (t ≡ s) × TellsDeparture (last_departure (inside s.end).upper.departed s.openings.departed) before after code

-- OK and the agreement is written, if there is one; otherwise NOTHING, and nothing is written
abbrev pub TellsAgreement : Option Agreement → (before after : PlainAgreement) → ℤ → Type 0
TellsAgreement (Some agreed) before after code = (code ≡ OK) × (after ≡ agreement_in agreed)
TellsAgreement None before after code = (code ≡ NOTHING) × (after ≡ before)

-- what the session of the end has agreed on; the station does not change
abbrev pub AnswersAgreed : (before after : PlainAgreement) → ℤ → StationValue → StationValue → Type 0
AnswersAgreed before after code s t =
    (t ≡ s) × TellsAgreement (inside s.end).upper.session.agreed before after code

-- OK, and notes are kept from now on if and only if this is not 0; none waits, and nothing else changes
abbrev pub AnswersHearNotes : (hears : ℕ) → ℤ → StationValue → StationValue → Type 0
AnswersHearNotes hears code s t =
    (code ≡ OK) × ((outbox_of t).notes ≡ heard_anew (not (hears == 0))) × SameButNotes s t

-- OK and the note is written, if there is one; otherwise NOTHING, and nothing is written
abbrev pub TellsNote : Option StationNote → (before after : PlainNote) → ℤ → Type 0
TellsNote (Some note) before after code = (code ≡ OK) × (after ≡ note_in note)
TellsNote None before after code = (code ≡ NOTHING) × (after ≡ before)

-- the note that is next: it is gone, and nothing else changes
abbrev pub AnswersNextNote : (before after : PlainNote) → ℤ → StationValue → StationValue → Type 0
AnswersNextNote before after code s t =
    TellsNote (next_of (outbox_of s).notes) before after code × ((outbox_of t).notes ≡ rest_of (outbox_of s).notes)
    × SameButNotes s t
