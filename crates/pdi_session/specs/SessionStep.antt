-- The rules of a session: what each event does to its state, and what it adds to its lists.
use Rattle.std.specs.Prelude.{◌≡◌, ◌<◌, ◌≤◌, ℕ, true, is_none, not, nat_le, nat_lt, if◌then◌else◌, List, [], ◌∷◌, drop, length, map, take, Option, Some, None}
use Rattle.octets.specs.declared.limits.TheConstants.{PAYLOAD_MAX}
use Rattle.octets.specs.declared.limits.TheConstants.{WAITING_MAX}
use Rattle.pdi_session.specs.telegram.Tele.{Tele}
use Rattle.pdi_session.specs.telegram.TeleText.{tele_text}
use Rattle.pdi_session.specs.declared.TheConstants.{CHECKSUM_MAX}
use Rattle.pdi_session.specs.declared.Agreed.{Agreed}
use Rattle.pdi_session.specs.declared.Phase.{Phase}
use Rattle.pdi_session.specs.declared.Phase.TheVariants.{Idle, Checking, Requesting, AwaitCheck, AwaitRequest, Refused, Established, Ended}
use Rattle.pdi_session.specs.declared.SessionDetail.{SessionDetail}
use Rattle.pdi_session.specs.declared.SessionDetail.TheVariants as detail
use Rattle.pdi_session.specs.declared.Notice.{Notice}
use Rattle.pdi_session.specs.declared.Notice.TheVariants as notice
use Rattle.pdi_session.specs.declared.Verdict.{Verdict}
use Rattle.pdi_session.specs.declared.Verdict.TheVariants.{Takes, Goes, Answers, Ends}
use Rattle.pdi_session.specs.declared.PutFault.{PutFault}
use Rattle.pdi_session.specs.declared.PutFault.TheVariants as put_fault
use Rattle.pdi_session.specs.declared.InitFault.{InitFault}
use Rattle.pdi_session.specs.declared.InitFault.TheVariants as init_fault
use Rattle.pdi_session.specs.Settings.{Addressing, Role, Interlocking, Field, checksum_of}
use Rattle.pdi_session.specs.Telegrams.{form_of, is_addressed, is_reserved, kind_of, payload_of, telegram}
use Rattle.pdi_session.specs.Tables.{at_up, is_early, is_initialising, may_put, table}

-- what two ends agreed on: the PDI version, and the checksum of the field element's reply
pub record Agreement : Type 0 where
  -- the version
  pub version : ℕ
  -- the checksum
  pub checksum : List ℕ

-- an agreement that a session returns, as a value
abbrev pub agreement_of : Agreed → Agreement
agreement_of a = record { version = a.version; checksum = a.checksum.now }

-- a session: its settings, its phase and what was agreed
pub record SessionState : Type 0 where
  -- protocol type and names
  pub addressing : Addressing
  -- which end it is, with its versions
  pub role : Role
  -- the phase
  pub phase : Phase
  -- what was agreed, if anything
  pub agreed : Option Agreement

-- a new session
abbrev pub new_session : Addressing → Role → SessionState
new_session addressing role = record { addressing = addressing; role = role; phase = Idle; agreed = None }

-- a command or status: message type and payload
abbrev pub Item : Type 0
Item = ℕ × List ℕ

-- the message type and payload of a telegram
abbrev pub item_of : Tele → Item
item_of t = (t.kind, t.payload)

-- an event of a session; `waits` is the number of waiting messages, since a refusal depends on it and histories do not
-- know it
pub data Event : Type 0 where
  Up : Event
  Arrives : (telegram : Tele) → Event
  Puts : (kind : ℕ) → (payload : List ℕ) → (waits : ℕ) → Event
  InitDone : (waits : ℕ) → Event
  Closes : Event

-- the decision on a telegram: protocol type and names are compared before the phase
abbrev pub judge_telegram : SessionState → Tele → Verdict
judge_telegram s t =
    if is_addressed s.addressing t then table s.role s.phase (form_of t.kind t.payload) else Ends detail.NotOfThisPair

-- the first reason to refuse a put, if any
abbrev pub put_refusal : SessionState → ℕ → List ℕ → ℕ → Option PutFault
put_refusal s kind payload waits =
    if not (may_put s.role s.phase) then Some put_fault.NotEstablished
    else if nat_le WAITING_MAX waits then Some put_fault.Full
    else if is_reserved kind then Some put_fault.ReservedType
    else if nat_lt PAYLOAD_MAX (length payload) then Some put_fault.TooLong
    else None

-- the first reason to refuse the end of the initialisation, if any
abbrev pub init_refusal : SessionState → ℕ → Option InitFault
init_refusal s waits =
    if not (is_initialising s.role s.phase) then Some init_fault.NotInitialising
    else if nat_le WAITING_MAX waits then Some init_fault.Full
    else None

-- the phase after a verdict
abbrev pub phase_by : Phase → Verdict → Phase
phase_by phase Takes = phase
phase_by phase (Goes next) = next
phase_by phase (Answers next notice) = next
phase_by phase (Ends why) = Ended

-- a telegram of the establishment from this session
abbrev pub notice_tele : SessionState → Notice → Tele
notice_tele s n = telegram s.addressing (kind_of n) (payload_of (checksum_of s.role) n)

-- the telegram that a verdict sends, if any
abbrev pub sent_by : SessionState → Verdict → List Tele
sent_by s (Answers next n) = notice_tele s n ∷ []
sent_by s verdict = []

-- the command or status that the application takes by a verdict, if any
abbrev pub taken_as : Tele → Verdict → List Item
taken_as t Takes = item_of t ∷ []
taken_as t verdict = []

-- the detail with which a verdict ends the session, if it does
abbrev pub end_of : Verdict → Option SessionDetail
end_of (Ends why) = Some why
end_of verdict = None

-- the verdict of an accepted end of the initialisation
abbrev pub at_init_done : Verdict
at_init_done = Answers Established notice.InitialisationCompleted

-- the phase after an event
abbrev pub phase_after : Event → SessionState → Phase
phase_after Up s = phase_by s.phase (at_up s.role s.phase)
phase_after (Arrives t) s = phase_by s.phase (judge_telegram s t)
phase_after (Puts kind payload waits) s = s.phase
phase_after (InitDone waits) s = if is_none (init_refusal s waits) then phase_by s.phase at_init_done else s.phase
phase_after Closes s = Ended

-- what is agreed after a verdict on a telegram with this payload. An interlocking requests the initialisation if the reply
-- has its own version: the checksum is what follows result, version and length. A field element replies with the version
-- that it was asked for, and with its own checksum.
abbrev pub agreed_by : Role → (payload : List ℕ) → Verdict → Option Agreement → Option Agreement
agreed_by (Interlocking own) payload (Answers next notice.InitialisationRequest) before =
    Some (record { version = own; checksum = take CHECKSUM_MAX (drop 3 payload) })
agreed_by (Field versions checksum) payload (Answers next (notice.VersionEqual version)) before =
    Some (record { version = version; checksum = checksum })
agreed_by role payload verdict before = before

-- what is agreed after an event
abbrev pub agreed_after : Event → SessionState → Option Agreement
agreed_after (Arrives t) s = agreed_by s.role t.payload (judge_telegram s t) s.agreed
agreed_after e s = s.agreed

-- the session with another agreement
abbrev pub with_agreed : Option Agreement → SessionState → SessionState
with_agreed agreed s = record { addressing = s.addressing; role = s.role; phase = s.phase; agreed = agreed }

-- the session with another phase and the same settings
abbrev pub with_phase : Phase → SessionState → SessionState
with_phase phase s = record { addressing = s.addressing; role = s.role; phase = phase; agreed = s.agreed }

-- the state after an event
abbrev pub after : Event → SessionState → SessionState
after e s = with_phase (phase_after e s) (with_agreed (agreed_after e s) s)

-- the telegrams that an event adds to the waiting ones
abbrev pub added_by : Event → SessionState → List Tele
added_by Up s = sent_by s (at_up s.role s.phase)
added_by (Arrives t) s = sent_by s (judge_telegram s t)
added_by (Puts kind payload waits) s =
    if is_none (put_refusal s kind payload waits) then telegram s.addressing kind payload ∷ [] else []
added_by (InitDone waits) s = if is_none (init_refusal s waits) then sent_by s at_init_done else []
added_by Closes s = []

-- the command or status that the application takes at an event, if any
abbrev pub taken_by : Event → SessionState → List Item
taken_by (Arrives t) s = taken_as t (judge_telegram s t)
taken_by e s = []

-- the encodings of telegrams
abbrev pub texts : List Tele → List (List ℕ)
texts ts = map tele_text ts

-- the condition on the caller: room for one message in the phases before Initialising
abbrev pub HasRoom : SessionState → List (List ℕ) → Type 0
HasRoom s waiting = is_early s.phase ≡ true → length waiting < WAITING_MAX

-- the most messages that wait in a phase if only the session itself adds messages before Initialising
abbrev pub most_waiting : Phase → ℕ
most_waiting Idle = 0
most_waiting Checking = 1
most_waiting Requesting = 2
most_waiting AwaitCheck = 0
most_waiting AwaitRequest = 1
most_waiting Refused = 1
most_waiting phase = WAITING_MAX

-- the bound on waiting messages: no more wait than `most_waiting` allows
abbrev pub FewWait : SessionState → List (List ℕ) → Type 0
FewWait s waiting = length waiting ≤ most_waiting s.phase
