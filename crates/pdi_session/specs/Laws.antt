-- Laws of each row of the tables, and of every list of a session's events.
use Rattle.std.specs.Prelude.{◌≡◌, ◌≢◌, ◌==◌, ◌⊎◌, ◌<◌, ◌≤◌, ◌^◌, ℕ, ◌+◌, Bool, true, false, is_none, if◌then◌else◌, List, [], ◌∷◌, ◌++◌, Some, None, Ok, ⊤}
use Rattle.std.specs.List.{AllByRecursion}
use Rattle.octets.specs.Lists.{IsBeginning}
use Rattle.pdi_session.specs.packing.UnitText.{IsMessage}
use Rattle.pdi_session.specs.telegram.Places.{tele_seen}
use Rattle.pdi_session.specs.telegram.Tele.{Tele}
use Rattle.pdi_session.specs.telegram.TeleText.{tele_text}
use Rattle.pdi_session.specs.declared.TheConstants.{INITIALISATION_COMPLETED}
use Rattle.pdi_session.specs.declared.Phase.{Phase}
use Rattle.pdi_session.specs.declared.Phase.TheVariants.{Idle, Requesting, AwaitRequest, Initialising, Established}
use Rattle.pdi_session.specs.declared.Notice.TheVariants as notice
use Rattle.pdi_session.specs.Settings.{Addressing, AreSettings, Role, Interlocking, Field}
use Rattle.pdi_session.specs.Telegrams.{is_reserved, telegram}
use Rattle.pdi_session.specs.Tables.{is_early}
use Rattle.pdi_session.specs.SessionStep.{Event, Up, Arrives, Puts, InitDone, Closes, FewWait, HasRoom, Item, SessionState, added_by, after, end_of, item_of, judge_telegram, notice_tele, new_session, phase_after, put_refusal, taken_by, texts}
use Rattle.pdi_session.specs.Histories.{History, StandsFor, new_history, ends_by, add_event, add_events, is_ended}

-- every telegram has a message type of the establishment
abbrev pub AreReserved : List Tele → Type 0
AreReserved ts = AllByRecursion (λ t. is_reserved t.kind ≡ true) ts

-- the encoding of a telegram has 43 to 400 bytes and is read as that telegram
pub record HasMessage (t : Tele) : Type 0 where
  -- it has the size of a message
  pub sized : IsMessage (tele_text t)
  -- reading it returns the telegram
  pub read : tele_seen (tele_text t) ≡ Ok t

-- a telegram that is taken is not of the establishment, and is taken with its message type and payload
abbrev pub TakesLaw : Type 0
TakesLaw = (s : SessionState) (t : Tele) → taken_by (Arrives t) s ≢ [] → (is_reserved t.kind ≡ false)
    × (taken_by (Arrives t) s ≡ item_of t ∷ [])

-- if the session goes on without taking a telegram, that telegram is of the establishment, and so is any reply
abbrev pub GoesLaw : Type 0
GoesLaw = (s : SessionState) (t : Tele) → end_of (judge_telegram s t) ≡ None → taken_by (Arrives t) s ≡ []
    → (is_reserved t.kind ≡ true) × AreReserved (added_by (Arrives t) s)

-- what a session adds at `Up`, `InitDone` or an arrival is of the establishment
abbrev pub OwnLaw : Type 0
OwnLaw = (s : SessionState) → AreReserved (added_by Up s) × ((waits : ℕ) → AreReserved (added_by (InitDone waits) s))
    × ((t : Tele) → AreReserved (added_by (Arrives t) s))

-- an accepted put adds one telegram with the given message type and payload, and it is not of the establishment
abbrev pub PutLaw : Type 0
PutLaw = (s : SessionState) (kind : ℕ) (payload : List ℕ) (waits : ℕ) → put_refusal s kind payload waits ≡ None
    → (is_reserved kind ≡ false) × (added_by (Puts kind payload waits) s ≡ telegram s.addressing kind payload ∷ [])

-- the message type of a put fits two bytes
abbrev pub HasKind : Event → Type 0
HasKind (Puts kind payload waits) = kind < 256 ^ 2
HasKind e = ⊤

-- if the settings are in range, each message that an event adds has 43 to 400 bytes and is read as its telegram
abbrev pub MessageLaw : Type 0
MessageLaw = (s : SessionState) (e : Event) → AreSettings s.addressing s.role → HasKind e
    → AllByRecursion HasMessage (added_by e s)

-- the bound on waiting messages holds for a new session while nothing waits, gives the room that calls require, and
-- stays when messages leave
abbrev pub RoomLaw : Type 0
RoomLaw = ((addressing : Addressing) (role : Role) → FewWait (new_session addressing role) [])
    × ((s : SessionState) (waiting : List (List ℕ)) → FewWait s waiting → HasRoom s waiting)
    × ((s : SessionState) (gone waiting : List (List ℕ)) → FewWait s (gone ++ waiting) → FewWait s waiting)

-- if a call leaves the state and appends the messages of an event, they fit the history with that event appended
abbrev pub StandsLaw : Type 0
StandsLaw = (e : Event) (s left : SessionState) (old new : List (List ℕ)) (h : History) → left ≡ after e s
    → new ≡ old ++ texts (added_by e s)
    → StandsFor s old h → StandsFor left new (add_event e h)

-- the commands or status among telegrams
abbrev pub items_of : List Tele → List Item
items_of [] = []
items_of (t ∷ ts) = if is_reserved t.kind then items_of ts else item_of t ∷ items_of ts

-- what is taken is a prefix of the commands or status judged, and all of them while the session is not over
abbrev pub TakenLaw : Type 0
TakenLaw = (addressing : Addressing) (role : Role) (es : List Event) → let h =
    add_events es (new_history addressing role) in
    IsBeginning h.taken (items_of h.judged) × (is_ended h.state.phase ≡ false → h.taken ≡ items_of h.judged)

-- the commands or status in the queue are exactly those that were put, in order
abbrev pub QueueLaw : Type 0
QueueLaw = (addressing : Addressing) (role : Role) (es : List Event) → let h =
    add_events es (new_history addressing role) in
    items_of h.queue ≡ h.put

-- a command or status from this session to its peer
abbrev pub IsItem : SessionState → Tele → Type 0
IsItem s t = (is_reserved t.kind ≡ false) × (t ≡ telegram s.addressing t.kind t.payload)

-- the phase is Established
abbrev pub is_established : Phase → Bool
is_established Established = true
is_established phase = false

-- one of the phases is Established
abbrev pub was_established : List Phase → Bool
was_established [] = false
was_established (phase ∷ phases) = if is_established phase then true else was_established phases

-- an interlocking's queue is empty, its version check, or that, the request and then commands; there are commands only
-- if it was Established
abbrev pub IsInterlockingQueue : ℕ → History → Type 0
IsInterlockingQueue version h =
    (h.queue ≡ [])
    ⊎ (h.queue ≡ notice_tele h.state (notice.VersionCheck version) ∷ [])
    ⊎ ((commands : List Tele)
    × (h.queue ≡ notice_tele h.state (notice.VersionCheck version) ∷ notice_tele h.state notice.InitialisationRequest ∷
    commands)
    × AllByRecursion (IsItem h.state) commands × (commands ≢ [] → was_established h.phases ≡ true))

-- every list of events leads an interlocking to such a queue
abbrev pub InterlockingLaw : Type 0
InterlockingLaw = (addressing : Addressing) (version : ℕ) (es : List Event)
    → IsInterlockingQueue version (add_events es (new_history addressing (Interlocking version)))

-- the number of InitialisationCompleted among telegrams
abbrev pub completions : List Tele → ℕ
completions [] = 0
completions (t ∷ ts) = if t.kind == INITIALISATION_COMPLETED then completions ts + 1 else completions ts

-- a status, or InitialisationCompleted
abbrev pub IsStatus : SessionState → Tele → Type 0
IsStatus s t = IsItem s t ⊎ (t ≡ notice_tele s notice.InitialisationCompleted)

-- a field element's queue is empty, one reply (different or equal versions), or that of equal versions, the start, and
-- then status with at most one InitialisationCompleted
abbrev pub IsFieldQueue : History → Type 0
IsFieldQueue h =
    (h.queue ≡ [])
    ⊎ ((version : ℕ) × (h.queue ≡ notice_tele h.state (notice.VersionDiffers version) ∷ []))
    ⊎ ((version : ℕ) × (h.queue ≡ notice_tele h.state (notice.VersionEqual version) ∷ []))
    ⊎ ((version : ℕ) × (status : List Tele)
    × (h.queue ≡ notice_tele h.state (notice.VersionEqual version) ∷ notice_tele h.state notice.StartInitialisation ∷
    status)
    × AllByRecursion (IsStatus h.state) status × (completions status ≤ 1))

-- every list of events leads a field element to such a queue
abbrev pub FieldLaw : Type 0
FieldLaw = (addressing : Addressing) (versions checksum : List ℕ) (es : List Event)
    → IsFieldQueue (add_events es (new_history addressing (Field versions checksum)))

-- a session that a telegram ends before Initialising has put nothing
abbrev pub OwnEarlyLaw : Type 0
OwnEarlyLaw = (addressing : Addressing) (role : Role) (es : List Event) → let h =
    add_events es (new_history addressing role) in
    (phase : Phase) → h.ended_in ≡ Some phase → is_early phase ≡ true → h.put ≡ []

-- a session becomes Ended only by a telegram that ends it, or by a closing
abbrev pub OverLaw : Type 0
OverLaw = (e : Event) (s : SessionState) → is_ended s.phase ≡ false → ends_by e s ≡ false → e ≢ Closes
    → is_ended (phase_after e s) ≡ false

-- after `Up` a session is not Idle, and no event leads back to Idle
abbrev pub BegunLaw : Type 0
BegunLaw = ((s : SessionState) → phase_after Up s ≢ Idle)
    × ((e : Event) (s : SessionState) → s.phase ≢ Idle → phase_after e s ≢ Idle)

-- the phases in which version and checksum are agreed; in Ended they may be or not
abbrev pub is_agreed_in : Phase → Bool
is_agreed_in Requesting = true
is_agreed_in AwaitRequest = true
is_agreed_in Initialising = true
is_agreed_in Established = true
is_agreed_in phase = false

-- every list of events that leads to such a phase has left an agreement
abbrev pub AgreedLaw : Type 0
AgreedLaw = (addressing : Addressing) (role : Role) (es : List Event) → let h =
    add_events es (new_history addressing role) in
    is_agreed_in h.state.phase ≡ true → is_none h.state.agreed ≡ false
