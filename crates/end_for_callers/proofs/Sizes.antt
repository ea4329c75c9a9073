-- The sizes of what an end sends and keeps.
use Rattle.std.proofs.Common.{◌≡◌, ℕ, zero, suc, ◌+◌, ◌-◌, ◌*◌, ◌≤◌, Bool, true, false, Option, Some, None, List, [], ◌∷◌, ◌++◌, length, refl, sym, ◌∙◌}
use Rattle.std.proofs.Common.{subst, arith, length-append, take, drop}
use Rattle.std.proofs.lemmas.Bool.Decides.{nat_tests}
use Rattle.std.proofs.lemmas.List.{length-replicate}
use Rattle.std.specs.List.{AllByRecursion}
use Rattle.std.specs.Prelude.{if◌then◌else◌, nat_lt, filter, is_none, Result, Ok, Err, replicate}
use Rattle.byteorder.specs.Endian.{little_bytes}
use Rattle.octets.proofs.Choices.{by_cond}
use Rattle.octets.specs.declared.limits.TheConstants.{MESSAGE_MAX, NAME_LENGTH, RED_PDU_MAX, UNIT_MAX, UNIT_MESSAGES, FILLING, PAYLOAD_MAX}
use Rattle.safe_pdu.proofs.SafeLemmas.{length-text}
use Rattle.safe_pdu.specs.Pdu.{Pdu}
use Rattle.safe_pdu.specs.Places.{safe_seen}
use Rattle.safe_pdu.specs.SafeText.{code_octets}
use Rattle.safe_pdu.specs.declared.CodeLength.{CodeLength}
use Rattle.safe_pdu.specs.declared.CodeLength.TheVariants.{Zero, Eight, Sixteen}
use Rattle.safe_pdu.specs.declared.CodeRule.{CodeRule}
use Rattle.safe_pdu.specs.declared.Kind.TheVariants.{RetrData, RetrResp}
use Rattle.safe_pdu.specs.declared.SafeFault.{SafeFault}
use Rattle.safe_pdu.specs.declared.reasons.Detail.{Detail}
use Rattle.safe_pdu.specs.declared.reasons.Detail.TheVariants.{Unspecified}
use Rattle.safe_pdu.specs.declared.reasons.Reason.{Reason}
use Rattle.safe_pdu.specs.declared.reasons.Reason.TheVariants.{ClosedByUser}
use Rattle.safe_machine.proofs.one.Lists.{by_guard-cases}
use Rattle.safe_machine.specs.Connections.{in_turn, is_closed, is_live}
use Rattle.safe_machine.specs.Deadlines.{beat_due, overdue}
use Rattle.safe_machine.specs.Decision.{distance}
use Rattle.safe_machine.specs.Made.{Made}
use Rattle.safe_machine.specs.Octets.{move_of, octets_turn as machine_octets_turn, decoded_answer, octets_units}
use Rattle.safe_machine.specs.TurnLaws.{turn as machine_turn_of}
use Rattle.safe_machine.specs.Turns.{Turn as MachineTurn, answer_ahead_turn, request_turn, heartbeat_turn, both_confirmed, goes_on, guard_turn, has_room, leave_turn, moved_to, move_past}
use Rattle.safe_machine.specs.Turns.{reply_turn, mark_answered, resend_turn, response_turn, sending_turn, send_turn, still, tick_turn, units_confirmed}
use Rattle.safe_machine.specs.View.{View}
use Rattle.safe_machine.specs.declared.ConnectionState.{ConnectionState}
use Rattle.safe_machine.specs.declared.ConnectionState.TheVariants.{Closed}
use Rattle.safe_machine.specs.retrans.Units.{Numbered, above, octets_of, renumber_units}
use Rattle.pdi_session.specs.SessionStep.{Arrives, Closes, Event, InitDone as Completes, Puts, SessionState, Up as GoesUp, added_by, at_init_done}
use Rattle.pdi_session.specs.SessionStep.{init_refusal, judge_telegram as session_judged, notice_tele, put_refusal, sent_by, texts}
use Rattle.pdi_session.specs.Settings.{checksum_of}
use Rattle.pdi_session.specs.Tables.{at_up}
use Rattle.pdi_session.specs.Telegrams.{payload_of, telegram}
use Rattle.pdi_session.specs.declared.Notice.{Notice}
use Rattle.pdi_session.specs.declared.TheConstants.{CHECKSUM_MAX}
use Rattle.pdi_session.specs.declared.Verdict.{Verdict}
use Rattle.pdi_session.specs.declared.Verdict.TheVariants.{Answers}
use Rattle.pdi_session.specs.declared.packing.PackFault.{PackFault}
use Rattle.pdi_session.specs.declared.telegram.TeleFault.{TeleFault}
use Rattle.pdi_session.specs.packing.Places.{unit_seen}
use Rattle.pdi_session.specs.packing.UnitText.{piece, unit_text}
use Rattle.pdi_session.specs.telegram.Names.{fill_name}
use Rattle.pdi_session.specs.telegram.Places.{tele_seen}
use Rattle.pdi_session.specs.telegram.Tele.{Tele}
use Rattle.pdi_session.specs.telegram.TeleText.{tele_text}
use Rattle.red_layer.specs.Parts.{Part}
use Rattle.red_layer.specs.Redundancy.{Datagram, Input, Tick as RedTick, parts_passed}
use Rattle.red_layer.specs.pdu.RedText.{red_text}
use Rattle.stack_end.specs.Datagrams.{on_channels}
use Rattle.stack_end.specs.Departures.{own_departure}
use Rattle.stack_end.specs.Dialogue.{Dialogue, Judgement, Leaving, judge_messages, judge_read, judge_units, judge_unpacked, process_event, session_in, unless_leaving}
use Rattle.stack_end.specs.Ends.{Call}
use Rattle.stack_end.specs.Ends.Call.{Close, Deliver, InitDone, Put, Tick}
use Rattle.stack_end.specs.Turns.{Fields, Inside, Turn, upper_turn as above_red, count_accepted as accepts_in, arrival_turn as end_arrival_turn, can_pack, close_turn, closing_departure}
use Rattle.stack_end.specs.Turns.{comes_up, init_done_turn, count_turn, datagrams, departure_turn, dialogue_of, turn_then, input_and_send_turn as end_goes_on, up_turn, is_over, judge_part}
use Rattle.stack_end.specs.Turns.{leave_turn as end_leave_turn, machine_turn, next_number, note_request_turn, pack_turn, pack_up_to_turn, part_turn, parts_turn, time_turn, put_turn, input_turn}
use Rattle.stack_end.specs.Turns.{bring_up, send_turn as end_send_turn, session_turn, end_session_turn, still as end_still, turn, waiting_time, with_units}
use Rattle.stack_end.specs.declared.departure.Departure.{Departure}
use Rattle.end_for_callers.proofs.Effects.{responds-has}
use Rattle.end_for_callers.proofs.Loads.{settled}
use Rattle.end_for_callers.specs.Loads.{IsPlaced, IsSized, SizeLaw}
unfoldable use Rattle.safe_machine.specs.View.{text_of}

all-append : {X : Type 0} (P : X → Type 0) (xs ys : List X) → AllByRecursion P xs → AllByRecursion P ys
    → AllByRecursion P (xs ++ ys)
all-append P [] ys h k = k
all-append P (x ∷ xs) ys h k = (h.0, all-append P xs ys h.1 k)

all-filter : {X : Type 0} (P : X → Type 0) (p : X → Bool) (xs : List X) → AllByRecursion P xs
    → AllByRecursion P (filter p xs)
all-filter P p [] h = h
all-filter P p (x ∷ xs) h =
    by_cond (AllByRecursion P) (p x) (x ∷ filter p xs) (filter p xs) (λ _. (h.0, all-filter P p xs h.1))
    (λ _. all-filter P p xs h.1)

-- A PDU as a datagram.

abbrev IsShortUnit : List ℕ → Type 0
IsShortUnit octets = length octets ≤ UNIT_MAX

abbrev HasShortBody : Made → Type 0
HasShortBody m = length m.pdu.body ≤ UNIT_MAX

abbrev AreShortUnits : List Numbered → Type 0
AreShortUnits us = AllByRecursion (λ (u : Numbered). length u.octets ≤ UNIT_MAX) us

code-most : (l : CodeLength) → code_octets l ≤ 16
code-most Zero = omega arith
code-most Eight = omega arith
code-most Sixteen = omega arith

text-short : (rule : CodeRule) (m : Made) → HasShortBody m → length (text_of rule m) ≤ 1250
unfolding text_of
text-short rule m h = omega (arith, length-text m.pdu rule, code-most rule.length, h)

red-length : (number : ℕ) (upper : List ℕ) → length (red_text number upper) ≡ 8 + length upper
red-length number upper = omega arith

on-placed : (most n : ℕ) (octets : List ℕ) → n ≤ most → length octets ≤ RED_PDU_MAX
    → AllByRecursion (IsPlaced most) (on_channels n octets)
on-placed most zero octets h k = tt
on-placed most (suc n) octets h k =
    all-append (IsPlaced most) (on_channels n octets) ((suc n, octets) ∷ [])
    (on-placed most n octets (omega (arith, h)) k)
    (record { least = omega arith; most = h; short = k }, tt)

datagrams-placed : (rule : CodeRule) (channels number : ℕ) (ms : List Made) → AllByRecursion HasShortBody ms
    → AllByRecursion (IsPlaced channels) (datagrams rule channels number ms)
datagrams-placed rule channels number [] h = tt
datagrams-placed rule channels number (m ∷ ms) h =
    let octets = red_text number (text_of rule m) in
    let short : length octets ≤ RED_PDU_MAX = omega (arith, red-length number (text_of rule m), text-short rule m h.0)
    in
    all-append (IsPlaced channels) (on_channels channels octets) (datagrams rule channels (next_number number) ms)
    (on-placed channels channels octets (omega arith) short)
    (datagrams-placed rule channels (next_number number) ms h.1)

-- The machine: it makes PDUs with short bodies, and its units stay short.

record Keeps (t : MachineTurn) : Type 0 where
  made : AllByRecursion HasShortBody t.made
  ring : AreShortUnits t.left.ring

keeps-then : (t : MachineTurn) (next : View → MachineTurn) → Keeps t → Keeps (next t.left) → Keeps (goes_on t next)
keeps-then t next h k = record { made = all-append HasShortBody t.made (next t.left).made h.made k.made; ring = k.ring }

still-keeps : (v : View) → AreShortUnits v.ring → Keeps (still v)
still-keeps v h = record { made = tt; ring = h }

leaves-keeps : (reason : Reason) (detail : Detail) (now : ℕ) (v : View) → AreShortUnits v.ring
    → Keeps (leave_turn reason detail now v)
leaves-keeps reason detail now v h =
    by_cond (λ t. Keeps (moved_to Closed t)) (is_live v.connection) _ _
    (λ _. record { made = (omega arith, tt); ring = h })
    (λ _. record { made = tt; ring = h })

above-short : (number : ℕ) (us : List Numbered) → AreShortUnits us → AreShortUnits (above number us)
above-short number us h = all-filter (λ (u : Numbered). length u.octets ≤ UNIT_MAX) (λ u. nat_lt number u.number) us h

units-short : (us : List Numbered) → AreShortUnits us → AllByRecursion IsShortUnit (octets_of us)
units-short [] h = tt
units-short (u ∷ us) h = (h.0, units-short us h.1)

renumbered-short : (first : ℕ) (us : List (List ℕ)) → AllByRecursion IsShortUnit us
    → AreShortUnits (renumber_units first us)
renumbered-short first [] h = tt
renumbered-short first (u ∷ us) h = (h.0, renumbered-short (first + 1) us h.1)

resends-keeps : (us : List (List ℕ)) (now : ℕ) (v : View) → AllByRecursion IsShortUnit us → AreShortUnits v.ring
    → Keeps (resend_turn us now v)
resends-keeps [] now v h k = still-keeps v k
resends-keeps (u ∷ us) now v h k =
    keeps-then (sending_turn RetrData u now v) (resend_turn us now) (record { made = (h.0, tt); ring = k })
    (resends-keeps us now (sending_turn RetrData u now v).left h.1 k)

replies-keeps : (now : ℕ) (v : View) → AreShortUnits v.ring → Keeps (reply_turn now v)
replies-keeps now v h =
    let w = (sending_turn RetrResp [] now v).left in
    let again = resends-keeps (octets_of v.ring) now w (units-short v.ring h) h in
    let u = (resend_turn (octets_of v.ring) now w).left in
    let ring = renumbered-short w.made (octets_of u.ring) (units-short u.ring again.ring) in
    record {
      made = (
        omega arith,
        all-append HasShortBody (resend_turn (octets_of v.ring) now w).made _ again.made (omega arith, tt),
      );
      ring = ring;
    }

ahead-keeps : (p : Pdu) (now : ℕ) (v : View) → AreShortUnits v.ring → Keeps (answer_ahead_turn p now v)
ahead-keeps p now v h =
    let w = mark_answered (distance v p) (units_confirmed p v) in replies-keeps now w (above-short w.confirmed v.ring h)

responds-keeps : (p : Pdu) (now : ℕ) (v : View) → AreShortUnits v.ring → Keeps (response_turn p now v)
responds-keeps p now v h =
    let confirmed = above-short (both_confirmed p v).confirmed v.ring h in
    responds-has Keeps p now v
    (record {
      stays = still-keeps v h;
      leaves = λ reason detail. leaves-keeps reason detail now v h;
      shuts = record { made = tt; ring = h };
      rejects = record { made = (omega arith, tt); ring = h };
      accepts = λ _. record { made = (omega arith, tt); ring = tt };
      connects = λ _. record { made = (omega arith, tt); ring = confirmed };
      takes = λ connection. grind (arith, nat_tests, confirmed);
      asks = record { made = (omega arith, tt); ring = h };
      resumes = record { made = tt; ring = confirmed };
      next = replies-keeps now (move_past p 0 (mark_answered 0 (both_confirmed p v))) confirmed;
      early =
          by_cond Keeps (in_turn v.connection) _ _
          (λ _. keeps-then (answer_ahead_turn p now v) (request_turn now) (ahead-keeps p now v h)
          (record { made = (omega arith, tt); ring = (ahead-keeps p now v h).ring }))
          (λ _. ahead-keeps p now v h);
    })

guards-keeps : (now : ℕ) (v : View) → AreShortUnits v.ring → Keeps (guard_turn now v)
guards-keeps now v h =
    by_guard-cases Keeps now v (λ reason detail. leave_turn reason detail now v) (still v)
    (λ reason detail. leaves-keeps reason detail now v h)
    (λ _. still-keeps v h)

heard-keeps : (read : Result Pdu SafeFault) (now : ℕ) (v : View) → AreShortUnits v.ring
    → Keeps (machine_turn_of (move_of read now) v)
heard-keeps (Ok p) now v h =
    let g = guards-keeps now v h in keeps-then (guard_turn now v) (response_turn p now) g
    (responds-keeps p now (guard_turn now v).left g.ring)
heard-keeps (Err fault) now v h = guards-keeps now v h

hears-keeps : (octets : List ℕ) (now : ℕ) (v : View) → AreShortUnits v.ring → Keeps (machine_octets_turn octets now v)
hears-keeps octets now v h = heard-keeps (safe_seen v.settings.rule octets) now v h

ticks-keeps : (now : ℕ) (v : View) → AreShortUnits v.ring → Keeps (tick_turn now v)
ticks-keeps now v h =
    let g = guards-keeps now v h in
    let w = (guard_turn now v).left in
    keeps-then (guard_turn now v) (heartbeat_turn now) g
    (by_cond Keeps (beat_due now w) _ _ (λ _. record { made = (omega arith, tt); ring = g.ring })
    (λ _. still-keeps w g.ring))

sends-keeps : (unit : List ℕ) (now : ℕ) (v : View) → IsShortUnit unit → AreShortUnits v.ring
    → Keeps (send_turn unit now v)
sends-keeps unit now v short h =
    by_cond Keeps (has_room v) _ _
    (λ _. record {
      made = (short, tt);
      ring = all-append (λ (u : Numbered). length u.octets ≤ UNIT_MAX) v.ring _ h (short, tt);
    }) (λ _. still-keeps v h)

-- The session: what it adds to the messages that wait is not longer than a message.

abbrev IsShortMessage : List ℕ → Type 0
IsShortMessage m = length m ≤ MESSAGE_MAX

abbrev AreShort : List (List ℕ) → Type 0
AreShort ms = AllByRecursion (λ (m : List ℕ). length m ≤ MESSAGE_MAX) ms

record Named (s : SessionState) : Type 0 where
  own : length s.addressing.own ≤ NAME_LENGTH
  peer : length s.addressing.peer ≤ NAME_LENGTH
  checksum : length (checksum_of s.role) ≤ CHECKSUM_MAX

filled-length : (name : List ℕ) → length name ≤ NAME_LENGTH → length (fill_name name) ≡ 20
filled-length name h =
    let rest = NAME_LENGTH - length name in
    omega (arith, length-append name (replicate rest FILLING), length-replicate rest FILLING, h)

front-short : (protocol : ℕ) (kind sender receiver payload : List ℕ) → length kind ≡ 2 → length sender ≡ 20
    → length receiver ≡ 20
    → length payload ≤ PAYLOAD_MAX → IsShortMessage ((protocol ∷ []) ++ kind ++ sender ++ receiver ++ payload)
front-short protocol kind sender receiver payload two one other few =
    omega (
      arith,
      length-append kind sender,
      length-append (kind ++ sender) receiver,
      length-append (kind ++ sender ++ receiver) payload,
      two,
      one,
      other,
      few,
    )

tele-short : (t : Tele) → length t.sender ≤ NAME_LENGTH → length t.receiver ≤ NAME_LENGTH
    → length t.payload ≤ PAYLOAD_MAX → IsShortMessage (tele_text t)
tele-short t sender receiver payload =
    front-short t.protocol (little_bytes 2 t.kind) (fill_name t.sender) (fill_name t.receiver) t.payload refl
    (filled-length t.sender sender)
    (filled-length t.receiver receiver) payload

payload-short : (checksum : List ℕ) (n : Notice) → length checksum ≤ CHECKSUM_MAX
    → length (payload_of checksum n) ≤ PAYLOAD_MAX
payload-short checksum n h = grind arith

sent-short : (s : SessionState) (verdict : Verdict) → Named s → AreShort (texts (sent_by s verdict))
sent-short s (Answers next n) h =
    (tele-short (notice_tele s n) h.own h.peer (payload-short (checksum_of s.role) n h.checksum), tt)
sent-short s _ h = tt

put-short : (s : SessionState) (kind : ℕ) (payload : List ℕ) (waits : ℕ)
    → is_none (put_refusal s kind payload waits) ≡ true → length payload ≤ PAYLOAD_MAX
put-short s kind payload waits e = grind (arith, nat_tests)

added-short : (e : Event) (s : SessionState) → Named s → AreShort (texts (added_by e s))
added-short GoesUp s h = sent-short s (at_up s.role s.phase) h
added-short (Arrives t) s h = sent-short s (session_judged s t) h
added-short (Puts kind payload waits) s h =
    by_cond (λ ts. AreShort (texts ts)) (is_none (put_refusal s kind payload waits))
    (telegram s.addressing kind payload ∷ []) []
    (λ none. (tele-short (telegram s.addressing kind payload) h.own h.peer (put-short s kind payload waits none), tt))
    (λ _. tt)
added-short (Completes waits) s h =
    by_cond (λ ts. AreShort (texts ts)) (is_none (init_refusal s waits)) (sent_by s at_init_done) []
    (λ _. sent-short s at_init_done h) (λ _. tt)
added-short Closes s h = tt

record Talks (d : Dialogue) : Type 0 where
  named : Named (session_in d)
  messages : AreShort d.waiting

meets-talks : (e : Event) (d : Dialogue) → Talks d → Talks (process_event e d)
meets-talks e d h =
    record {
      named = record { own = h.named.own; peer = h.named.peer; checksum = h.named.checksum };
      messages = all-append IsShortMessage d.waiting (texts (added_by e (session_in d))) h.messages
          (added-short e (session_in d) h.named);
    }

unless-talks : (why : Option Leaving) (first rest : Judgement) → Talks first.left → Talks rest.left
    → Talks (unless_leaving why first rest).left
unless-talks None first rest h k = k
unless-talks (Some why) first rest h k = h

read-talks : (read : Result Tele TeleFault) (d : Dialogue) → Talks d → Talks (judge_read read d).left
read-talks (Ok t) d h = meets-talks (Arrives t) d h
read-talks (Err fault) d h = h

messages-talk : (ms : List (List ℕ)) (d : Dialogue) → Talks d → Talks (judge_messages ms d).left
messages-talk [] d h = h
messages-talk (m ∷ ms) d h =
    let first = judge_read (tele_seen m) d in
    let k = read-talks (tele_seen m) d h in
    unless-talks first.leaving first (judge_messages ms first.left) k (messages-talk ms first.left k)

unpacked-talks : (ms : Result (List (List ℕ)) PackFault) (d : Dialogue) → Talks d → Talks (judge_unpacked ms d).left
unpacked-talks (Ok ms) d h = messages-talk ms d h
unpacked-talks (Err fault) d h = h

units-talk : (us : List (List ℕ)) (d : Dialogue) → Talks d → Talks (judge_units us d).left
units-talk [] d h = h
units-talk (u ∷ us) d h =
    let first = judge_unpacked (unit_seen u) d in
    let k = unpacked-talks (unit_seen u) d h in
    unless-talks first.leaving first (judge_units us first.left) k (units-talk us first.left k)

rises-talks : (up : Bool) (d : Dialogue) → Talks d → Talks (bring_up up d)
rises-talks true d h = meets-talks GoesUp d h
rises-talks false d h = h

-- Units of messages.

all-take : {X : Type 0} (P : X → Type 0) (n : ℕ) (xs : List X) → AllByRecursion P xs → AllByRecursion P (take n xs)
all-take P zero xs h = tt
all-take P (suc n) [] h = tt
all-take P (suc n) (x ∷ xs) h = (h.0, all-take P n xs h.1)

all-drop : {X : Type 0} (P : X → Type 0) (n : ℕ) (xs : List X) → AllByRecursion P xs → AllByRecursion P (drop n xs)
all-drop P zero xs h = h
all-drop P (suc n) [] h = tt
all-drop P (suc n) (x ∷ xs) h = all-drop P n xs h.1

unit-length : (n : ℕ) (ms : List (List ℕ)) → AreShort ms → length (unit_text (take n ms)) ≤ n * 402
unit-length zero ms h = omega arith
unit-length (suc n) [] h = omega arith
unit-length (suc n) (m ∷ ms) h =
    omega (
      arith,
      length-append (piece m) (unit_text (take n ms)),
      length-append (little_bytes 2 (length m)) m,
      unit-length n ms h.1,
      h.0,
    )

unit-short : (n : ℕ) (ms : List (List ℕ)) → n ≤ UNIT_MESSAGES → AreShort ms → IsShortUnit (unit_text (take n ms))
unit-short n ms few h = omega (arith, unit-length n ms h, few)

-- The layers above the redundancy layer.

-- an end of this number of channels that is sized
record Able (n : ℕ) (v : Fields) : Type 0 where
  sized : IsSized v
  count : v.count ≡ n

record Good (n : ℕ) (t : Turn Fields) : Type 0 where
  placed : AllByRecursion (IsPlaced n) t.sent
  able : Able n t.left

good-then : (n : ℕ) (t : Turn Fields) (next : Fields → Turn Fields) → Good n t → Good n (next t.left)
    → Good n (turn_then t next)
good-then n t next h k =
    record { placed = all-append (IsPlaced n) t.sent (next t.left).sent h.placed k.placed; able = k.able }

able-as : (n : ℕ) (v w : Fields) → Able n v → AreShortUnits w.machine.ring → AreShort w.waiting → Named w.session
    → w.max ≡ v.max → w.count ≡ v.count → Able n w
able-as n v w h units messages named max count =
    record {
      sized =
          record {
            units = units;
            messages = messages;
            together = omega (arith, max, h.sized.together);
            own = named.own;
            peer = named.peer;
            checksum = named.checksum;
          };
      count = count ∙ h.count;
    }

named-in : (v : Fields) → IsSized v → Named v.session
named-in v h = record { own = h.own; peer = h.peer; checksum = h.checksum }

talks-of : (v : Fields) → IsSized v → Talks (dialogue_of v)
talks-of v h = record { named = named-in v h; messages = h.messages }

machine-good : (n : ℕ) (t : MachineTurn) (v : Fields) → Able n v → Keeps t → Good n (machine_turn t v)
machine-good n t v h k =
    record {
      placed =
          subst (λ m. AllByRecursion (IsPlaced m) (machine_turn t v).sent) h.count
          (datagrams-placed v.machine.settings.rule v.count v.numbers t.made k.made);
      able = able-as n v (machine_turn t v).left h k.ring h.sized.messages (named-in v h.sized) refl refl;
    }

same-good : (n : ℕ) (v w : Fields) → Able n v → w.machine ≡ v.machine → w.waiting ≡ v.waiting → w.session ≡ v.session
    → w.max ≡ v.max → w.count ≡ v.count
    → Good n (end_still w)
same-good n v w h machine waiting session max count =
    record {
      placed = tt;
      able =
          able-as n v w h (subst (λ (m : View). AreShortUnits m.ring) (sym machine) h.sized.units)
          (subst AreShort (sym waiting) h.sized.messages)
          (subst Named (sym session) (named-in v h.sized)) max count;
    }

session-good : (n : ℕ) (d : Dialogue) (v : Fields) → Able n v → Talks d → Good n (session_turn d v)
session-good n d v h k =
    record { placed = tt; able = able-as n v (session_turn d v).left h h.sized.units k.messages k.named refl refl }

settles-good : (n : ℕ) (v : Fields) → Able n v → Good n (end_session_turn v)
settles-good n v h =
    by_cond (Good n) (is_closed v.machine.connection) (session_turn (process_event Closes (dialogue_of v)) v)
    (end_still v)
    (λ _. session-good n (process_event Closes (dialogue_of v)) v h
    (meets-talks Closes (dialogue_of v) (talks-of v h.sized)))
    (λ _. same-good n v v h refl refl refl refl refl)

end_leaves-good : (n now : ℕ) (why : Option Leaving) (v : Fields) → Able n v → Good n (end_leave_turn now why v)
end_leaves-good n now None v h = same-good n v v h refl refl refl refl refl
end_leaves-good n now (Some why) v h =
    machine-good n (leave_turn why.0 why.1 now v.machine) v h (leaves-keeps why.0 why.1 now v.machine h.sized.units)

departs-good : (n : ℕ) (cause : Option Departure) (v : Fields) → Able n v → Good n (departure_turn cause v)
departs-good n cause v h = same-good n v (departure_turn cause v).left h refl refl refl refl refl

goes_up-good : (n : ℕ) (before : ConnectionState) (v : Fields) → Able n v → Good n (up_turn before v)
goes_up-good n before v h =
    let up = comes_up before v.machine.connection in
    session-good n (bring_up up (dialogue_of v)) v h (rises-talks up (dialogue_of v) (talks-of v h.sized))

part-good : (n now : ℕ) (octets : List ℕ) (v : Fields) → Able n v → Good n (part_turn now octets v)
part-good n now octets v h =
    let before = v.machine.connection in
    let judged = judge_part now octets v in
    let answer = decoded_answer (safe_seen v.machine.settings.rule octets) now v.machine in
    let t0 = with_units (octets_units octets now v.machine) (machine_turn (machine_octets_turn octets now v.machine) v)
    in
    let t1 = turn_then t0 (session_turn judged.left) in
    let t2 = turn_then t1 (note_request_turn before octets) in
    let t3 = turn_then t2 (up_turn before) in
    let t4 = turn_then t3 (end_leave_turn now judged.leaving) in
    let t5 = turn_then t4 end_session_turn in
    let t6 = turn_then t5 (departure_turn (closing_departure now octets v)) in
    let talk = units-talk (octets_units octets now v.machine) (dialogue_of v) (talks-of v h.sized) in
    let g = machine-good n (machine_octets_turn octets now v.machine) v h
    (hears-keeps octets now v.machine h.sized.units) in
    let h0 : Good n t0 = record { placed = g.placed; able = g.able } in
    let h1 = good-then n t0 (session_turn judged.left) h0 (session-good n judged.left t0.left h0.able talk) in
    let h2 = good-then n t1 (note_request_turn before octets) h1
    (same-good n t1.left (note_request_turn before octets t1.left).left h1.able refl refl refl refl refl) in
    let h3 = good-then n t2 (up_turn before) h2 (goes_up-good n before t2.left h2.able) in
    let h4 = good-then n t3 (end_leave_turn now judged.leaving) h3
    (end_leaves-good n now judged.leaving t3.left h3.able) in
    let h5 = good-then n t4 end_session_turn h4 (settles-good n t4.left h4.able) in
    let h6 = good-then n t5 (departure_turn (closing_departure now octets v)) h5
    (departs-good n (closing_departure now octets v) t5.left h5.able) in
    good-then n t6 (count_turn answer (waiting_time now v) now) h6
    (same-good n t6.left (count_turn answer (waiting_time now v) now t6.left).left h6.able refl refl refl refl refl)

parts-good : (n now : ℕ) (ps : List Part) (v : Fields) → Able n v → Good n (parts_turn now ps v)
parts-good n now [] v h = same-good n v v h refl refl refl refl refl
parts-good n now (p ∷ ps) v h =
    let one = part-good n now p.1 v h in good-then n (part_turn now p.1 v) (parts_turn now ps) one
    (parts-good n now ps (part_turn now p.1 v).left one.able)

packs-good : (n now : ℕ) (v : Fields) → Able n v → Good n (pack_turn now v)
packs-good n now v h =
    let unit = unit_text (take v.max v.waiting) in
    let t = machine_turn (send_turn unit now v.machine) v in
    let one = machine-good n (send_turn unit now v.machine) v h
    (sends-keeps unit now v.machine (unit-short v.max v.waiting h.sized.together h.sized.messages) h.sized.units) in
    good-then n t (λ w. end_still (record w { waiting = drop v.max v.waiting })) one
    (record {
      placed = tt;
      able =
          able-as n t.left (record t.left { waiting = drop v.max v.waiting }) one.able one.able.sized.units
          (all-drop IsShortMessage v.max v.waiting h.sized.messages) (named-in t.left one.able.sized) refl refl;
    })

packs_up_to-good : (n k now : ℕ) (v : Fields) → Able n v → Good n (pack_up_to_turn k now v)
packs_up_to-good n zero now v h = same-good n v v h refl refl refl refl refl
packs_up_to-good n (suc k) now v h =
    by_cond (Good n) (can_pack v) (turn_then (pack_turn now v) (pack_up_to_turn k now)) (end_still v)
    (λ _. let one = packs-good n now v h in good-then n (pack_turn now v) (pack_up_to_turn k now) one
    (packs_up_to-good n k now (pack_turn now v).left one.able))
    (λ _. same-good n v v h refl refl refl refl refl)

sends-good : (n now : ℕ) (v : Fields) → Able n v → Good n (end_send_turn now v)
sends-good n now v h = packs_up_to-good n (length v.waiting) now v h

settled-good : (n : ℕ) (t : MachineTurn) (cause : Option Departure) (v : Fields) → Able n v → Keeps t
    → Good n (settled t cause v)
settled-good n t cause v h k =
    let t0 = machine_turn t v in
    let t1 = turn_then t0 end_session_turn in
    let h0 = machine-good n t v h k in
    let h1 = good-then n t0 end_session_turn h0 (settles-good n t0.left h0.able) in
    good-then n t1 (departure_turn cause) h1 (departs-good n cause t1.left h1.able)

-- The calls.

record AllGood (n : ℕ) (t : Turn Inside) : Type 0 where
  placed : AllByRecursion (IsPlaced n) t.sent
  able : Able n t.left.upper

all-good-then : (n : ℕ) (t : Turn Inside) (next : Inside → Turn Inside) → AllGood n t → AllGood n (next t.left)
    → AllGood n (turn_then t next)
all-good-then n t next h k =
    record { placed = all-append (IsPlaced n) t.sent (next t.left).sent h.placed k.placed; able = k.able }

above-good : (n : ℕ) (next : Fields → Turn Fields) (v : Inside) → Good n (next v.upper) → AllGood n (above_red next v)
above-good n next v h = record { placed = h.placed; able = h.able }

idle-good : (n : ℕ) (v : Inside) → Able n v.upper → AllGood n (end_still v)
idle-good n v h = record { placed = tt; able = h }

goes_on-good : (n now : ℕ) (i : Input) (v : Inside) → Able n v.upper → AllGood n (end_goes_on now i v)
goes_on-good n now i v h =
    let t = input_turn now i v in
    let p = parts-good n now (parts_passed i v.red) v.upper h in
    by_cond (AllGood n) (is_over v) (end_still v) (turn_then t (above_red (end_send_turn now))) (λ _. idle-good n v h)
    (λ _. all-good-then n t (above_red (end_send_turn now)) (record { placed = p.placed; able = p.able })
    (above-good n (end_send_turn now) t.left (sends-good n now t.left.upper p.able)))

arrives-good : (n now : ℕ) (octets : List ℕ) (v : Inside) → Able n v.upper → AllGood n (end_arrival_turn now octets v)
arrives-good n now octets v h =
    let m = v.upper.machine in
    let cause = own_departure (overdue now m) now in
    let first = above_red (settled (guard_turn now m) cause) v in
    let g = settled-good n (guard_turn now m) cause v.upper h (guards-keeps now m h.sized.units) in
    by_cond (AllGood n) (is_over v) (end_still v) (turn_then first (end_goes_on now (Datagram octets now)))
    (λ _. idle-good n v h)
    (λ _. all-good-then n first (end_goes_on now (Datagram octets now))
    (above-good n (settled (guard_turn now m) cause) v g)
    (goes_on-good n now (Datagram octets now) first.left g.able))

passes-good : (n now : ℕ) (v : Inside) → Able n v.upper → AllGood n (time_turn now v)
passes-good n now v h =
    let m = v.upper.machine in
    let cause = own_departure (overdue now m) now in
    let first = above_red (settled (tick_turn now m) cause) v in
    let g = settled-good n (tick_turn now m) cause v.upper h (ticks-keeps now m h.sized.units) in
    by_cond (AllGood n) (is_over v) (end_still v) (turn_then first (end_goes_on now (RedTick now)))
    (λ _. idle-good n v h)
    (λ _. all-good-then n first (end_goes_on now (RedTick now)) (above-good n (settled (tick_turn now m) cause) v g)
    (goes_on-good n now (RedTick now) first.left g.able))

closes-good : (n now : ℕ) (v : Fields) → Able n v → Good n (close_turn now v)
closes-good n now v h =
    settled-good n (leave_turn ClosedByUser Unspecified now v.machine)
    (own_departure (if is_closed v.machine.connection then None else Some (ClosedByUser, Unspecified)) now) v h
    (leaves-keeps ClosedByUser Unspecified now v.machine h.sized.units)

meets-then : (n now : ℕ) (e : Event) (v w : Fields) → Able n v → Able n w
    → Good n (turn_then (session_turn (process_event e (dialogue_of v)) w) (end_send_turn now))
meets-then n now e v w h k =
    let d = process_event e (dialogue_of v) in
    let one = session-good n d w k (meets-talks e (dialogue_of v) (talks-of v h.sized)) in
    good-then n (session_turn d w) (end_send_turn now) one (sends-good n now (session_turn d w).left one.able)

puts-good : (n kind now : ℕ) (payload : List ℕ) (v : Fields) → Able n v → Good n (put_turn kind payload now v)
puts-good n kind now payload v h =
    let e = Puts kind payload (length v.waiting) in
    meets-then n now e v (accepts_in (process_event e (dialogue_of v)) v) h
    (same-good n v (accepts_in (process_event e (dialogue_of v)) v) h refl refl refl refl refl).able

completes-good : (n now : ℕ) (v : Fields) → Able n v → Good n (init_done_turn now v)
completes-good n now v h = meets-then n now (Completes (length v.waiting)) v v h h

turn-good : (n : ℕ) (c : Call) (v : Inside) → Able n v.upper → AllGood n (turn c v)
turn-good n (Close now) v h = above-good n (close_turn now) v (closes-good n now v.upper h)
turn-good n (Put kind payload now) v h =
    above-good n (put_turn kind payload now) v (puts-good n kind now payload v.upper h)
turn-good n (InitDone now) v h = above-good n (init_done_turn now) v (completes-good n now v.upper h)
turn-good n (Tick now) v h = passes-good n now v h
turn-good n (Deliver channel octets now) v h = arrives-good n now octets v h

pub size_law_holds : SizeLaw
size_law_holds c v h =
    let g = turn-good v.upper.count c v (record { sized = h; count = refl }) in
    record { placed = g.placed; sized = g.able.sized; count = g.able.count }
