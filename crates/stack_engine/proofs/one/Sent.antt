-- What one end keeps, call by call, of what it says: the messages that wait, the units that were sent, and the
-- telegrams in them.
use Rattle.stack_engine.proofs.Words.{[], added_by, Addressing, All-from_recursion, AllByRecursion, answered, ap, append-nil, append_assoc, are_fit, AreOctets}
use Rattle.stack_engine.proofs.Words.{AreSettings, arith, arrive_octets, Arrives, AskedLaw, AtCall, AtInput, AtParts, new_history, BegunLaw, Bool, by_cond, by_test}
use Rattle.stack_engine.proofs.Words.{Call, call, Close, Closed, ClosedByUser, Closes, code_octets, CodeLength, CodeRule, comes_up, Completes, cond}
use Rattle.stack_engine.proofs.Words.{ConnectionsLaw, ConnectionState, Datagram, Deliver, Dialogue, did, drop, drop-append_seam, EndSettings}
use Rattle.stack_engine.proofs.Words.{EndState, Err, EventsLaw, false, FewLaw, FirstMissingLaw, found_messages, found_telegram, FreshAtLastLaw, goes_on, GoesUp}
use Rattle.stack_engine.proofs.Words.{add_event, add_events, guard, handed_by, handed_up, HasKind, HasMessage, heard, heard_as, IdentifiedLaw, in_limits}
use Rattle.stack_engine.proofs.Words.{in_turn, InitDone, inl, Input, inr, InStepLaw, is_closed, is_legal, is_nil, is_shut, IsBeginning, IsMessage, IsTakenBy}
use Rattle.stack_engine.proofs.Words.{IsUnitSized, Item, judge_messages, judge_read, judge_units, judge_unpacked, Judgement, judge_as, judge_nothing, leave, Leaves}
use Rattle.stack_engine.proofs.Words.{leaves, Leaving, length, length-append, length-drop, length-take, List, little_bytes, Masking, MatchingLaw, may_send}
use Rattle.stack_engine.proofs.Words.{process_event, MessageLaw, messages_in, Move, move, MovesLaw, nat_lt, nat_tests, None, Ok, Option, OrderLaw, OriginLaw}
use Rattle.stack_engine.proofs.Words.{OverLaw, OwnEarlyLaw, packed, packed_up_to, PackFault, Part, part_step, parts_step, PartsLaw, parts_passed, Pdu, PduReadLaw, PhaseLaw}
use Rattle.stack_engine.proofs.Words.{piece, Put, put_by, Puts, ReachedLaw, ReadAlikeLaw, ReadAskedLaw, input_step, RedTick, refl, Result, bring_up, Role, safe_seen}
use Rattle.stack_engine.proofs.Words.{SafeFault, SafeText, seen_by, send, Sends, sends, sent_by, session_of, SettingsLaw, settle, Side, Some, State, StaysLaw}
use Rattle.stack_engine.proofs.Words.{can_pack, closed-step-is, close_turn, fields_kept, finished-is, finish_turn, guard_step, guarded-is, may-pack, not-pack, packed-is}
use Rattle.stack_engine.proofs.Words.{pack_turn, part-is, queued-is, queue_turn, step, tick_step, ticked-is, ⊎_elim}
use Rattle.stack_engine.proofs.Words.{StrangersLaw, subst, suc, sym, take, take-append-drop, TakenLaw, TakesFrontLaw, Tele, tele_seen, tele_text, TeleFault}
use Rattle.stack_engine.proofs.Words.{telegrams_in, texts, TextsLaw, Tick, tick, time_of, true, unconfirmed, UNIT_MESSAGES, unit_seen, unit_text, units}
use Rattle.stack_engine.proofs.Words.{UnitText, unless_leaving, Unspecified, WaitsLaw, with_input, with_machine, with_session, zero, ℕ, ◌&&◌, ◌*◌, ◌++◌, ◌<◌}
use Rattle.stack_engine.proofs.Words.{◌^◌, ◌∙◌, ◌∷◌, ◌≡◌, ◌≤◌, ◌⊎◌}
use Rattle.pdi_session.specs.JoinedSessions.{OneMoreLaw}
use Rattle.pdi_session.specs.Laws.{QueueLaw}
use Rattle.pdi_session.specs.SessionStep.{Event}
use Rattle.red_layer.specs.Laws.{OneMoreLaw as MoreInputsLaw}
use Rattle.safe_machine.specs.Law as L

-- what is packed is read again
abbrev pub ReadLaw : Type 0
ReadLaw = (ms : List (List ℕ)) (octets : List ℕ) → UnitText ms octets → unit_seen octets ≡ Ok ms

-- a text is read as its PDU
abbrev pub CompleteLaw : Type 0
CompleteLaw = (p : Pdu) (rule : CodeRule) (octets : List ℕ) → SafeText p rule octets → safe_seen rule octets ≡ Ok p

-- The laws of the layers below, each by what it says: of units and their messages, of sessions, of machines, of texts,
-- of the redundancy layer.
pub record Laws : Type 0 where
  pub read : ReadLaw
  pub message : MessageLaw
  pub one_more : OneMoreLaw
  pub taken : TakenLaw
  pub queue : QueueLaw
  pub over : OverLaw
  pub begun : BegunLaw
  pub phases : PhaseLaw
  pub own_early : OwnEarlyLaw
  pub fronts : TakesFrontLaw
  pub matching : MatchingLaw
  pub in_step : InStepLaw
  pub moves : MovesLaw
  pub settings : SettingsLaw
  pub identified : IdentifiedLaw
  pub events : EventsLaw
  pub texts : TextsLaw
  pub units : L.UnitLaw
  pub lost : L.LossLaw
  pub reached : ReachedLaw
  pub waits : WaitsLaw
  pub connections : ConnectionsLaw
  pub stays : StaysLaw
  pub strangers : StrangersLaw
  pub in_order : OrderLaw
  pub fresh_at_last : FreshAtLastLaw
  pub few : FewLaw
  pub heard : PduReadLaw
  pub complete : CompleteLaw
  pub alike : ReadAlikeLaw
  pub read_asked : ReadAskedLaw
  pub asked : AskedLaw
  pub origin : OriginLaw
  pub parts : PartsLaw
  pub masking : Masking
  pub missing : FirstMissingLaw
  pub more : MoreInputsLaw

-- what comes is of its type
abbrev pub IsTypedInput : Input → Type 0
IsTypedInput (Datagram octets now) = AreOctets octets
IsTypedInput (RedTick now) = Unit {0}

abbrev pub IsTypedCall : Call → Type 0
IsTypedCall (Deliver channel octets now) = AreOctets octets
IsTypedCall (Put kind payload now) = kind < 256 ^ 2
IsTypedCall _ = Unit {0}

-- P is kept by each change of an end at this time, if Q holds of each part when it goes up.
pub record Keeps (now : ℕ) (Q : EndState → List ℕ → Type 0) (P : EndState → Type 0) : Type 0 where
  pub guards : (x : EndState) → P x → P (with_machine (guard now x.machine) x)
  pub ticks : (x : EndState) → P x → P (with_machine (tick now x.machine) x)
  pub closes : (x : EndState) → P x → P (with_machine (leave ClosedByUser Unspecified now x.machine) x)
  pub ends : (x : EndState) → is_shut x ≡ true → P x → P (with_session (process_event Closes x.session) x)
  pub inputs : (i : Input) (x : EndState) → IsTypedInput i → P x → P (with_input i x)
  pub hears : (octets : List ℕ) (x : EndState) → Q x octets → P x → P (heard now octets x)
  pub sends : (x : EndState) → may_send x.machine ≡ true → is_nil x.session.waiting ≡ false → P x → P (packed now x)
  pub puts : (kind : ℕ) (payload : List ℕ) (x : EndState) → kind < 256 ^ 2 → P x
      → P (with_session (process_event (Puts kind payload (length x.session.waiting)) x.session) x)
  pub dones : (x : EndState) → P x → P (with_session (process_event (Completes (length x.session.waiting)) x.session) x)
  pub times : (x : EndState) → P x → P (record x { time = now })

-- of these, what follows the first move of a call
pub record Goes (now : ℕ) (Q : EndState → List ℕ → Type 0) (P : EndState → Type 0) : Type 0 where
  pub ends : (x : EndState) → is_shut x ≡ true → P x → P (with_session (process_event Closes x.session) x)
  pub hears : (octets : List ℕ) (x : EndState) → Q x octets → P x → P (heard now octets x)
  pub sends : (x : EndState) → may_send x.machine ≡ true → is_nil x.session.waiting ≡ false → P x → P (packed now x)

pub goes-of : (now : ℕ) (Q : EndState → List ℕ → Type 0) (P : EndState → Type 0) → Keeps now Q P → Goes now Q P
goes-of now Q P k = record { ends = k.ends; hears = k.hears; sends = k.sends }

module _ (now : ℕ) (Q : EndState → List ℕ → Type 0) (P : EndState → Type 0) (k : Goes now Q P) where
  pub keep-settle : (x : EndState) → P x → P (settle x)
  keep-settle x h =
      by_cond P (is_shut x) (with_session (process_event Closes x.session) x) x (λ shut. k.ends x shut h) (λ _. h)

  pub keep-part : (octets : List ℕ) (x : EndState) → Q x octets → P x → P (part_step now octets x)
  keep-part octets x q h =
      subst P (sym (part-is now octets x)) (keep-settle (heard now octets x) (k.hears octets x q h))

  pub keep-parts : (ps : List Part) (x : EndState) → AtParts Q now ps x → P x → P (parts_step now ps x)
  keep-parts [] x q h = h
  keep-parts (p ∷ ps) x q h = keep-parts ps (part_step now p.1 x) q.1 (keep-part p.1 x q.0 h)

  pub keep-packed : (n : ℕ) (x : EndState) → P x → P (packed_up_to n now x)
  keep-packed zero x h = h
  keep-packed (suc n) x h =
      let y = step (pack_turn now) x in
      by_cond P (can_pack (fields_kept x)) (packed_up_to n now y) x (λ can.
      let may = may-pack x can in
      keep-packed n y (subst P (sym (packed-is now x)) (k.sends x may.0 may.1 h))) (λ _. h)

  -- the moves of the machine that a call begins with
  pub keep-guarded : (x : EndState) → P (with_machine (guard now x.machine) x) → P (guard_step now x)
  keep-guarded x h = subst P (sym (guarded-is now x)) (keep-settle (with_machine (guard now x.machine) x) h)

  pub keep-ticked : (x : EndState) → P (with_machine (tick now x.machine) x) → P (tick_step now x)
  keep-ticked x h = subst P (sym (ticked-is now x)) (keep-settle (with_machine (tick now x.machine) x) h)

  pub keep-closed : (x : EndState) → P (with_machine (leave ClosedByUser Unspecified now x.machine) x)
      → P (step (close_turn now) x)
  keep-closed x h =
      subst P (sym (closed-step-is now x)) (keep-settle (with_machine (leave ClosedByUser Unspecified now x.machine) x)
      h)

  pub keep-goes_on : (i : Input) (x : EndState) → AtInput Q now i x → P (with_input i x) → P x → P (goes_on now i x)
  keep-goes_on i x q came h =
      by_cond P (is_shut x) x (sends now (input_step now i x)) (λ _. h) (λ open-still.
      let y : EndState = input_step now i x in
      keep-packed (length y.session.waiting) y (keep-parts (parts_passed i x.red) (with_input i x) (q open-still) came))

-- if nothing is required of a part
abbrev pub AnyPart : EndState → List ℕ → Type 0
AnyPart x octets = Unit {0}

pub any-parts : (now : ℕ) (ps : List Part) (x : EndState) → AtParts AnyPart now ps x
any-parts now [] x = tt
any-parts now (p ∷ ps) x = (tt, any-parts now ps (part_step now p.1 x))

-- the call's own time
pub call-keeps : (c : Call) (Q : EndState → List ℕ → Type 0) (P : EndState → Type 0) (x : EndState)
    → Keeps (time_of c) Q P → IsTypedCall c → AtCall Q c x → P x
    → P (call c x)
call-keeps (Close now) Q P x k t q h =
    k.times (did (Close now) x) (keep-closed now Q P (goes-of now Q P k) x (k.closes x h))
call-keeps (Put kind payload now) Q P x k t q h =
    let y : EndState = step (queue_turn kind payload) x in
    let queued = subst P (sym (queued-is kind payload x)) (k.puts kind payload x t h) in
    k.times (sends now y) (keep-packed now Q P (goes-of now Q P k) (length y.session.waiting) y queued)
call-keeps (InitDone now) Q P x k t q h =
    let y : EndState = step finish_turn x in
    let queued = subst P (sym (finished-is x)) (k.dones x h) in
    k.times (sends now y) (keep-packed now Q P (goes-of now Q P k) (length y.session.waiting) y queued)
call-keeps (Tick now) Q P x k t q h =
    k.times (did (Tick now) x)
    (by_cond P (is_shut x) x (goes_on now (RedTick now) (tick_step now x)) (λ _. h) (λ open-still.
    let y = keep-ticked now Q P (goes-of now Q P k) x (k.ticks x h) in
    keep-goes_on now Q P (goes-of now Q P k) (RedTick now) (tick_step now x) (q open-still)
    (k.inputs (RedTick now) (tick_step now x) tt y) y))
call-keeps (Deliver channel octets now) Q P x k t q h =
    k.times (did (Deliver channel octets now) x)
    (by_cond P (is_shut x) x (goes_on now (Datagram octets now) (guard_step now x)) (λ _. h) (λ open-still.
    let y = keep-guarded now Q P (goes-of now Q P k) x (k.guards x h) in
    keep-goes_on now Q P (goes-of now Q P k) (Datagram octets now) (guard_step now x) (q open-still)
    (k.inputs (Datagram octets now) (guard_step now x) t y) y))

-- what an end that may disconnect keeps
pub leaves-same : (now : ℕ) (why : Option Leaving) (y : EndState) → ((leaves now why y).settings ≡ y.settings)
    × ((leaves now why y).request ≡ y.request)
    × ((leaves now why y).inputs ≡ y.inputs) × ((leaves now why y).red ≡ y.red)
    × ((leaves now why y).session ≡ y.session)
leaves-same now why y = grind (arith, nat_tests)

-- the settings, and all inputs except the one that comes
pub record Steady (x y : EndState) : Type 0 where
  pub set : y.settings ≡ x.settings
  pub inputs : y.inputs ≡ x.inputs

pub steady-goes : (now : ℕ) (x : EndState) → Goes now AnyPart (Steady x)
steady-goes now x =
    record {
      ends = λ y shut h. record { set = h.set; inputs = h.inputs };
      hears = λ octets y q h.
          let s = arrive_octets octets now y.machine in
          let same = leaves-same now (judge_units (handed_up y s) y.session).leaving (answered octets y s) in
          record { set = same.0 ∙ h.set; inputs = same.2 ∙ h.inputs };
      sends = λ y may some h. record { set = h.set; inputs = h.inputs };
    }

pub same-length : (m n : CodeLength) → code_octets m ≡ code_octets n → m ≡ n
same-length m n h = grind (arith, nat_tests)

-- all of two lists
pub all-append : {X : Type 0} (P : X → Type 0) (xs ys : List X) → AllByRecursion P xs → AllByRecursion P ys
    → AllByRecursion P (xs ++ ys)
all-append P [] ys h k = k
all-append P (x ∷ xs) ys h k = (h.0, all-append P xs ys h.1 k)

pub all-parts : {X : Type 0} (P : X → Type 0) (xs ys : List X) → AllByRecursion P (xs ++ ys)
    → AllByRecursion P xs × AllByRecursion P ys
all-parts P [] ys h = (tt, h)
all-parts P (x ∷ xs) ys h = let r = all-parts P xs ys h.1 in ((h.0, r.0), r.1)

pub all-map : {X : Type 0} (P Q : X → Type 0) → ((x : X) → P x → Q x) → (xs : List X) → AllByRecursion P xs
    → AllByRecursion Q xs
all-map P Q k [] h = tt
all-map P Q k (x ∷ xs) h = (k x h.0, all-map P Q k xs h.1)

pub messages-append : (us vs : List (List ℕ)) → messages_in (us ++ vs) ≡ messages_in us ++ messages_in vs
messages-append [] vs = refl
messages-append (u ∷ us) vs = grind (arith, messages-append us vs, append_assoc)

pub telegrams-append : (ms ns : List (List ℕ)) → telegrams_in (ms ++ ns) ≡ telegrams_in ms ++ telegrams_in ns
telegrams-append [] ns = refl
telegrams-append (m ∷ ms) ns = grind (arith, telegrams-append ms ns, append_assoc)

pub texts-append : (ts us : List Tele) → texts (ts ++ us) ≡ texts ts ++ texts us
texts-append [] us = refl
texts-append (t ∷ ts) us = ap (λ ms. tele_text t ∷ ms) (texts-append ts us)

-- A session that has gone through these events, whose queue is what has gone out and what waits.
pub record Talk (addressing : Addressing) (role : Role) (gone : List (List ℕ)) (d : Dialogue) : Type 0 where
  pub events : List Event
  pub kinds : AllByRecursion HasKind events
  pub history : d.history ≡ add_events events (new_history addressing role)
  pub settings : AreSettings d.history.state.addressing d.history.state.role
  pub messages : AllByRecursion HasMessage d.history.queue
  pub queue : texts d.history.queue ≡ gone ++ d.waiting

pub talk-meets : Laws → (a : Addressing) (r : Role) (gone : List (List ℕ)) (e : Event) (d : Dialogue) → HasKind e
    → Talk a r gone d → Talk a r gone (process_event e d)
talk-meets laws a r gone e d kind h =
    let added = added_by e d.history.state in
    record {
      events = h.events ++ e ∷ [];
      kinds = all-append HasKind h.events (e ∷ []) h.kinds (kind, tt);
      history = ap (add_event e) h.history ∙ sym (laws.one_more.0 h.events e (new_history a r));
      settings = h.settings;
      messages =
          all-append HasMessage d.history.queue added h.messages (laws.message d.history.state e h.settings kind);
      queue = texts-append d.history.queue added ∙ ap (λ ms. ms ++ texts added) h.queue
          ∙ append_assoc gone d.waiting (texts added);
    }

-- What the judging of each telegram keeps, the judging of units keeps.
module _ (P : Dialogue → Type 0) (read : (seen : Result Tele TeleFault) (d : Dialogue) → P d
    → P (judge_read seen d).left) where
  kept-unless : (why : Option Leaving) (first rest : Judgement) → P first.left → P rest.left
      → P (unless_leaving why first rest).left
  kept-unless None first rest h k = k
  kept-unless (Some why) first rest h k = h

  kept-messages : (ms : List (List ℕ)) (d : Dialogue) → P d → P (judge_messages ms d).left
  kept-messages [] d h = h
  kept-messages (m ∷ ms) d h =
      let first = judge_read (tele_seen m) d in
      let one = read (tele_seen m) d h in
      kept-unless first.leaving first (judge_messages ms first.left) one (kept-messages ms first.left one)

  kept-unpacked : (seen : Result (List (List ℕ)) PackFault) (d : Dialogue) → P d → P (judge_unpacked seen d).left
  kept-unpacked (Ok ms) d h = kept-messages ms d h
  kept-unpacked (Err fault) d h = h

  pub kept-units : (us : List (List ℕ)) (d : Dialogue) → P d → P (judge_units us d).left
  kept-units [] d h = h
  kept-units (u ∷ us) d h =
      let first = judge_unpacked (unit_seen u) d in
      let one = kept-unpacked (unit_seen u) d h in
      kept-unless first.leaving first (judge_units us first.left) one (kept-units us first.left one)

talk-read : Laws → (a : Addressing) (r : Role) (gone : List (List ℕ)) (seen : Result Tele TeleFault) (d : Dialogue)
    → Talk a r gone d
    → Talk a r gone (judge_read seen d).left
talk-read laws a r gone (Ok t) d h = talk-meets laws a r gone (Arrives t) d tt h
talk-read laws a r gone (Err fault) d h = h

pub talk-units : Laws → (a : Addressing) (r : Role) (gone us : List (List ℕ)) (d : Dialogue) → Talk a r gone d
    → Talk a r gone (judge_units us d).left
talk-units laws a r gone us d h = kept-units (Talk a r gone) (talk-read laws a r gone) us d h

-- What judging adds to the telegrams judged: the first of those that came, and all of them if the end goes on.
pub record Hearing (d : Dialogue) (came : List Tele) (j : Judgement) : Type 0 where
  pub front : List Tele
  pub judged : j.left.history.judged ≡ d.history.judged ++ front
  pub begins : IsBeginning front came
  pub whole : j.leaving ≡ None → front ≡ came

hearing-none : (d : Dialogue) → Hearing d [] (judge_nothing d)
hearing-none d =
    record { front = []; judged = sym (append-nil d.history.judged); begins = ([], refl); whole = λ _. refl }

hearing-as : (why : Leaving) (d : Dialogue) (came : List Tele) → Hearing d came (judge_as why d)
hearing-as why d came =
    record { front = []; judged = sym (append-nil d.history.judged); begins = (came, refl); whole = λ e. cc }

pub hearing-read : (seen : Result Tele TeleFault) (d : Dialogue) → Hearing d (found_telegram seen) (judge_read seen d)
hearing-read (Ok t) d = record { front = t ∷ []; judged = refl; begins = ([], refl); whole = λ _. refl }
hearing-read (Err fault) d = hearing-as _ d []

hearing-then : (d : Dialogue) (came more : List Tele) (first rest : Judgement) (why : Option Leaving)
    → first.leaving ≡ why → Hearing d came first
    → Hearing first.left more rest → Hearing d (came ++ more) (unless_leaving why first rest)
hearing-then d came more first rest None e h k =
    record {
      front = h.front ++ k.front;
      judged = k.judged ∙ ap (λ ts. ts ++ k.front) h.judged ∙ append_assoc d.history.judged h.front k.front;
      begins = (
        k.begins.0,
        append_assoc h.front k.front k.begins.0 ∙ ap (λ ts. h.front ++ ts) k.begins.1
            ∙ ap (λ ts. ts ++ more) (h.whole e),
      );
      whole = λ none. ap (λ ts. h.front ++ ts) (k.whole none) ∙ ap (λ ts. ts ++ more) (h.whole e);
    }
hearing-then d came more first rest (Some why) e h k =
    record {
      front = h.front;
      judged = h.judged;
      begins = (h.begins.0 ++ more, sym (append_assoc h.front h.begins.0 more) ∙ ap (λ ts. ts ++ more) h.begins.1);
      whole = λ none. let both = sym e ∙ none in cc;
    }

hearing-messages : (ms : List (List ℕ)) (d : Dialogue) → Hearing d (telegrams_in ms) (judge_messages ms d)
hearing-messages [] d = hearing-none d
hearing-messages (m ∷ ms) d =
    let first = judge_read (tele_seen m) d in
    hearing-then d (found_telegram (tele_seen m)) (telegrams_in ms) first (judge_messages ms first.left) first.leaving
    refl (hearing-read (tele_seen m) d)
    (hearing-messages ms first.left)

pub hearing-unpacked : (seen : Result (List (List ℕ)) PackFault) (d : Dialogue)
    → Hearing d (telegrams_in (found_messages seen)) (judge_unpacked seen d)
hearing-unpacked (Ok ms) d = hearing-messages ms d
hearing-unpacked (Err fault) d = hearing-as _ d []

pub hearing-units : (us : List (List ℕ)) (d : Dialogue) → Hearing d (telegrams_in (messages_in us)) (judge_units us d)
hearing-units [] d = hearing-none d
hearing-units (u ∷ us) d =
    let first = judge_unpacked (unit_seen u) d in
    let rest = judge_units us first.left in
    subst (λ ts. Hearing d ts (unless_leaving first.leaving first rest))
    (sym (telegrams-append (found_messages (unit_seen u)) (messages_in us)))
    (hearing-then d (telegrams_in (found_messages (unit_seen u))) (telegrams_in (messages_in us)) first rest
    first.leaving refl
    (hearing-unpacked (unit_seen u) d) (hearing-units us first.left))

-- each telegram of the queue is read from its message
pub queue-read : (ts : List Tele) → AllByRecursion HasMessage ts → telegrams_in (texts ts) ≡ ts
queue-read [] h = refl
queue-read (t ∷ ts) h = ap (λ seen. found_telegram seen ++ telegrams_in (texts ts)) h.0.read
    ∙ ap (λ us. t ∷ us) (queue-read ts h.1)

abbrev pub AllMessages : List (List ℕ) → Type 0
AllMessages ms = AllByRecursion IsMessage ms

pub all-take : {X : Type 0} (P : X → Type 0) (n : ℕ) (xs : List X) → AllByRecursion P xs → AllByRecursion P (take n xs)
all-take P zero xs h = tt
all-take P (suc n) [] h = tt
all-take P (suc n) (x ∷ xs) h = (h.0, all-take P n xs h.1)

pub take-most : {X : Type 0} (n : ℕ) (xs : List X) → length (take n xs) ≤ n
take-most n xs = omega (arith, length-take n xs)

pub take-some : {X : Type 0} (n : ℕ) (xs : List X) → 1 ≤ n → is_nil xs ≡ false → 0 < length (take n xs)
take-some n xs h k = grind (arith, nat_tests, length-take)

-- so long is the text of messages, by how many they are
pub unit-size : (ms : List (List ℕ)) → AllMessages ms → (45 * length ms ≤ length (unit_text ms))
    × (length (unit_text ms) ≤ 402 * length ms)
unit-size [] h = (omega arith, omega arith)
unit-size (m ∷ ms) h =
    grind (
      arith,
      unit-size ms h.1,
      h.0.0,
      h.0.1,
      length-append (piece m) (unit_text ms),
      length-append (little_bytes 2 (length m)) m,
    )

pub is-unit : (n : ℕ) (ms : List (List ℕ)) → 1 ≤ n → n ≤ UNIT_MESSAGES → is_nil ms ≡ false → AllMessages ms
    → UnitText (take n ms) (unit_text (take n ms))
is-unit n ms some few waits h =
    record {
      some = take-some n ms some waits;
      most = let m = take-most n ms in omega (arith, m, few);
      sized = All-from_recursion IsMessage (take n ms) (all-take IsMessage n ms h);
      spelled = refl;
    }

pub unit-sized : (n : ℕ) (ms : List (List ℕ)) → 1 ≤ n → n ≤ UNIT_MESSAGES → is_nil ms ≡ false → AllMessages ms
    → IsUnitSized (unit_text (take n ms))
unit-sized n ms some few waits h =
    let size = unit-size (take n ms) (all-take IsMessage n ms h) in
    let least = take-some n ms some waits in
    let most = take-most n ms in
    (omega (arith, size.0, least), omega (arith, size.1, most, few))

abbrev pub Unpacks : List ℕ → Type 0
Unpacks u = (ms : List (List ℕ)) × (unit_seen u ≡ Ok ms)

-- what came to the session: the telegrams in the units taken
abbrev pub came : State → List Tele
came s = telegrams_in (messages_in s.taken)

pub record Spoken (side : Side) (x : EndState) : Type 0 where
  pub fit : are_fit side x.settings ≡ true
  pub talk : Talk x.settings.addressing (session_of side x.settings) (messages_in (units x.machine.made)) x.session
  pub unpack : AllByRecursion Unpacks (units x.machine.made)
  pub begins : IsBeginning x.session.history.judged (came x.machine)
  pub whole : is_shut x ≡ false → x.session.history.judged ≡ came x.machine

pub closed-is : (c : ConnectionState) → is_closed c ≡ true → c ≡ Closed
closed-is c h = grind (arith, nat_tests)

-- a machine that is open after a move was open before
pub was-open : MovesLaw → (m : Move) (s : State) → is_closed (move m s).connection ≡ false
    → is_closed s.connection ≡ false
was-open law m s on = grind (arith, (law m s).closed, closed-is)

-- the machine sends and takes no unit
pub record Still (s t : State) : Type 0 where
  pub sent : units t.made ≡ units s.made
  pub taken : t.taken ≡ s.taken
  pub back : is_closed t.connection ≡ false → is_closed s.connection ≡ false

pub still-by : MovesLaw → (m : Move) (s : State) → sent_by m s ≡ []
    → ((more : List (List ℕ)) → IsTakenBy m more → more ≡ []) → Still s (move m s)
still-by law m s none nothing =
    let one = law m s in
    record {
      sent = one.sent ∙ ap (λ us. units s.made ++ us) none ∙ append-nil (units s.made);
      taken = one.taken ∙ ap (λ us. s.taken ++ us) (nothing one.more_taken one.one_taken) ∙ append-nil s.taken;
      back = was-open law m s;
    }

pub spoken-still : (side : Side) (x : EndState) (s : State) → Still x.machine s → Spoken side x
    → Spoken side (with_machine s x)
spoken-still side x s t h =
    grind (arith, nat_tests, h.begins, h.fit, h.talk, h.unpack, h.whole, t.back, t.sent, t.taken)

-- an event of the session that brings it no telegram
pub spoken-meets : Laws → (side : Side) (e : Event) (x : EndState) → HasKind e → handed_by e ≡ [] → Spoken side x
    → Spoken side (with_session (process_event e x.session) x)
spoken-meets laws side e x kind quiet h =
    let same : (process_event e x.session).history.judged
    ≡ x.session.history.judged = ap (λ ts. x.session.history.judged ++ ts) quiet
    ∙ append-nil x.session.history.judged in
    record {
      fit = h.fit;
      talk = talk-meets laws x.settings.addressing (session_of side x.settings) (messages_in (units x.machine.made)) e
          x.session kind h.talk;
      unpack = h.unpack;
      begins = subst (λ ts. IsBeginning ts (came x.machine)) (sym same) h.begins;
      whole = λ on. same ∙ h.whole on;
    }

pub nil-front : {X : Type 0} (a b : List X) → a ++ b ≡ [] → a ≡ []
nil-front [] b e = refl
nil-front (x ∷ a) b e = cc

pub nil-behind : {X : Type 0} (a b : List X) → a ++ b ≡ [] → b ≡ []
nil-behind [] b e = e
nil-behind (x ∷ a) b e = cc

pub came-more : (taken more : List (List ℕ))
    → telegrams_in (messages_in (taken ++ more)) ≡ telegrams_in (messages_in taken) ++ telegrams_in (messages_in more)
came-more taken more =
    ap telegrams_in (messages-append taken more) ∙ telegrams-append (messages_in taken) (messages_in more)

-- if no unit is taken, no unit goes up
pub handed-none : (x : EndState) (s : State) → s.taken ≡ x.machine.taken → handed_up x s ≡ []
handed-none x s e = ap (drop (length x.machine.taken)) (e ∙ sym (append-nil x.machine.taken))
    ∙ drop-append_seam x.machine.taken []

hears-sends : (r : Result Pdu SafeFault) (now : ℕ) (s : State) → sent_by (heard_as r now) s ≡ []
hears-sends r now s = grind (arith, nat_tests)

-- what bytes deliver; they send nothing, and change no machine that is closed
pub record HandsUp (x : EndState) (s : State) : Type 0 where
  pub taken : s.taken ≡ x.machine.taken ++ handed_up x s
  pub all : came s ≡ came x.machine ++ telegrams_in (messages_in (handed_up x s))
  pub sent : units s.made ≡ units x.machine.made
  pub still : is_shut x ≡ true → s ≡ x.machine
  pub nothing : is_shut x ≡ true → handed_up x s ≡ []

pub hands-up : MovesLaw → (now : ℕ) (octets : List ℕ) (x : EndState) → HandsUp x (arrive_octets octets now x.machine)
hands-up law now octets x =
    let m = heard_as (seen_by x.machine octets) now in
    let s = arrive_octets octets now x.machine in
    let one = law m x.machine in
    let more : handed_up x s ≡ one.more_taken = ap (drop (length x.machine.taken)) one.taken
    ∙ drop-append_seam x.machine.taken one.more_taken in
    let taken : s.taken ≡ x.machine.taken ++ handed_up x s = one.taken ∙ ap (λ us. x.machine.taken ++ us) (sym more) in
    let still : is_shut x ≡ true → s ≡ x.machine = λ shut. one.closed (closed-is x.machine.connection shut) in
    record {
      taken = taken;
      all = ap (λ ts. telegrams_in (messages_in ts)) taken ∙ came-more x.machine.taken (handed_up x s);
      sent = one.sent ∙ ap (λ us. units x.machine.made ++ us) (hears-sends (seen_by x.machine octets) now x.machine)
          ∙ append-nil (units x.machine.made);
      still = still;
      nothing = λ shut. handed-none x s (ap (λ (t : State). t.taken) (still shut));
    }

-- all but that the whole was judged
pub record Nearly (side : Side) (x : EndState) : Type 0 where
  pub fit : are_fit side x.settings ≡ true
  pub talk : Talk x.settings.addressing (session_of side x.settings) (messages_in (units x.machine.made)) x.session
  pub unpack : AllByRecursion Unpacks (units x.machine.made)
  pub begins : IsBeginning x.session.history.judged (came x.machine)

spoken-leaves : MovesLaw → (side : Side) (now : ℕ) (why : Option Leaving) (y : EndState) → Nearly side y
    → (why ≡ None → is_shut y ≡ false → y.session.history.judged ≡ came y.machine) → Spoken side (leaves now why y)
spoken-leaves law side now None y h whole =
    record { fit = h.fit; talk = h.talk; unpack = h.unpack; begins = h.begins; whole = whole refl }
spoken-leaves law side now (Some why) y h whole =
    let t : Still y.machine (leave why.0 why.1 now y.machine) = still-by law (Leaves why.0 why.1 now) y.machine refl
    (λ more e. e) in
    record {
      fit = h.fit;
      talk = subst (λ us. Talk y.settings.addressing (session_of side y.settings) (messages_in us) y.session)
          (sym t.sent) h.talk;
      unpack = subst (λ us. AllByRecursion Unpacks us) (sym t.sent) h.unpack;
      begins =
          subst (λ us. IsBeginning y.session.history.judged (telegrams_in (messages_in us))) (sym t.taken) h.begins;
      whole = λ on. cc;
    }

pub rises-same : (b : Bool) (d : Dialogue) → ((bring_up b d).history.judged ≡ d.history.judged)
    × ((bring_up b d).history.taken ≡ d.history.taken)
    × ((bring_up b d).history.ended_in ≡ d.history.ended_in) × ((bring_up b d).history.put ≡ d.history.put)
rises-same b d = grind (arith, nat_tests, append-nil)

rises-talk : Laws → (a : Addressing) (r : Role) (gone : List (List ℕ)) (b : Bool) (d : Dialogue) → Talk a r gone d
    → Talk a r gone (bring_up b d)
rises-talk laws a r gone true d h = talk-meets laws a r gone GoesUp d tt h
rises-talk laws a r gone false d h = h

pub spoken-hears : Laws → (side : Side) (now : ℕ) (octets : List ℕ) (x : EndState) → Spoken side x
    → Spoken side (heard now octets x)
spoken-hears laws side now octets x h =
    let s = arrive_octets octets now x.machine in
    let step = hands-up laws.moves now octets x in
    let us = handed_up x s in
    let j = judge_units us x.session in
    let hear : Hearing x.session (telegrams_in (messages_in us)) j = hearing-units us x.session in
    let up = comes_up x.machine.connection s.connection in
    let a = x.settings.addressing in
    let r = session_of side x.settings in
    let judged : (bring_up up j.left).history.judged ≡ x.session.history.judged ++ hear.front = (rises-same up j.left).0
    ∙ hear.judged in
    let near : Nearly side (answered octets x s) =
    record {
      fit = h.fit;
      talk =
          subst (λ vs. Talk a r (messages_in vs) (bring_up up j.left)) (sym step.sent)
          (rises-talk laws a r (messages_in (units x.machine.made)) up j.left
          (talk-units laws a r (messages_in (units x.machine.made)) us x.session h.talk));
      unpack = subst (λ vs. AllByRecursion Unpacks vs) (sym step.sent) h.unpack;
      begins =
          by_test (λ b. is_shut x ≡ b → IsBeginning (bring_up up j.left).history.judged (came s)) (is_shut x)
          (λ shut _.
          let same : s ≡ x.machine = step.still shut in
          let front : hear.front ≡ [] =
          nil-front hear.front hear.begins.0 (hear.begins.1
          ∙ ap (λ vs. telegrams_in (messages_in vs)) (step.nothing shut)) in
          subst (λ ts. IsBeginning ts (came s)) (sym (judged ∙ ap (λ ts. x.session.history.judged ++ ts) front
          ∙ append-nil x.session.history.judged))
          (subst (λ (t : State). IsBeginning x.session.history.judged (came t)) (sym same) h.begins))
          (λ on _. (
            hear.begins.0,
            ap (λ ts. ts ++ hear.begins.0) judged
                ∙ append_assoc x.session.history.judged hear.front hear.begins.0
                ∙ ap (λ ts. x.session.history.judged ++ ts) hear.begins.1
                ∙ ap (λ ts. ts ++ telegrams_in (messages_in us)) (h.whole on)
                ∙ sym step.all,
          )) refl;
    }
    in
    spoken-leaves laws.moves side now j.leaving (answered octets x s) near
    (λ none on.
    judged ∙ ap (λ ts. x.session.history.judged ++ ts) (hear.whole none)
    ∙ ap (λ ts. ts ++ telegrams_in (messages_in us))
    (h.whole (was-open laws.moves (heard_as (seen_by x.machine octets) now) x.machine on)) ∙ sym step.all)

pub and-parts : (a b : Bool) → (a && b) ≡ true → (a ≡ true) × (b ≡ true)
and-parts a b h = grind (arith, nat_tests)

pub limits-of : (side : Side) (s : EndSettings) → are_fit side s ≡ true → in_limits s ≡ true
limits-of side s h = (and-parts (in_limits s) _ (and-parts (is_legal s.connection) _ h).1).0

pub legal-of : (side : Side) (s : EndSettings) → are_fit side s ≡ true → is_legal s.connection ≡ true
legal-of side s h = (and-parts (is_legal s.connection) _ h).0

-- an end packs one to three messages
pub packs-some : (side : Side) (s : EndSettings) → are_fit side s ≡ true
    → (1 ≤ s.n_maxpacket) × (s.n_maxpacket ≤ UNIT_MESSAGES)
packs-some side s h = grind (arith, nat_tests, limits-of side s h)

texts-sized : (ts : List Tele) → AllByRecursion HasMessage ts → AllMessages (texts ts)
texts-sized [] h = tt
texts-sized (t ∷ ts) h = (h.0.sized, texts-sized ts h.1)

-- what waits are messages
pub waits-sized : (side : Side) (x : EndState) → Spoken side x → AllMessages x.session.waiting
waits-sized side x h =
    (all-parts IsMessage (messages_in (units x.machine.made)) x.session.waiting
    (subst AllMessages h.talk.queue (texts-sized x.session.history.queue h.talk.messages))).1

pub spoken-packed : Laws → (side : Side) (now : ℕ) (x : EndState) → may_send x.machine ≡ true
    → is_nil x.session.waiting ≡ false → Spoken side x
    → Spoken side (packed now x)
spoken-packed laws side now x may some h =
    let n = x.settings.n_maxpacket in
    let waiting = x.session.waiting in
    let front = take n waiting in
    let unit = unit_text front in
    let few = packs-some side x.settings h.fit in
    let read : unit_seen unit ≡ Ok front = laws.read front unit
    (is-unit n waiting few.0 few.1 some (waits-sized side x h)) in
    let one = laws.moves (Sends unit now) x.machine in
    let s = send unit now x.machine in
    let sent : units s.made ≡ units x.machine.made ++ unit ∷ [] = one.sent
    ∙ ap (λ (b : Bool). units x.machine.made ++ cond b (unit ∷ []) []) may in
    let taken : s.taken ≡ x.machine.taken = one.taken ∙ ap (λ us. x.machine.taken ++ us) one.one_taken
    ∙ append-nil x.machine.taken in
    let gone = messages_in (units x.machine.made) in
    let gone-now : messages_in (units s.made) ≡ gone ++ front =
    ap messages_in sent ∙ messages-append (units x.machine.made) (unit ∷ [])
    ∙ ap (λ r. gone ++ (found_messages r ++ [])) read ∙ ap (λ ms. gone ++ ms) (append-nil front)
    in
    let rest = drop n waiting in
    record {
      fit = h.fit;
      talk =
          record {
            events = h.talk.events;
            kinds = h.talk.kinds;
            history = h.talk.history;
            settings = h.talk.settings;
            messages = h.talk.messages;
            queue =
                h.talk.queue ∙ ap (λ ms. gone ++ ms) (sym (take-append-drop n waiting))
                ∙ sym (append_assoc gone front rest)
                ∙ ap (λ ms. ms ++ rest) (sym gone-now);
          };
      unpack = subst (λ us. AllByRecursion Unpacks us) (sym sent)
          (all-append Unpacks (units x.machine.made) (unit ∷ []) h.unpack ((front, read), tt));
      begins = subst (λ us. IsBeginning x.session.history.judged (telegrams_in (messages_in us))) (sym taken) h.begins;
      whole = λ on. h.whole (was-open laws.moves (Sends unit now) x.machine on)
          ∙ ap (λ us. telegrams_in (messages_in us)) (sym taken);
    }

abbrev pub Packs : EndState → Type 0
Packs x = (is_nil x.session.waiting ≡ true) ⊎ (may_send x.machine ≡ false)

shut-packs : (x : EndState) → is_shut x ≡ true → Packs x
shut-packs x shut =
    inr (ap (λ c. in_turn c && nat_lt (length (unconfirmed x.machine)) x.machine.window)
    (closed-is x.machine.connection shut))

dropped-shorter : (n m : ℕ) (ms : List (List ℕ)) → 1 ≤ n → length ms ≤ suc m → length (drop n ms) ≤ m
dropped-shorter n m ms some le = omega (arith, some, le, length-drop n ms)

nil-short : (ms : List (List ℕ)) → length ms ≤ 0 → is_nil ms ≡ true
nil-short ms h = grind (arith, nat_tests)

-- as many times as messages wait are enough
packed-all : (n now : ℕ) (x : EndState) → 1 ≤ x.settings.n_maxpacket → length x.session.waiting ≤ n
    → Packs (packed_up_to n now x)
packed-all zero now x some le = inl (nil-short x.session.waiting le)
packed-all (suc n) now x some le =
    let y = step (pack_turn now) x in
    by_cond Packs (can_pack (fields_kept x)) (packed_up_to n now y) x
    (λ _. packed-all n now y some (dropped-shorter x.settings.n_maxpacket n x.session.waiting some le))
    (λ none. ⊎_elim (λ may. inr may) (λ nil. inl nil) (not-pack x none))

-- settings stay, and so the packing
abbrev pub PacksSome : EndState → Type 0
PacksSome x = 1 ≤ x.settings.n_maxpacket

pub sends-packs : (now : ℕ) (x : EndState) → PacksSome x → Packs (sends now x)
sends-packs now x some = packed-all (length x.session.waiting) now x some (omega arith)

pub goes-packs : (now : ℕ) (i : Input) (x : EndState) → PacksSome (input_step now i x) → Packs (goes_on now i x)
goes-packs now i x some = by_cond Packs (is_shut x) x (sends now (input_step now i x)) (λ shut. shut-packs x shut)
    (λ _. sends-packs now (input_step now i x) some)

settle-shut : (x : EndState) → is_shut x ≡ true → is_shut (settle x) ≡ true
settle-shut x shut = by_cond (λ (y : EndState). is_shut y ≡ true) (is_shut x)
    (with_session (process_event Closes x.session) x) x (λ _. shut) (λ _. shut)

receives-some : (now : ℕ) (i : Input) (x y : EndState) → Steady x y → PacksSome x → PacksSome (input_step now i y)
receives-some now i x y moved-on some =
    let heard-on : Steady (with_input i y) (input_step now i y) =
    keep-parts now AnyPart (Steady (with_input i y)) (steady-goes now (with_input i y)) (parts_passed i y.red)
    (with_input i y)
    (any-parts now (parts_passed i y.red) (with_input i y)) (record { set = refl; inputs = refl })
    in
    subst (λ (s : EndSettings). 1 ≤ s.n_maxpacket) (sym (heard-on.set ∙ moved-on.set)) some

pub call-packs : (c : Call) (x : EndState) → PacksSome x → Packs (call c x)
call-packs (Close now) x some =
    shut-packs (call (Close now) x) (subst (λ (y : EndState). is_shut y ≡ true) (sym (closed-step-is now x))
    (settle-shut (with_machine (leave ClosedByUser Unspecified now x.machine) x) refl))
call-packs (Put kind payload now) x some = sends-packs now (step (queue_turn kind payload) x) some
call-packs (InitDone now) x some = sends-packs now (step finish_turn x) some
call-packs (Tick now) x some =
    by_cond Packs (is_shut x) x (goes_on now (RedTick now) (tick_step now x)) (λ shut. shut-packs x shut)
    (λ _. goes-packs now (RedTick now) (tick_step now x)
    (receives-some now (RedTick now) x (tick_step now x) (record { set = refl; inputs = refl }) some))
call-packs (Deliver channel octets now) x some =
    by_cond Packs (is_shut x) x (goes_on now (Datagram octets now) (guard_step now x)) (λ shut. shut-packs x shut)
    (λ _. goes-packs now (Datagram octets now) (guard_step now x)
    (receives-some now (Datagram octets now) x (guard_step now x) (record { set = refl; inputs = refl }) some))

-- of all ends of a world: by the settings, which an end keeps
abbrev pub PacksAt : EndState → Type 0
PacksAt x = PacksSome x × Packs x

pub call-packs-at : (c : Call) (x : EndState) → (call c x).settings ≡ x.settings → PacksAt x → PacksAt (call c x)
call-packs-at c x set h = (subst (λ (s : EndSettings). 1 ≤ s.n_maxpacket) (sym set) h.0, call-packs c x h.0)

abbrev SamePut : Dialogue → Dialogue → Type 0
SamePut d e = e.history.put ≡ d.history.put

same-read : (d : Dialogue) (r : Result Tele TeleFault) (e : Dialogue) → SamePut d e → SamePut d (judge_read r e).left
same-read d (Ok t) e h = append-nil e.history.put ∙ h
same-read d (Err fault) e h = h

abbrev Same : EndState → EndState → Type 0
Same x y = SamePut x.session y.session

same-goes : (now : ℕ) (x : EndState) → Goes now AnyPart (Same x)
same-goes now x =
    record {
      ends = λ y shut h. append-nil y.session.history.put ∙ h;
      hears = λ octets y q h.
          let s = arrive_octets octets now y.machine in
          let up = judge_units (handed_up y s) y.session in
          ap (λ (d : Dialogue). d.history.put) (leaves-same now up.leaving (answered octets y s)).4
          ∙ (rises-same (comes_up y.machine.connection s.connection) up.left).3
          ∙ kept-units (SamePut x.session) (same-read x.session) (handed_up y s) y.session h;
      sends = λ y may some h. h;
    }

same-on : (now : ℕ) (i : Input) (x y : EndState) → Same x y → Same x (goes_on now i y)
same-on now i x y h =
    keep-goes_on now AnyPart (Same x) (same-goes now x) i y (λ _. any-parts now (parts_passed i y.red) (with_input i y))
    h h

-- what a call puts in
abbrev pub put_in_by : Call → EndState → List Item
put_in_by (Put kind payload now) x = put_by (Puts kind payload (length x.session.waiting)) x.session.history.state
put_in_by c x = []

pub call-put : (c : Call) (x : EndState) → (call c x).session.history.put ≡ x.session.history.put ++ put_in_by c x
call-put (Close now) x = keep-closed now AnyPart (Same x) (same-goes now x) x refl
    ∙ sym (append-nil x.session.history.put)
call-put (Put kind payload now) x =
    let y = step (queue_turn kind payload) x in
    keep-packed now AnyPart (Same y) (same-goes now y) (length y.session.waiting) y refl
call-put (InitDone now) x =
    let y = step finish_turn x in
    keep-packed now AnyPart (Same y) (same-goes now y) (length y.session.waiting) y refl
call-put (Tick now) x =
    by_cond (Same x) (is_shut x) x (goes_on now (RedTick now) (tick_step now x)) (λ _. refl)
    (λ _. same-on now (RedTick now) x (tick_step now x) (keep-ticked now AnyPart (Same x) (same-goes now x) x refl))
    ∙ sym (append-nil x.session.history.put)
call-put (Deliver channel octets now) x =
    by_cond (Same x) (is_shut x) x (goes_on now (Datagram octets now) (guard_step now x)) (λ _. refl)
    (λ _. same-on now (Datagram octets now) x (guard_step now x)
    (keep-guarded now AnyPart (Same x) (same-goes now x) x refl))
    ∙ sym (append-nil x.session.history.put)
