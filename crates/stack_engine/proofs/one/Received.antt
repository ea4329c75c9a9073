-- What one end keeps, call by call, of what arrives: how its machine moved, what its session judged and took, how it
-- starts and what ends it.
use Rattle.stack_engine.proofs.Words.{[], after, AllByRecursion, answered, ap, append-nil, are_fit, AreAmong, AreOctets, AreRead, AreSoundMoves, arith}
use Rattle.stack_engine.proofs.Words.{arrivals_of, arrive_octets, Arrives, BegunLaw, Bool, by_test, Closed, ClosedByUser, Closes, comes_up, Completes, cond}
use Rattle.stack_engine.proofs.Words.{connection_of, ConnectionState, Datagram, Dialogue, Down, end_of, ends_by, EndSettings, EndState, Err, false, false≢true}
use Rattle.stack_engine.proofs.Words.{Fe, GoesOn, Guards, handed_by, handed_up, HasKind, HaveTexts, heard, heard_as, Hears, History, Idle, if_ended, Il, inl}
use Rattle.stack_engine.proofs.Words.{Input, inr, is_closed, is_connected, is_ended, is_initialising, is_legal, is_nil, is_shut, IsAmong, IsRead, IsSoundMove}
use Rattle.stack_engine.proofs.Words.{IsTakenBy, items_of, judge_messages, judge_read, judge_units, judge_unpacked, Judgement, judge_telegram, Leaves, leaves, Leaving}
use Rattle.stack_engine.proofs.Words.{length, List, may_put, process_event, messages_in, Move, move, MovesLaw, nat_tests, None, Ok, new_state, Option, OverLaw, packed}
use Rattle.stack_engine.proofs.Words.{PackFault, Part, PartsLaw, parts_passed, Pdu, Phase, phase_after, phase_in, Puts, ReadLaw, Receiver, RedTick, refl, Result}
use Rattle.stack_engine.proofs.Words.{bring_up, Role, SafeFault, seen_by, Sends, sent_by, session_in, session_of, SessionDetail, SessionState, SettingsLaw, Side}
use Rattle.stack_engine.proofs.Words.{Some, Start, State, subst, sym, take, taken_at, taken_by, Tele, tele_seen, TeleFault, telegrams_in, TextsLaw, Ticks, true}
use Rattle.stack_engine.proofs.Words.{unit_seen, unit_text, unless_leaving, Unspecified, with_machine, with_session, ℕ, ◌++◌, ◌∙◌, ◌∷◌, ◌≡◌, ◌≢◌, ◌⊎◌}
use Rattle.pdi_session.specs.SessionStep.{Event}
use Rattle.safe_machine.specs.Moves.{make_moves}
use Rattle.stack_engine.proofs.one.Sent.{all-append, all-parts, came, closed-is, handed-none, hands-up, Hearing, hearing-units, IsTypedInput, Keeps}
use Rattle.stack_engine.proofs.one.Sent.{kept-units, Laws, legal-of, packs-some, rises-same, Spoken, spoken-hears, spoken-meets, spoken-packed}
use Rattle.stack_engine.proofs.one.Sent.{spoken-still, Still, still-by, Talk, talk-units, unit-sized, waits-sized, was-open}

-- all bytes of a part
abbrev pub OctetPart : Part → Type 0
OctetPart p = AreOctets p.1

-- by moves that were read
pub record Machined (side : Side) (x : EndState) : Type 0 where
  pub same : x.machine.settings ≡ connection_of side x.settings
  pub first : ℕ
  pub began : ℕ
  pub moves : List Move
  pub read : AreRead moves
  pub machine : x.machine ≡ make_moves moves (new_state (connection_of side x.settings) first began)
  pub waits : AllByRecursion OctetPart x.red.waiting

moved-push : (ms : List Move) (m : Move) (s : State) → make_moves (ms ++ m ∷ []) s ≡ move m (make_moves ms s)
moved-push [] m s = refl
moved-push (n ∷ ms) m s = moved-push ms m (move n s)

read-push : (ms : List Move) (m : Move) → AreRead ms → IsRead m → AreRead (ms ++ m ∷ [])
read-push [] m h k = (k, tt)
read-push (n ∷ ms) m h k = (h.0, read-push ms m h.1 k)

-- what was read is sound
sound-one : (m : Move) → IsRead m → IsSoundMove m
sound-one (Hears p now) h = h.0
sound-one (Sends unit now) h = h
sound-one _ h = tt

sound-read : (ms : List Move) → AreRead ms → AreSoundMoves ms
sound-read [] h = tt
sound-read (m ∷ ms) h = (sound-one m h.0, sound-read ms h.1)

-- only the machine moves
pub machined-move : SettingsLaw → (side : Side) (m : Move) (x y : EndState) → IsRead m → y.settings ≡ x.settings
    → y.red ≡ x.red → y.machine ≡ move m x.machine
    → Machined side x → Machined side y
machined-move law side m x y read a b c h =
    let begun = new_state (connection_of side x.settings) h.first h.began in
    record {
      same = ap (λ (s : State). s.settings) c ∙ (law m x.machine ∙ (h.same ∙ ap (connection_of side) (sym a)));
      first = h.first;
      began = h.began;
      moves = h.moves ++ m ∷ [];
      read = read-push h.moves m h.read read;
      machine = c
          ∙ (ap (move m) h.machine
          ∙ (sym (moved-push h.moves m begun)
          ∙ ap (λ (q : EndSettings). make_moves (h.moves ++ m ∷ []) (new_state (connection_of side q) h.first h.began))
          (sym a)));
      waits = subst (λ (r : Receiver). AllByRecursion OctetPart r.waiting) (sym b) h.waits;
    }

pub machined-same : (side : Side) (x y : EndState) → y.settings ≡ x.settings → y.red ≡ x.red → y.machine ≡ x.machine
    → Machined side x → Machined side y
machined-same side x y a b c h = grind (arith, nat_tests, h.began, h.first, h.machine, h.moves, h.read, h.same, h.waits)

pub legal-role : (side : Side) (s : EndSettings) → is_legal s.connection ≡ true → is_legal (connection_of side s) ≡ true
legal-role Il s h = h
legal-role Fe s h = h

-- every PDU made has a text
pub machined-texts : TextsLaw → (side : Side) (x : EndState) → are_fit side x.settings ≡ true → Machined side x
    → HaveTexts x.machine.made
machined-texts law side x fit h =
    grind (arith, nat_tests, legal-of, legal-role, sound-read, h.began, h.first, h.machine, h.moves, h.read)

-- the move that bytes cause was read
pub read-heard : ReadLaw → (now : ℕ) (octets : List ℕ) (s : State) → AreOctets octets → (r : Result Pdu SafeFault)
    → seen_by s octets ≡ r
    → IsRead (heard_as r now)
read-heard law now octets s octs (Ok p) e = let text = law p s.settings.rule octets octs e in (text.numbers, text.body)
read-heard law now octets s octs (Err fault) e = tt

machined-leaves : SettingsLaw → (side : Side) (now : ℕ) (why : Option Leaving) (y : EndState) → Machined side y
    → Machined side (leaves now why y)
machined-leaves law side now None y h = h
machined-leaves law side now (Some why) y h =
    machined-move law side (Leaves why.0 why.1 now) y (leaves now (Some why) y) tt refl refl refl h

machined-hears : Laws → (side : Side) (now : ℕ) (octets : List ℕ) (x : EndState) → AreOctets octets → Machined side x
    → Machined side (heard now octets x)
machined-hears laws side now octets x octs h =
    let s = arrive_octets octets now x.machine in
    machined-leaves laws.settings side now (judge_units (handed_up x s) x.session).leaving (answered octets x s)
    (machined-move laws.settings side (heard_as (seen_by x.machine octets) now) x (answered octets x s)
    (read-heard laws.heard now octets x.machine octs (seen_by x.machine octets) refl) refl refl refl h)

-- parts among bytes are bytes
among-one : (p : Part) (qs : List Part) → AllByRecursion OctetPart qs → IsAmong p qs → OctetPart p
among-one p [] h k = absurd k
among-one p (q ∷ qs) h (inl e) = rw e h.0
among-one p (q ∷ qs) h (inr k) = among-one p qs h.1 k

among-all : (ps qs : List Part) → AllByRecursion OctetPart qs → AreAmong ps qs → AllByRecursion OctetPart ps
among-all [] qs h k = tt
among-all (p ∷ ps) qs h k = (among-one p qs h k.0, among-all ps qs h k.1)

pub arrivals-octets : PartsLaw → (i : Input) → IsTypedInput i → AllByRecursion OctetPart (arrivals_of i)
arrivals-octets law (Datagram octets now) h = law octets now h
arrivals-octets law (RedTick now) h = tt

pub red-keeps : Laws → (i : Input) (r : Receiver) → IsTypedInput i → AllByRecursion OctetPart r.waiting
    → AllByRecursion OctetPart (parts_passed i r) × AllByRecursion OctetPart (after i r).waiting
red-keeps law i r t h = grind (arith, nat_tests, all-append, among-all, arrivals-octets, law.origin, law.parts)

-- after a telegram that does not end it, a session goes on
arrives-on : OverLaw → (s : SessionState) (t : Tele) → is_ended s.phase ≡ false → end_of (judge_telegram s t) ≡ None
    → is_ended (phase_after (Arrives t) s) ≡ false
arrives-on law s t on none = grind (arith, law (Arrives t) s on)

-- what was ended stays so
kept-none : {X : Type 0} (b : Bool) (x : X) (old : Option X) → cond b (Some x) old ≡ None → old ≡ None
kept-none b x old h = grind (arith, nat_tests)

-- messages that read, and units of them
abbrev pub Reads : List ℕ → Type 0
Reads m = (t : Tele) × (tele_seen m ≡ Ok t)

abbrev pub IsGood : List ℕ → Type 0
IsGood u = (ms : List (List ℕ)) × (unit_seen u ≡ Ok ms) × AllByRecursion Reads ms

abbrev pub AreGood : List (List ℕ) → Type 0
AreGood us = AllByRecursion IsGood us

-- judging goes on if nothing that came is malformed and no telegram ends the session
pub record Heeding (good : Type 0) (d : Dialogue) (j : Judgement) : Type 0 where
  pub on : j.leaving ≡ None → is_ended (phase_in d) ≡ false → is_ended (phase_in j.left) ≡ false
  pub goes : is_ended (phase_in d) ≡ false → good → j.left.history.ended_in ≡ None → j.leaving ≡ None
  pub back : j.left.history.ended_in ≡ None → d.history.ended_in ≡ None

heeding-by : (d : Dialogue) (t : Tele) (o : Option SessionDetail) → end_of (judge_telegram (session_in d) t) ≡ o
    → is_ended (phase_in d) ≡ false
    → (process_event (Arrives t) d).history.ended_in ≡ None → if_ended o ≡ None
heeding-by d t o h k l = grind (arith, nat_tests)

pub none-ended : (o : Option SessionDetail) → if_ended o ≡ None → o ≡ None
none-ended o h = grind (arith, nat_tests)

pub heeding-read : OverLaw → (m : List ℕ) (seen : Result Tele TeleFault) (d : Dialogue) → tele_seen m ≡ seen
    → Heeding (Reads m) d (judge_read seen d)
heeding-read law m (Ok t) d e = grind (arith, nat_tests, arrives-on, heeding-by, kept-none, none-ended)
heeding-read law m (Err fault) d e = grind (arith, nat_tests)

heeding-then : (A B : Type 0) (d : Dialogue) (first rest : Judgement) (why : Option Leaving) → first.leaving ≡ why
    → Heeding A d first → Heeding B first.left rest
    → Heeding (A × B) d (unless_leaving why first rest)
heeding-then A B d first rest None e h k = grind (arith, nat_tests, h.back, h.on, k.back, k.goes, k.on)
heeding-then A B d first rest (Some why) e h k = grind (arith, nat_tests, h.back, h.goes)

heeding-messages : OverLaw → (ms : List (List ℕ)) (d : Dialogue)
    → Heeding (AllByRecursion Reads ms) d (judge_messages ms d)
heeding-messages law [] d = record { on = λ _ on. on; goes = λ _ _ _. refl; back = λ none. none }
heeding-messages law (m ∷ ms) d =
    let first = judge_read (tele_seen m) d in
    heeding-then (Reads m) (AllByRecursion Reads ms) d first (judge_messages ms first.left) first.leaving refl
    (heeding-read law m (tele_seen m) d refl)
    (heeding-messages law ms first.left)

pub heeding-unpacked : OverLaw → (u : List ℕ) (seen : Result (List (List ℕ)) PackFault) (d : Dialogue)
    → unit_seen u ≡ seen
    → Heeding (IsGood u) d (judge_unpacked seen d)
heeding-unpacked law u (Ok ms) d e =
    let h = heeding-messages law ms d in
    record {
      on = h.on;
      goes = λ on good none.
          let same : good.0 ≡ ms = let both : Ok good.0 ≡ Ok ms = sym good.1 ∙ e in cc in
          h.goes on (subst (λ ns. AllByRecursion Reads ns) same good.2) none;
      back = h.back;
    }
heeding-unpacked law u (Err fault) d e = grind (arith, nat_tests)

pub heeding-units : OverLaw → (us : List (List ℕ)) (d : Dialogue) → Heeding (AreGood us) d (judge_units us d)
heeding-units law [] d = record { on = λ _ on. on; goes = λ _ _ _. refl; back = λ none. none }
heeding-units law (u ∷ us) d =
    let first = judge_unpacked (unit_seen u) d in
    heeding-then (IsGood u) (AreGood us) d first (judge_units us first.left) first.leaving refl
    (heeding-unpacked law u (unit_seen u) d refl)
    (heeding-units law us first.left)

-- what the session of an end has judged and taken of it
pub record Heeds (x : EndState) : Type 0 where
  pub on : is_shut x ≡ false → is_ended (phase_in x.session) ≡ false
  pub judged : x.session.history.ended_in ≡ None → AreGood x.machine.taken → x.session.history.judged ≡ came x.machine
  pub taken : x.session.history.ended_in ≡ None → AreGood x.machine.taken
      → taken_at x ≡ items_of x.session.history.judged

pub heeds-still : (x : EndState) (s : State) → Still x.machine s → Heeds x → Heeds (with_machine s x)
heeds-still x s t h = grind (arith, nat_tests, h.judged, h.on, h.taken, t.back, t.taken)

-- an event of the session that brings it no telegram and takes none
heeds-meets : (e : Event) (x : EndState) → handed_by e ≡ [] → taken_by e (session_in x.session) ≡ []
    → ends_by e (session_in x.session) ≡ false
    → (is_shut x ≡ false → is_ended (phase_in x.session) ≡ false
    → is_ended (phase_after e (session_in x.session)) ≡ false) → Heeds x
    → Heeds (with_session (process_event e x.session) x)
heeds-meets e x quiet none no-end on h =
    let same : x.session.history.judged ++ handed_by e
    ≡ x.session.history.judged = ap (λ ts. x.session.history.judged ++ ts) quiet
    ∙ append-nil x.session.history.judged in
    let took : taken_at x ++ taken_by e (session_in x.session) ≡ taken_at x = ap (λ is. taken_at x ++ is) none
    ∙ append-nil (taken_at x) in
    let ended : (process_event e x.session).history.ended_in
    ≡ x.session.history.ended_in = ap (λ b. cond b (Some (phase_in x.session)) x.session.history.ended_in)
    no-end in
    record {
      on = λ open-still. on open-still (h.on open-still);
      judged = λ n good. same ∙ h.judged (sym ended ∙ n) good;
      taken = λ n good. took ∙ h.taken (sym ended ∙ n) good ∙ ap items_of (sym same);
    }

rises-on : OverLaw → (b : Bool) (d : Dialogue) → is_ended (phase_in d) ≡ false
    → is_ended (phase_in (bring_up b d)) ≡ false
rises-on h b d k = grind (arith, nat_tests)

-- what is known before the end may disconnect
record Listened (y : EndState) (why : Option Leaving) : Type 0 where
  on : why ≡ None → is_shut y ≡ false → is_ended (phase_in y.session) ≡ false
  judged : y.session.history.ended_in ≡ None → AreGood y.machine.taken → y.session.history.judged ≡ came y.machine
  taken : y.session.history.ended_in ≡ None → AreGood y.machine.taken → taken_at y ≡ items_of y.session.history.judged

heeds-leaves : MovesLaw → (now : ℕ) (why : Option Leaving) (y : EndState) → Listened y why → Heeds (leaves now why y)
heeds-leaves law now None y h = record { on = h.on refl; judged = h.judged; taken = h.taken }
heeds-leaves law now (Some why) y h = grind (arith, nat_tests, still-by, append-nil, h.judged, h.taken)

heeds-hears : Laws → (side : Side) (now : ℕ) (octets : List ℕ) (x : EndState) → Spoken side x → Heeds x
    → Heeds (heard now octets x)
heeds-hears laws side now octets x sp h =
    let s = arrive_octets octets now x.machine in
    let step = hands-up laws.moves now octets x in
    let us = handed_up x s in
    let d = x.session in
    let j = judge_units us d in
    let hear : Hearing d (telegrams_in (messages_in us)) j = hearing-units us d in
    let heed : Heeding (AreGood us) d j = heeding-units laws.over us d in
    let up = comes_up x.machine.connection s.connection in
    let same = rises-same up j.left in
    let y = answered octets x s in
    let talk : Talk x.settings.addressing (session_of side x.settings) _ j.left = talk-units laws x.settings.addressing
    (session_of side x.settings) _
    us d sp.talk in
    let parts : AreGood s.taken → AreGood x.machine.taken
    × AreGood us = λ good. all-parts IsGood x.machine.taken us (subst AreGood step.taken good) in
    heeds-leaves laws.moves now j.leaving y
    (by_test (λ b. is_shut x ≡ b → Listened y j.leaving) (is_shut x)
    (λ shut _.
    let still : s ≡ x.machine = step.still shut in
    let left : j.left ≡ d = ap (λ vs. (judge_units vs d).left) (step.nothing shut) in
    let none-left : y.session.history.ended_in ≡ None → d.history.ended_in ≡ None =
    λ none. (ap (λ (e : Dialogue). e.history.ended_in) (sym left) ∙ sym same.2 ∙ none) in
    record {
      on = λ _ on. absurd (false≢true (sym on ∙ ap (λ (t : State). is_closed t.connection) still ∙ shut));
      judged = λ none good. same.0 ∙ ap (λ (e : Dialogue). e.history.judged) left
          ∙ h.judged (none-left none) (parts good).0 ∙ ap came (sym still);
      taken = λ none good.
          same.1 ∙ ap (λ (e : Dialogue). e.history.taken) left ∙ h.taken (none-left none) (parts good).0
          ∙ ap items_of (sym (same.0 ∙ ap (λ (e : Dialogue). e.history.judged) left));
    })
    (λ open-still _.
    let on : is_ended (phase_in d) ≡ false = h.on open-still in
    record {
      on = λ none _. rises-on laws.over up j.left (heed.on none on);
      judged = λ none good.
          let none-left : j.left.history.ended_in ≡ None = sym same.2 ∙ none in
          same.0 ∙ hear.judged
          ∙ ap (λ ts. ts ++ hear.front) (h.judged (heed.back none-left) (parts good).0)
          ∙ ap (λ ts. came x.machine ++ ts) (hear.whole (heed.goes on (parts good).1 none-left))
          ∙ sym step.all;
      taken = λ none good.
          let none-left : j.left.history.ended_in ≡ None = sym same.2 ∙ none in
          let still-on : is_ended (phase_in j.left) ≡ false = heed.on (heed.goes on (parts good).1 none-left) on in
          let whole : j.left.history.taken ≡ items_of j.left.history.judged =
          subst (λ (k : History). is_ended k.state.phase ≡ false → k.taken ≡ items_of k.judged) (sym talk.history)
          (laws.taken x.settings.addressing (session_of side x.settings) talk.events).1 still-on
          in
          same.1 ∙ whole ∙ ap items_of (sym same.0);
    })
    refl)

heeds-packed : MovesLaw → (now : ℕ) (x : EndState) → Heeds x → Heeds (packed now x)
heeds-packed law now x h = grind (arith, nat_tests, append-nil, was-open, h.judged, h.on, h.taken)

-- an end by itself
pub record Whole (side : Side) (x : EndState) : Type 0 where
  pub spoken : Spoken side x
  pub machined : Machined side x
  pub heeds : Heeds x

abbrev pub OctetsUp : EndState → List ℕ → Type 0
OctetsUp x octets = AreOctets octets

-- a move that sends and takes no unit, and an event of the session that brings it no telegram and takes none
whole-still : Laws → (side : Side) (m : Move) (x : EndState) → IsRead m → sent_by m x.machine ≡ []
    → ((more : List (List ℕ)) → IsTakenBy m more → more ≡ [])
    → Whole side x → Whole side (with_machine (move m x.machine) x)
whole-still laws side m x read none nothing h =
    let t = still-by laws.moves m x.machine none nothing in
    record {
      spoken = spoken-still side x (move m x.machine) t h.spoken;
      machined =
          machined-move laws.settings side m x (with_machine (move m x.machine) x) read refl refl refl h.machined;
      heeds = heeds-still x (move m x.machine) t h.heeds;
    }

whole-meets : Laws → (side : Side) (e : Event) (x : EndState) → HasKind e → handed_by e ≡ []
    → taken_by e (session_in x.session) ≡ []
    → ends_by e (session_in x.session) ≡ false
    → (is_shut x ≡ false → is_ended (phase_in x.session) ≡ false
    → is_ended (phase_after e (session_in x.session)) ≡ false) → Whole side x
    → Whole side (with_session (process_event e x.session) x)
whole-meets laws side e x kind quiet none no-end on h =
    record {
      spoken = spoken-meets laws side e x kind quiet h.spoken;
      machined = machined-same side x (with_session (process_event e x.session) x) refl refl refl h.machined;
      heeds = heeds-meets e x quiet none no-end on h.heeds;
    }

-- only what came, what waits in the redundancy layer, and the time
whole-as : (side : Side) (x : EndState) (red : Receiver) (inputs : List Input) (time : ℕ)
    → AllByRecursion OctetPart red.waiting → Whole side x
    → Whole side (record x { red = red; inputs = inputs; time = time })
whole-as side x red inputs time waits h =
    grind (arith, nat_tests, h.heeds.judged, h.heeds.on, h.heeds.taken, h.machined, h.spoken)

pub whole-keeps : Laws → (side : Side) (now : ℕ) → Keeps now OctetsUp (Whole side)
whole-keeps laws side now =
    record {
      guards = λ x h. whole-still laws side (Guards now) x tt refl (λ more e. e) h;
      ticks = λ x h. whole-still laws side (Ticks now) x tt refl (λ more e. e) h;
      closes = λ x h. whole-still laws side (Leaves ClosedByUser Unspecified now) x tt refl (λ more e. e) h;
      ends =
          λ x shut h. whole-meets laws side Closes x tt refl refl refl (λ on _. absurd (false≢true (sym on ∙ shut))) h;
      inputs = λ i x t h. whole-as side x (after i x.red) (x.inputs ++ i ∷ []) x.time
          (red-keeps laws i x.red t h.machined.waits).1 h;
      hears = λ octets x q h. record {
        spoken = spoken-hears laws side now octets x h.spoken;
        machined = machined-hears laws side now octets x q h.machined;
        heeds = heeds-hears laws side now octets x h.spoken h.heeds;
      };
      sends = λ x may some h. record {
        spoken = spoken-packed laws side now x may some h.spoken;
        machined =
            let few = packs-some side x.settings h.spoken.fit in
            machined-move laws.settings side (Sends (unit_text (take x.settings.n_maxpacket x.session.waiting)) now) x
            (packed now x)
            (unit-sized x.settings.n_maxpacket x.session.waiting few.0 few.1 some (waits-sized side x h.spoken)) refl
            refl refl h.machined;
        heeds = heeds-packed laws.moves now x h.heeds;
      };
      puts = λ kind payload x fits h. whole-meets laws side (Puts kind payload (length x.session.waiting)) x fits refl
          refl refl (λ _ on. on) h;
      dones = λ x h. whole-meets laws side (Completes (length x.session.waiting)) x tt refl refl refl
          (λ _ on. laws.over (Completes (length x.session.waiting)) (session_in x.session) on refl (λ same. cc)) h;
      times = λ x h. whole-as side x x.red x.inputs now h.machined.waits h;
    }

-- if all that came is well formed, a telegram ended its session
abbrev pub Fails : EndState → Type 0
Fails x = AreGood x.machine.taken → x.session.history.ended_in ≢ None

abbrev pub FailsAt : Option EndState → Type 0
FailsAt None = ⊥
FailsAt (Some x) = Fails x

-- what is failed stays so
pub fails-more : (x y : EndState) (more : List (List ℕ)) → y.machine.taken ≡ x.machine.taken ++ more
    → y.session.history.ended_in ≡ x.session.history.ended_in
    → Fails x → Fails y
fails-more x y more e same h =
    λ good none. h (all-parts IsGood x.machine.taken more (subst AreGood e good)).0 (sym same ∙ none)

pub fails-move : MovesLaw → (m : Move) (x y : EndState) → y.machine ≡ move m x.machine
    → y.session.history.ended_in ≡ x.session.history.ended_in → Fails x
    → Fails y
fails-move law m x y e same h =
    let one = law m x.machine in
    fails-more x y one.more_taken (ap (λ (s : State). s.taken) e ∙ one.taken) same h

-- bytes that come
pub record Fates (octets : List ℕ) (x : EndState) (s : State) (leaving : Option Leaving) : Type 0 where
  pub still : Fails x → Fails (answered octets x s)
  pub leaves : (why : Leaving) → leaving ≡ Some why → Fails (answered octets x s)

pub fates : Laws → (now : ℕ) (octets : List ℕ) (x : EndState) → Heeds x → let s =
    arrive_octets octets now x.machine in Fates octets x s
    (judge_units (handed_up x s) x.session).leaving
fates laws now octets x h =
    let s = arrive_octets octets now x.machine in
    let step = hands-up laws.moves now octets x in
    let us = handed_up x s in
    let d = x.session in
    let j = judge_units us d in
    let heed : Heeding (AreGood us) d j = heeding-units laws.over us d in
    let same = rises-same (comes_up x.machine.connection s.connection) j.left in
    let parts : AreGood s.taken → AreGood x.machine.taken
    × AreGood us = λ good. all-parts IsGood x.machine.taken us (subst AreGood step.taken good) in
    record {
      still = λ fails good none. fails (parts good).0 (heed.back (sym same.2 ∙ none));
      leaves = λ why is good none.
          let goes : j.leaving ≡ None =
          by_test (λ b. is_shut x ≡ b → j.leaving ≡ None) (is_shut x)
          (λ shut _. ap (λ vs. (judge_units vs d).leaving) (step.nothing shut))
          (λ on _. heed.goes (h.on on) (parts good).1 (sym same.2 ∙ none)) refl
          in
          let no_leaving : Some why ≡ None = sym is ∙ goes in cc;
    }

-- a session that has begun, and that no telegram ended before
abbrev NotIdle : Dialogue → Type 0
NotIdle d = (phase_in d ≢ Idle) × (d.history.ended_in ≢ Some Idle)

not-idle : (b : Bool) (phase : Phase) (old : Option Phase) → phase ≢ Idle → old ≢ Some Idle
    → cond b (Some phase) old ≢ Some Idle
not-idle true phase old some none = λ is. some (let same : phase ≡ Idle = cc in same)
not-idle false phase old some none = none

idle-read : BegunLaw → (seen : Result Tele TeleFault) (d : Dialogue) → NotIdle d → NotIdle (judge_read seen d).left
idle-read law (Ok t) d h = (
  law.1 (Arrives t) (session_in d) h.0,
  not-idle (ends_by (Arrives t) (session_in d)) (phase_in d) d.history.ended_in
      h.0 h.1,
)
idle-read law (Err fault) d h = h

idle-units : BegunLaw → (us : List (List ℕ)) (d : Dialogue) → NotIdle d → NotIdle (judge_units us d).left
idle-units law us d h = kept-units NotIdle (idle-read law) us d h

-- by the state of the connection
abbrev pub IsEarly : ConnectionState → Type 0
IsEarly c = (c ≡ Down) ⊎ (c ≡ Start)

pub record BeginsAs (c : ConnectionState) (d : Dialogue) : Type 0 where
  pub early : IsEarly c → (phase_in d ≡ Idle) × (d.waiting ≡ [])
  pub begun : is_connected c ≡ true → phase_in d ≢ Idle
  pub ended : d.history.ended_in ≢ Some Idle

abbrev pub Begins : EndState → Type 0
Begins x = BeginsAs x.machine.connection x.session

pub early-connected : (c : ConnectionState) → IsEarly c → is_connected c ≡ true → ⊥
early-connected c h k = grind (arith, nat_tests)

pub closed-early : IsEarly Closed → ⊥
closed-early h = grind (arith, nat_tests)

-- if it is closed, nothing is required of phases
begins-closed : (c : ConnectionState) (d : Dialogue) → c ≡ Closed → d.history.ended_in ≢ Some Idle → BeginsAs c d
begins-closed c d closed ended = grind (arith, nat_tests, closed-early)

begins-stays : (c e : ConnectionState) (d : Dialogue) → (e ≡ c) ⊎ (e ≡ Closed) → BeginsAs c d → BeginsAs e d
begins-stays c e d (inl same) h = subst (λ b. BeginsAs b d) (sym same) h
begins-stays c e d (inr closed) h = begins-closed e d closed h.ended

rises-not : BegunLaw → (b : Bool) (d : Dialogue) → phase_in d ≢ Idle → phase_in (bring_up b d) ≢ Idle
rises-not law true d some = law.0 (session_in d)
rises-not law false d some = some

pub early-stays : (c : ConnectionState) → IsEarly c → comes_up c c ≡ false
early-stays c h = grind (arith, nat_tests)

-- units are judged while a machine is connected, or there are no units
judged-or : (c : ConnectionState) (us : List (List ℕ)) → (IsEarly c → us ≡ []) → (c ≡ Closed → us ≡ [])
    → (is_connected c ≡ true) ⊎ (us ≡ [])
judged-or Closed us quiet shut = inr (shut refl)
judged-or Down us quiet shut = inr (quiet (inl refl))
judged-or Start us quiet shut = inr (quiet (inr refl))
judged-or _ us quiet shut = inl refl

-- if a machine goes on and is early, it was early before; if it is connected, it was connected before or comes up
goes-early : (c e : ConnectionState) → GoesOn c e → IsEarly e → IsEarly c × (comes_up c e ≡ false)
goes-early c e h k = grind (arith, nat_tests, closed-early, early-connected, early-stays)

goes-connected : (c e : ConnectionState) → GoesOn c e → is_connected e ≡ true
    → (is_connected c ≡ true) ⊎ (comes_up c e ≡ true)
goes-connected c e (inl same) on = inl (ap is_connected (sym same) ∙ on)
goes-connected c e (inr (inl closed)) on = absurd (false≢true (sym (ap is_connected closed) ∙ on))
goes-connected c e (inr (inr (inl starts))) on = absurd (false≢true (sym (ap is_connected starts.1) ∙ on))
goes-connected c e (inr (inr (inr (inl comes)))) on = inr (ap (λ b. comes_up b e) comes.0 ∙ ap (comes_up Start) comes.1)
goes-connected c e (inr (inr (inr (inr both)))) on = inl both.0

-- an end that judged these units while its machine went on
begins-goes : BegunLaw → (c e : ConnectionState) (us : List (List ℕ)) (d : Dialogue) → GoesOn c e
    → (IsEarly c → us ≡ []) → (c ≡ Closed → us ≡ [])
    → BeginsAs c d → BeginsAs e (bring_up (comes_up c e) (judge_units us d).left)
begins-goes law c e us d goes quiet shut h =
    grind (
      arith,
      nat_tests,
      goes-connected,
      goes-early,
      idle-units,
      judged-or,
      rises-not,
      rises-same,
      h.begun,
      h.early,
      h.ended,
      law.0,
    )

begins-leaves : (now : ℕ) (why : Option Leaving) (y : EndState) → Begins y → Begins (leaves now why y)
begins-leaves now None y h = h
begins-leaves now (Some why) y h = begins-closed Closed y.session refl h.ended

-- nothing is put while a session is idle
pub idle-put : (role : Role) → may_put role Idle ≡ false
idle-put role = grind (arith, nat_tests)

pub idle-done : (role : Role) → is_initialising role Idle ≡ false
idle-done role = grind (arith, nat_tests)

begins-puts : (kind : ℕ) (payload : List ℕ) (waits : ℕ) (c : ConnectionState) (d : Dialogue) → BeginsAs c d
    → BeginsAs c (process_event (Puts kind payload waits) d)
begins-puts kind payload waits c d h = grind (arith, nat_tests, append-nil, idle-put, h.begun, h.early, h.ended)

begins-done : (waits : ℕ) (c : ConnectionState) (d : Dialogue) → BeginsAs c d
    → BeginsAs c (process_event (Completes waits) d)
begins-done waits c d h = grind (arith, nat_tests, append-nil, idle-done, h.begun, h.early, h.ended)

pub begins-keeps : Laws → (now : ℕ) (Q : EndState → List ℕ → Type 0) → Keeps now Q Begins
begins-keeps p now Q =
    record {
      guards = λ x h. begins-stays x.machine.connection (move (Guards now) x.machine).connection x.session
          (p.connections.1 (Guards now) x.machine tt) h;
      ticks = λ x h. begins-stays x.machine.connection (move (Ticks now) x.machine).connection x.session
          (p.connections.1 (Ticks now) x.machine tt) h;
      closes = λ x h. begins-stays x.machine.connection Closed x.session (inr refl) h;
      ends = λ x shut h. begins-closed x.machine.connection (process_event Closes x.session)
          (closed-is x.machine.connection shut) h.ended;
      inputs = λ i x t h. h;
      hears = λ octets x q h.
          let m = heard_as (seen_by x.machine octets) now in
          let s = arrive_octets octets now x.machine in
          let us = handed_up x s in
          let none : s.taken ≡ x.machine.taken → us ≡ [] = handed-none x s in
          begins-leaves now (judge_units us x.session).leaving (answered octets x s)
          (begins-goes p.begun x.machine.connection s.connection us x.session (p.connections.0 m x.machine)
          (λ was. none (p.waits m x.machine was))
          (λ shut. none (ap (λ (t : State). t.taken) ((p.moves m x.machine).closed shut))) h);
      sends = λ x may some h.
          let stays = begins-stays x.machine.connection (packed now x).machine.connection x.session
          (p.connections.1 (Sends _ now) x.machine tt) h in
          record {
            early = λ was. absurd (false≢true (sym some ∙ ap is_nil (stays.early was).1));
            begun = stays.begun;
            ended = stays.ended;
          };
      puts =
          λ kind payload x fits h. begins-puts kind payload (length x.session.waiting) x.machine.connection x.session h;
      dones = λ x h. begins-done (length x.session.waiting) x.machine.connection x.session h;
      times = λ x h. h;
    }
