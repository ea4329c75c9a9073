-- Turns of an end one after the other, what the calls of a session do to its dialogue, and the parts and datagrams that
-- come one by one.
use Rattle.stack_end.proofs.Words.{[], upper_turn, added_by, after, ap, append-nil, append_assoc, arith, Arrives, Bool, Closed, ConnectionState, datagrams, Dialogue}
use Rattle.stack_end.proofs.Words.{dialogue_of, Down, drop, end_of, Err, Event, false, Fields, FoldsTo, turn_then, if_ended, if◌then◌else◌, Input, Inside}
use Rattle.stack_end.proofs.Words.{is_closed, is_over, Item, judge_messages, judge_read, judge_units, judge_unpacked, Judgement, judge_telegram, JudgesDialogue, KeepsBounds, Leaving}
use Rattle.stack_end.proofs.Words.{length, length-append, List, machine_turn, MachineTurn, Made, process_event, next_number, None, number_after, Ok, on_channels}
use Rattle.stack_end.proofs.Words.{Option, PackFault, Part, part_turn, parts_turn, parts_passed, Receiver, input_turn, red_after, red_text, refl, Result, RetrReq, RetrRun}
use Rattle.stack_end.proofs.Words.{SendsOne, session_in, session_turn, Some, RepresentsDialogue, Start, still, subst, suc, sym, taken_by, Tele, tele_seen, TeleFault}
use Rattle.stack_end.proofs.Words.{text_of, ChannelHistory, Turn, unit_seen, unless_leaving, Up, View, CarriesOutAlone, zero, ℕ, ◌%◌, ◌++◌, ◌+◌, ◌<◌, ◌^◌, ◌∙◌, ◌∷◌, ◌≡◌}
use Rattle.stack_end.proofs.Words.{◌≤◌}
use Rattle.byteorder.specs.Endian.{little_bytes, little_number}
use Rattle.channels.specs.ChannelHistory.{SentDatagram}
use Rattle.octets.proofs.Steps.{FoldsTo-append}
use Rattle.octets.specs.declared.limits.TheConstants.{SAFE_HEADER}
use Rattle.pdi_session.specs.Histories.{put_by}
use Rattle.pdi_session.specs.SessionStep.{SessionState, texts as session_texts, texts as texts_of}
use Rattle.safe_machine.specs.View.{texts}
use Rattle.safe_pdu.specs.Pdu.{kind_number}
use Rattle.safe_pdu.specs.Places.{kind_of}
use Rattle.safe_pdu.specs.SafeText.{code_octets, code_over, front_text}
use Rattle.safe_pdu.specs.declared.CodeRule.{CodeRule}
use Rattle.safe_pdu.specs.declared.Kind.{Kind}
use Rattle.safe_pdu.specs.declared.Kind.TheVariants as kind
use Rattle.stack_end.specs.Dialogue.{for_message, for_unit}
use Rattle.stack_end.specs.Statistics.{with_kind, with_known, with_made, with_pdu}
use Rattle.stack_end.specs.Talk.{judge_next, LeadsToDialogue, Talk, texts_of as talk_texts, TakesBetween}
use Rattle.stack_end.specs.Turns.{count_accepted, put_answer, CarriesOut}
use Rattle.stack_end.specs.declared.statistics.MadeCounts.{MadeCounts}
use Rattle.stack_end.specs.declared.upper.UpperLayers.{UpperLayers}
use Rattle.std.proofs.Common.{add-one, get_or}
use Rattle.std.proofs.lemmas.Bool.Decides.{nat_tests}
use Rattle.std.specs.Prelude.{nat_lt}
use Rattle.std.specs.Borrow.{Bor}
use Rattle.std.specs.Prelude.{is_none, min, ◌-◌}
use Rattle.stack_end.proofs.Words.{Puts}

-- one turn, and then another
pub went-then : {V T : Type 0} (takes : T → Item → T → Type 0) (t : Turn V) (next : V → Turn V) (a b c : ChannelHistory)
    (x y z : T) (v w : V) → CarriesOut takes t a x v b y
    → CarriesOut takes (next v) b y w c z
    → CarriesOut takes (turn_then t next) a x w c z
went-then takes t next a b c x y z v w h k =
    record {
      left = k.left ∙ ap (λ q. (next q).left) h.left;
      sent = FoldsTo-append SendsOne t.sent (next t.left).sent a b c h.sent
          (subst (λ q. FoldsTo SendsOne b (next q).sent c) h.left k.sent);
      taken = FoldsTo-append takes t.taken (next t.left).taken x y z h.taken
          (subst (λ q. FoldsTo takes y (next q).taken z) h.left k.taken);
    }

pub alone-then : {V : Type 0} (t : Turn V) (next : V → Turn V) (a b c : ChannelHistory) (v w : V)
    → CarriesOutAlone t a v b → CarriesOutAlone (next v) b w c
    → CarriesOutAlone (turn_then t next) a w c
alone-then t next a b c v w h k =
    record {
      left = k.left ∙ ap (λ q. (next q).left) h.left;
      sent = FoldsTo-append SendsOne t.sent (next t.left).sent a b c h.sent
          (subst (λ q. FoldsTo SendsOne b (next q).sent c) h.left k.sent);
      none = ap (λ xs. xs ++ (next t.left).taken) h.none ∙ subst (λ q. (next q).taken ≡ []) h.left k.none;
    }

-- who takes is left as he was
pub went-alone : {V T : Type 0} (takes : T → Item → T → Type 0) (t : Turn V) (a b : ChannelHistory) (x : T) (v : V)
    → CarriesOutAlone t a v b → CarriesOut takes t a x v b x
went-alone takes t a b x v h =
    record { left = h.left; sent = h.sent; taken = subst (λ xs. FoldsTo takes x xs x) (sym h.none) refl }

pub alone-still : {V : Type 0} (v : V) (a : ChannelHistory) → CarriesOutAlone (still v) a v a
alone-still v a = record { left = refl; sent = refl; none = refl }

-- by an equal turn
pub went-as : {V T : Type 0} (takes : T → Item → T → Type 0) (t u : Turn V) (a b : ChannelHistory) (x y : T) (v : V)
    → t ≡ u → CarriesOut takes t a x v b y
    → CarriesOut takes u a x v b y
went-as takes t u a b x y v e h = subst (λ q. CarriesOut takes q a x v b y) e h

pub alone-as : {V : Type 0} (t u : Turn V) (a b : ChannelHistory) (v : V) → t ≡ u → CarriesOutAlone t a v b
    → CarriesOutAlone u a v b
alone-as t u a b v e h = subst (λ q. CarriesOutAlone q a v b) e h

-- nothing is sent, and this is left
pub alone-left : {V : Type 0} (v w : V) (a : ChannelHistory) → w ≡ v → CarriesOutAlone (still v) a w a
alone-left v w a e = record { left = e; sent = refl; none = refl }

-- an event of the session at which nothing is taken
pub event-went : (event : Event) (v : Fields) (session : SessionState) (waiting : List (List ℕ)) (a : ChannelHistory)
    → session ≡ after event v.session
    → waiting ≡ v.waiting ++ texts_of (added_by event v.session) → taken_by event v.session ≡ []
    → CarriesOutAlone (session_turn (process_event event (dialogue_of v)) v) a
    (record v { session = session; waiting = waiting }) a
event-went event v session waiting a left added none =
    record { left = λ i. record v { session = left i; waiting = added i }; sent = refl; none = none }

-- the telegram that is put, and its count
pub put-went : (kind : ℕ) (payload : List ℕ) (v : Fields) (session : SessionState) (waiting : List (List ℕ)) (n : ℕ)
    (a : ChannelHistory)
    → put_answer kind payload v ≡ None → session ≡ after (Puts kind payload (length v.waiting)) v.session
    → waiting ≡ v.waiting ++ texts_of (added_by (Puts kind payload (length v.waiting)) v.session)
    → n ≡ min (v.accepted + 1) (2 ^ 64 - 1)
    → let d = process_event (Puts kind payload (length v.waiting)) (dialogue_of v) in
    CarriesOutAlone (session_turn d (count_accepted d v)) a
    (record v { session = session; waiting = waiting; accepted = n }) a
put-went kind payload v session waiting n a answer left added more =
    let count : n ≡ min (v.accepted + length (put_by (Puts kind payload (length v.waiting)) v.session)) (2 ^ 64 - 1) =
    more ∙ ap (λ r. min (v.accepted + length {A = Item} (if is_none r then (kind, payload) ∷ [] else [])) (2 ^ 64 - 1))
    (sym answer) in
    record {
      left = λ i. record v { session = left i; waiting = added i; accepted = count i };
      sent = refl;
      none = refl;
    }

-- the session goes on to the end of a dialogue that began here
pub session-went : {T : Type 0} (takes : T → Item → T → Type 0) (d e : Dialogue) (v : Fields) (a : ChannelHistory)
    (s t : Talk T) → d.history.taken ≡ []
    → LeadsToDialogue takes d e s t
    → CarriesOut takes (session_turn e v) a s.taker (record v { session = t.session; waiting = t.waiting }) a t.taker
session-went takes d e v a s t none h =
    record {
      left = λ i. record v { session = h.speaks.state i; waiting = h.speaks.waits i };
      sent = refl;
      taken = subst (λ xs. FoldsTo takes s.taker xs t.taker) (sym (h.took.grown ∙ ap (λ xs. xs ++ h.took.more) none))
          h.took.handed;
    }

-- notes change nothing that the channels show
pub went-told : {V T : Type 0} (takes : T → Item → T → Type 0) (t : Turn V) (a b c : ChannelHistory) (x y : T) (v : V)
    → c ≡ b → CarriesOut takes t a x v b y
    → CarriesOut takes t a x v c y
went-told takes t a b c x y v e h = subst (λ q. CarriesOut takes t a x v q y) (sym e) h

pub alone-told : {V : Type 0} (t : Turn V) (a b c : ChannelHistory) (v : V) → c ≡ b → CarriesOutAlone t a v b
    → CarriesOutAlone t a v c
alone-told t a b c v e h = subst (λ q. CarriesOutAlone t a v q) (sym e) h

-- a PDU that was made is counted by its type
type-known : (type : Kind) (size : ℕ) (rest : List ℕ) (c : MadeCounts)
    → with_known (kind_of (little_number 2 (drop 2 (little_bytes 2 size ++ little_bytes 2 (kind_number type) ++ rest))))
    c ≡ with_kind type c
type-known kind.ConnReq size rest c = refl
type-known kind.ConnResp size rest c = refl
type-known kind.RetrReq size rest c = refl
type-known kind.RetrResp size rest c = refl
type-known kind.DiscReq size rest c = refl
type-known kind.Heartbeat size rest c = refl
type-known kind.Data size rest c = refl
type-known kind.RetrData size rest c = refl

counts-known : (type : Kind) (size : ℕ) (rest : List ℕ) (c : MadeCounts)
    → with_pdu (little_bytes 2 size ++ little_bytes 2 (kind_number type) ++ rest) c ≡ with_kind type c
counts-known type size rest c =
    let octets = little_bytes 2 size ++ little_bytes 2 (kind_number type) ++ rest in
    let long : nat_lt (length octets) 4 ≡ false = grind (arith, nat_tests) in
    ap (λ b. with_known (kind_of (if b then 0 else little_number 2 (drop 2 octets))) c) long
    ∙ type-known type size rest c

counts-kind : (rule : CodeRule) (m : Made) (c : MadeCounts) → with_pdu (text_of rule m) c ≡ with_kind m.pdu.kind c
unfolding text_of
counts-kind rule m c =
    let p = m.pdu in
    let numbers = little_bytes 4 p.receiver ++ little_bytes 4 p.sender ++ little_bytes 4 p.sn ++ little_bytes 4 p.cs
    ++ little_bytes 4 p.ts ++ little_bytes 4 p.cts in
    counts-known p.kind (SAFE_HEADER + length p.body + code_octets rule.length)
    ((numbers ++ p.body) ++ code_over rule (front_text rule p)) c

-- The PDUs' bytes, passed one by one to the part that numbers them and sends them on all channels.
module _ {S : Type 0} (channels : S → ChannelHistory) (numbers count : S → ℕ) (counts : S → MadeCounts) (R : S → List ℕ
    → S → Type 0)
    (step : (s : S) (pdu : List ℕ) (t : S) → R s pdu t → (count t ≡ count s) × (counts t ≡ with_pdu pdu (counts s))
    × (numbers t ≡ (numbers s + 1) % 2 ^ 32)
    × FoldsTo SendsOne (channels s) (on_channels (count s) (red_text (numbers s) pdu)) (channels t)) where
  pub datagrams-out : (rule : CodeRule) (ms : List Made) (s t : S) → FoldsTo R s (texts rule ms) t
      → FoldsTo SendsOne (channels s) (datagrams rule (count s) (numbers s) ms) (channels t)
      × (numbers t ≡ number_after (numbers s) ms)
      × (counts t ≡ with_made ms (counts s))
  datagrams-out rule [] s t e = (ap channels e, sym (ap numbers e), sym (ap counts e))
  datagrams-out rule (m ∷ ms) s t (j, h, rest) =
      let a = step s (text_of rule m) j h in
      let b = datagrams-out rule ms j t rest in
      let later = subst (λ n. FoldsTo SendsOne (channels j) (datagrams rule (count s) n ms) (channels t)) a.2
      (subst (λ k. FoldsTo SendsOne (channels j) (datagrams rule k (numbers j) ms) (channels t)) a.0 b.0) in (
        FoldsTo-append SendsOne (on_channels (count s) (red_text (numbers s) (text_of rule m)))
            (datagrams rule (count s) (next_number (numbers s)) ms)
            (channels s) (channels j) (channels t) a.3 later,
        b.1 ∙ ap (λ n. number_after n ms) a.2,
        b.2 ∙ ap (with_made ms) (a.1 ∙ counts-kind rule m (counts s)),
      )

  -- a turn of the machine
  pub machine-went : (t : MachineTurn) (v : Fields) (m : View) (s u : S) → m ≡ t.left → count s ≡ v.count
      → numbers s ≡ v.numbers → counts s ≡ v.made
      → FoldsTo R s (texts v.machine.settings.rule t.made) u
      → CarriesOutAlone (machine_turn t v) (channels s) (record v { numbers = numbers u; machine = m; made = counts u })
      (channels u)
  machine-went t v m s u left count_is numbers_are counts_are made =
      let out = datagrams-out v.machine.settings.rule t.made s u made in
      record {
        left = λ i.
            record v {
              numbers = (out.1 ∙ ap (λ n. number_after n t.made) numbers_are) i;
              machine = left i;
              made = (out.2 ∙ ap (with_made t.made) counts_are) i;
            };
        sent =
            subst (λ n. FoldsTo SendsOne (channels s) (datagrams v.machine.settings.rule v.count n t.made) (channels u))
            numbers_are
            (subst (λ k. FoldsTo SendsOne (channels s) (datagrams v.machine.settings.rule k (numbers s) t.made)
            (channels u)) count_is out.0);
        none = refl;
      }

-- what calls keep
pub keeps-none : {C A : Type 0} (u : UpperLayers C A) → KeepsBounds 0 u u
keeps-none u = record { same = refl; near = omega arith; few = λ h. h }

pub keeps-then : {C A : Type 0} (m n : ℕ) (u v w : UpperLayers C A) → KeepsBounds m u v → KeepsBounds n v w
    → KeepsBounds (m + n) u w
keeps-then m n u v w h k =
    record { same = k.same ∙ h.same; near = omega (arith, h.near, k.near); few = λ few. k.few (h.few few) }

-- one channel more
pub FoldsTo-channel : (R : ChannelHistory → SentDatagram → ChannelHistory → Type 0) (n : ℕ) (octets : List ℕ)
    (s t u : ChannelHistory) → FoldsTo R s (on_channels n octets) t
    → R t (n + 1, octets) u → FoldsTo R s (on_channels (n + 1) octets) u
FoldsTo-channel R n octets s t u h k =
    subst (λ m. FoldsTo R s (on_channels m octets) u) (sym (add-one n))
    (FoldsTo-append R (on_channels n octets) ((suc n, octets) ∷ []) s t u h
    (u, subst (λ m. R t (m, octets) u) (add-one n) k, refl))

-- one more
pub heard-more : {S D : Type 0} (R : S → D → S → Type 0) (s t u : S) (n : ℕ) → (heard : List D) × (length heard ≡ n)
    × FoldsTo R s heard t → (d : D) × R t d u
    → (heard : List D) × (length heard ≡ n + 1) × FoldsTo R s heard u
heard-more R s t u n h k =
    let long = length-append h.0 (k.0 ∷ []) in
    (h.0 ++ k.0 ∷ [], long ∙ ap (λ m. m + 1) h.1, FoldsTo-append R h.0 (k.0 ∷ []) s t u h.2 (u, k.1, refl))

module _ {S T : Type 0} (takes : T → Item → T → Type 0) (told : S → ChannelHistory) (fields_of : S → Fields) (taker : S
    → T) (time : S → ℕ) (R : S → Part → S → Type 0)
    (step : (s : S) (p : Part) (u : S) → R s p u → (time u ≡ time s)
    × CarriesOut takes (part_turn (time s) p.1 (fields_of s)) (told s) (taker s) (fields_of u) (told u) (taker u)) where
  pub parts-went : (now : ℕ) (ps : List Part) (s u : S) → FoldsTo R s ps u → time s ≡ now
      → CarriesOut takes (parts_turn now ps (fields_of s)) (told s) (taker s) (fields_of u) (told u) (taker u)
  parts-went now [] s u e n = record { left = ap fields_of (sym e); sent = ap told e; taken = ap taker e }
  parts-went now (p ∷ ps) s u (j, r, rest) n =
      let a = step s p j r in
      let one = subst (λ k. CarriesOut takes (part_turn k p.1 (fields_of s)) (told s) (taker s) (fields_of j) (told j)
      (taker j)) n a.1 in
      went-then takes (part_turn now p.1 (fields_of s)) (parts_turn now ps) _ _ _ _ _ _ _ _ one
      (parts-went now ps j u rest (a.0 ∙ n))

-- what comes to the redundancy layer changes nothing above it
pub receives-went : {T : Type 0} (takes : T → Item → T → Type 0) (now : ℕ) (i : Input) (v : Inside)
    (a b : ChannelHistory) (t u : T) (r : Receiver) (w : Fields)
    → r ≡ red_after i v.red → CarriesOut takes (parts_turn now (parts_passed i v.red) v.upper) a t w b u
    → CarriesOut takes (input_turn now i v) a t (record { red = r; upper = w }) b u
receives-went takes now i v a b t u r w layer h =
    record { left = λ k. record { red = layer k; upper = h.left k }; sent = h.sent; taken = h.taken }

-- a turn above it
pub above-went : (next : Fields → Turn Fields) (v : Inside) (w : Fields) (a b : ChannelHistory)
    → CarriesOutAlone (next v.upper) a w b
    → CarriesOutAlone (upper_turn next v) a (record { red = v.red; upper = w }) b
above-went next v w a b h =
    record { left = ap (λ q. record { red = v.red; upper = q }) h.left; sent = h.sent; none = h.none }

pub not-closed : (c : ConnectionState) → (c ≡ Closed → ⊥) → is_closed c ≡ false
not-closed Closed h = absurd (h refl)
not-closed Down h = refl
not-closed Start h = refl
not-closed Up h = refl
not-closed RetrReq h = refl
not-closed RetrRun h = refl

-- the end is not closed, as its machine says, and this is done
pub open-went : {T : Type 0} (takes : T → Item → T → Type 0) (v : Inside) (turn : Turn Inside) (c : ConnectionState)
    (a b : ChannelHistory) (t u : T) (w : Inside)
    → c ≡ v.upper.machine.connection → (c ≡ Closed → ⊥) → CarriesOut takes turn a t w b u
    → CarriesOut takes (if is_over v then still v else turn) a t w b u
open-went takes v turn c a b t u w e is h =
    subst (λ (q : Bool). CarriesOut takes (if q then still v else turn) a t w b u)
    (sym (ap is_closed (sym e) ∙ not-closed c is)) h

-- the end is not closed, as its machine says, so the answer is that of an open end
pub open-answer : {V : Type 0} (over answer : V) (v : Inside) (c : ConnectionState) → c ≡ v.upper.machine.connection
    → (c ≡ Closed → ⊥)
    → answer ≡ (if is_over v then over else answer)
open-answer over answer v c is alive =
    sym (ap (λ (q : Bool). if q then over else answer) (ap is_closed (sym is) ∙ not-closed c alive))

pub took-none : {T : Type 0} (takes : T → Item → T → Type 0) (t : T) (d : Dialogue) → TakesBetween takes t d d t
took-none takes t d = record { more = []; grown = sym (append-nil d.history.taken); handed = refl }

pub took-then : {T : Type 0} (takes : T → Item → T → Type 0) (t u v : T) (d e f : Dialogue) → TakesBetween takes t d e u
    → TakesBetween takes u e f v → TakesBetween takes t d f v
took-then takes t u v d e f h k =
    record {
      more = h.more ++ k.more;
      grown = k.grown ∙ (ap (λ xs. xs ++ k.more) h.grown ∙ append_assoc d.history.taken h.more k.more);
      handed = FoldsTo-append takes h.more k.more t u v h.handed k.handed;
    }

pub spoke-none : {T : Type 0} (takes : T → Item → T → Type 0) (d : Dialogue) (s : Talk T)
    → RepresentsDialogue s.session s.waiting d → LeadsToDialogue takes d d s s
spoke-none takes d s h = record { speaks = h; took = took-none takes s.taker d }

pub spoke-then : {T : Type 0} (takes : T → Item → T → Type 0) (d e f : Dialogue) (s t u : Talk T)
    → LeadsToDialogue takes d e s t → LeadsToDialogue takes e f t u
    → LeadsToDialogue takes d f s u
spoke-then takes d e f s t u h k =
    record { speaks = k.speaks; took = took-then takes s.taker t.taker u.taker d e f h.took k.took }

-- an event of the session
pub meets-spoke : {T : Type 0} (takes : T → Item → T → Type 0) (e : Event) (s t : Talk T)
    → t.session ≡ after e s.session
    → t.waiting ≡ s.waiting ++ session_texts (added_by e s.session)
    → FoldsTo takes s.taker (taken_by e s.session) t.taker → (d : Dialogue)
    → RepresentsDialogue s.session s.waiting d → LeadsToDialogue takes d (process_event e d) s t
meets-spoke takes e s t left added taken d h =
    record {
      speaks =
          record {
            state = left ∙ ap (λ x. after e x) h.state;
            waits = added ∙ (ap (λ ws. ws ++ session_texts (added_by e s.session)) h.waits
                ∙ ap (λ x. d.waiting ++ session_texts (added_by e x)) h.state);
          };
      took =
          record {
            more = taken_by e (session_in d);
            grown = refl;
            handed = subst (λ x. FoldsTo takes s.taker (taken_by e x) t.taker) h.state taken;
          };
    }

-- a message that is read
pub judged-message : {T : Type 0} (takes : T → Item → T → Type 0) (r : Result Tele TeleFault) (x : Tele) (s t : Talk T)
    (asked : Option Leaving) → Ok x ≡ r
    → t.session ≡ after (Arrives x) s.session → t.waiting ≡ s.waiting ++ session_texts (added_by (Arrives x) s.session)
    → FoldsTo takes s.taker (taken_by (Arrives x) s.session) t.taker
    → asked ≡ if_ended (end_of (judge_telegram s.session x)) → JudgesDialogue takes (judge_read r) s t asked
judged-message takes r x s t asked is left added taken answer =
    subst (λ (q : Result Tele TeleFault). JudgesDialogue takes (judge_read q) s t asked) is
    (λ d h. (
      meets-spoke takes (Arrives x) s t left added taken d h,
      answer
          ∙ ap (λ y. if_ended (end_of (judge_telegram y x))) h.state,
    ))

-- and one that is not
pub judged-no_message : {T : Type 0} (takes : T → Item → T → Type 0) (r : Result Tele TeleFault) (fault : TeleFault)
    (s : Talk T) → Err fault ≡ r
    → JudgesDialogue takes (judge_read r) s s (Some for_message)
judged-no_message takes r fault s is =
    subst (λ (q : Result Tele TeleFault). JudgesDialogue takes (judge_read q) s s (Some for_message)) is
    (λ d h. (spoke-none takes d s h, refl))

-- Messages that were judged in front of these: what all of them come to is what these come to from here.
abbrev pub Along : {T : Type 0} → (T → Item → T → Type 0) → List (List ℕ) → List (List ℕ) → Talk T → Talk T → Type 0
Along takes all rest s t =
    (d : Dialogue) → RepresentsDialogue s.session s.waiting d
    → (e : Dialogue) × (LeadsToDialogue takes d e s t × (judge_messages all d ≡ judge_messages rest e))

pub along-start : {T : Type 0} (takes : T → Item → T → Type 0) (all : List (List ℕ)) (s : Talk T)
    → Along takes all all s s
along-start takes all s d h = (d, (spoke-none takes d s h, refl))

-- the message is judged, and the end does not have to disconnect
pub along-more : {T : Type 0} (takes : T → Item → T → Type 0) (all : List (List ℕ)) (m : List ℕ) (rest : List (List ℕ))
    (s t u : Talk T)
    (asked : Option Leaving) → Along takes all (m ∷ rest) s t
    → JudgesDialogue takes (judge_read (tele_seen m)) t u asked → asked ≡ None → Along takes all rest s u
along-more takes all m rest s t u asked h k none d start =
    let a = h d start in
    let b = k a.0 a.1.0.speaks in
    let first = judge_read (tele_seen m) a.0 in (
      first.left,
      (
        spoke-then takes d a.0 first.left s t u a.1.0 b.0,
        a.1.1 ∙ ap (λ w. unless_leaving w first (judge_messages rest first.left)) (sym b.1 ∙ none),
      ),
    )

-- the message is judged, and the end has to disconnect
pub along-stop : {T : Type 0} (takes : T → Item → T → Type 0) (all : List (List ℕ)) (m : List ℕ) (rest : List (List ℕ))
    (s t u : Talk T)
    (asked : Option Leaving) (why : Leaving) → Along takes all (m ∷ rest) s t
    → JudgesDialogue takes (judge_read (tele_seen m)) t u asked → asked ≡ Some why
    → JudgesDialogue takes (judge_messages all) s u (Some why)
along-stop takes all m rest s t u asked why h k some d start =
    let a = h d start in
    let b = k a.0 a.1.0.speaks in
    let first = judge_read (tele_seen m) a.0 in
    let is : judge_messages all d ≡ first = a.1.1
    ∙ ap (λ w. unless_leaving w first (judge_messages rest first.left)) (sym b.1 ∙ some) in (
      subst (λ (j : Judgement). LeadsToDialogue takes d j.left s u) (sym is)
          (spoke-then takes d a.0 first.left s t u a.1.0 b.0),
      sym some ∙ (b.1 ∙ ap (λ (j : Judgement). j.leaving) (sym is)),
    )

-- no message is left
pub along-end : {T : Type 0} (takes : T → Item → T → Type 0) (all : List (List ℕ)) (s t : Talk T)
    → Along takes all [] s t
    → JudgesDialogue takes (judge_messages all) s t None
along-end takes all s t h d start =
    let a = h d start in (
      subst (λ (j : Judgement). LeadsToDialogue takes d j.left s t) (sym a.1.1) a.1.0,
      ap (λ (j : Judgement). j.leaving) (sym a.1.1),
    )

-- the messages of a list after a place
texts-drop : (xs : List (Bor (List ℕ))) (i : ℕ) (d : Bor (List ℕ)) → i < length xs
    → drop i (talk_texts xs) ≡ (get_or xs i d).now ∷ drop (suc i) (talk_texts xs)
texts-drop [] i d h = absurd (omega (arith, h))
texts-drop (x ∷ xs) zero d h = refl
texts-drop (x ∷ xs) (suc i) d h = texts-drop xs i d (omega (arith, h))

texts-past : (xs : List (Bor (List ℕ))) (i : ℕ) → length xs ≤ i → drop i (talk_texts xs) ≡ []
texts-past [] zero h = refl
texts-past [] (suc i) h = refl
texts-past (x ∷ xs) zero h = absurd (omega (arith, h))
texts-past (x ∷ xs) (suc i) h = texts-past xs i (omega (arith, h))

pub along-at : {T : Type 0} (takes : T → Item → T → Type 0) (xs : List (Bor (List ℕ))) (i : ℕ) (x : Bor (List ℕ))
    (s t u : Talk T) (asked : Option Leaving)
    → i < length xs → Along takes (talk_texts xs) (drop i (talk_texts xs)) s t
    → JudgesDialogue takes (judge_read (tele_seen (get_or xs i x).now)) t u asked → asked ≡ None
    → Along takes (talk_texts xs) (drop (i + 1) (talk_texts xs)) s u
along-at takes xs i x s t u asked lt h k none =
    subst (λ n. Along takes (talk_texts xs) (drop n (talk_texts xs)) s u) (sym (add-one i))
    (along-more takes (talk_texts xs) (get_or xs i x).now (drop (suc i) (talk_texts xs)) s t u asked
    (subst (λ rest. Along takes (talk_texts xs) rest s t) (texts-drop xs i x lt) h) k none)

pub along-stop_at : {T : Type 0} (takes : T → Item → T → Type 0) (xs : List (Bor (List ℕ))) (i : ℕ) (x : Bor (List ℕ))
    (s t u : Talk T) (asked : Option Leaving)
    (why : Leaving) → i < length xs → Along takes (talk_texts xs) (drop i (talk_texts xs)) s t
    → JudgesDialogue takes (judge_read (tele_seen (get_or xs i x).now)) t u asked
    → asked ≡ Some why → JudgesDialogue takes (judge_messages (talk_texts xs)) s u (Some why)
along-stop_at takes xs i x s t u asked why lt h k some =
    along-stop takes (talk_texts xs) (get_or xs i x).now (drop (suc i) (talk_texts xs)) s t u asked why
    (subst (λ rest. Along takes (talk_texts xs) rest s t) (texts-drop xs i x lt) h) k some

pub along-past : {T : Type 0} (takes : T → Item → T → Type 0) (xs : List (Bor (List ℕ))) (i : ℕ) (s t : Talk T)
    → length xs ≤ i
    → Along takes (talk_texts xs) (drop i (talk_texts xs)) s t
    → JudgesDialogue takes (judge_messages (talk_texts xs)) s t None
along-past takes xs i s t le h =
    along-end takes (talk_texts xs) s t (subst (λ rest. Along takes (talk_texts xs) rest s t) (texts-past xs i le) h)

-- the unit is one
pub judged-unit : {T : Type 0} (takes : T → Item → T → Type 0) (r : Result (List (List ℕ)) PackFault)
    (ms : List (List ℕ)) (s t : Talk T)
    (asked : Option Leaving) → Ok ms ≡ r → JudgesDialogue takes (judge_messages ms) s t asked
    → JudgesDialogue takes (judge_unpacked r) s t asked
judged-unit takes r ms s t asked is h =
    subst (λ (q : Result (List (List ℕ)) PackFault). JudgesDialogue takes (judge_unpacked q) s t asked) is h

-- and there is no unit
pub judged-no_unit : {T : Type 0} (takes : T → Item → T → Type 0) (r : Result (List (List ℕ)) PackFault)
    (fault : PackFault) (s : Talk T) → Err fault ≡ r
    → JudgesDialogue takes (judge_unpacked r) s s (Some for_unit)
judged-no_unit takes r fault s is =
    subst (λ (q : Result (List (List ℕ)) PackFault). JudgesDialogue takes (judge_unpacked q) s s (Some for_unit)) is
    (λ d h. (spoke-none takes d s h, refl))

-- Units that a receiver takes one by one; it judges no unit after one for which the end has to disconnect.
module _ {S T : Type 0} (takes : T → Item → T → Type 0) (talk_of : S → Talk T) (asked : S → Option Leaving) (R : S
    → List ℕ → S → Type 0)
    (step : (s : S) (u : List ℕ) (t : S) → R s u t
    → JudgesDialogue takes (judge_next (asked s) u) (talk_of s) (talk_of t) (asked t)) where
  judges-stay : (us : List (List ℕ)) (s t : S) (why : Leaving) → FoldsTo R s us t → asked s ≡ Some why → (d : Dialogue)
      → RepresentsDialogue (talk_of s).session (talk_of s).waiting d → LeadsToDialogue takes d d (talk_of s) (talk_of t)
      × (asked t ≡ Some why)
  judges-stay [] s t why e is d h = (
    subst (λ (x : S). LeadsToDialogue takes d d (talk_of s) (talk_of x)) e (spoke-none takes d (talk_of s) h),
    ap asked (sym e) ∙ is,
  )
  judges-stay (u ∷ us) s t why (j, r, rest) is d h =
      let a = subst (λ w. JudgesDialogue takes (judge_next w u) (talk_of s) (talk_of j) (asked j)) is
      (step s u j r) d h in
      let b = judges-stay us j t why rest a.1 d a.0.speaks in
      (spoke-then takes d d d (talk_of s) (talk_of j) (talk_of t) a.0 b.0, b.1)

  -- the first unit is judged, and the units after it come to this
  units-then : (u : List ℕ) (us : List (List ℕ)) (s j t : S) (w : Option Leaving) → asked j ≡ w
      → JudgesDialogue takes (judge_unpacked (unit_seen u)) (talk_of s) (talk_of j) (asked j)
      → (w ≡ None → JudgesDialogue takes (judge_units us) (talk_of j) (talk_of t) (asked t))
      → ((why : Leaving) → w ≡ Some why → (d : Dialogue) → RepresentsDialogue (talk_of j).session (talk_of j).waiting d
      → LeadsToDialogue takes d d (talk_of j) (talk_of t)
      × (asked t ≡ Some why)) → JudgesDialogue takes (judge_units (u ∷ us)) (talk_of s) (talk_of t) (asked t)
  units-then u us s j t None none h k stay d start =
      let first = judge_unpacked (unit_seen u) d in
      let a = h d start in
      let b = k refl first.left a.0.speaks in
      let same : judge_units us first.left ≡ judge_units (u ∷ us) d = ap
      (λ w. unless_leaving w first (judge_units us first.left)) (sym none ∙ a.1) in
      subst (λ (q : Judgement). LeadsToDialogue takes d q.left (talk_of s) (talk_of t) × (asked t ≡ q.leaving)) same
      (spoke-then takes d first.left (judge_units us first.left).left (talk_of s) (talk_of j) (talk_of t) a.0 b.0, b.1)
  units-then u us s j t (Some why) some h k stay d start =
      let first = judge_unpacked (unit_seen u) d in
      let a = h d start in
      let b = stay why refl first.left a.0.speaks in
      let same : first ≡ judge_units (u ∷ us) d = ap (λ w. unless_leaving w first (judge_units us first.left)) (sym some
      ∙ a.1) in
      subst (λ (q : Judgement). LeadsToDialogue takes d q.left (talk_of s) (talk_of t) × (asked t ≡ q.leaving)) same
      (spoke-then takes d first.left first.left (talk_of s) (talk_of j) (talk_of t) a.0 b.0, b.1 ∙ (sym some ∙ a.1))

  pub judges-units : (us : List (List ℕ)) (s t : S) → FoldsTo R s us t → asked s ≡ None
      → JudgesDialogue takes (judge_units us) (talk_of s) (talk_of t) (asked t)
  judges-units [] s t e is =
      λ d h. (
        subst (λ (x : S). LeadsToDialogue takes d d (talk_of s) (talk_of x)) e (spoke-none takes d (talk_of s) h),
        ap asked (sym e) ∙ is,
      )
  judges-units (u ∷ us) s t (j, r, rest) is =
      units-then u us s j t (asked j) refl
      (subst (λ w. JudgesDialogue takes (judge_next w u) (talk_of s) (talk_of j) (asked j)) is (step s u j r))
      (λ none. judges-units us j t rest none)
      (λ why some. judges-stay us j t why rest some)
