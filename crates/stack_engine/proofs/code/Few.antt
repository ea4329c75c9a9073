-- How few PDUs and telegrams one event makes, over every list of events.
use Rattle.safe_machine.proofs.one.TurnSteps.{send-is}
use Rattle.stack_engine.proofs.Words.{[], after, after_read, after_release, after_run, AllByRecursion, answered, ap, append-nil, are_fit, AreOctets, AreTyped}
use Rattle.stack_engine.proofs.Words.{arith, arrival, arrive_octets, Arrives, AtOpened, Bool, by_cond, Call, call, call_fe, call_il, Calls, change_world, Close}
use Rattle.stack_engine.proofs.Words.{ClosedByUser, code_octets, CodeLength, CodeRule, comes_up, Completes, cond, connection_of, Data, Datagram, defer}
use Rattle.stack_engine.proofs.Words.{Deliver, Detail, Dialogue, did, drop, drop-append_seam, Eight, ends_of, EndSettings, EndState, Err, Event, false, Fe}
use Rattle.stack_engine.proofs.Words.{FewFirstLaw, FewLaw, FewMade, FewMore, FewMoreLaw, follow, goes_on, GoesUp, Guards, handed_up, apply_event, HaveTexts}
use Rattle.stack_engine.proofs.Words.{heard, heard_as, Hears, Il, InitDone, inl, Input, inr, is_due, is_shut, IsRead, IsSmallItem, IsSmallPdu}
use Rattle.stack_engine.proofs.Words.{IsTakenBy, IsTyped, Item, JoinedEnd, judge_messages, judge_read, judge_units, judge_unpacked, Judgement, judge_telegram, latest}
use Rattle.stack_engine.proofs.Words.{least_waiting, leave, Leaves, leaves, Leaving, length, length-append, length-drop, List, Made, make, may_send, process_event}
use Rattle.stack_engine.proofs.Words.{MESSAGE_MAX, MESSAGE_MIN, most_pdus, Move, move, moved, MovesLaw, nat_tests, new_end, next_made, None, Ok, Open, Option}
use Rattle.stack_engine.proofs.Words.{packed, packed_up_to, PackFault, Part, part_step, parts_step, parts_passed, PAYLOAD_MAX, pieces_seen, present, Put, put_in, put_into, Puts}
use Rattle.stack_engine.proofs.Words.{QueueLaw, read_named, Reason, Receiver, input_step, RedFault, RedTick, refl, refusal, parts_due, Result, bring_up, rule_of, run}
use Rattle.stack_engine.proofs.Words.{run_from, seen_by, Sends, sends, SessionEvent, settle, Side, Sixteen, Some, start, State, ReceiverStep, subst, suc, sym, take}
use Rattle.stack_engine.proofs.Words.{taken_as, taken_by, Takes, Tele, tele_seen, TeleFault, Tick, Ticks, time_of, true, unconfirmed, unit_seen}
use Rattle.stack_engine.proofs.Words.{unit_text, unless_leaving, Unspecified, Verdict, with_input, with_machine, with_session, World, Zero, zero, ℕ, ◌*◌, ◌++◌}
use Rattle.stack_engine.proofs.Words.{◌+◌, ◌∙◌, ◌∷◌, ◌≡◌, ◌≤◌}
use Rattle.stack_engine.proofs.Words.{can_pack, closed-step-is, fields_kept, finished-is, guard_step, guarded-is, may-pack, packed-is, pack_turn, part-is, put_done, queued-is, step, tick_step, ticked-is}
use Rattle.red_layer.specs.Redundancy.{step_decoded as red_heard}
use Rattle.stack_engine.proofs.one.Received.{legal-role, machined-texts, OctetPart, OctetsUp, read-heard, red-keeps, Whole, whole-keeps}
use Rattle.stack_engine.proofs.one.Sent.{all-append, call-keeps, goes-of, IsTypedCall, IsTypedInput, keep-part, Keeps, Laws, leaves-same, keep-guarded, keep-ticked}
use Rattle.stack_engine.proofs.one.Sent.{legal-of, limits-of}
use Rattle.stack_engine.proofs.two.Machines.{octets-call}
use Rattle.stack_engine.proofs.two.Worlds.{new-whole, opens, typed-call, unless}

-- a list's run and the rest of it
run-and-rest : (n : ℕ) (es : List Part) → length (run_from n es) + length (after_run n es) ≡ length es
run-and-rest n [] = refl
run-and-rest n (e ∷ es) = grind (arith, run-and-rest (n + 1) es)

-- What goes up and what is left are no more than what waited and what arrived; and no more wait than there are places.
pub record Passing (arrived : ℕ) (r : Receiver) (passed : List Part) (left : Receiver) : Type 0 where
  pub q : left.q ≡ r.q
  pub count : length passed + length left.waiting ≤ length r.waiting + arrived
  pub few : length r.waiting ≤ r.q → length left.waiting ≤ left.q

-- a step with this result
abbrev Counts : Receiver → ReceiverStep → Type 0
Counts r s = Passing 1 r s.passed s.left

passing-none : (r : Receiver) → Passing 1 r [] r
passing-none r = record { q = refl; count = omega arith; few = λ h. h }

passing-release : (now : ℕ) (r : Receiver) → Passing 0 r (parts_due now r) (after_release now r)
passing-release now r = go (is_due now r)
  where
    go : (b : Bool) → Passing 0 r (cond b (run_from (least_waiting r.waiting) r.waiting) [])
        (cond b (follow now (least_waiting r.waiting) r) r)
    go true =
        let split = run-and-rest (least_waiting r.waiting) r.waiting in
        record { q = refl; count = omega arith; few = λ h. omega arith }
    go false = record { q = refl; count = omega arith; few = λ h. h }

put_in-length : (n : ℕ) (x : List ℕ) (es : List Part) → length (put_in n x es) ≡ length es + 1
put_in-length n x [] = refl
put_in-length n x (e ∷ es) = grind (arith, put_in-length n x es)

passing-deferred : (now : ℕ) (p : Part) (r : Receiver) → Counts r (defer now p r)
passing-deferred now p r = grind (arith, nat_tests, passing-none, put_in-length)

passing-arrival : (now : ℕ) (p : Part) (r : Receiver) → Counts r (arrival now p r)
passing-arrival now p r = grind (arith, nat_tests, passing-deferred, passing-none, run-and-rest)

passing-heard : (now : ℕ) (said : Result Part RedFault) (r : Receiver) → Counts r (red_heard now said r)
passing-heard now (Ok p) r = passing-arrival now p r
passing-heard now (Err fault) r = passing-none r

pub passing : (i : Input) (r : Receiver) → Passing 1 r (parts_passed i r) (after i r)
passing (Datagram octets now) r = grind (arith, nat_tests, length-append, passing-heard, passing-release)
passing (RedTick now) r = grind (arith, nat_tests, passing-release)

-- what a message says is small
named-small : (m : List ℕ) (t : Tele) (a b : Option (List ℕ)) → length m ≤ MESSAGE_MAX → read_named a b m ≡ Ok t
    → length t.payload ≤ PAYLOAD_MAX
named-small m t (Some a) (Some b) h e = grind (arith, length-drop MESSAGE_MIN m)
named-small m t (Some a) None h e = cc
named-small m t None b h e = cc

small-tele : (m : List ℕ) (t : Tele) → tele_seen m ≡ Ok t → length t.payload ≤ PAYLOAD_MAX
unfolding tele_seen
small-tele m t e = grind (arith, nat_tests, named-small)

-- Of telegrams taken: at most `n` more, each of them small.
pub record Takes_ (n : ℕ) (d e : Dialogue) : Type 0 where
  pub few : length e.history.taken ≤ length d.history.taken + n
  pub small : AllByRecursion IsSmallItem d.history.taken → AllByRecursion IsSmallItem e.history.taken

takes-same : (d e : Dialogue) → e.history.taken ≡ d.history.taken → Takes_ 0 d e
takes-same d e same = grind (arith, nat_tests)

takes-then : (m n : ℕ) (d e f : Dialogue) → Takes_ m d e → Takes_ n e f → Takes_ (m + n) d f
takes-then m n d e f a b = record { few = omega (arith, a.few, b.few); small = λ h. b.small (a.small h) }

takes-more : (m n : ℕ) (d e : Dialogue) → m ≤ n → Takes_ m d e → Takes_ n d e
takes-more m n d e le a = record { few = omega (arith, a.few); small = a.small }

-- a telegram that arrives is taken at most
takes-as : (t : Tele) (d e : Dialogue) (v : Verdict) → length t.payload ≤ PAYLOAD_MAX
    → e.history.taken ≡ d.history.taken ++ taken_as t v → Takes_ 1 d e
takes-as t d e Takes small same = grind (arith, nat_tests, all-append, length-append)
takes-as t d e _ small same = takes-more 0 1 d e (omega arith) (takes-same d e (same ∙ append-nil d.history.taken))

takes-read : (m : List ℕ) (d : Dialogue) (r : Result Tele TeleFault) → tele_seen m ≡ r
    → Takes_ 1 d (judge_read r d).left
takes-read m d (Ok t) e =
    takes-as t d (process_event (Arrives t) d) (judge_telegram d.history.state t) (small-tele m t e) refl
takes-read m d (Err fault) e = takes-more 0 1 d d (omega arith) (takes-same d d refl)

-- the others of a unit
takes-unless : (n : ℕ) (d : Dialogue) (why : Option Leaving) (first rest : Judgement) → Takes_ 1 d first.left
    → Takes_ n first.left rest.left
    → Takes_ (1 + n) d (unless_leaving why first rest).left
takes-unless n d None first rest a b = takes-then 1 n d first.left rest.left a b
takes-unless n d (Some why) first rest a b = takes-more 1 (1 + n) d first.left (omega arith) a

takes-messages : (ms : List (List ℕ)) (d : Dialogue) → Takes_ (length ms) d (judge_messages ms d).left
takes-messages [] d = takes-same d d refl
takes-messages (m ∷ ms) d =
    let first = judge_read (tele_seen m) d in
    takes-more (1 + length ms) (length (m ∷ ms)) d (judge_messages (m ∷ ms) d).left (omega arith)
    (takes-unless (length ms) d first.leaving first (judge_messages ms first.left) (takes-read m d (tele_seen m) refl)
    (takes-messages ms first.left))

-- a unit has three messages at most
after-few : (n : ℕ) (m : List ℕ) (r : Result (List (List ℕ)) PackFault) (ms : List (List ℕ))
    → after_read (m ∷ []) r ≡ Ok ms
    → ((ns : List (List ℕ)) → r ≡ Ok ns → length ns ≤ n) → length ms ≤ n + 1
after-few n m r ms h k = grind (arith, nat_tests)

pieces-few : (n : ℕ) (octets : List ℕ) (ms : List (List ℕ)) → pieces_seen n octets ≡ Ok ms → length ms ≤ n
unfolding pieces_seen
pieces-few zero octets ms e = grind arith
pieces-few (suc n) octets ms e = grind (arith, after-few, pieces-few n)

unit-few : (u : List ℕ) (ms : List (List ℕ)) → unit_seen u ≡ Ok ms → length ms ≤ 3
unfolding unit_seen
unit-few u ms e = grind (arith, pieces-few)

takes-unpacked : (u : List ℕ) (d : Dialogue) (r : Result (List (List ℕ)) PackFault) → unit_seen u ≡ r
    → Takes_ 3 d (judge_unpacked r d).left
takes-unpacked u d (Ok ms) e =
    takes-more (length ms) 3 d (judge_messages ms d).left (unit-few u ms e) (takes-messages ms d)
takes-unpacked u d (Err fault) e = takes-more 0 3 d d (omega arith) (takes-same d d refl)

-- the machine delivers at most one unit
takes-units : (us : List (List ℕ)) (d : Dialogue) → length us ≤ 1 → Takes_ 3 d (judge_units us d).left
takes-units [] d h = takes-more 0 3 d d (omega arith) (takes-same d d refl)
takes-units (u ∷ []) d h =
    let first = judge_unpacked (unit_seen u) d in
    let rest = judge_units [] first.left in
    takes-one first.leaving first rest (takes-unpacked u d (unit_seen u) refl) (takes-same first.left first.left refl)
  where
    takes-one : (why : Option Leaving) (first rest : Judgement) → Takes_ 3 d first.left → Takes_ 0 first.left rest.left
        → Takes_ 3 d (unless_leaving why first rest).left
    takes-one None first rest a b =
        takes-more (3 + 0) 3 d rest.left (omega arith) (takes-then 3 0 d first.left rest.left a b)
    takes-one (Some why) first rest a b = a
takes-units (u ∷ v ∷ us) d h = absurd (omega arith)

-- one unit more at most
handed-few : MovesLaw → (m : Move) (x : EndState) → length (handed_up x (move m x.machine)) ≤ 1
handed-few moves m x =
    let one = moves m x.machine in
    let same : handed_up x (move m x.machine) ≡ one.more_taken = ap (drop (length x.machine.taken)) one.taken
    ∙ drop-append_seam x.machine.taken one.more_taken
    in
    omega (arith, ap (λ (us : List (List ℕ)). length us) same, by-kind m one.more_taken one.one_taken)
  where
    by-kind : (m : Move) (more : List (List ℕ)) → IsTakenBy m more → length more ≤ 1
    by-kind (Guards now) more h = omega (arith, ap (λ (us : List (List ℕ)). length us) h)
    by-kind (Hears p now) more (inl h) = omega (arith, ap (λ (us : List (List ℕ)). length us) h)
    by-kind (Hears p now) more (inr h) = omega (arith, ap (λ (us : List (List ℕ)). length us) h)
    by-kind (Ticks now) more h = omega (arith, ap (λ (us : List (List ℕ)). length us) h)
    by-kind (Sends unit now) more h = omega (arith, ap (λ (us : List (List ℕ)). length us) h)
    by-kind (Leaves reason detail now) more h = omega (arith, ap (λ (us : List (List ℕ)). length us) h)

takes-rises : (b : Bool) (d : Dialogue) → Takes_ 0 d (bring_up b d)
takes-rises true d = takes-same d (process_event GoesUp d) (append-nil d.history.taken)
takes-rises false d = takes-same d d refl

-- At most this many PDUs and telegrams more, from one state of an end to the next.
pub record Grows (n k : ℕ) (x y : EndState) : Type 0 where
  pub made : length y.machine.made ≤ length x.machine.made + n
  pub takes : Takes_ k x.session y.session

grows-then : (m n j k : ℕ) (x y z : EndState) → Grows m j x y → Grows n k y z → Grows (m + n) (j + k) x z
grows-then m n j k x y z a b =
    record {
      made = omega (arith, a.made, b.made);
      takes = takes-then j k x.session y.session z.session a.takes b.takes;
    }

grows-more : (m n j k : ℕ) (x y : EndState) → m ≤ n → j ≤ k → Grows m j x y → Grows n k x y
grows-more m n j k x y le less a =
    record { made = omega (arith, a.made); takes = takes-more j k x.session y.session less a.takes }

grows-same : (x : EndState) → Grows 0 0 x x
grows-same x = record { made = omega arith; takes = takes-same x.session x.session refl }

grows-settle : (x : EndState) → Grows 0 0 x (settle x)
grows-settle x = grind (arith, nat_tests, append-nil, grows-same, takes-same)

leave-few : (reason : Reason) (detail : Detail) (now : ℕ) (s : State)
    → length (leave reason detail now s).made ≤ length s.made + 1
leave-few reason detail now s = grind (arith, length-append s.made)

-- What holds of an end by itself, so that its next call makes little.
pub record Sized (side : Side) (x : EndState) : Type 0 where
  pub whole : Whole side x
  pub q : x.red.q ≡ x.settings.q
  pub few : length x.red.waiting ≤ x.red.q
  pub small : AllByRecursion IsSmallItem x.session.history.taken

-- a move in a state that is read
few-made : FewLaw → (side : Side) (m : Move) (x : EndState) → IsRead m → Sized side x → FewMade m x.machine
few-made law side m x read h =
    let w = h.whole in
    subst (FewMade m) (sym w.machined.machine)
    (law (connection_of side x.settings) w.machined.first w.machined.began w.machined.moves m
    (legal-role side x.settings (legal-of side x.settings w.spoken.fit)) w.machined.read read)

grows-leaves : (now : ℕ) (why : Option Leaving) (y : EndState) → Grows 1 0 y (leaves now why y)
grows-leaves now None y = grows-more 0 1 0 0 y y (omega arith) (omega arith) (grows-same y)
grows-leaves now (Some why) y =
    record { made = leave-few why.0 why.1 now y.machine; takes = takes-same y.session y.session refl }

-- a part that goes up
grows-heard : Laws → (side : Side) (now : ℕ) (octets : List ℕ) (x : EndState) → AreOctets octets → Sized side x
    → Grows 37 3 x (heard now octets x)
grows-heard laws side now octets x octs h =
    let s = arrive_octets octets now x.machine in
    let m = heard_as (seen_by x.machine octets) now in
    let few = few-made laws.few side m x (read-heard laws.heard now octets x.machine octs (seen_by x.machine octets)
    refl) h in
    let up = takes-units (handed_up x s) x.session (handed-few laws.moves m x) in
    let y = answered octets x s in
    let d = (judge_units (handed_up x s) x.session).left in
    let one : Grows 36 3 x y = record {
      made = few.made;
      takes = takes-more (3 + 0) 3 x.session y.session (omega arith)
          (takes-then 3 0 x.session d y.session up (takes-rises (comes_up x.machine.connection s.connection) d));
    } in
    grows-more (36 + 1) 37 (3 + 0) 3 x (heard now octets x) (omega arith) (omega arith)
    (grows-then 36 1 3 0 x y (heard now octets x) one
    (grows-leaves now (judge_units (handed_up x s) x.session).leaving y))

sized-keeps : Laws → (side : Side) (now : ℕ) → Keeps now OctetsUp (Sized side)
sized-keeps laws side now =
    let k : Keeps now OctetsUp (Whole side) = whole-keeps laws side now in
    record {
      guards = λ x h. record { whole = k.guards x h.whole; q = h.q; few = h.few; small = h.small };
      ticks = λ x h. record { whole = k.ticks x h.whole; q = h.q; few = h.few; small = h.small };
      closes = λ x h. record { whole = k.closes x h.whole; q = h.q; few = h.few; small = h.small };
      ends = λ x shut h. record {
        whole = k.ends x shut h.whole;
        q = h.q;
        few = h.few;
        small = subst (AllByRecursion IsSmallItem)
            (sym (append-nil x.session.history.taken)) h.small;
      };
      inputs = λ i x t h.
          let p = passing i x.red in
          record { whole = k.inputs i x t h.whole; q = p.q ∙ h.q; few = p.few h.few; small = h.small };
      hears = λ octets x q h.
          let s = arrive_octets octets now x.machine in
          let same = leaves-same now (judge_units (handed_up x s) x.session).leaving (answered octets x s) in
          record {
            whole = k.hears octets x q h.whole;
            q = ap (λ (r : Receiver). r.q) same.3 ∙ h.q ∙ ap (λ (c : EndSettings). c.q) (sym same.0);
            few = subst (λ (r : Receiver). length r.waiting ≤ r.q) (sym same.3) h.few;
            small = (grows-heard laws side now octets x q h).takes.small h.small;
          };
      sends = λ x may some h. record { whole = k.sends x may some h.whole; q = h.q; few = h.few; small = h.small };
      puts = λ kind payload x fits h.
          record {
            whole = k.puts kind payload x fits h.whole;
            q = h.q;
            few = h.few;
            small = subst (AllByRecursion IsSmallItem)
                (sym (append-nil x.session.history.taken)) h.small;
          };
      dones = λ x h. record {
        whole = k.dones x h.whole;
        q = h.q;
        few = h.few;
        small = subst (AllByRecursion IsSmallItem)
            (sym (append-nil x.session.history.taken)) h.small;
      };
      times = λ x h. record { whole = k.times x h.whole; q = h.q; few = h.few; small = h.small };
    }

-- an end lets eight parts wait at most
few-places : (side : Side) (s : EndSettings) → are_fit side s ≡ true → s.q ≤ 8
few-places side s h = grind (arith, nat_tests, limits-of side s h)

-- the parts of one input
module _ (laws : Laws) (side : Side) (now : ℕ) where
  k : Keeps now OctetsUp (Sized side)
  k = sized-keeps laws side now

  grows-part : (octets : List ℕ) (x : EndState) → AreOctets octets → Sized side x
      → Grows 37 3 x (part_step now octets x)
  grows-part octets x octs h =
      let y = settle (heard now octets x) in
      subst (Grows 37 3 x) (sym (part-is now octets x))
      (grows-more (37 + 0) 37 (3 + 0) 3 x y (omega arith) (omega arith)
      (grows-then 37 0 3 0 x (heard now octets x) y (grows-heard laws side now octets x octs h)
      (grows-settle (heard now octets x))))

  grows-parts : (ps : List Part) (x : EndState) → AllByRecursion OctetPart ps → Sized side x
      → Grows (37 * length ps) (3 * length ps) x (parts_step now ps x) × Sized side (parts_step now ps x)
  grows-parts [] x octs h = (grows-same x, h)
  grows-parts (p ∷ ps) x octs h =
      let y = part_step now p.1 x in
      let rest = grows-parts ps y octs.1 (keep-part now OctetsUp (Sized side) (goes-of now OctetsUp (Sized side) k) p.1
      x octs.0 h) in (
        grows-more (37 + 37 * length ps) (37 * length (p ∷ ps)) (3 + 3 * length ps) (3 * length (p ∷ ps)) x
            (parts_step now ps y) (omega arith) (omega arith)
            (grows-then 37 (37 * length ps) 3 (3 * length ps) x y (parts_step now ps y) (grows-part p.1 x octs.0 h)
            rest.0),
        rest.1,
      )

  -- units go out while the window is open
  packs-few : (n : ℕ) (x : EndState) → Sized side x
      → (length (packed_up_to n now x).machine.made + length (unconfirmed x.machine) ≤ length x.machine.made + 32)
      × Takes_ 0 x.session
      (packed_up_to n now x).session
  packs-few zero x h =
      let few = few-made laws.few side (Guards now) x tt h in
      (omega (arith, few.few), takes-same x.session x.session refl)
  packs-few (suc n) x h =
      let few = few-made laws.few side (Guards now) x tt h in
      let P : EndState → Type 0 = λ y. (length y.machine.made + length (unconfirmed x.machine) ≤ length x.machine.made
      + 32) × Takes_ 0 x.session y.session in
      let same : P x = (omega (arith, few.few), takes-same x.session x.session refl) in
      by_cond P (can_pack (fields_kept x)) (packed_up_to n now (step (pack_turn now) x)) x (λ can.
      let is = may-pack x can in
      let may = is.0 in
      let y = packed now x in
      let unit = unit_text (take x.settings.n_maxpacket x.session.waiting) in
      let rest = packs-few n y (k.sends x may is.1 h) in
      let one : length y.machine.made ≤ length x.machine.made + 1 =
      subst (λ (t : State). length t.made ≤ length x.machine.made + 1) (sym (send-is unit now x.machine))
      (by_cond (λ (t : State). length t.made ≤ length x.machine.made + 1) (may_send x.machine)
      (make Data unit now x.machine) x.machine
      (λ _. omega (arith, length-append x.machine.made (next_made x.machine Data unit now ∷ []))) (λ _. omega arith)) in
      subst (λ (z : EndState). P (packed_up_to n now z)) (sym (packed-is now x))
      (omega (arith, rest.0, few.sending unit now may, one), record { few = rest.1.few; small = rest.1.small }))
      (λ _. same)

  grows-sends : (x : EndState) → Sized side x → Grows 32 0 x (sends now x)
  grows-sends x h =
      let all = packs-few (length x.session.waiting) x h in
      record { made = omega (arith, all.0); takes = all.1 }

  grows-goes_on : (i : Input) (x : EndState) → IsTypedInput i → Sized side x → Grows 365 27 x (goes_on now i x)
  grows-goes_on i x t h =
      by_cond (Grows 365 27 x) (is_shut x) x (sends now (input_step now i x))
      (λ _. grows-more 0 365 0 27 x x (omega arith) (omega arith) (grows-same x)) (λ _.
      let y = with_input i x in
      let ps = parts_passed i x.red in
      let p = passing i x.red in
      let q = few-places side x.settings h.whole.spoken.fit in
      let nine : length ps ≤ 9 = omega (arith, p.count, h.few, h.q) in
      let begun : Sized side y = k.inputs i x t h in
      let through = grows-parts ps y (red-keeps laws i x.red t h.whole.machined.waits).0 begun in
      let z = input_step now i x in
      let zero : Grows 0 0 x y = record { made = omega arith; takes = takes-same x.session y.session refl } in
      grows-more (0 + (37 * length ps + 32)) 365 (0 + (3 * length ps + 0)) 27 x (sends now z) (omega arith)
      (omega arith)
      (grows-then 0 (37 * length ps + 32) 0 (3 * length ps + 0) x y (sends now z) zero
      (grows-then (37 * length ps) 32 (3 * length ps) 0 y z (sends now z) through.0 (grows-sends z through.1))))

  -- after one move of the machine that is no arrival
  grows-moved : (m : Move) (x : EndState) → IsRead m → Sized side x → Grows 36 0 x (moved m x)
  grows-moved m x read h =
      let few = few-made laws.few side m x read h in
      let y = with_machine (move m x.machine) x in
      let one : Grows 36 0 x y = record { made = few.made; takes = takes-same x.session y.session refl } in
      grows-more (36 + 0) 36 (0 + 0) 0 x (moved m x) (omega arith) (omega arith)
      (grows-then 36 0 0 0 x y (moved m x) one (grows-settle y))

  grows-on : (m : Move) (i : Input) (x y : EndState) → y ≡ moved m x → IsRead m → IsTypedInput i → Sized side x
      → Sized side y
      → Grows 401 27 x (goes_on now i y)
  grows-on m i x y is read t h after =
      grows-more (36 + 365) 401 (0 + 27) 27 x (goes_on now i y) (omega arith) (omega arith)
      (grows-then 36 365 0 27 x y (goes_on now i y) (subst (Grows 36 0 x) (sym is) (grows-moved m x read h))
      (grows-goes_on i y t after))

  -- an event of the session that is no arrival
  grows-meets : (e : SessionEvent) (x : EndState) → taken_by e x.session.history.state ≡ []
      → Sized side (with_session (process_event e x.session) x)
      → Grows 401 27 x (sends now (with_session (process_event e x.session) x))
  grows-meets e x none after =
      let y = with_session (process_event e x.session) x in
      let zero : Grows 0 0 x y = record {
        made = omega arith;
        takes = takes-same x.session y.session (ap (λ (is : List Item). x.session.history.taken ++ is) none
            ∙ append-nil x.session.history.taken);
      } in
      grows-more (0 + 32) 401 (0 + 0) 27 x (sends now y) (omega arith) (omega arith)
      (grows-then 0 32 0 0 x y (sends now y) zero (grows-sends y after))

grows-time : (n j : ℕ) (now : ℕ) (x y : EndState) → Grows n j x y → Grows n j x (record y { time = now })
grows-time n j now x y g = record { made = g.made; takes = g.takes }

pub grows-call : Laws → (side : Side) (c : Call) (x : EndState) → IsTypedCall c → Sized side x
    → Grows 401 27 x (call c x)
grows-call laws side (Close now) x t h =
    subst (λ (y : EndState). Grows 401 27 x (record y { time = now })) (sym (closed-step-is now x))
    (grows-time 401 27 now x (moved (Leaves ClosedByUser Unspecified now) x)
    (grows-more 36 401 0 27 x (moved (Leaves ClosedByUser Unspecified now) x) (omega arith) (omega arith)
    (grows-moved laws side now (Leaves ClosedByUser Unspecified now) x tt h)))
grows-call laws side (Put kind payload now) x t h =
    subst (λ (y : EndState). Grows 401 27 x (record (sends now y) { time = now })) (sym (queued-is kind payload x))
    (grows-time 401 27 now x (sends now (put_into kind payload x))
    (grows-meets laws side now (Puts kind payload (length x.session.waiting)) x refl
    ((sized-keeps laws side now).puts kind payload x t h)))
grows-call laws side (InitDone now) x t h =
    subst (λ (y : EndState). Grows 401 27 x (record (sends now y) { time = now })) (sym (finished-is x))
    (grows-time 401 27 now x (sends now (put_done x))
    (grows-meets laws side now (Completes (length x.session.waiting)) x refl ((sized-keeps laws side now).dones x h)))
grows-call laws side (Tick now) x t h =
    let k = sized-keeps laws side now in
    grows-time 401 27 now x (did (Tick now) x)
    (by_cond (Grows 401 27 x) (is_shut x) x (goes_on now (RedTick now) (tick_step now x))
    (λ _. grows-more 0 401 0 27 x x (omega arith) (omega arith) (grows-same x)) (λ _.
    grows-on laws side now (Ticks now) (RedTick now) x (tick_step now x) (ticked-is now x) tt tt h
    (keep-ticked now OctetsUp (Sized side) (goes-of now OctetsUp (Sized side) k) x (k.ticks x h))))
grows-call laws side (Deliver channel octets now) x t h =
    let k = sized-keeps laws side now in
    grows-time 401 27 now x (did (Deliver channel octets now) x)
    (by_cond (Grows 401 27 x) (is_shut x) x (goes_on now (Datagram octets now) (guard_step now x))
    (λ _. grows-more 0 401 0 27 x x (omega arith) (omega arith) (grows-same x)) (λ _.
    grows-on laws side now (Guards now) (Datagram octets now) x (guard_step now x) (guarded-is now x) tt t h
    (keep-guarded now OctetsUp (Sized side) (goes-of now OctetsUp (Sized side) k) x (k.guards x h))))

pub sized-call : Laws → (side : Side) (c : Call) (x : EndState) → IsTypedCall c → Sized side x → Sized side (call c x)
sized-call laws side c x t h =
    call-keeps c OctetsUp (Sized side) x (sized-keeps laws side (time_of c)) t
    (octets-call laws c x t h.whole.machined.waits) h

pub sized-new : (side : Side) (s : EndSettings) (first now : ℕ) → are_fit side s ≡ true
    → Sized side (new_end side s first now)
sized-new Il s first now fit = record { whole = new-whole Il s first now fit; q = refl; few = omega arith; small = tt }
sized-new Fe s first now fit = record { whole = new-whole Fe s first now fit; q = refl; few = omega arith; small = tt }

-- an end has a channel
some-channels : (side : Side) (s : EndSettings) → are_fit side s ≡ true → 1 ≤ s.channels
some-channels side s h = grind (arith, nat_tests, limits-of side s h)

-- each end that was opened
abbrev pub AllSized : World → Type 0
AllSized w = AtOpened (Sized Il) (present Il w) × AtOpened (Sized Fe) (present Fe w)

module _ (laws : Laws) where
  sized-il : (c : Call) (ils : List EndState) → IsTyped (Calls Il c) → AtOpened (Sized Il) (latest ils)
      → AtOpened (Sized Il) (latest (call_il c ils))
  sized-il c [] t h = tt
  sized-il c (x ∷ before) t h = sized-call laws Il c x (typed-call Il c t) h

  sized-fe : (c : Call) (ils : List EndState) (fes : List JoinedEnd) → IsTyped (Calls Fe c)
      → AtOpened (Sized Fe) (latest (ends_of fes))
      → AtOpened (Sized Fe) (latest (ends_of (call_fe c ils fes)))
  sized-fe c ils [] t h = tt
  sized-fe c ils (f ∷ before) t h = sized-call laws Fe c f.end (typed-call Fe c t) h

  sized-event : (e : Event) (w : World) → IsTyped e → refusal e w ≡ None → AllSized w → AllSized (change_world e w)
  sized-event (Open Il s first now) w t e h = (sized-new Il s first now (opens Il s now (present Il w) e).fit, h.1)
  sized-event (Open Fe s first now) w t e h = (h.0, sized-new Fe s first now (opens Fe s now (present Fe w) e).fit)
  sized-event (Calls Il c) w t e h = (sized-il c w.ils t h.0, h.1)
  sized-event (Calls Fe c) w t e h = (h.0, sized-fe c w.ils w.fes t h.1)

  pub sized-happens : (e : Event) (w : World) → IsTyped e → AllSized w → AllSized (apply_event w e)
  sized-happens e w t h = unless AllSized (refusal e w) w (change_world e w) h (λ none. sized-event e w t none h)

  pub sized-run : (es : List Event) (w : World) → AreTyped es → AllSized w → AllSized (run es w)
  sized-run [] w t h = h
  sized-run (e ∷ es) w t h = sized-run es (apply_event w e) t.1 (sized-happens e w t.0 h)

  -- the PDUs of an end have texts, which are not long
  short-code : (rule : CodeRule) → code_octets rule.length ≤ 16
  short-code rule = elim rule.length as (λ (n : CodeLength). code_octets n ≤ 16)
      [ Zero ↦ omega arith | Eight ↦ omega arith | Sixteen ↦ omega arith ]

  small-texts : (s : EndSettings) (ms : List Made) → HaveTexts ms → AllByRecursion (IsSmallPdu s) ms
  small-texts s [] h = tt
  small-texts s (m ∷ ms) h = (omega (arith, (h.0 (rule_of s)).size, short-code (rule_of s)), small-texts s ms h.1)

  few-more : (side : Side) (c : Call) (x : EndState) → IsTyped (Calls side c) → Sized side x → FewMore x (call c x)
  few-more side c x t h =
      let y = call c x in
      let g = grows-call laws side c x (typed-call side c t) h in
      let after = sized-call laws side c x (typed-call side c t) h in
      record {
        channels = some-channels side x.settings h.whole.spoken.fit;
        pdus = g.made;
        takes = g.takes.few;
        small_pdus =
            small-texts y.settings y.machine.made (machined-texts laws.texts side y after.whole.spoken.fit
            after.whole.machined);
        small_items = after.small;
      }

  few-opened : (side : Side) (c : Call) (x : Option EndState) → IsTyped (Calls side c) → AtOpened (Sized side) x
      → AtOpened (λ y. FewMore y (call c y)) x
  few-opened side c None t h = tt
  few-opened side c (Some x) t h = few-more side c x t h

  pub few-more-holds : FewMoreLaw
  few-more-holds es typed Il c t = few-opened Il c (present Il (run es start)) t (sized-run es start typed (tt, tt)).0
  few-more-holds es typed Fe c t = few-opened Fe c (present Fe (run es start)) t (sized-run es start typed (tt, tt)).1

  few-deferred : (side : Side) (x : Option EndState) → AtOpened (Sized side) x
      → AtOpened (λ y. length y.red.waiting ≤ y.settings.q) x
  few-deferred side x h = grind (arith, nat_tests)

  pub queue-holds : QueueLaw
  queue-holds es typed Il = few-deferred Il (present Il (run es start)) (sized-run es start typed (tt, tt)).0
  queue-holds es typed Fe = few-deferred Fe (present Fe (run es start)) (sized-run es start typed (tt, tt)).1

  pub few-first-holds : FewFirstLaw
  few-first-holds side s first now fit =
      let x = new_end side s first now in
      let h = sized-new side s first now fit in
      record {
        channels = some-channels side s fit;
        pdus = first-made side;
        takes = first-taken side;
        small_pdus = small-texts s x.machine.made (machined-texts laws.texts side x fit h.whole.machined);
      }
    where
      first-made : (side : Side) → length (new_end side s first now).machine.made ≤ most_pdus
      first-made Il = omega arith
      first-made Fe = omega arith

      first-taken : (side : Side) → (new_end side s first now).session.history.taken ≡ []
      first-taken Il = refl
      first-taken Fe = refl
