-- What holds of the end of a station at any time, and what its calls find room for.
use Rattle.std.proofs.Common.{◌≡◌, ℕ, ◌+◌, ◌*◌, ◌<◌, ◌≤◌, Bool, true, false, List, [], ◌∷◌, length, refl, sym, ap, ◌∙◌, subst}
use Rattle.std.proofs.Common.{arith, ◌⊎◌, ◌≢◌, inl, inr}
use Rattle.std.proofs.lemmas.Bool.{and_parts, false≢true, leb-false, leb-true}
use Rattle.std.proofs.lemmas.Bool.Decides.{nat_tests}
use Rattle.std.specs.Global.{Global}
use Rattle.std.specs.List.{AllByRecursion, FoldsTo, list_all}
use Rattle.std.specs.Prelude.{◌==◌, if◌then◌else◌, nat_le, nat_lt, ◌&&◌, Result, Ok, Err}
use Rattle.octets.proofs.Choices.{by_cond}
use Rattle.octets.specs.declared.limits.TheConstants.{CHANNELS_MAX, MESSAGE_MAX, NAME_LENGTH, Q_MAX, RED_PDU_MAX, REACH, T_SEQ_LOWEST, T_SEQ_MAX, UNIT_MAX}
use Rattle.octets.specs.declared.limits.TheConstants.{UNIT_MESSAGES}
use Rattle.safe_machine.proofs.one.TurnSteps.{opened-cases}
use Rattle.safe_machine.specs.Ring.{ring_of}
use Rattle.safe_machine.specs.Settings.{Settings, is_legal}
use Rattle.safe_machine.specs.Step.{new_state}
use Rattle.safe_machine.specs.Turns.{Turn as MachineTurn, opening_turn}
use Rattle.safe_machine.specs.View.{View}
use Rattle.safe_machine.specs.World.{Side}
use Rattle.safe_machine.specs.World.Side.{Fe, Il}
use Rattle.safe_machine.specs.retrans.Units.{Numbered}
use Rattle.pdi_session.specs.SessionStep.{SessionState}
use Rattle.pdi_session.specs.Settings.{checksum_of}
use Rattle.pdi_session.specs.declared.TheConstants.{CHECKSUM_MAX}
use Rattle.pdi_session.specs.telegram.Names.{is_character}
use Rattle.red_layer.specs.FiniteMap.{has_number}
use Rattle.red_layer.specs.Parts.{Part}
use Rattle.red_layer.specs.Redundancy.{Datagram, Input, Receiver, ReceiverStep, Tick as RedTick, after, after_release, arrival, decoded, defer, follow, step_decoded}
use Rattle.red_layer.specs.Redundancy.{is_due, least_waiting}
use Rattle.red_layer.specs.declared.pdu.RedFault.{RedFault}
use Rattle.channels.specs.ChannelHistory.{SentDatagram, Sends, SendsOne, ChannelHistory}
use Rattle.end_settings.specs.EndSettings.{EndSettings, are_fit, connection_of, has_versions, in_limits, is_addressing, is_name, session_of}
use Rattle.stack_end.specs.Bounds.{IsBounded}
use Rattle.stack_end.specs.EndValue.{EndValue, channels_of, inside}
use Rattle.stack_end.specs.Ends.{Call, new_end}
use Rattle.stack_end.specs.Ends.Call.{Close, Deliver, InitDone, Put, Tick}
use Rattle.stack_end.specs.Fields.{LayersRepresent}
use Rattle.stack_end.specs.Reopening.{reopening_turn}
use Rattle.stack_end.specs.Turns.{Inside, Turn, upper_turn, turn_then, input_and_send_turn, guard_turn, is_over, input_turn, send_turn, still, tick_turn, turn}
use Rattle.end_for_callers.proofs.Loads.{load_law_holds, on-append}
use Rattle.end_for_callers.proofs.Sizes.{size_law_holds}
use Rattle.end_for_callers.specs.Boxes.{DatagramQueue, OutboxValue, share_of, shares_of, told_in}
use Rattle.end_for_callers.specs.Calls.{has_room, reserve_of, seen_end}
use Rattle.end_for_callers.specs.Loads.{IsPlaced, IsReady, each_aside, most_on_channel, sent_on}
use Rattle.end_for_callers.specs.declared.outbox.Shares.{Shares}

-- The length of the deferral queue stays.

release-q : (now : ℕ) (r : Receiver) → (after_release now r).q ≡ r.q
release-q now r = by_cond (λ (s : Receiver). s.q ≡ r.q) (is_due now r) (follow now (least_waiting r.waiting) r) r
    (λ _. refl) (λ _. refl)

deferred-q : (now : ℕ) (p : Part) (r : Receiver) → (defer now p r).left.q ≡ r.q
deferred-q now p r =
    by_cond (λ (s : ReceiverStep). s.left.q ≡ r.q) (has_number p.0 r.waiting) _ _ (λ _. refl)
    (λ _. by_cond (λ (s : ReceiverStep). s.left.q ≡ r.q) (length r.waiting == r.q) _ _ (λ _. refl) (λ _. refl))

arrival-q : (now : ℕ) (p : Part) (r : Receiver) → (arrival now p r).left.q ≡ r.q
arrival-q now p r =
    by_cond (λ (s : ReceiverStep). s.left.q ≡ r.q) (nat_lt p.0 r.expected) _ _ (λ _. refl)
    (λ _. by_cond (λ (s : ReceiverStep). s.left.q ≡ r.q) (p.0 == r.expected) _ _ (λ _. refl)
    (λ _. by_cond (λ (s : ReceiverStep). s.left.q ≡ r.q) (nat_lt (r.expected + REACH * r.q) p.0) _ _ (λ _. refl)
    (λ _. deferred-q now p r)))

heard-q : (now : ℕ) (read : Result Part RedFault) (r : Receiver) → (step_decoded now read r).left.q ≡ r.q
heard-q now (Ok p) r = arrival-q now p r
heard-q now (Err fault) r = refl

after-q : (i : Input) (r : Receiver) → (after i r).q ≡ r.q
after-q (Datagram octets now) r = heard-q now (decoded octets) (after_release now r) ∙ release-q now r
after-q (RedTick now) r = release-q now r

goes-q : (now : ℕ) (i : Input) (v : Inside) → (input_and_send_turn now i v).left.red.q ≡ v.red.q
goes-q now i v =
    by_cond (λ (t : Turn Inside). t.left.red.q ≡ v.red.q) (is_over v) (still v)
    (turn_then (input_turn now i v) (upper_turn (send_turn now))) (λ _. refl)
    (λ _. after-q i v.red)

turn-q : (c : Call) (v : Inside) → (turn c v).left.red.q ≡ v.red.q
turn-q (Tick now) v =
    by_cond (λ (t : Turn Inside). t.left.red.q ≡ v.red.q) (is_over v) (still v)
    (turn_then (upper_turn (tick_turn now) v) (input_and_send_turn now (RedTick now))) (λ _. refl)
    (λ _. goes-q now (RedTick now) (upper_turn (tick_turn now) v).left)
turn-q (Deliver channel octets now) v =
    by_cond (λ (t : Turn Inside). t.left.red.q ≡ v.red.q) (is_over v) (still v)
    (turn_then (upper_turn (guard_turn now) v) (input_and_send_turn now (Datagram octets now)))
    (λ _. refl) (λ _. goes-q now (Datagram octets now) (upper_turn (guard_turn now) v).left)
turn-q (Close now) v = refl
turn-q (Put kind payload now) v = refl
turn-q (InitDone now) v = refl

pub turned-ready : (reserve : ℕ) (c : Call) (v w : Inside) → w ≡ (turn c v).left → IsReady reserve v → IsReady reserve w
turned-ready reserve c v w is h =
    let k = size_law_holds c v h.sized in
    subst (IsReady reserve) (sym is)
    (record {
      reserved = omega (arith, h.reserved, k.count);
      channels = omega (arith, h.channels, k.count);
      deferring = omega (arith, h.deferring, turn-q c v);
      sized = k.sized;
    })

opens-none : (settings : Settings) (first now : ℕ) → (opening_turn settings first now).left.ring ≡ []
opens-none settings first now =
    by_cond (λ (t : MachineTurn). t.left.ring ≡ []) settings.client _ _ (λ _. refl) (λ _. refl)

no-units : (us : List Numbered) → us ≡ [] → AllByRecursion (λ (u : Numbered). length u.octets ≤ UNIT_MAX) us
no-units us e = subst (AllByRecursion (λ (u : Numbered). length u.octets ≤ UNIT_MAX)) (sym e) tt

no-messages : (ms : List (List ℕ)) → ms ≡ [] → AllByRecursion (λ (m : List ℕ). length m ≤ MESSAGE_MAX) ms
no-messages ms e = subst (AllByRecursion (λ (m : List ℕ). length m ≤ MESSAGE_MAX)) (sym e) tt

pub reopened-ready : (reserve first now : ℕ) (v w : Inside) → w ≡ (reopening_turn first now v).left → IsReady reserve v
    → IsReady reserve w
reopened-ready reserve first now v w is h =
    subst (IsReady reserve) (sym is)
    (record {
      reserved = h.reserved;
      channels = h.channels;
      deferring = h.deferring;
      sized =
          record {
            units = no-units (opening_turn v.upper.machine.settings first now).left.ring
                (opens-none v.upper.machine.settings first now);
            messages = tt;
            together = h.sized.together;
            own = h.sized.own;
            peer = h.sized.peer;
            checksum = h.sized.checksum;
          };
    })

limits : (s : EndSettings) → in_limits s ≡ true → (s.channels ≤ CHANNELS_MAX) × (s.n_maxpacket ≤ UNIT_MESSAGES)
    × (s.q ≤ Q_MAX)
limits s h =
    let packet = nat_le 1 s.n_maxpacket && nat_le s.n_maxpacket UNIT_MESSAGES in
    let queue = nat_le 1 s.q && nat_le s.q Q_MAX in
    let time = nat_le T_SEQ_LOWEST s.t_seq && nat_le s.t_seq T_SEQ_MAX in
    let a = and_parts (nat_le 1 s.channels && nat_le s.channels CHANNELS_MAX) (packet && (queue && time)) h in
    let b = and_parts packet (queue && time) a.1 in
    let c = and_parts queue time b.1 in (
      leb-true s.channels CHANNELS_MAX (and_parts (nat_le 1 s.channels) (nat_le s.channels CHANNELS_MAX) a.0).1,
      leb-true s.n_maxpacket UNIT_MESSAGES (and_parts (nat_le 1 s.n_maxpacket) (nat_le s.n_maxpacket UNIT_MESSAGES)
          b.0).1,
      leb-true s.q Q_MAX (and_parts (nat_le 1 s.q) (nat_le s.q Q_MAX) c.0).1,
    )

-- settings with which an end can be opened
record Fit (s : EndSettings) : Type 0 where
  channels : s.channels ≤ CHANNELS_MAX
  together : s.n_maxpacket ≤ UNIT_MESSAGES
  q : s.q ≤ Q_MAX
  own : length s.addressing.own ≤ NAME_LENGTH
  peer : length s.addressing.peer ≤ NAME_LENGTH
  checksum : length s.checksum ≤ CHECKSUM_MAX

name-fits : (name : List ℕ) → is_name name ≡ true → length name ≤ NAME_LENGTH
name-fits name h =
    let a = and_parts (nat_lt 0 (length name)) (nat_le (length name) NAME_LENGTH && list_all is_character name) h in
    leb-true (length name) NAME_LENGTH (and_parts (nat_le (length name) NAME_LENGTH) (list_all is_character name) a.1).0

fits : (side : Side) (s : EndSettings) → are_fit side s ≡ true → Fit s
fits side s h =
    let a = and_parts (is_legal s.connection)
    (in_limits s && (is_addressing s.addressing && (nat_le (length s.checksum) CHECKSUM_MAX && has_versions side s))) h
    in
    let b = and_parts (in_limits s) (is_addressing s.addressing
    && (nat_le (length s.checksum) CHECKSUM_MAX && has_versions side s)) a.1 in
    let c = and_parts (is_addressing s.addressing) (nat_le (length s.checksum) CHECKSUM_MAX && has_versions side s) b.1
    in
    let d = and_parts (nat_le (length s.checksum) CHECKSUM_MAX) (has_versions side s) c.1 in
    let names = and_parts (nat_lt s.addressing.protocol 256) (is_name s.addressing.own && is_name s.addressing.peer) c.0
    in
    let both = and_parts (is_name s.addressing.own) (is_name s.addressing.peer) names.1 in
    record {
      channels = (limits s b.0).0;
      together = (limits s b.0).1;
      q = (limits s b.0).2;
      own = name-fits s.addressing.own both.0;
      peer = name-fits s.addressing.peer both.1;
      checksum = leb-true (length s.checksum) CHECKSUM_MAX d.0;
    }

role-short : (side : Side) (s : EndSettings) → length s.checksum ≤ CHECKSUM_MAX
    → length (checksum_of (session_of side s)) ≤ CHECKSUM_MAX
role-short Il s h = omega arith
role-short Fe s h = h

opened-none : (settings : Settings) (first now : ℕ) → ring_of (new_state settings first now) ≡ []
opened-none settings first now = opened-cases (λ x. ring_of x ≡ []) settings first now (λ _. refl) (λ _. refl)

pub opened-ready : (side : Side) (s : EndSettings) (first now : ℕ) (v : Inside) → are_fit side s ≡ true
    → LayersRepresent v (new_end side s first now)
    → IsReady (reserve_of s) v
opened-ready side s first now v fit h =
    let f = fits side s fit in
    let u = h.upper in
    record {
      reserved = omega (arith, u.count);
      channels = omega (arith, u.count, f.channels);
      deferring = omega (arith, ap (λ (r : Receiver). r.q) h.red, f.q);
      sized =
          record {
            units =
                no-units v.upper.machine.ring (ap (λ (m : View). m.ring) u.machine
                ∙ opened-none (connection_of side s) first now);
            messages = no-messages v.upper.waiting u.speaks.waits;
            together = omega (arith, u.max, f.together);
            own = omega (arith, ap (λ (t : SessionState). length t.addressing.own) u.speaks.state, f.own);
            peer = omega (arith, ap (λ (t : SessionState). length t.addressing.peer) u.speaks.state, f.peer);
            checksum =
                omega (
                  arith,
                  ap (λ (t : SessionState). length (checksum_of t.role)) u.speaks.state,
                  role-short side s f.checksum,
                );
          };
    }

-- Sends of which each is sure.

same-test : (k n : ℕ) → ◌≡◌ {A = ℕ} (if k == n then 1 else 0) (if n == k then 1 else 0)
same-test k n = grind (arith, nat_tests)

one-here : (k : ℕ) → 1 ≤ (if k == k then 1 else 0)
one-here k = grind (arith, nat_tests)

sure-one : (x : SentDatagram) (xs : List SentDatagram) (a m b : ChannelHistory) (went : Bool) → Sends went a x m
    → went ≡ true
    → ((m.failed_sends ≡ a.failed_sends) → b.failed_sends ≡ a.failed_sends) → b.failed_sends ≡ a.failed_sends
sure-one x xs a m b true s is rest = rest s.failed
sure-one x xs a m b false s is rest = absurd (false≢true is)

pub sure-all : (n : ℕ) (xs : List SentDatagram) (a b : ChannelHistory) → FoldsTo SendsOne a xs b
    → AllByRecursion (IsPlaced n) xs → ((k : ℕ) → sent_on k xs ≤ a.room k)
    → b.failed_sends ≡ a.failed_sends
sure-all n [] a b h placed room = ap (λ (t : ChannelHistory). t.failed_sends) (sym h)
sure-all n (x ∷ xs) a b (m, (went, s), rest) placed room =
    let one : 1 ≤ a.room x.0 = omega (arith, on-append x.0 (x ∷ []) xs, one-here x.0, room x.0) in
    sure-one x xs a m b went s (s.sure one placed.0.short)
    (λ same. sure-all n xs m b rest placed.1
    (λ k. omega (arith, room k, on-append k (x ∷ []) xs, same-test k x.0, s.left k)) ∙ same)

not-there : (n : ℕ) (x : SentDatagram) (k : ℕ) → IsPlaced n x → (k ≡ 0) ⊎ (n < k)
    → ◌≡◌ {A = ℕ} (if x.0 == k then 1 else 0) 0
not-there n x k h (inl none) = let apart : x.0 ≢ k = λ e. omega (arith, e, none, h.least) in grind (arith, nat_tests)
not-there n x k h (inr far) = let apart : x.0 ≢ k = λ e. omega (arith, e, far, h.most) in grind (arith, nat_tests)

none-outside : (n k : ℕ) (xs : List SentDatagram) → AllByRecursion (IsPlaced n) xs → (k ≡ 0) ⊎ (n < k)
    → sent_on k xs ≡ 0
none-outside n k [] h out = refl
none-outside n k (x ∷ xs) h out =
    let apart : ◌≡◌ {A = ℕ} (if x.0 == k then 1 else 0) 0 = not-there n x k h.0 out in
    omega (arith, on-append k (x ∷ []) xs, none-outside n k xs h.1 out, apart)

share-within : (n k each : ℕ) → 1 ≤ k → k ≤ n → n ≤ 4 → share_of (shares_of n each) k ≡ each
share-within n k each least most few = grind (arith, nat_tests)

within-by : (n k : ℕ) (xs : List SentDatagram) (a b : Bool) → nat_le 1 k ≡ a → nat_le k n ≡ b → n ≤ 4
    → AllByRecursion (IsPlaced n) xs → sent_on k xs ≤ 333
    → sent_on k xs ≤ share_of (shares_of n 333) k
within-by n k xs false b e f few h most =
    let none : k ≡ 0 = let low = leb-false 1 k e in omega (arith, low) in
    omega (arith, none-outside n k xs h (inl none))
within-by n k xs true false e f few h most = omega (arith, none-outside n k xs h (inr (leb-false k n f)))
within-by n k xs true true e f few h most =
    omega (arith, share-within n k 333 (leb-true 1 k e) (leb-true k n f) few, most)

within-shares : (n k : ℕ) (xs : List SentDatagram) → n ≤ 4 → AllByRecursion (IsPlaced n) xs → sent_on k xs ≤ 333
    → sent_on k xs ≤ share_of (shares_of n 333) k
within-shares n k xs few h most = within-by n k xs (nat_le 1 k) (nat_le k n) refl refl few h most

-- with room for whatever a call sends, and places set aside for it, no datagram is counted as unsent
pub loses-none : (c : Call) (reserve k : ℕ) (e v w : EndValue OutboxValue Global) → k ≡ (inside e).upper.count
    → seen_end v ≡ seen_end e
    → IsReady reserve (inside e) → IsBounded (inside v)
    → length (inside v).red.waiting ≤ (inside v).red.q
    → (channels_of v).shares ≡ shares_of k (each_aside k (channels_of e).out)
    → FoldsTo SendsOne (told_in (channels_of v)) (turn c (inside v)).sent (told_in (channels_of w))
    → has_room ((Q_MAX + 1) * reserve) RED_PDU_MAX (channels_of e).out.queue ≡ true
    → (channels_of w).out.unsent ≡ (channels_of e).out.unsent
loses-none c reserve k e v w is same ready bounded deferring aside sent room =
    let n = (inside e).upper.count in
    let xs = (turn c (inside v)).sent in
    let now_ready : IsReady reserve (inside v) = subst
    (λ (u : EndValue DatagramQueue Global). IsReady reserve (inside u)) (sym same) ready in
    let count : (inside v).upper.count ≡ n = ap (λ (u : EndValue DatagramQueue Global). (inside u).upper.count) same in
    let enough : has_room (most_on_channel * k) RED_PDU_MAX (channels_of e).out.queue ≡ true =
    subst (λ m. has_room m RED_PDU_MAX (channels_of e).out.queue ≡ true) (omega (arith, ready.reserved, is)) room in
    let set : (channels_of v).shares ≡ shares_of n 333 =
    aside ∙ ap (λ (b : Bool). shares_of k (if b then most_on_channel else 0)) enough ∙ ap (λ m. shares_of m 333) is in
    let placed : AllByRecursion (IsPlaced n) xs =
    subst (λ m. AllByRecursion (IsPlaced m) xs) count (size_law_holds c (inside v) now_ready.sized).placed in
    let most = load_law_holds c (inside v) bounded (omega (arith, deferring, now_ready.deferring)) in
    let kept : (channels_of w).out.unsent ≡ (channels_of v).out.unsent = sure-all n xs (told_in (channels_of v))
    (told_in (channels_of w)) sent placed
    (λ j. subst (λ (s : Shares). sent_on j xs ≤ share_of s j) (sym set)
    (within-shares n j xs ready.channels placed (most j))) in
    kept ∙ ap (λ (u : EndValue DatagramQueue Global). (channels_of u).unsent) same

-- the end is ready for the next call, once places were set aside for this one
pub ready-after : (c : Call) (reserve : ℕ) (e v w : EndValue OutboxValue Global) → seen_end v ≡ seen_end e
    → inside w ≡ (turn c (inside v)).left
    → IsReady reserve (inside e) → IsReady reserve (inside w)
ready-after c reserve e v w same left ready =
    turned-ready reserve c (inside e) (inside w)
    (left ∙ ap (λ (u : EndValue DatagramQueue Global). (turn c (inside u)).left) same) ready
