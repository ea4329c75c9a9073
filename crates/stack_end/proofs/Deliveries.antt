-- Messages that go out in units, unit by unit, and what an arrival and a tick deliver.
use Rattle.stack_end.proofs.Words.{[], upper_turn, ap, append-nil, append_assoc, arith, arrival_turn, Bool, by_cond, can_pack, Closed, Closes, comes_up, Completes}
use Rattle.stack_end.proofs.Words.{init_done_turn, ConnectionState, Datagram, DatagramRecent, dialogue_of, Down, drop, false, Fields, FoldsTo, turn_then}
use Rattle.stack_end.proofs.Words.{input_and_send_turn, up_turn, guard_turn, has_room, HasProcessed, judge_turn, octets_units, if◌then◌else◌, inl, Input, inr, Inside, is_closed, is_nil}
use Rattle.stack_end.proofs.Words.{is_none, is_over, Item, judge_units, judge_part, leave_turn, Leaving, length, List, machine_still, process_event, None, not}
use Rattle.stack_end.proofs.Words.{note_request_turn, Option, pack_turn, pack_once_turn, pack_up_to_turn, Part, part_turn, parts_turn, parts_passed, time_turn, PutOut, Puts, put_turn, input_turn, RedTick}
use Rattle.stack_end.proofs.Words.{refl, RetrReq, RetrRun, bring_up, send_turn, session_turn, end_session_turn, Some, Start, still, subst, suc, sym, take, TakesPart, texts}
use Rattle.stack_end.proofs.Words.{TickRecent, ChannelHistory, true, true≢false, Turn, unit_text, Up, CarriesOutAlone, zero, ℕ, ◌&&◌, ◌++◌, ◌+◌, ◌<◌, ◌∙◌, ◌∷◌, ◌≡◌, ◌≢◌, ◌≤◌}
use Rattle.stack_end.proofs.Words.{◌⊎◌}
use Rattle.pdi_session.specs.packing.UnitText.{UnitText}
use Rattle.pdi_session.specs.Telegrams.{telegram}
use Rattle.pdi_session.specs.declared.PutFault.{PutFault}
use Rattle.safe_machine.proofs.code.Properties.{recent_law_holds}
use Rattle.safe_machine.specs.Connections.{in_turn}
use Rattle.safe_machine.specs.Turns.{send_unit_turn}
use Rattle.safe_machine.specs.Turns.{guard_turn as machine_guard_turn, tick_turn as machine_tick_turn}
use Rattle.stack_end.proofs.Words.{machine_turn}
use Rattle.stack_end.specs.Reception.{StaysOpen}
use Rattle.stack_end.specs.Outstanding.{each, GoesOut, put_message, units_in}
use Rattle.stack_end.specs.Recent.{InputRecent, RecentAt, TakesRecent}
use Rattle.stack_end.specs.Turns.{count_accepted, closing_departure, departure_turn, put_answer, tick_turn}
use Rattle.stack_end.specs.Certain.{items_in_units}
use Rattle.pdi_session.specs.TelegramCounts.{items_in_unit}
use Rattle.std.specs.Borrow.{Bor}
use Rattle.std.specs.Prelude.{option_map, slice_get}
use Rattle.std.proofs.Common.{map}
use Rattle.std.proofs.lemmas.Bool.{and_parts}
use Rattle.std.proofs.lemmas.List.Concat.{flat_map-append}
use Rattle.std.specs.List.{flat_map}
use Rattle.std.specs.Prelude.{nat_lt}

map-append : {X Y : Type 0} (f : X → Y) (xs ys : List X) → map f (xs ++ ys) ≡ map f xs ++ map f ys
map-append f [] ys = refl
map-append f (x ∷ xs) ys = ap (λ l. f x ∷ l) (map-append f xs ys)

take-drop : {X : Type 0} (n : ℕ) (xs : List X) → take n xs ++ drop n xs ≡ xs
take-drop zero xs = refl
take-drop (suc n) [] = refl
take-drop (suc n) (x ∷ xs) = ap (λ l. x ∷ l) (take-drop n xs)

-- nothing goes out
pub goes-none : (v : Fields) → GoesOut v v.waiting v
goes-none v = record { units = []; unconfirmed = sym (append-nil (units_in v.machine)); messages = refl }

pub each-append : {N : Type 0} (xs ys : List N) (f : N → List ℕ) → each (xs ++ ys) f ≡ each xs f ++ each ys f
each-append xs ys f = map-append f xs ys

-- one unit goes out
pub goes-one : (v w : Fields) (n : ℕ) (octets : List ℕ) → octets ≡ unit_text (take n v.waiting)
    → w.waiting ≡ drop n v.waiting
    → units_in w.machine ≡ units_in v.machine ++ octets ∷ [] → GoesOut v v.waiting w
goes-one v w n octets e left ring =
    record {
      units = take n v.waiting ∷ [];
      unconfirmed = ring ∙ ap (λ o. units_in v.machine ++ o ∷ []) e;
      messages = ap (λ ms. ms ++ w.waiting) (append-nil (take n v.waiting))
          ∙ (ap (λ ws. take n v.waiting ++ ws) left ∙ take-drop n v.waiting);
    }

-- one step after the other
pub goes-then : (u v w : Fields) (waited : List (List ℕ)) → GoesOut u waited v → GoesOut v v.waiting w
    → GoesOut u waited w
goes-then u v w waited h k =
    record {
      units = h.units ++ k.units;
      unconfirmed =
          k.unconfirmed
          ∙ (ap (λ us. us ++ map unit_text k.units) h.unconfirmed
          ∙ (append_assoc (units_in u.machine) (map unit_text h.units) (map unit_text k.units)
          ∙ ap (λ us. units_in u.machine ++ us) (sym (map-append unit_text h.units k.units))));
      messages =
          ap (λ ms. ms ++ w.waiting) (flat_map-append (λ m. m) h.units k.units)
          ∙ (append_assoc (flat_map (λ m. m) h.units) (flat_map (λ m. m) k.units) w.waiting
          ∙ (ap (λ ms. flat_map (λ m. m) h.units ++ ms) k.messages ∙ h.messages));
    }

some-nil : (w : List (List ℕ)) (n : ℕ) → 0 < length (take n w) → is_nil w ≡ false
some-nil [] zero h = absurd (omega (arith, h))
some-nil [] (suc n) h = absurd (omega (arith, h))
some-nil (m ∷ w) n h = refl

-- a unit was packed, and the machine may send
pub can-pack : (v : Fields) (n : ℕ) (octets : List ℕ) → has_room v.machine ≡ true → UnitText (take n v.waiting) octets
    → can_pack v ≡ true
can-pack v n octets may t = ap (λ b. not b && has_room v.machine) (some-nil v.waiting n t.some) ∙ may

pub once-packs : (now : ℕ) (v : Fields) (a : ChannelHistory) (w : Fields) (b : ChannelHistory) → can_pack v ≡ true
    → CarriesOutAlone (pack_turn now v) a w b
    → CarriesOutAlone (pack_once_turn now v) a w b
once-packs now v a w b can h = subst (λ q. CarriesOutAlone (if q then pack_turn now v else still v) a w b) (sym can) h

drop-less : (k n : ℕ) (w : List (List ℕ)) → 1 ≤ k → length w ≤ suc n → length (drop k w) ≤ n
drop-less zero n w h l = absurd (omega (arith, h))
drop-less (suc k) n [] h l = omega arith
drop-less (suc k) n (m ∷ w) h l = let d = drop-short k w in omega (arith, d, l)
  where
    drop-short : (k : ℕ) (w : List (List ℕ)) → length (drop k w) ≤ length w
    drop-short zero w = omega arith
    drop-short (suc k) [] = omega arith
    drop-short (suc k) (m ∷ w) = let d = drop-short k w in omega (arith, d)

none-nil : (w : List (List ℕ)) → length w ≤ 0 → is_nil w ≡ true
none-nil [] h = refl
none-nil (m ∷ w) h = absurd (omega (arith, h))

none-packs : (v : Fields) → length v.waiting ≤ 0 → can_pack v ≡ false
none-packs v h = ap (λ b. not b && has_room v.machine) (none-nil v.waiting h)

-- a turn after another
abbrev behind : Turn Fields → Turn Fields → Turn Fields
behind t u =
    record {
      left = u.left;
      sent = t.sent ++ u.sent;
      taken = t.taken ++ u.taken;
      made = t.made ++ u.made;
      units = t.units ++ u.units;
      talks = t.talks ++ u.talks;
    }

-- more turns than messages wait change nothing
fuel : (n m now : ℕ) (v : Fields) → 1 ≤ v.max → length v.waiting ≤ n → length v.waiting ≤ m
    → pack_up_to_turn n now v ≡ pack_up_to_turn m now v
fuel zero zero now v k a b = refl
fuel zero (suc m) now v k a b =
    sym (ap (λ t. if t then turn_then (pack_turn now v) (pack_up_to_turn m now) else still v) (none-packs v a))
fuel (suc n) zero now v k a b =
    ap (λ t. if t then turn_then (pack_turn now v) (pack_up_to_turn n now) else still v) (none-packs v b)
fuel (suc n) (suc m) now v k a b =
    ap (λ u. if can_pack v then behind (pack_turn now v) u else still v)
    (fuel n m now (pack_turn now v).left k (drop-less v.max n v.waiting k a) (drop-less v.max m v.waiting k b))

-- the first unit, and what follows
once : (b : Bool) (now : ℕ) (v : Fields)
    → (if b then turn_then (pack_turn now v) (send_turn now) else still v) ≡
    (if b then turn_then (if b then pack_turn now v else still v) (send_turn now)
    else (if b then pack_turn now v else still v))
once true now v = refl
once false now v = refl

sends-go : (n now : ℕ) (v : Fields) → 1 ≤ v.max → length v.waiting ≡ n
    → pack_up_to_turn n now v ≡ (if can_pack v then turn_then (pack_turn now v) (send_turn now) else still v)
sends-go zero now v k e =
    sym (ap (λ t. if t then turn_then (pack_turn now v) (send_turn now) else still v) (none-packs v (omega (arith, e))))
sends-go (suc n) now v k e =
    ap (λ u. if can_pack v then behind (pack_turn now v) u else still v)
    (fuel n (length (pack_turn now v).left.waiting) now (pack_turn now v).left k
    (drop-less v.max n v.waiting k (omega (arith, e))) (omega arith))

sends-step : (now : ℕ) (v : Fields) (b : Bool) → 1 ≤ v.max → b ≡ can_pack v
    → send_turn now v ≡ (if b then turn_then (pack_once_turn now v) (send_turn now) else pack_once_turn now v)
sends-step now v b k e =
    sends-go (length v.waiting) now v k refl
    ∙ (once (can_pack v) now v ∙ ap (λ (t : Bool). if t then turn_then (pack_once_turn now v) (send_turn now)
    else pack_once_turn now v) (sym e))

followed-assoc : (t : Turn Fields) (f g : Fields → Turn Fields)
    → turn_then t (λ v. turn_then (f v) g) ≡ turn_then (turn_then t f) g
followed-assoc t f g = λ i.
    record {
      left = (g (f t.left).left).left;
      sent = sym (append_assoc t.sent (f t.left).sent (g (f t.left).left).sent) i;
      taken = sym (append_assoc t.taken (f t.left).taken (g (f t.left).left).taken) i;
      made = sym (append_assoc t.made (f t.left).made (g (f t.left).left).made) i;
      units = sym (append_assoc t.units (f t.left).units (g (f t.left).left).units) i;
      talks = sym (append_assoc t.talks (f t.left).talks (g (f t.left).left).talks) i;
    }

-- one unit more after those that went out
pub sends-more : (now : ℕ) (t all : Turn Fields) (v : Fields) (p b : Bool) → 1 ≤ v.max → v ≡ t.left → p ≡ true
    → b ≡ can_pack v
    → all ≡ (if p then turn_then t (send_turn now) else t)
    → all ≡ (if b then turn_then (turn_then t (pack_once_turn now)) (send_turn now)
    else turn_then t (pack_once_turn now))
sends-more now t all v p b k is going e so_far =
    let here : all ≡ behind t (send_turn now v) = so_far
    ∙ (ap (λ q. if q then turn_then t (send_turn now) else t) going ∙ ap (λ w. behind t (send_turn now w)) (sym is))
    in
    let step = here ∙ ap (behind t) (sends-step now v b k e) in
    last b (subst (λ w. all ≡ behind t (if b then turn_then (pack_once_turn now w) (send_turn now)
    else pack_once_turn now w)) is step)
  where
    last : (b : Bool) → all ≡ behind t (if b then turn_then (pack_once_turn now t.left) (send_turn now)
        else pack_once_turn now t.left)
        → all ≡ (if b then turn_then (turn_then t (pack_once_turn now)) (send_turn now)
        else turn_then t (pack_once_turn now))
    last true h = h ∙ followed-assoc t (pack_once_turn now) (send_turn now)
    last false h = h

-- a turn takes a message out, or is the last
pub turn-fewer : (old new : ℕ) (p b : Bool) → p ≡ true → new + (if b then 1 else 0) ≤ old
    → new + (if b then 1 else 0) < old + (if p then 1 else 0)
turn-fewer old new p b e h =
    subst (λ (q : Bool). new + (if b then 1 else 0) < old + (if q then 1 else 0)) (sym e) (omega (arith, h))

-- nothing waits then, or the machine may not send
up_to-empties : (n now : ℕ) (v : Fields) → 1 ≤ v.max → length v.waiting ≤ n
    → can_pack (pack_up_to_turn n now v).left ≡ false
up_to-empties zero now v k h = none-packs v h
up_to-empties (suc n) now v k h =
    by_cond (λ (t : Turn Fields). can_pack t.left ≡ false) (can_pack v)
    (turn_then (pack_turn now v) (pack_up_to_turn n now)) (still v)
    (λ _. up_to-empties n now (pack_turn now v).left k (drop-less v.max n v.waiting k h)) (λ e. e)

pub sends-empties : (now : ℕ) (v : Fields) → 1 ≤ v.max → can_pack (send_turn now v).left ≡ false
sends-empties now v k = up_to-empties (length v.waiting) now v k (omega arith)

pub puts-empties : (kind : ℕ) (payload : List ℕ) (now : ℕ) (v : Fields) → 1 ≤ v.max
    → can_pack (put_turn kind payload now v).left ≡ false
puts-empties kind payload now v k =
    let d = process_event (Puts kind payload (length v.waiting)) (dialogue_of v) in
    sends-empties now (session_turn d (count_accepted d v)).left k

pub completes-empties : (now : ℕ) (v : Fields) → 1 ≤ v.max → can_pack (init_done_turn now v).left ≡ false
completes-empties now v k =
    sends-empties now (session_turn (process_event (Completes (length v.waiting)) (dialogue_of v)) v).left k

-- no message is let go
packs-out : (now : ℕ) (v : Fields) → can_pack v ≡ true → GoesOut v v.waiting (pack_turn now v).left
packs-out now v can =
    let unit = unit_text (take v.max v.waiting) in
    let may : has_room v.machine ≡ true = (and_parts (not (is_nil v.waiting)) (has_room v.machine) can).1 in
    let ring : units_in (pack_turn now v).left.machine ≡ units_in v.machine ++ unit ∷ [] =
    ap (λ (b : Bool). units_in (if b then send_unit_turn unit now v.machine else machine_still v.machine).left) may
    ∙ each-append v.machine.ring _ (λ u. u.octets) in
    goes-one v (pack_turn now v).left v.max unit refl refl ring

up_to-out : (n now : ℕ) (v : Fields) → GoesOut v v.waiting (pack_up_to_turn n now v).left
up_to-out zero now v = goes-none v
up_to-out (suc n) now v =
    let next = (pack_turn now v).left in
    by_cond (λ (t : Turn Fields). GoesOut v v.waiting t.left) (can_pack v)
    (turn_then (pack_turn now v) (pack_up_to_turn n now)) (still v)
    (λ e. goes-then v next (pack_up_to_turn n now next).left v.waiting (packs-out now v e) (up_to-out n now next))
    (λ _. goes-none v)

-- a telegram that is put goes out, or waits last
pub puts-out : (kind : ℕ) (payload : List ℕ) (now : ℕ) (v : Fields) → put_answer kind payload v ≡ None
    → PutOut kind payload v (put_turn kind payload now v).left
puts-out kind payload now v accepted =
    let d = process_event (Puts kind payload (length v.waiting)) (dialogue_of v) in
    let w = (session_turn d (count_accepted d v)).left in
    let out = up_to-out (length w.waiting) now w in
    let one = telegram v.session.addressing kind payload in
    let waits : w.waiting ≡ v.waiting ++ put_message v.session.addressing kind payload ∷ [] =
    ap (λ (r : Option PutFault). v.waiting ++ texts (if is_none r then one ∷ [] else [])) accepted in
    record { units = out.units; unconfirmed = out.unconfirmed; messages = out.messages ∙ waits }

-- what holds of both turns holds of either
either : {V : Type 0} (P : Turn V → Type 0) (b : Bool) (t u : Turn V) → P t → P u → P (if b then t else u)
either P true t u h k = h
either P false t u h k = k

settles-none : (v : Fields) → (end_session_turn v).taken ≡ []
settles-none v = either (λ t. t.taken ≡ []) (is_closed v.machine.connection)
    (session_turn (process_event Closes (dialogue_of v)) v) (still v) refl refl

leaves-none : (now : ℕ) (why : Option Leaving) (v : Fields) → (leave_turn now why v).taken ≡ []
leaves-none now None v = refl
leaves-none now (Some why) v = refl

rises-none : (b : Bool) (v : Fields) → (bring_up b (dialogue_of v)).history.taken ≡ []
rises-none true v = refl
rises-none false v = refl

up_to-none : (n now : ℕ) (v : Fields) → (pack_up_to_turn n now v).taken ≡ []
up_to-none zero now v = refl
up_to-none (suc n) now v =
    either (λ t. t.taken ≡ []) (can_pack v) (turn_then (pack_turn now v) (pack_up_to_turn n now)) (still v)
    (up_to-none n now (pack_turn now v).left) refl

pub sends-none : (now : ℕ) (v : Fields) → (send_turn now v).taken ≡ []
sends-none now v = up_to-none _ now v

-- what is taken at a part is what the session takes of its units
pub part-taken : (now : ℕ) (octets : List ℕ) (v : Fields)
    → (part_turn now octets v).taken ≡ (judge_part now octets v).left.history.taken
part-taken now octets v =
    let before = v.machine.connection in
    let why = (judge_part now octets v).leaving in
    let taken = (judge_part now octets v).left.history.taken in
    let t1 = turn_then (judge_turn now octets v) (note_request_turn before octets) in
    let t2 = turn_then t1 (up_turn before) in
    let t3 = turn_then t2 (leave_turn now why) in
    let up : t2.taken ≡ taken =
    ap (λ xs. (taken ++ []) ++ xs) (rises-none (comes_up before t1.left.machine.connection) t1.left)
    ∙ (append-nil (taken ++ []) ∙ append-nil taken) in
    let left : t3.taken ≡ taken = ap (λ xs. t2.taken ++ xs) (leaves-none now why t2.left)
    ∙ (append-nil t2.taken ∙ up) in
    append-nil (turn_then (turn_then t3 end_session_turn) (departure_turn (closing_departure now octets v))).taken
    ∙ append-nil (turn_then t3 end_session_turn).taken
    ∙ (ap (λ xs. t3.taken ++ xs) (settles-none t3.left) ∙ (append-nil t3.taken ∙ left))

-- steps along two lists
split : {S A : Type 0} (R : S → A → S → Type 0) (xs ys : List A) (s t : S) → FoldsTo R s (xs ++ ys) t
    → (mid : S) × FoldsTo R s xs mid × FoldsTo R mid ys t
split R [] ys s t h = (s, refl, h)
split R (x ∷ xs) ys s t (next, first, rest) =
    let k = split R xs ys next t rest in
    (k.0, (next, first, k.1), k.2)

some-none : {X : Type 0} (x : X) (xs : List X) → (x ∷ xs) ≢ []
some-none x xs e = cc

-- At a part nothing is taken, or the part is recent.
part-recent : (now : ℕ) (octets : List ℕ) (v : Fields) → ((part_turn now octets v).taken ≡ []) ⊎ RecentAt now octets v
part-recent now octets v = by-units (octets_units octets now v.machine) refl
  where
    by-units : (us : List (List ℕ)) → octets_units octets now v.machine ≡ us
        → ((part_turn now octets v).taken ≡ []) ⊎ RecentAt now octets v
    by-units [] e = inl (part-taken now octets v ∙ ap (λ us. (judge_units us (dialogue_of v)).left.history.taken) e)
    by-units (u ∷ us) e = inr (recent_law_holds octets now v.machine (λ none. some-none u us (sym e ∙ none)))

parts-recent : {T : Type 0} (takes : T → Item → T → Type 0) (now : ℕ) (ps : List Part) (v : Fields) (t u : T)
    → FoldsTo takes t (parts_turn now ps v).taken u
    → TakesRecent takes now ps v t u
parts-recent takes now [] v t u h = h
parts-recent takes now (p ∷ ps) v t u h =
    let one = part_turn now p.1 v in
    let k = split takes one.taken (parts_turn now ps one.left).taken t u h in
    (k.0, k.1, part-recent now p.1 v, parts-recent takes now ps one.left k.0 u k.2)

-- after it
input-recent : {T : Type 0} (takes : T → Item → T → Type 0) (now : ℕ) (i : Input) (v : Inside) (t u : T)
    → FoldsTo takes t (input_and_send_turn now i v).taken u
    → InputRecent takes now i v t u
input-recent {T} takes now i v t u h = (
  λ over. subst (λ b. FoldsTo takes t (if b then still v else all).taken u) over h,
  λ live. parts-recent takes now (parts_passed i v.red) v.upper t u
      (gone (subst (λ b. FoldsTo takes t (if b then still v else all).taken u) live h)),
)
  where
    all : Turn Inside
    all = turn_then (input_turn now i v) (upper_turn (send_turn now))

    gone : FoldsTo takes t all.taken u → FoldsTo takes t (parts_turn now (parts_passed i v.red) v.upper).taken u
    gone k =
        let first = (parts_turn now (parts_passed i v.red) v.upper).taken in
        subst (λ xs. FoldsTo takes t xs u) (ap (λ xs. first ++ xs) (sends-none now (input_turn now i v).left.upper)
        ∙ append-nil first) k

pub guards-none : (now : ℕ) (v : Fields) → (guard_turn now v).taken ≡ []
guards-none now v =
    let t = machine_turn (machine_guard_turn now v.machine) v in append-nil (end_session_turn t.left).taken
    ∙ settles-none t.left

pub ticks-none : (now : ℕ) (v : Fields) → (tick_turn now v).taken ≡ []
ticks-none now v =
    let t = machine_turn (machine_tick_turn now v.machine) v in append-nil (end_session_turn t.left).taken
    ∙ settles-none t.left

-- the machine first
first-recent : {T : Type 0} (takes : T → Item → T → Type 0) (now : ℕ) (i : Input) (next : Fields
    → Turn Fields) (v : Inside) (t u : T)
    → (next v.upper).taken ≡ []
    → FoldsTo takes t (if is_over v then still v else turn_then (upper_turn next v) (input_and_send_turn now i)).taken u
    → (is_over v ≡ true → t ≡ u) × (is_over v ≡ false → InputRecent takes now i (upper_turn next v).left t u)
first-recent takes now i next v t u none h =
    let all = turn_then (upper_turn next v) (input_and_send_turn now i) in (
      λ over. subst (λ b. FoldsTo takes t (if b then still v else all).taken u) over h,
      λ live. input-recent takes now i (upper_turn next v).left t u
          (subst (λ xs. FoldsTo takes t (xs ++ (input_and_send_turn now i (upper_turn next v).left).taken) u) none
          (subst (λ b. FoldsTo takes t (if b then still v else all).taken u) live h)),
    )

pub datagram-recent : {T : Type 0} (takes : T → Item → T → Type 0) (now : ℕ) (octets : List ℕ) (v : Inside) (t u : T)
    → FoldsTo takes t (arrival_turn now octets v).taken u → DatagramRecent takes now octets v t u
datagram-recent takes now octets v t u h =
    first-recent takes now (Datagram octets now) (guard_turn now) v t u (guards-none now v.upper) h

pub tick-recent : {T : Type 0} (takes : T → Item → T → Type 0) (now : ℕ) (v : Inside) (t u : T)
    → FoldsTo takes t (time_turn now v).taken u
    → TickRecent takes now v t u
tick-recent takes now v t u h = first-recent takes now (RedTick now) (tick_turn now) v t u (ticks-none now v.upper) h

-- an end that listens
listening : (now : ℕ) (octets : List ℕ) (v : Inside) → StaysOpen now v
    → arrival_turn now octets v ≡ turn_then (upper_turn (guard_turn now) v)
    (λ w. turn_then (input_turn now (Datagram octets now) w) (upper_turn (send_turn now)))
listening now octets v h =
    let i = Datagram octets now in
    let t = upper_turn (guard_turn now) v in
    let on = turn_then (input_turn now i t.left) (upper_turn (send_turn now)) in
    ap (λ b. if b then still v else turn_then t (input_and_send_turn now i)) h.before
    ∙ ap (λ b. turn_then t (λ w. if b then still w else turn_then (input_turn now i w) (upper_turn (send_turn now))))
    h.behind

pub has-heard : (now : ℕ) (octets : List ℕ) (v w : Inside) → w ≡ (arrival_turn now octets v).left
    → HasProcessed now octets v w
has-heard now octets v w e listens =
    ap (λ (q : Inside). q.red) e ∙ ap (λ (t : Turn Inside). t.left.red) (listening now octets v listens)

pub takes-part : {T : Type 0} (takes : T → Item → T → Type 0) (now : ℕ) (octets : List ℕ) (v : Inside) (t u : T)
    → FoldsTo takes t (arrival_turn now octets v).taken u → TakesPart takes now octets v t u
takes-part {T} takes now octets v t u h number upper listens passed =
    let i = Datagram octets now in
    let w = (upper_turn (guard_turn now) v).left in
    let first = (guard_turn now v.upper).taken in
    let rest = (send_turn now (input_turn now i w).left.upper).taken in
    let one = (part_turn now upper w.upper).taken in
    let all : (arrival_turn now octets v).taken ≡ (judge_part now upper w.upper).left.history.taken =
    ap (λ (q : Turn Inside). q.taken) (listening now octets v listens)
    ∙ (ap (λ xs. xs ++ ((parts_turn now (parts_passed i w.red) w.upper).taken ++ rest)) (guards-none now v.upper)
    ∙ (ap (λ xs. (parts_turn now (parts_passed i w.red) w.upper).taken ++ xs)
    (sends-none now (input_turn now i w).left.upper)
    ∙ (append-nil (parts_turn now (parts_passed i w.red) w.upper).taken
    ∙ (ap (λ ps. (parts_turn now ps w.upper).taken) passed ∙ (append-nil one ∙ part-taken now upper w.upper))))) in
    subst (λ xs. FoldsTo takes t xs u) all h

-- Nothing waits then, or the machine may not send.
settles-max : (v : Fields) → (end_session_turn v).left.max ≡ v.max
settles-max v = either (λ t. t.left.max ≡ v.max) (is_closed v.machine.connection)
    (session_turn (process_event Closes (dialogue_of v)) v) (still v) refl refl

leaves-max : (now : ℕ) (why : Option Leaving) (v : Fields) → (leave_turn now why v).left.max ≡ v.max
leaves-max now None v = refl
leaves-max now (Some why) v = refl

part-max : (now : ℕ) (octets : List ℕ) (v : Fields) → (part_turn now octets v).left.max ≡ v.max
part-max now octets v = settles-max _ ∙ leaves-max now (judge_part now octets v).leaving _

parts-max : (now : ℕ) (ps : List Part) (v : Fields) → (parts_turn now ps v).left.max ≡ v.max
parts-max now [] v = refl
parts-max now (p ∷ ps) v = parts-max now ps (part_turn now p.1 v).left ∙ part-max now p.1 v

closed-room : (c : ConnectionState) → is_closed c ≡ true → in_turn c ≡ false
closed-room Closed e = refl
closed-room Down e = refl
closed-room Start e = refl
closed-room Up e = absurd (true≢false (sym e))
closed-room RetrReq e = refl
closed-room RetrRun e = absurd (true≢false (sym e))

over-empty : (v : Inside) → is_over v ≡ true → can_pack v.upper ≡ false
over-empty v e = none (is_nil v.upper.waiting)
  where
    shut : has_room v.upper.machine ≡ false
    shut =
        ap (λ b. b && nat_lt (length v.upper.machine.ring) v.upper.machine.window)
        (closed-room v.upper.machine.connection e)

    none : (b : Bool) → (not b && has_room v.upper.machine) ≡ false
    none true = refl
    none false = shut

goes-empties : (now : ℕ) (i : Input) (v : Inside) → 1 ≤ v.upper.max
    → can_pack (input_and_send_turn now i v).left.upper ≡ false
goes-empties now i v k = by-over (is_over v) refl
  where
    some : 1 ≤ (input_turn now i v).left.upper.max
    some = subst (λ n. 1 ≤ n) (sym (parts-max now (parts_passed i v.red) v.upper)) k

    by-over : (b : Bool) → is_over v ≡ b → can_pack
        (if b then still v else turn_then (input_turn now i v) (upper_turn (send_turn now))).left.upper ≡ false
    by-over true e = over-empty v e
    by-over false e = sends-empties now (input_turn now i v).left.upper some

first-empties : (now : ℕ) (i : Input) (next : Fields → Turn Fields) (v : Inside) → (next v.upper).left.max ≡ v.upper.max
    → 1 ≤ v.upper.max
    → can_pack (if is_over v then still v else turn_then (upper_turn next v) (input_and_send_turn now i)).left.upper
    ≡ false
first-empties now i next v same k = by-over (is_over v) refl
  where
    by-over : (b : Bool) → is_over v ≡ b → can_pack
        (if b then still v else turn_then (upper_turn next v) (input_and_send_turn now i)).left.upper ≡ false
    by-over true e = over-empty v e
    by-over false e = goes-empties now i (upper_turn next v).left (subst (λ n. 1 ≤ n) (sym same) k)

pub arrives-empties : (now : ℕ) (octets : List ℕ) (v : Inside) → 1 ≤ v.upper.max
    → can_pack (arrival_turn now octets v).left.upper ≡ false
arrives-empties now octets v k = first-empties now (Datagram octets now) (guard_turn now) v (settles-max _) k

pub passes-empties : (now : ℕ) (v : Inside) → 1 ≤ v.upper.max → can_pack (time_turn now v).left.upper ≡ false
passes-empties now v k = first-empties now (RedTick now) (tick_turn now) v (settles-max _) k

drop-none : (n : ℕ) → drop {A = List ℕ} n [] ≡ []
drop-none zero = refl
drop-none (suc n) = refl

-- the unit at a place is counted, and then those after it
pub units-next : (us : List (List ℕ)) (place : ℕ) (o : Option (Bor (List ℕ))) (u : Bor (List ℕ))
    → option_map (λ octets. octets.now) o ≡ slice_get us place
    → o ≡ Some u → items_in_units (drop place us) ≡ items_in_unit u.now + items_in_units (drop (place + 1) us)
units-next us place o u h is = at us place (sym (ap (option_map (λ octets. octets.now)) is) ∙ h)
  where
    at : (us : List (List ℕ)) (place : ℕ) → Some u.now ≡ slice_get us place
        → items_in_units (drop place us) ≡ items_in_unit u.now + items_in_units (drop (place + 1) us)
    at [] place e = cc
    at (v ∷ vs) zero e = let same : u.now ≡ v = cc in ap (λ w. items_in_unit w + items_in_units vs) (sym same)
    at (v ∷ vs) (suc n) e = let more : suc n + 1 ≡ suc (n + 1) = omega arith in rw more (at vs n e)

pub units-past : (us : List (List ℕ)) (place : ℕ) → slice_get us place ≡ None
    → items_in_units (drop place us) ≡ items_in_units (drop (place + 1) us)
units-past [] place e = rw (drop-none place, drop-none (place + 1)) refl
units-past (v ∷ vs) zero e = cc
units-past (v ∷ vs) (suc n) e = let more : suc n + 1 ≡ suc (n + 1) = omega arith in rw more (units-past vs n e)
