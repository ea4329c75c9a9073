-- The own time last confirmed never goes back in a call, and what is taken comes after a timeout check that passed.
use Rattle.stack_end.proofs.Words.{[], upper_turn, ap, arith, Bool, dialogue_of, false, Fields, turn_then, input_and_send_turn, up_turn, guard_turn, judge_turn, octets_units, if◌then◌else◌}
use Rattle.stack_end.proofs.Words.{Inside, inl, inr, Input, is_closed, is_over, judge_units, judge_part, Leaving, leave_turn, List, machine_turn, MachineTurn, None}
use Rattle.stack_end.proofs.Words.{note_request_turn, Ok, Option, pack_turn, pack_up_to_turn, Part, part_turn, parts_turn, parts_passed, input_turn, refl, rules, send_turn, session_turn, end_session_turn, Some, still}
use Rattle.stack_end.proofs.Words.{Closes, process_event, RedTick, subst, suc, sym, true, Turn, View, zero, ℕ, ◌++◌, ◌+◌, ◌<◌, ◌∙◌, ◌∷◌, ◌≡◌, ◌≢◌, ◌⊎◌, Err, Result, Datagram, can_pack}
use Rattle.std.specs.Prelude.{◌-◌, nat_le}
use Rattle.safe_machine.specs.Connections.{is_live}
use Rattle.safe_machine.specs.Decision.{as_client, by_connection, by_table, cts_step, distance}
use Rattle.safe_machine.specs.Deadlines.{beat_due}
use Rattle.safe_machine.specs.Made.{is_carrier_kind, leaving_body}
use Rattle.safe_machine.specs.Octets.{move_of as heard_move}
use Rattle.safe_machine.specs.TurnLaws.{turn as machine_move, units_of_move}
use Rattle.safe_machine.specs.Turns.{answer_ahead_turn, answer_early_turn, answer_next_turn, request_turn, both_confirmed, decision_turn, response_turn, count_pdu, guard_turn as machine_guard_turn, handed_units, leave_turn as machine_leave_turn}
use Rattle.safe_machine.specs.Turns.{move_past, reply_turn, mark_answered, resend_turn, sending_turn, send_unit_turn, has_room, still as machine_still, take_unit_turn, tick_turn as machine_tick_turn}
use Rattle.safe_machine.specs.Turns.{units_confirmed}
use Rattle.safe_machine.specs.declared.ConnectionState.{ConnectionState}
use Rattle.safe_machine.specs.declared.ConnectionState.TheVariants.{Closed, Down, RetrReq as Requesting, RetrRun, Start, Up}
use Rattle.safe_machine.specs.retrans.Units.{octets_of}
use Rattle.safe_pdu.specs.Pdu.{Pdu}
use Rattle.safe_pdu.specs.Places.{safe_seen}
use Rattle.safe_pdu.specs.declared.Kind.{Kind}
use Rattle.safe_pdu.specs.declared.Kind.TheVariants.{ConnReq, ConnResp, Data, DiscReq, Heartbeat, RetrData, RetrReq, RetrResp}
use Rattle.safe_pdu.specs.declared.SafeFault.{SafeFault}
use Rattle.safe_pdu.specs.declared.reasons.Detail.{Detail}
use Rattle.safe_pdu.specs.declared.reasons.Detail.TheVariants.{Limit, Unspecified}
use Rattle.safe_pdu.specs.declared.reasons.Reason.{Reason}
use Rattle.safe_pdu.specs.declared.reasons.Reason.TheVariants.{ProtocolError, Timeout, UnexpectedPdu}
use Rattle.stack_end.specs.Timely.{t_max_of, TimelyLaw, TurnTimely}
use Rattle.stack_end.specs.Turns.{arrival_turn, time_turn, tick_turn}
use Rattle.stack_end.proofs.Deliveries.{guards-none, part-taken, sends-none, ticks-none}

-- one machine after another: T_max stays, and what was less than T_max old at this time still is
record Ages (now : ℕ) (v w : View) : Type 0 where
  limit : w.settings.t_max ≡ v.settings.t_max
  stays : now - v.confirmed_at < v.settings.t_max → now - w.confirmed_at < w.settings.t_max

-- the time last confirmed stays, moves on, or becomes this time
stays-same : (c d m n now : ℕ) → d ≡ c → n ≡ m → now - c < m → now - d < n
stays-same c d m n now e f h = omega (arith, e, f, h)

stays-on : (c d k m n now : ℕ) → d ≡ c + k → n ≡ m → now - c < m → now - d < n
stays-on c d k m n now e f h = omega (arith, e, f, h)

stays-now : (c d m n now : ℕ) → d ≡ now → n ≡ m → now - c < m → now - d < n
stays-now c d m n now e f h = omega (arith, e, f, h)

ages-same : (now : ℕ) (v w : View) → w.settings.t_max ≡ v.settings.t_max → w.confirmed_at ≡ v.confirmed_at
    → Ages now v w
ages-same now v w e f =
    record { limit = e; stays = stays-same v.confirmed_at w.confirmed_at v.settings.t_max w.settings.t_max now f e }

ages-on : (now k : ℕ) (v w : View) → w.settings.t_max ≡ v.settings.t_max → w.confirmed_at ≡ v.confirmed_at + k
    → Ages now v w
ages-on now k v w e f =
    record { limit = e; stays = stays-on v.confirmed_at w.confirmed_at k v.settings.t_max w.settings.t_max now f e }

ages-now : (now : ℕ) (v w : View) → w.settings.t_max ≡ v.settings.t_max → w.confirmed_at ≡ now → Ages now v w
ages-now now v w e f =
    record { limit = e; stays = stays-now v.confirmed_at w.confirmed_at v.settings.t_max w.settings.t_max now f e }

then-ages : (now : ℕ) (u v w : View) → Ages now u v → Ages now v w → Ages now u w
then-ages now u v w a b = record { limit = b.limit ∙ a.limit; stays = λ h. b.stays (a.stays h) }

-- a choice between two turns
choice : {A : Type 0} (P : A → Type 0) (b : Bool) (x y : A) → P x → P y → P (if b then x else y)
choice P true x y h k = h
choice P false x y h k = k

-- leaving, the timeout check and the timers
abbrev Aged : ℕ → View → MachineTurn → Type 0
Aged now v t = Ages now v t.left

closed-ages : (now : ℕ) (v : View) (t : MachineTurn) (c : ConnectionState) → Aged now v t
    → Ages now v (record t.left { connection = c })
closed-ages now v t c h = record { limit = h.limit; stays = h.stays }

leaves-ages : (reason : Reason) (detail : Detail) (now : ℕ) (v : View)
    → Aged now v (machine_leave_turn reason detail now v)
leaves-ages reason detail now v =
    closed-ages now v (if is_live v.connection then sending_turn DiscReq (leaving_body reason detail) now v
    else machine_still v) Closed
    (choice (Aged now v) (is_live v.connection) (sending_turn DiscReq (leaving_body reason detail) now v)
    (machine_still v) (ages-same now v _ refl refl)
    (ages-same now v _ refl refl))

guards-ages : (now : ℕ) (v : View) → Aged now v (machine_guard_turn now v)
guards-ages now v =
    let over = machine_leave_turn Timeout Unspecified now v in
    let many = machine_leave_turn ProtocolError Limit now v in
    let rest = if nat_le v.settings.pdu_limit v.made then many else machine_still v in
    let same = ages-same now v v refl refl in
    choice (Aged now v) (is_live v.connection) (if nat_le (v.confirmed_at + v.settings.t_max) now then over else rest)
    (machine_still v)
    (choice (Aged now v) (nat_le (v.confirmed_at + v.settings.t_max) now) over rest
    (leaves-ages Timeout Unspecified now v)
    (choice (Aged now v) (nat_le v.settings.pdu_limit v.made) many (machine_still v)
    (leaves-ages ProtocolError Limit now v) same))
    same

ticks-ages : (now : ℕ) (v : View) → Aged now v (machine_tick_turn now v)
ticks-ages now v =
    let u = (machine_guard_turn now v).left in
    then-ages now v u _ (guards-ages now v)
    (choice (Aged now u) (beat_due now u) (sending_turn Heartbeat [] now u) (machine_still u)
    (ages-same now u _ refl refl) (ages-same now u _ refl refl))

-- an answer: units that are sent again change neither T_max nor the time last confirmed
resends-ages : (us : List (List ℕ)) (now : ℕ) (v : View) → Aged now v (resend_turn us now v)
resends-ages [] now v = ages-same now v _ refl refl
resends-ages (u ∷ us) now v =
    then-ages now v (count_pdu now v) _ (ages-same now v _ refl refl) (resends-ages us now (count_pdu now v))

replies-ages : (now : ℕ) (v : View) → Aged now v (reply_turn now v)
replies-ages now v =
    let u = (resend_turn (octets_of v.ring) now (count_pdu now v)).left in
    then-ages now v (count_pdu now v) _ (ages-same now v _ refl refl)
    (then-ages now (count_pdu now v) u _ (resends-ages (octets_of v.ring) now (count_pdu now v))
    (ages-same now u _ refl refl))

unit-ages : (p : Pdu) (now : ℕ) (v : View) → Aged now v (take_unit_turn p now v)
unit-ages p now v =
    let u = record v { since = v.since + 1 } in
    let said = sending_turn Heartbeat [] now u in
    let one = if nat_le v.settings.mwa u.since then said else machine_still u in
    choice (Aged now v) (is_carrier_kind p.kind) one (machine_still v)
    (choice (Aged now v) (nat_le v.settings.mwa u.since) said (machine_still u) (ages-same now v said.left refl refl)
    (ages-same now v u refl refl))
    (ages-same now v v refl refl)

ahead-ages : (p : Pdu) (now : ℕ) (v : View) → Aged now v (answer_ahead_turn p now v)
ahead-ages p now v =
    let u = mark_answered (distance v p) (units_confirmed p v) in then-ages now v u _ (ages-same now v u refl refl)
    (replies-ages now u)

next-ages : (p : Pdu) (now : ℕ) (v : View) → Aged now v (answer_next_turn p now v)
next-ages p now v =
    let u = move_past p 0 (mark_answered 0 (both_confirmed p v)) in
    then-ages now v u _ (ages-on now (cts_step v p) v u refl refl) (replies-ages now u)

early-ages : (p : Pdu) (now : ℕ) (v : View) → Aged now v (answer_early_turn p now v)
early-ages p now v =
    let t = answer_ahead_turn p now v in
    let u = (request_turn now t.left).left in
    grind (arith, ahead-ages, ages-same, then-ages)

-- each decision: of a client that waits for its answer, by the table, and by the state of the connection
client-ages : (k : Kind) (p : Pdu) (now : ℕ) (v : View) → Aged now v (decision_turn p now (as_client v p now k) v)
client-ages ConnResp p now v = grind (arith, leaves-ages, ages-on)
client-ages ConnReq p now v = leaves-ages UnexpectedPdu Unspecified now v
client-ages RetrReq p now v = leaves-ages UnexpectedPdu Unspecified now v
client-ages RetrResp p now v = leaves-ages UnexpectedPdu Unspecified now v
client-ages DiscReq p now v = leaves-ages UnexpectedPdu Unspecified now v
client-ages Heartbeat p now v = leaves-ages UnexpectedPdu Unspecified now v
client-ages Data p now v = leaves-ages UnexpectedPdu Unspecified now v
client-ages RetrData p now v = leaves-ages UnexpectedPdu Unspecified now v

table-ages : (c : ConnectionState) (k : Kind) (p : Pdu) (now d : ℕ) (v : View) → v.connection ≡ c → p.kind ≡ k
    → Aged now v (decision_turn p now (by_table v p now d) v)
table-ages Closed k p now d v e f = grind (arith, ages-same)
table-ages Down k p now d v e f = grind (arith, ages-same)
table-ages Start ConnReq p now d v e f = grind (arith, leaves-ages, unit-ages, ages-same, ages-on, then-ages)
table-ages Start ConnResp p now d v e f = grind (arith, leaves-ages, unit-ages, ages-same, ages-on, then-ages)
table-ages Start RetrReq p now d v e f = grind (arith, leaves-ages, early-ages, next-ages, ages-same)
table-ages Start RetrResp p now d v e f = grind (arith, leaves-ages, ages-same, ages-on)
table-ages Start DiscReq p now d v e f = grind (arith, leaves-ages, unit-ages, ages-same, ages-on, then-ages)
table-ages Start Heartbeat p now d v e f = grind (arith, leaves-ages, unit-ages, ages-same, ages-on, then-ages)
table-ages Start Data p now d v e f = grind (arith, leaves-ages, unit-ages, ages-same, ages-on, then-ages)
table-ages Start RetrData p now d v e f = grind (arith, leaves-ages, unit-ages, ages-same, ages-on, then-ages)
table-ages Up ConnReq p now d v e f = grind (arith, leaves-ages, unit-ages, ages-same, ages-on, then-ages)
table-ages Up ConnResp p now d v e f = grind (arith, leaves-ages, unit-ages, ages-same, ages-on, then-ages)
table-ages Up RetrReq p now d v e f = grind (arith, leaves-ages, early-ages, next-ages, ages-same)
table-ages Up RetrResp p now d v e f = grind (arith, leaves-ages, ages-same, ages-on)
table-ages Up DiscReq p now d v e f = grind (arith, leaves-ages, unit-ages, ages-same, ages-on, then-ages)
table-ages Up Heartbeat p now d v e f = grind (arith, leaves-ages, unit-ages, ages-same, ages-on, then-ages)
table-ages Up Data p now d v e f = grind (arith, leaves-ages, unit-ages, ages-same, ages-on, then-ages)
table-ages Up RetrData p now d v e f = grind (arith, leaves-ages, unit-ages, ages-same, ages-on, then-ages)
table-ages Requesting ConnReq p now d v e f = grind (arith, leaves-ages, unit-ages, ages-same, ages-on, then-ages)
table-ages Requesting ConnResp p now d v e f = grind (arith, leaves-ages, unit-ages, ages-same, ages-on, then-ages)
table-ages Requesting RetrReq p now d v e f = grind (arith, leaves-ages, early-ages, next-ages, ages-same)
table-ages Requesting RetrResp p now d v e f = grind (arith, leaves-ages, ages-same, ages-on)
table-ages Requesting DiscReq p now d v e f = grind (arith, leaves-ages, unit-ages, ages-same, ages-on, then-ages)
table-ages Requesting Heartbeat p now d v e f = grind (arith, leaves-ages, unit-ages, ages-same, ages-on, then-ages)
table-ages Requesting Data p now d v e f = grind (arith, leaves-ages, unit-ages, ages-same, ages-on, then-ages)
table-ages Requesting RetrData p now d v e f = grind (arith, leaves-ages, unit-ages, ages-same, ages-on, then-ages)
table-ages RetrRun ConnReq p now d v e f = grind (arith, leaves-ages, unit-ages, ages-same, ages-on, then-ages)
table-ages RetrRun ConnResp p now d v e f = grind (arith, leaves-ages, unit-ages, ages-same, ages-on, then-ages)
table-ages RetrRun RetrReq p now d v e f = grind (arith, leaves-ages, early-ages, next-ages, ages-same)
table-ages RetrRun RetrResp p now d v e f = grind (arith, leaves-ages, ages-same, ages-on)
table-ages RetrRun DiscReq p now d v e f = grind (arith, leaves-ages, unit-ages, ages-same, ages-on, then-ages)
table-ages RetrRun Heartbeat p now d v e f = grind (arith, leaves-ages, unit-ages, ages-same, ages-on, then-ages)
table-ages RetrRun Data p now d v e f = grind (arith, leaves-ages, unit-ages, ages-same, ages-on, then-ages)
table-ages RetrRun RetrData p now d v e f = grind (arith, leaves-ages, unit-ages, ages-same, ages-on, then-ages)

connection-ages : (c : ConnectionState) (k : Kind) (p : Pdu) (now : ℕ) (v : View) → v.connection ≡ c → p.kind ≡ k
    → Aged now v (decision_turn p now (by_connection v p now v.connection) v)
connection-ages Closed k p now v e f = grind (arith, ages-same)
connection-ages Down k p now v e f = grind (arith, ages-same, ages-now)
connection-ages Start k p now v e f = grind (arith, client-ages, table-ages, ages-same)
connection-ages Up k p now v e f = grind (arith, table-ages, ages-same)
connection-ages Requesting k p now v e f = grind (arith, table-ages, ages-same)
connection-ages RetrRun k p now v e f = grind (arith, table-ages, ages-same)

responds-ages : (p : Pdu) (now : ℕ) (v : View) → Aged now v (response_turn p now v)
responds-ages p now v =
    let h = connection-ages v.connection p.kind p now v refl refl in
    grind (arith, h, ages-same)

-- bytes that come
read-ages : (read : Result Pdu SafeFault) (now : ℕ) (v : View) → Aged now v (machine_move (heard_move read now) v)
read-ages (Ok p) now v =
    let u = (machine_guard_turn now v).left in then-ages now v u _ (guards-ages now v) (responds-ages p now u)
read-ages (Err fault) now v = guards-ages now v

-- what is handed up comes after a timeout check that passed
hands-timely : (p : Pdu) (now : ℕ) (v : View) → handed_units p now v ≢ [] → now < v.confirmed_at + v.settings.t_max
hands-timely p now v = search rules

read-timely : (read : Result Pdu SafeFault) (now : ℕ) (v : View) → units_of_move (heard_move read now) v ≢ []
    → now < v.confirmed_at + v.settings.t_max
read-timely (Ok p) now v some = hands-timely p now v some
read-timely (Err fault) now v some = absurd (some refl)

-- a turn of anything that has a machine: the machine ages so, and what is taken is timely
record Tells {V : Type 0} (machine : V → View) (now : ℕ) (v : V) (t : Turn V) : Type 0 where
  taken : (t.taken ≡ []) ⊎ (now - (machine t.left).confirmed_at < (machine t.left).settings.t_max)
  ages : Ages now (machine v) (machine t.left)

both-taken : {A : Type 0} (xs ys : List A) (X Y : Type 0) → (xs ≡ []) ⊎ X → (ys ≡ []) ⊎ Y → (X → Y)
    → (xs ++ ys ≡ []) ⊎ Y
both-taken xs ys X Y (inl e) (inl f) k = inl (ap (λ zs. zs ++ ys) e ∙ f)
both-taken xs ys X Y (inl e) (inr y) k = inr y
both-taken xs ys X Y (inr x) r k = inr (k x)

then-tells : {V : Type 0} (machine : V → View) (now : ℕ) (v : V) (t : Turn V) (next : V → Turn V)
    → Tells machine now v t → Tells machine now t.left (next t.left)
    → Tells machine now v (turn_then t next)
then-tells machine now v t next h k =
    record {
      taken = both-taken t.taken (next t.left).taken _ _ h.taken k.taken k.ages.stays;
      ages = then-ages now (machine v) (machine t.left) _ h.ages k.ages;
    }

still-tells : {V : Type 0} (machine : V → View) (now : ℕ) (v : V) → Tells machine now v (still v)
still-tells machine now v = record { taken = inl refl; ages = ages-same now (machine v) (machine v) refl refl }

-- of the layers above the redundancy layer
abbrev machine_of : Fields → View
machine_of v = v.machine

abbrev below : Inside → View
below v = v.upper.machine

settles-machine : (v : Fields) → (end_session_turn v).left.machine ≡ v.machine
settles-machine v =
    choice (λ (t : Turn Fields). t.left.machine ≡ v.machine) (is_closed v.machine.connection)
    (session_turn (process_event Closes (dialogue_of v)) v) (still v) refl refl

leaves-up : (now : ℕ) (why : Option Leaving) (v : Fields) → Ages now v.machine (leave_turn now why v).left.machine
leaves-up now None v = ages-same now v.machine v.machine refl refl
leaves-up now (Some why) v = leaves-ages why.0 why.1 now v.machine

part-ages : (now : ℕ) (octets : List ℕ) (v : Fields) → Ages now v.machine (part_turn now octets v).left.machine
part-ages now octets v =
    let before = v.machine.connection in
    let why = (judge_part now octets v).leaving in
    let u = (turn_then (turn_then (judge_turn now octets v) (note_request_turn before octets)) (up_turn before)).left in
    let w = (leave_turn now why u).left in
    subst (λ (m : View). Ages now v.machine m) (sym (settles-machine w))
    (then-ages now v.machine u.machine w.machine (read-ages (safe_seen v.machine.settings.rule octets) now v.machine)
    (leaves-up now why u))

some-units : {X : Type 0} (x : X) (xs : List X) → (x ∷ xs) ≢ []
some-units x xs e = cc

before-part : (c m now : ℕ) → 0 < m → now < c + m → now - c < m
before-part c m now positive h = omega (arith, positive, h)

part-tells : (now : ℕ) (octets : List ℕ) (v : Fields) → 0 < v.machine.settings.t_max
    → Tells machine_of now v (part_turn now octets v)
part-tells now octets v positive =
    record { taken = by-units (octets_units octets now v.machine) refl; ages = part-ages now octets v }
  where
    by-units : (us : List (List ℕ)) → octets_units octets now v.machine ≡ us
        → ((part_turn now octets v).taken ≡ []) ⊎
        (now - (part_turn now octets v).left.machine.confirmed_at
        < (part_turn now octets v).left.machine.settings.t_max)
    by-units [] e = inl (part-taken now octets v ∙ ap (λ us. (judge_units us (dialogue_of v)).left.history.taken) e)
    by-units (u ∷ us) e =
        inr ((part-ages now octets v).stays
        (before-part v.machine.confirmed_at v.machine.settings.t_max now positive
        (read-timely (safe_seen v.machine.settings.rule octets) now v.machine
        (λ none. some-units u us (sym e ∙ none)))))

parts-tells : (now : ℕ) (ps : List Part) (v : Fields) → 0 < v.machine.settings.t_max
    → Tells machine_of now v (parts_turn now ps v)
parts-tells now [] v positive = still-tells machine_of now v
parts-tells now (p ∷ ps) v positive =
    let one = part-tells now p.1 v positive in
    then-tells machine_of now v (part_turn now p.1 v) (parts_turn now ps) one
    (parts-tells now ps (part_turn now p.1 v).left (subst (λ n. 0 < n) (sym one.ages.limit) positive))

packs-ages : (now : ℕ) (v : Fields) → Ages now v.machine (pack_turn now v).left.machine
packs-ages now v =
    choice (Aged now v.machine) (has_room v.machine) (send_unit_turn _ now v.machine) (machine_still v.machine)
    (ages-same now v.machine _ refl refl)
    (ages-same now v.machine _ refl refl)

up-to-ages : (n now : ℕ) (v : Fields) → Ages now v.machine (pack_up_to_turn n now v).left.machine
up-to-ages zero now v = ages-same now v.machine v.machine refl refl
up-to-ages (suc n) now v =
    choice (λ (t : Turn Fields). Ages now v.machine t.left.machine) (can_pack v)
    (turn_then (pack_turn now v) (pack_up_to_turn n now)) (still v)
    (then-ages now v.machine (pack_turn now v).left.machine _ (packs-ages now v)
    (up-to-ages n now (pack_turn now v).left))
    (ages-same now v.machine v.machine refl refl)

sends-tells : (now : ℕ) (v : Fields) → Tells machine_of now v (send_turn now v)
sends-tells now v = record { taken = inl (sends-none now v); ages = up-to-ages _ now v }

guards-tells : (now : ℕ) (v : Fields) → Tells machine_of now v (guard_turn now v)
guards-tells now v =
    let t = machine_turn (machine_guard_turn now v.machine) v in
    record {
      taken = inl (guards-none now v);
      ages = subst (λ (m : View). Ages now v.machine m) (sym (settles-machine t.left)) (guards-ages now v.machine);
    }

ticks-tells : (now : ℕ) (v : Fields) → Tells machine_of now v (tick_turn now v)
ticks-tells now v =
    let t = machine_turn (machine_tick_turn now v.machine) v in
    record {
      taken = inl (ticks-none now v);
      ages = subst (λ (m : View). Ages now v.machine m) (sym (settles-machine t.left)) (ticks-ages now v.machine);
    }

-- of all layers
above-tells : (now : ℕ) (next : Fields → Turn Fields) (v : Inside) → Tells machine_of now v.upper (next v.upper)
    → Tells below now v (upper_turn next v)
above-tells now next v h = record { taken = h.taken; ages = h.ages }

goes_on-tells : (now : ℕ) (i : Input) (v : Inside) → 0 < t_max_of v → Tells below now v (input_and_send_turn now i v)
goes_on-tells now i v positive =
    let h = parts-tells now (parts_passed i v.red) v.upper positive in
    let u = (input_turn now i v).left in
    choice (Tells below now v) (is_over v) (still v) (turn_then (input_turn now i v) (upper_turn (send_turn now)))
    (still-tells below now v)
    (then-tells below now v (input_turn now i v) (upper_turn (send_turn now)) record { taken = h.taken; ages = h.ages }
    (above-tells now (send_turn now) u (sends-tells now u.upper)))

first-tells : (now : ℕ) (i : Input) (next : Fields → Turn Fields) (v : Inside) → 0 < t_max_of v
    → Tells machine_of now v.upper (next v.upper)
    → Tells below now v (if is_over v then still v else turn_then (upper_turn next v) (input_and_send_turn now i))
first-tells now i next v positive h =
    let w = (upper_turn next v).left in
    choice (Tells below now v) (is_over v) (still v) (turn_then (upper_turn next v) (input_and_send_turn now i))
    (still-tells below now v)
    (then-tells below now v (upper_turn next v) (input_and_send_turn now i) (above-tells now next v h)
    (goes_on-tells now i w (subst (λ n. 0 < n) (sym h.ages.limit) positive)))

turn-timely : (now : ℕ) (v : Inside) (t : Turn Inside) → Tells below now v t → TurnTimely now v t
turn-timely now v t h = record { taken = h.taken; stays = h.ages.stays; limit = h.ages.limit }

pub timely_law_holds : TimelyLaw
timely_law_holds now octets v positive = (
  turn-timely now v (arrival_turn now octets v)
      (first-tells now (Datagram octets now) (guard_turn now) v positive (guards-tells now v.upper)),
  turn-timely now v (time_turn now v) (first-tells now (RedTick now) (tick_turn now) v positive
      (ticks-tells now v.upper)),
)
