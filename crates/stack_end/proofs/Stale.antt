-- An end that is not stale takes the next request of a peer that was just opened.
use Rattle.stack_end.proofs.Words.{[], upper_turn, ap, arith, Bool, ConnectionState, Datagram, Deliver, Down, false, Fields, turn_then, input_and_send_turn, guard_turn}
use Rattle.stack_end.proofs.Words.{has_room, Inside, is_nil, is_over, octets_units, List, machine_octets_turn, MachineTurn, not, Ok, pack_up_to_turn, Part, part_turn, parts_turn}
use Rattle.stack_end.proofs.Words.{parts_passed, Receiver, input_turn, red_after, refl, send_turn, Some, Start, still, subst, suc, sym, true, true≢false, Turn, turn}
use Rattle.stack_end.proofs.Words.{View, zero, ℕ, ◌&&◌, ◌∙◌, ◌∷◌, ◌≡◌, if◌then◌else◌, Option}
use Rattle.red_layer.specs.Begun.{has_begun}
use Rattle.red_layer.specs.Redundancy.{decoded, step_decoded as red_heard}
use Rattle.safe_pdu.specs.Pdu.{Pdu}
use Rattle.safe_pdu.specs.declared.Kind.TheVariants.{ConnReq}
use Rattle.safe_machine.specs.Connections.{is_closed}
use Rattle.safe_machine.specs.Decision.{is_foreign, is_ours}
use Rattle.safe_machine.specs.Octets.{move_of as heard_move}
use Rattle.safe_machine.specs.TurnLaws.{turn as machine_move, units_of_move}
use Rattle.safe_machine.specs.Made.{opening_body}
use Rattle.safe_machine.specs.Settings.{Settings}
use Rattle.safe_machine.specs.Turns.{acceptance_turn, arrival_turn as machine_arrives, handed_units, opening_turn, sending_turn}
use Rattle.safe_machine.specs.Turns.{still as machine_still, new_view}
use Rattle.end_settings.specs.EndSettings.{connection_of}
use Rattle.stack_end.specs.Stale.{HasTaken, TakesRequestLaw, FreshLaw, stale_in}
use Rattle.stack_end.proofs.Words.{dialogue_of, up_turn, judge_units, leave_turn, machine_turn, note_request_turn, pack_turn, session_turn, end_session_turn}
use Rattle.stack_end.specs.Turns.{closing_departure, departure_turn}
use Rattle.stack_end.specs.declared.departure.Departure.{Departure}
use Rattle.std.proofs.lemmas.Bool.{leb-false}
use Rattle.std.specs.Prelude.{nat_lt, ◌||◌}

-- A machine in Down accepts the request.
accepts-turn : (m : View) (p : Pdu) (now : ℕ) → m.connection ≡ Down → is_foreign m.settings p ≡ false → p.kind ≡ ConnReq
    → is_ours p.body ≡ true
    → machine_arrives p now m ≡ acceptance_turn p now m
accepts-turn m p now down known request ours = rw (down, known, request, ours) refl

accepts-hands : (m : View) (p : Pdu) (now : ℕ) → m.connection ≡ Down → is_foreign m.settings p ≡ false
    → p.kind ≡ ConnReq → is_ours p.body ≡ true
    → handed_units p now m ≡ []
accepts-hands m p now down known request ours = rw (down, known, request, ours) refl

-- the part of the request
record Accepted (upper : List ℕ) (p : Pdu) (now : ℕ) (u w : Fields) : Type 0 where
  machine : w.machine ≡ (acceptance_turn p now u.machine).left
  request : w.request ≡ Some upper

-- a part from its state before, the machine's turn, the units delivered and the cause of a departure
abbrev part-by : ConnectionState → MachineTurn → List (List ℕ) → Option Departure → ℕ → List ℕ → Fields → Turn Fields
part-by before t units cause now octets u =
    let j = judge_units units (dialogue_of u) in
    turn_then
    (turn_then (turn_then (turn_then (turn_then (turn_then (machine_turn t u) (session_turn j.left))
    (note_request_turn before octets)) (up_turn before)) (leave_turn now j.leaving))
    end_session_turn)
    (departure_turn cause)

part-accepts : (upper : List ℕ) (p : Pdu) (now : ℕ) (u : Fields) → u.machine.connection ≡ Down
    → machine_octets_turn upper now u.machine ≡ acceptance_turn p now u.machine
    → octets_units upper now u.machine ≡ []
    → Accepted upper p now u (part_turn now upper u).left
part-accepts upper p now u down turns none =
    let t = machine_octets_turn upper now u.machine in
    let us = octets_units upper now u.machine in
    let cause = closing_departure now upper u in
    let a = acceptance_turn p now u.machine in
    record {
      machine =
          ap (λ b. (part-by b t us cause now upper u).left.machine) down
          ∙ (ap (λ (q : MachineTurn). (part-by Down q us cause now upper u).left.machine) turns
          ∙ ap (λ qs. (part-by Down a qs cause now upper u).left.machine) none);
      request =
          ap (λ b. (part-by b t us cause now upper u).left.request) down
          ∙ (ap (λ (q : MachineTurn). (part-by Down q us cause now upper u).left.request) turns
          ∙ ap (λ qs. (part-by Down a qs cause now upper u).left.request) none);
    }

-- an end in Start packs nothing
packs-none : (n now : ℕ) (w : Fields) → has_room w.machine ≡ false → (pack_up_to_turn n now w).left ≡ w
packs-none zero now w shut = refl
packs-none (suc n) now w shut =
    ap (λ (b : Bool). (if b then turn_then (pack_turn now w) (pack_up_to_turn n now) else still w).left)
    (none (is_nil w.waiting) shut)
  where
    none : (nil : Bool) {b : Bool} → b ≡ false → (not nil && b) ≡ false
    none true h = refl
    none false h = h

-- the redundancy layer passes number 0 up
none-waits : (r : Receiver) → has_begun r ≡ false → is_nil r.waiting ≡ true
none-waits r h = both (nat_lt 0 r.expected) (is_nil r.waiting) h
  where
    both : (a b : Bool) → (a || not b) ≡ false → b ≡ true
    both true b h = absurd (true≢false h)
    both false true h = refl
    both false false h = absurd (true≢false h)

expects-first : (r : Receiver) → has_begun r ≡ false → r.expected ≡ 0
expects-first r h = zero-of r.expected (first (nat_lt 0 r.expected) (is_nil r.waiting) h)
  where
    first : (a b : Bool) → (a || not b) ≡ false → a ≡ false
    first true b h = absurd (true≢false h)
    first false b h = refl

    zero-of : (n : ℕ) → nat_lt 0 n ≡ false → n ≡ 0
    zero-of n h = let k = leb-false 1 n h in omega (arith, k)

nil-of : (ps : List Part) → is_nil ps ≡ true → ps ≡ []
nil-of [] h = refl
nil-of (p ∷ ps) h = absurd (true≢false (sym h))

-- a receiver that was just opened
fresh : Receiver → Receiver
fresh r = record r { expected = 0; waiting = [] }

is-fresh : (r : Receiver) → has_begun r ≡ false → r ≡ record r { expected = 0; waiting = [] }
is-fresh r h = ap (λ (n : ℕ). record r { expected = n }) (expects-first r h)
    ∙ ap (λ (ps : List Part). record r { expected = 0; waiting = ps }) (nil-of r.waiting (none-waits r h))

passes-first : (r : Receiver) (octets upper : List ℕ) (now : ℕ) → has_begun r ≡ false → decoded octets ≡ Ok (0, upper)
    → parts_passed (Datagram octets now) r ≡ (0, upper) ∷ []
passes-first r octets upper now h coded =
    ap (λ (s : Receiver). parts_passed (Datagram octets now) s) (is-fresh r h)
    ∙ ap (λ d. (red_heard now d (record r { expected = 0; waiting = [] })).passed) coded

expects-one : (r : Receiver) (octets upper : List ℕ) (now : ℕ) → has_begun r ≡ false → decoded octets ≡ Ok (0, upper)
    → (red_after (Datagram octets now) r).expected ≡ 1
expects-one r octets upper now h coded =
    ap (λ (s : Receiver). (red_after (Datagram octets now) s).expected) (is-fresh r h)
    ∙ ap (λ d. (red_heard now d (record r { expected = 0; waiting = [] })).left.expected) coded

-- the timeout check leaves what is in Down
guards-none : (now : ℕ) (v : Inside) → v.upper.machine.connection ≡ Down → (upper_turn (guard_turn now) v).left ≡ v
guards-none now v down = rw down refl

-- a stale end: what is not stale in Down has not begun
not-begun : (c : ConnectionState) (b : Bool) → stale_in c b ≡ false → c ≡ Down → b ≡ false
not-begun c b h down = subst (λ q. stale_in q b ≡ false) down h

pub takes_request_holds : TakesRequestLaw
takes_request_holds v channel now octets upper p fresh down r =
    let m = v.upper.machine in
    let begun = not-begun m.connection (has_begun v.red) fresh down in
    let hears : machine_octets_turn upper now m ≡ acceptance_turn p now m =
    ap (λ d. machine_move (heard_move d now) m) r.coded ∙ accepts-turn m p now down r.known r.request r.ours in
    let none : octets_units upper now m ≡ [] =
    ap (λ d. units_of_move (heard_move d now) m) r.coded ∙ accepts-hands m p now down r.known r.request r.ours in
    let taken = part-accepts upper p now v.upper down hears none in
    let i = Datagram octets now in
    let w : Inside = record { red = red_after i v.red; upper = (part_turn now upper v.upper).left } in
    let open-end : is_over v ≡ false = ap is_closed down in
    let received : (input_turn now i v).left ≡ w =
    ap (λ (ps : List Part). record { red = red_after i v.red; upper = (parts_turn now ps v.upper).left })
    (passes-first v.red octets upper now begun r.first) in
    let shut : has_room w.upper.machine ≡ false = ap has_room taken.machine in
    let sent : (upper_turn (send_turn now) w).left ≡ w = ap (λ (u : Fields). record { red = w.red; upper = u })
    (packs-none _ now w.upper shut) in
    let on : (input_and_send_turn now i v).left ≡ w =
    ap (λ (b : Bool). (if b then still v else turn_then (input_turn now i v) (upper_turn (send_turn now))).left)
    open-end
    ∙ (ap (λ (x : Inside). (upper_turn (send_turn now) x).left) received ∙ sent) in
    let all : (turn (Deliver channel octets now) v).left ≡ w =
    ap (λ (b : Bool). (if b then still v else turn_then (upper_turn (guard_turn now) v)
    (input_and_send_turn now i)).left) open-end
    ∙ (ap (λ (x : Inside). (input_and_send_turn now i x).left) (guards-none now v down) ∙ on) in
    subst (λ (x : Inside). HasTaken v upper p now x) (sym all)
    record {
      state = ap (λ (x : View). x.connection) taken.machine;
      machine = taken.machine;
      request = taken.request;
      expected = expects-one v.red octets upper now begun r.first;
    }

-- a newly opened end waits for the answer to its request, or for a request
opens-fresh : (settings : Settings) (first now : ℕ) → stale_in (opening_turn settings first now).left.connection false
    ≡ false
opens-fresh settings first now = by_client settings.client
  where
    by_client : (client : Bool) → stale_in
        (if client then sending_turn ConnReq (opening_body settings.n_sendmax) now (new_view settings first now Start)
        else machine_still
        (new_view settings first now Down)).left.connection
        false ≡ false
    by_client true = refl
    by_client false = refl

pub fresh_law_holds : FreshLaw
fresh_law_holds side settings first now v h =
    ap (λ (r : Receiver). stale_in v.upper.machine.connection (has_begun r)) h.red
    ∙ (ap (λ (m : View). stale_in m.connection false) h.upper.machine
    ∙ opens-fresh (connection_of side settings) first now)
