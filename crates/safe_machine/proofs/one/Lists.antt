-- Lists of PDUs made, and how single changes of a history affect its lists and its ring.
use Rattle.safe_machine.proofs.Words.{◌⊎◌, suc, zero, ◌≡◌, ℕ, ◌+◌, ◌-◌, ◌<◌, ◌≤◌, List, [], ◌∷◌, ◌++◌, length, take, drop, refl, sym, ap, subst, ◌∙◌}
use Rattle.safe_machine.proofs.Words.{arith, append_assoc, drop-drop, take-append-drop, length-drop, Kind, RetrResp, Data, RetrData, Made, units, first_sent}
use Rattle.safe_machine.proofs.Words.{after_pdu, run_after, run_of, is_request, is_answer, wrap, true, false, if◌then◌else◌, nat_le, nat_lt, and_parts}
use Rattle.safe_machine.proofs.Words.{false≢true, ltb-true, DiscReq, Heartbeat, Pdu, Closed, Reason, Timeout, ProtocolError, Detail, Unspecified, Limit}
use Rattle.safe_machine.proofs.Words.{AnswersEarly, is_live, is_connected, in_turn, is_carrier_kind, last_time, State, make, move_to, hand_up, ask}
use Rattle.safe_machine.proofs.Words.{unconfirmed, View, kept_of, by_guard, heartbeat, take_unit, carry_out, answered_ahead, ◌≢◌, ConnectionState}
use Rattle.safe_machine.proofs.Words.{Down, ◌^◌, leb-true, Settings, is_legal, resend, next_made, reply, pass, note_request, tests_passed}
use Rattle.safe_machine.proofs.Words.{confirm_units, Decision, distance, Leaves, Takes, AnswersNext, append-nil, Bool}
use Rattle.safe_machine.proofs.Words.{length-append, drop-append-le, length-take, lt-ltb, Numbered, above, renumber_units, octets_of, after_at, carried_at, ring_of}
use Rattle.safe_machine.proofs.Words.{map-append, length-map, filter-append, cs_step, beside, carried_unit, handed_by, window_of}
use Rattle.safe_machine.proofs.Words.{opening_body, rules}
use Rattle.safe_machine.specs.Numbers.{sn_of, ahead}
use Rattle.safe_machine.proofs.Words.{ConnReq, ConnResp, Requesting}

-- What lists of PDUs carry, piece by piece.
pub units-append : (a b : List Made) → units (a ++ b) ≡ units a ++ units b
units-append [] b = refl
units-append (m ∷ a) b =
    ap (λ us. first_sent m.pdu.kind m.pdu.body ++ us) (units-append a b)
    ∙ sym (append_assoc (first_sent m.pdu.kind m.pdu.body) (units a) (units b))

pub run_after-append : (run : List (List ℕ)) (a b : List Made) → run_after run (a ++ b) ≡ run_after (run_after run a) b
run_after-append run [] b = refl
run_after-append run (m ∷ a) b = run_after-append (after_pdu m.pdu.kind m.pdu.body run) a b

-- How many PDUs of a kind a list has.
abbrev pub count : (Kind → ℕ) → List Made → ℕ
count sort [] = 0
count sort (m ∷ ms) = sort m.pdu.kind + count sort ms

abbrev pub requests : List Made → ℕ
requests ms = count is_request ms

abbrev pub answers : List Made → ℕ
answers ms = count is_answer ms

pub count-append : (sort : Kind → ℕ) (a b : List Made) → count sort (a ++ b) ≡ count sort a + count sort b
count-append sort [] b = omega arith
count-append sort (m ∷ a) b = omega (arith, count-append sort a b)

-- A PDU that is not a RetrResp keeps what was carried before it at the front.
pub after_pdu-front : (kind : Kind) (body : List ℕ) (front run : List (List ℕ)) → is_answer kind ≡ 0
    → after_pdu kind body (front ++ run) ≡ front
    ++ after_pdu kind body run
after_pdu-front kind body front run e = grind (arith, append_assoc)

-- Without a RetrResp, what was carried before stays at the front.
pub run_after-front : (front run : List (List ℕ)) (ms : List Made) → answers ms ≡ 0
    → run_after (front ++ run) ms ≡ front ++ run_after run ms
run_after-front front run [] e = refl
run_after-front front run (m ∷ ms) e =
    let none : is_answer m.pdu.kind ≡ 0 = omega arith in
    let rest : answers ms ≡ 0 = omega arith in
    ap (λ us. run_after us ms) (after_pdu-front m.pdu.kind m.pdu.body front run none)
    ∙ run_after-front front (after_pdu m.pdu.kind m.pdu.body run) ms rest

-- A RetrResp discards what was carried before it.
pub after_answer : (kind : Kind) (body : List ℕ) (run : List (List ℕ)) → 1 ≤ is_answer kind
    → after_pdu kind body run ≡ []
after_answer kind body run e = grind arith

-- Places. `drop i ms ≡ m ∷ rest` means that m has index i.
pub at-length : (i : ℕ) (ms : List Made) (m : Made) (rest : List Made) → drop i ms ≡ m ∷ rest → i < length ms
at-length i ms m rest e = omega (arith, length-drop i ms, ap length e)

pub at-next : (i : ℕ) (ms : List Made) (m : Made) (rest : List Made) → drop i ms ≡ m ∷ rest → drop (i + 1) ms ≡ rest
at-next i ms m rest e = sym (drop-drop 1 i ms) ∙ ap (drop 1) e

pub split_at : (r i : ℕ) (ms : List Made) (m : Made) (rest : List Made) → r ≤ i → drop i ms ≡ m ∷ rest
    → drop r ms ≡ take (i - r) (drop r ms) ++ m ∷ rest
split_at r i ms m rest h e =
    let same : r + (i - r) ≡ i = omega arith in
    sym (take-append-drop (i - r) (drop r ms))
    ∙ ap (λ b. take (i - r) (drop r ms) ++ b) (drop-drop (i - r) r ms ∙ (ap (λ k. drop k ms) same ∙ e))

-- What is carried from r on is what is carried after a RetrResp at i or later.
pub run_of-resume : (r i : ℕ) (ms : List Made) (m : Made) (rest : List Made) → r ≤ i → drop i ms ≡ m ∷ rest
    → 1 ≤ is_answer m.pdu.kind
    → run_of (drop r ms) ≡ run_of (drop (i + 1) ms)
run_of-resume r i ms m rest h e a =
    ap run_of (split_at r i ms m rest h e)
    ∙ (run_after-append [] (take (i - r) (drop r ms)) (m ∷ rest)
    ∙ (ap (λ us. run_after us rest) (after_answer m.pdu.kind m.pdu.body (run_of (take (i - r) (drop r ms))) a)
    ∙ ap run_of (sym (at-next i ms m rest e))))

pub count-at : (sort : Kind → ℕ) (r i : ℕ) (ms : List Made) (m : Made) (rest : List Made) → r ≤ i → drop i ms ≡ m ∷ rest
    → sort m.pdu.kind + count sort (drop (i + 1) ms) ≤ count sort (drop r ms)
count-at sort r i ms m rest h e =
    let parts : count sort (drop r ms) ≡ count sort (take (i - r) (drop r ms)) + (sort m.pdu.kind + count sort rest) =
    ap (count sort) (split_at r i ms m rest h e) ∙ count-append sort (take (i - r) (drop r ms)) (m ∷ rest) in
    let tail : count sort (drop (i + 1) ms) ≡ count sort rest = ap (count sort) (at-next i ms m rest e) in
    omega arith

pub count-push : (sort : Kind → ℕ) (ms : List Made) (m : Made)
    → count sort (ms ++ m ∷ []) ≡ count sort ms + sort m.pdu.kind
count-push sort ms m = omega (arith, count-append sort ms (m ∷ []))

pub count-drop_nil : (sort : Kind → ℕ) (n : ℕ) → count sort (drop n []) ≡ 0
count-drop_nil sort n = grind arith

pub count-drop_push : (sort : Kind → ℕ) (n : ℕ) (ms : List Made) (m : Made)
    → count sort (drop n (ms ++ m ∷ [])) ≤ count sort (drop n ms) + sort m.pdu.kind
count-drop_push sort zero ms m = omega (arith, count-push sort ms m)
count-drop_push sort (suc n) [] m = grind (arith, count-drop_nil)
count-drop_push sort (suc n) (x ∷ ms) m = count-drop_push sort n ms m

-- What holds for each PDU of a list.
abbrev pub Every : (Made → Type 0) → List Made → Type 0
Every P [] = Unit {0}
Every P (m ∷ ms) = P m × Every P ms

pub every-push : (P : Made → Type 0) (ms : List Made) (m : Made) → Every P ms → P m → Every P (ms ++ m ∷ [])
every-push P [] m h k = (k, tt)
every-push P (x ∷ ms) m h k = (h.0, every-push P ms m h.1 k)

pub every-append : (P : Made → Type 0) (a b : List Made) → Every P a → Every P b → Every P (a ++ b)
every-append P [] b h k = k
every-append P (m ∷ a) b h k = (h.0, every-append P a b h.1 k)

pub every-drop_push : (P : Made → Type 0) (n : ℕ) (ms : List Made) (m : Made) → Every P (drop n ms) → P m
    → Every P (drop n (ms ++ m ∷ []))
every-drop_push P zero ms m h k = every-push P ms m h k
every-drop_push P (suc n) [] m h k = elim n as (λ j. Every P (drop j [])) [ zero ↦ tt | suc j ↦ tt ]
every-drop_push P (suc n) (x ∷ ms) m h k = every-drop_push P n ms m h k

pub every-weaken : (P Q : Made → Type 0) (ms : List Made) → ((m : Made) → P m → Q m) → Every P ms → Every Q ms
every-weaken P Q [] f h = tt
every-weaken P Q (m ∷ ms) f h = (f m h.0, every-weaken P Q ms f h.1)

-- What holds at each index holds for all.
pub every-from : (P : Made → Type 0) (ms : List Made)
    → ((i : ℕ) (m : Made) (rest : List Made) → drop i ms ≡ m ∷ rest → P m) → Every P ms
every-from P [] h = tt
every-from P (m ∷ ms) h = (h 0 m ms refl, every-from P ms (λ i. h (suc i)))

pub every-drop : (P : Made → Type 0) (n : ℕ) (ms : List Made) → Every P ms → Every P (drop n ms)
every-drop P zero ms h = h
every-drop P (suc n) [] h = tt
every-drop P (suc n) (m ∷ ms) h = every-drop P n ms h.1

every-behind : (P : Made → Type 0) (a b : List Made) → Every P (a ++ b) → Every P b
every-behind P [] b h = h
every-behind P (x ∷ a) b h = every-behind P a b h.1

pub every-at : (P : Made → Type 0) (r i : ℕ) (ms : List Made) (m : Made) (rest : List Made) → Every P (drop r ms)
    → r ≤ i → drop i ms ≡ m ∷ rest → P m
every-at P r i ms m rest h k e =
    (every-behind P (take (i - r) (drop r ms)) (m ∷ rest) (subst (Every P) (split_at r i ms m rest k e) h)).0

-- A RetrReq was made when this many of the peer's PDUs were passed.
abbrev pub RequestAt : ℕ → Made → Type 0
RequestAt index m = 1 ≤ is_request m.pdu.kind → m.behind ≡ index

pub no_requests : (index : ℕ) (ms : List Made) → requests ms ≡ 0 → Every (RequestAt index) ms
no_requests index [] e = tt
no_requests index (m ∷ ms) e =
    let rest : requests ms ≡ 0 = omega arith in
    ((λ h. absurd (omega arith)), no_requests index ms rest)

-- The PDUs are numbered from `first` on, starting at index i.
abbrev pub CountsUp : ℕ → ℕ → List Made → Type 0
CountsUp first i [] = Unit {0}
CountsUp first i (m ∷ ms) = (m.pdu.sn ≡ sn_of first i) × CountsUp first (i + 1) ms

pub numbered-push : (first i : ℕ) (ms : List Made) (m : Made) → CountsUp first i ms
    → m.pdu.sn ≡ sn_of first (i + length ms) → CountsUp first i (ms ++ m ∷ [])
numbered-push first i [] m h e = let same : i + length {A = Made} [] ≡ i =
    omega arith in (e ∙ ap (sn_of first) same, tt)
numbered-push first i (x ∷ ms) m h e =
    let same : i + length (x ∷ ms) ≡ (i + 1) + length ms = omega arith in
    (h.0, numbered-push first (i + 1) ms m h.1 (e ∙ ap (sn_of first) same))

pub numbered-at : (first i k : ℕ) (ms : List Made) (m : Made) (rest : List Made) → CountsUp first i ms
    → drop k ms ≡ m ∷ rest → m.pdu.sn ≡ sn_of first (i + k)
numbered-at first i zero [] m rest h e = cc
numbered-at first i zero (x ∷ ms) m rest h e = grind arith
numbered-at first i (suc k) [] m rest h e = cc
numbered-at first i (suc k) (x ∷ ms) m rest h e =
    let same : (i + 1) + k ≡ i + suc k = omega arith in
    numbered-at first (i + 1) k ms m rest h.1 e ∙ ap (sn_of first) same

pub every-drop_all : (P : Made → Type 0) (ms : List Made) → Every P (drop (length ms) ms)
every-drop_all P [] = tt
every-drop_all P (m ∷ ms) = every-drop_all P ms

-- The first PDU of a list carries nothing.
pub first_plain-push : (ms : List Made) (m : Made) → run_of ms ≡ run_of (drop 1 ms)
    → (ms ≡ [] → after_pdu m.pdu.kind m.pdu.body [] ≡ [])
    → run_of (ms ++ m ∷ []) ≡ run_of (drop 1 (ms ++ m ∷ []))
first_plain-push ms m h plain = grind (arith, run_after-append)

-- Distances of sequence numbers.

-- A later index within reach.
pub ahead-up : (first r i : ℕ) → r ≤ i → i - r < wrap → ahead (sn_of first r) (sn_of first i) ≡ i - r
unfolding sn_of ahead
ahead-up first r i h k = omega arith

-- An earlier index.
pub ahead-down : (first r i : ℕ) → i < r → r - i ≤ wrap → ahead (sn_of first r) (sn_of first i) + (r - i) ≡ wrap
unfolding sn_of ahead
ahead-down first r i h k = omega arith

-- The number after that of an index.
pub ahead-next : (first r to : ℕ) → ahead (sn_of first r + 1) to ≡ ahead (sn_of first (r + 1)) to
unfolding sn_of ahead
ahead-next first r to = omega arith

-- The changes with a case split: what holds for each case holds for the change.

-- The timeout check of a live end passes.
abbrev pub InTime : ℕ → View → Type 0
InTime now v = is_live v.connection ≡ true → (now < v.confirmed_at + v.settings.t_max) × (v.made < v.settings.pdu_limit)

-- The timeout check: either it disconnects, or the rest follows.
pub by_guard-cases : {A : Type 0} (P : A → Type 0) (now : ℕ) (v : View) (leaves : Reason → Detail → A) (goes : A)
    → ((reason : Reason) (detail : Detail) → P (leaves reason detail)) → (InTime now v → P goes)
    → P (by_guard now v leaves goes)
by_guard-cases P now v leaves goes left on = grind arith

-- Two results of the timeout check.
pub by_guard-two : {A B : Type 0} (R : A → B → Type 0) (now : ℕ) (v : View) (leaves_a : Reason → Detail
    → A) (goes_a : A) (leaves_b : Reason → Detail → B)
    (goes_b : B) →
    ((reason : Reason) (detail : Detail) → R (leaves_a reason detail) (leaves_b reason detail)) → R goes_a goes_b
    → R (by_guard now v leaves_a goes_a) (by_guard now v leaves_b goes_b)
by_guard-two R now v leaves_a goes_a leaves_b goes_b left on =
    go (is_live v.connection) (nat_le (v.confirmed_at + v.settings.t_max) now)
    (nat_le v.settings.pdu_limit v.made)
  where
    go : (live late full : Bool) →
        R (if live then (if late then leaves_a Timeout Unspecified else if full then leaves_a ProtocolError Limit
        else goes_a) else goes_a)
        (if live then (if late then leaves_b Timeout Unspecified else if full then leaves_b ProtocolError Limit
        else goes_b) else goes_b)
    go true true full = left Timeout Unspecified
    go true false true = left ProtocolError Limit
    go true false false = on
    go false late full = on

-- A heartbeat that is due, or nothing.
pub heartbeat-cases : (P : State → Type 0) (now : ℕ) (s : State)
    → (is_connected s.connection ≡ true → P (make Heartbeat [] now s)) → P s → P (heartbeat now s)
heartbeat-cases P now s beats quiet = grind arith

-- A unit, with a heartbeat if it is the mwa-th.
pub unit-cases : (P : State → Type 0) (p : Pdu) (now : ℕ) (s : State)
    → (is_carrier_kind p.kind ≡ true → P (make Heartbeat [] now (hand_up p s)))
    → (is_carrier_kind p.kind ≡ true → s.since + 1 < s.settings.mwa → P (hand_up p s))
    → (is_carrier_kind p.kind ≡ false → P s) → P (take_unit p now s)
unit-cases P p now s beats up none = grind arith

-- An answer to a request that is not the next PDU, with the end's own request if it takes units in order.
pub early-cases : (P : State → Type 0) (p : Pdu) (now : ℕ) (s : State)
    → (in_turn s.connection ≡ true → P (ask now (answered_ahead p now s)))
    → P (answered_ahead p now s) → P (carry_out p now AnswersEarly s)
early-cases P p now s asks waits = grind arith

-- The states of a connection: what one test says about another.
pub connected-live : (connection : ConnectionState) → is_connected connection ≡ true → is_live connection ≡ true
connected-live connection e = grind arith

pub turn-connected : (connection : ConnectionState) → in_turn connection ≡ true → is_connected connection ≡ true
turn-connected connection e = grind arith

pub turn-live : (connection : ConnectionState) → in_turn connection ≡ true → is_live connection ≡ true
turn-live connection e = connected-live connection (turn-connected connection e)

pub connected-up : (connection : ConnectionState) → is_connected connection ≡ true → connection ≢ Down
connected-up connection on e = false≢true (sym (ap is_connected e) ∙ on)

pub closed_or : (connection : ConnectionState) → (connection ≡ Closed) ⊎ (connection ≢ Closed)
closed_or connection = grind arith

pub bool_or : (b : Bool) → (b ≡ true) ⊎ (b ≡ false)
bool_or b = grind arith

pub down_or : (connection : ConnectionState) → (connection ≡ Down) ⊎ (connection ≢ Down)
down_or connection = grind arith

-- States that differ.
pub closed≢down : Closed ≡ Down → ⊥
closed≢down e = cc

pub down≢closed : Down ≡ Closed → ⊥
down≢closed e = cc

-- What legal settings say, one fact each.
pub record Legal (s : Settings) : Type 0 where
  pub own : s.own < 256 ^ 4
  pub peer : s.peer < 256 ^ 4
  pub window_least : 1 ≤ s.n_sendmax
  pub window_most : s.n_sendmax ≤ 32
  pub t_max_most : s.t_max ≤ 60000
  pub mwa_least : 1 ≤ s.mwa
  pub mwa_most : s.mwa ≤ 16
  pub limit_most : s.pdu_limit ≤ 4294901760

pub legal : (s : Settings) → is_legal s ≡ true → Legal s
legal s e = grind (arith, and_parts, ltb-true, leb-true)

-- An opening PDU has a window within its bounds.
pub opening_window : (n : ℕ) → n ≤ 32 → window_of (opening_body n) ≡ n
opening_window n small = omega (arith, small)

-- What sending units again leaves unchanged.

-- Every part of a state that each PDU made leaves unchanged.
resend-keeps : {X : Type 0} (part : State → X)
    → ((kind : Kind) (body : List ℕ) (now : ℕ) (s : State) → part (make kind body now s) ≡ part s) →
    (us : List (List ℕ)) (now : ℕ) (s : State) → part (resend us now s) ≡ part s
resend-keeps part one [] now s = refl
resend-keeps part one (u ∷ us) now s = resend-keeps part one us now (make RetrData u now s) ∙ one RetrData u now s

pub resend-settings : (us : List (List ℕ)) (now : ℕ) (s : State) → (resend us now s).settings ≡ s.settings
resend-settings = resend-keeps (λ (s : State). s.settings) (λ kind body now s. refl)

pub resend-connection : (us : List (List ℕ)) (now : ℕ) (s : State) → (resend us now s).connection ≡ s.connection
resend-connection = resend-keeps (λ (s : State). s.connection) (λ kind body now s. refl)

pub resend-confirmed : (us : List (List ℕ)) (now : ℕ) (s : State) → (resend us now s).confirmed ≡ s.confirmed
resend-confirmed = resend-keeps (λ (s : State). s.confirmed) (λ kind body now s. refl)

pub resend-window : (us : List (List ℕ)) (now : ℕ) (s : State) → (resend us now s).window ≡ s.window
resend-window = resend-keeps (λ (s : State). s.window) (λ kind body now s. refl)

pub resend-expected : (us : List (List ℕ)) (now : ℕ) (s : State) → (resend us now s).expected ≡ s.expected
resend-expected = resend-keeps (λ (s : State). s.expected) (λ kind body now s. refl)

pub resend-taken : (us : List (List ℕ)) (now : ℕ) (s : State) → (resend us now s).taken ≡ s.taken
resend-taken = resend-keeps (λ (s : State). s.taken) (λ kind body now s. refl)

-- What each PDU without a new unit keeps, an answer keeps.
pub made-again : (P : State → Type 0) (now : ℕ) →
    ((kind : Kind) (body : List ℕ) (s : State) → first_sent kind body ≡ [] → P s → P (make kind body now s))
    → (s : State) → P s → P (reply now s)
made-again P now one s h =
    let a = make RetrResp [] now s in
    one Heartbeat [] (resend (unconfirmed s) now a) refl (again (unconfirmed s) a (one RetrResp [] s refl h))
  where
    again : (us : List (List ℕ)) (t : State) → P t → P (resend us now t)
    again [] t k = k
    again (u ∷ us) t k = again us (make RetrData u now t) (one RetrData u t refl k)

pub reply-connection : (now : ℕ) (s : State) → (reply now s).connection ≡ s.connection
reply-connection now s = resend-connection (unconfirmed s) now (make RetrResp [] now s)

pub reply-taken : (now : ℕ) (s : State) → (reply now s).taken ≡ s.taken
reply-taken now s = resend-taken (unconfirmed s) now (make RetrResp [] now s)

-- What each decision delivers.
pub none-taken : (s : State) → s.taken ≡ s.taken ++ []
none-taken s = sym (append-nil s.taken)

unit-taken : (p : Pdu) (now : ℕ) (s : State) → (take_unit p now s).taken ≡ s.taken ++ carried_unit p
unit-taken p now s = search rules

pub decided-taken : (p : Pdu) (now : ℕ) (d : Decision) (s : State)
    → (carry_out p now d s).taken ≡ s.taken ++ handed_by d p
decided-taken p now (Leaves reason detail) s = refl
decided-taken p now (Takes to) s = unit-taken p now (move_to to (pass p 0 (tests_passed p s)))
decided-taken p now AnswersNext s = reply-taken now (pass p 0 (note_request 0 (tests_passed p s))) ∙ none-taken s
decided-taken p now AnswersEarly s =
    let same = reply-taken now (note_request (distance (kept_of s) p) (confirm_units p s)) ∙ none-taken s in
    early-cases (λ u. u.taken ≡ s.taken ++ []) p now s (λ _. same) same
decided-taken p now _ s = none-taken s

-- Confirming drops the units that are not above from the ring, an answer renumbers it, and its units are the
-- unconfirmed ones.
pub octets_of-append : (a b : List Numbered) → octets_of (a ++ b) ≡ octets_of a ++ octets_of b
octets_of-append = map-append (λ (c : Numbered). c.octets)

pub octets_of-length : (cs : List Numbered) → length (octets_of cs) ≡ length cs
octets_of-length cs = length-map cs (λ (c : Numbered). c.octets)

after_at-units : (kind : Kind) (body : List ℕ) (index : ℕ) (run : List Numbered)
    → octets_of (after_at kind body index run) ≡ after_pdu kind body
    (octets_of run)
after_at-units kind body index run = grind (arith, octets_of-append)

-- The units of the ring are the unconfirmed ones.
pub carried_at-units : (index : ℕ) (run : List Numbered) (ms : List Made)
    → octets_of (carried_at index run ms) ≡ run_after (octets_of run) ms
carried_at-units index run [] = refl
carried_at-units index run (m ∷ ms) =
    carried_at-units (index + 1) (after_at m.pdu.kind m.pdu.body index run) ms
    ∙ ap (λ us. run_after us ms) (after_at-units m.pdu.kind m.pdu.body index run)

pub ring_of-units : (s : State) → octets_of (ring_of s) ≡ unconfirmed s
ring_of-units s = carried_at-units (s.confirmed + 1) [] (drop (s.confirmed + 1) s.made)

pub carried_at-append : (index : ℕ) (run : List Numbered) (a b : List Made)
    → carried_at index run (a ++ b) ≡ carried_at (index + length a)
    (carried_at index run a) b
carried_at-append index run [] b = ap (λ (n : ℕ). carried_at n run b) (omega arith)
carried_at-append index run (m ∷ a) b =
    let next = after_at m.pdu.kind m.pdu.body index run in
    let same : index + 1 + length a ≡ index + length (m ∷ a) = omega arith in
    carried_at-append (index + 1) next a b ∙ ap (λ (n : ℕ). carried_at n (carried_at (index + 1) next a) b) same

pub above-append : (index : ℕ) (a b : List Numbered) → above index (a ++ b) ≡ above index a ++ above index b
above-append index = filter-append (λ (c : Numbered). nat_lt index c.number)

pub above-one : (index p : ℕ) (unit : List ℕ) → index < p
    → above index (record { number = p; octets = unit } ∷ []) ≡ record { number = p; octets = unit } ∷ []
above-one index p unit h =
    ap (λ (t : Bool). if t then record { number = p; octets = unit } ∷ [] else []) (lt-ltb index p h)

below-one : (index p : ℕ) (unit : List ℕ) → p ≤ index → above index (record { number = p; octets = unit } ∷ []) ≡ []
below-one index p unit h = grind arith

-- After the confirmed index, every unit is kept.
after_at-above : (kind : Kind) (body : List ℕ) (index p : ℕ) (run : List Numbered) → index < p
    → above index (after_at kind body p run) ≡ after_at kind body p
    (above index run)
after_at-above kind body index p run h = grind (arith, above-append, above-one)

pub carried_at-above : (index p : ℕ) (run : List Numbered) (ms : List Made) → index < p
    → above index (carried_at p run ms) ≡ carried_at p (above index run) ms
carried_at-above index p run [] h = refl
carried_at-above index p run (m ∷ ms) h =
    carried_at-above index (p + 1) (after_at m.pdu.kind m.pdu.body p run) ms (omega arith)
    ∙ ap (λ cs. carried_at (p + 1) cs ms) (after_at-above m.pdu.kind m.pdu.body index p run h)

-- Up to that index, no unit is kept.
after_at-below : (kind : Kind) (body : List ℕ) (index p : ℕ) (run : List Numbered) → p ≤ index → above index run ≡ []
    → above index (after_at kind body p run)
    ≡ []
after_at-below kind body index p run h e = grind (arith, above-append, below-one)

carried_at-below : (index p : ℕ) (run : List Numbered) (ms : List Made) → p + length ms ≤ index + 1
    → above index run ≡ [] → above index (carried_at p run ms)
    ≡ []
carried_at-below index p run [] h e = e
carried_at-below index p run (m ∷ ms) h e =
    carried_at-below index (p + 1) (after_at m.pdu.kind m.pdu.body p run) ms (omega arith)
    (after_at-below m.pdu.kind m.pdu.body index p run (omega arith) e)

-- `confirm` up to an index gives the ring of a state that has confirmed this index.
pub ring-confirm : (a b : ℕ) (ms : List Made) → a ≤ b → b < length ms
    → above b (carried_at (a + 1) [] (drop (a + 1) ms)) ≡ carried_at (b + 1) []
    (drop (b + 1) ms)
ring-confirm a b ms h l =
    let front = take (b - a) (drop (a + 1) ms) in
    let back = drop (b - a) (drop (a + 1) ms) in
    let size : length front ≡ b - a = length-take (b - a) (drop (a + 1) ms) ∙ omega (arith, length-drop (a + 1) ms) in
    let split : carried_at (a + 1) [] (drop (a + 1) ms)
    ≡ carried_at (a + 1 + length front) (carried_at (a + 1) [] front) back =
    ap (carried_at (a + 1) []) (sym (take-append-drop (b - a) (drop (a + 1) ms)))
    ∙ carried_at-append (a + 1) [] front back in
    let index : a + 1 + length front ≡ b + 1 = omega arith in
    let rest : back ≡ drop (b + 1) ms = drop-drop (b - a) (a + 1) ms ∙ ap (λ (n : ℕ). drop n ms) (omega arith) in
    ap (above b) split
    ∙ (carried_at-above b (a + 1 + length front) (carried_at (a + 1) [] front) back (omega arith)
    ∙ (ap (λ cs. carried_at (a + 1 + length front) cs back) (carried_at-below b (a + 1) [] front (omega arith) refl)
    ∙ (ap (λ (n : ℕ). carried_at n [] back) index ∙ ap (carried_at (b + 1) []) rest)))

-- Units sent again have consecutive indices.
pub ring-resend : (us : List (List ℕ)) (now : ℕ) (s : State) → s.confirmed < length s.made
    → ring_of (resend us now s) ≡ ring_of s ++ renumber_units (length s.made)
    us
ring-resend [] now s h = sym (append-nil (ring_of s))
ring-resend (u ∷ us) now s h =
    let m = next_made s RetrData u now in
    let t = make RetrData u now s in
    let more : length t.made ≡ length s.made + 1 = length-append s.made (m ∷ []) in
    let size : length (drop (s.confirmed + 1) s.made)
    ≡ length s.made - (s.confirmed + 1) = length-drop (s.confirmed + 1) s.made in
    let index : s.confirmed + 1 + length (drop (s.confirmed + 1) s.made) ≡ length s.made = omega arith in
    let one : ring_of t ≡ ring_of s ++ record { number = length s.made; octets = u } ∷ [] =
    ap (carried_at (s.confirmed + 1) []) (drop-append-le (s.confirmed + 1) s.made (m ∷ []) (omega arith))
    ∙ (carried_at-append (s.confirmed + 1) [] (drop (s.confirmed + 1) s.made) (m ∷ [])
    ∙ ap (λ (n : ℕ). ring_of s ++ record { number = n; octets = u } ∷ []) index) in
    ring-resend us now t (omega arith)
    ∙ (ap (λ cs. cs ++ renumber_units (length t.made) us) one
    ∙ (append_assoc (ring_of s) (record { number = length s.made; octets = u } ∷ []) (renumber_units (length t.made) us)
    ∙ ap (λ (n : ℕ). ring_of s ++ record { number = length s.made; octets = u } ∷ renumber_units n us) more))

-- What a move does to the ring of a history, and to what is kept of it.
last_time-push : (ms : List Made) (m : Made) (time : ℕ) → last_time (ms ++ m ∷ []) time ≡ m.time
last_time-push [] m time = refl
last_time-push (a ∷ ms) m time = last_time-push ms m a.time

counted : (ring : List Numbered) (s : State) (ms : List Made) (now n t : ℕ) → n ≡ length ms → t ≡ last_time ms 0 →
    record (beside ring s) { made = n; last_made = t; since = 0 } ≡ beside ring (record s { made = ms; since = 0 })
counted ring s ms now n t e f = grind arith

-- A PDU is counted.
pub made-beside : (ring : List Numbered) (kind : Kind) (body : List ℕ) (now : ℕ) (s : State) →
    record (beside ring s) { made = length s.made + 1; last_made = now; since = 0 } ≡ beside ring (make kind body now s)
made-beside ring kind body now s = grind (arith, length-append, last_time-push)

-- A PDU that does not change the unconfirmed units.
abbrev pub leaves_units : Kind → Bool
leaves_units RetrResp = false
leaves_units Data = false
leaves_units RetrData = false
leaves_units _ = true

-- The ring after a PDU that does not change the units.
leaves-after : (kind : Kind) (body : List ℕ) (index : ℕ) (run : List Numbered) → leaves_units kind ≡ true
    → after_at kind body index run ≡ run
leaves-after kind body index run e = grind arith

plain-carried : (n index : ℕ) (ms : List Made) (m : Made) → leaves_units m.pdu.kind ≡ true
    → carried_at index [] (drop n (ms ++ m ∷ [])) ≡ carried_at index []
    (drop n ms)
plain-carried zero index ms m e = grind (arith, carried_at-append, leaves-after)
plain-carried (suc zero) index [] m e = refl
plain-carried (suc (suc n)) index [] m e = refl
plain-carried (suc n) index (a ∷ ms) m e = plain-carried n index ms m e

pub plain-ring : (kind : Kind) (body : List ℕ) (now : ℕ) (s : State) → leaves_units kind ≡ true
    → ring_of (make kind body now s) ≡ ring_of s
plain-ring kind body now s e = plain-carried (s.confirmed + 1) (s.confirmed + 1) s.made (next_made s kind body now) e

-- A unit that is sent is the last in the ring.
pub data-ring : (unit : List ℕ) (now : ℕ) (s : State) → s.confirmed < length s.made
    → ring_of (make Data unit now s) ≡ ring_of s
    ++ record { number = length s.made; octets = unit } ∷ []
data-ring unit now s h = grind (arith, length-drop, drop-append-le, carried_at-append)

-- What a PDU confirms.
pub ring-step : (p : Pdu) (s : State) → cs_step (kept_of s) p < length s.made - s.confirmed
    → above (s.confirmed + cs_step (kept_of s) p) (ring_of s)
    ≡ ring_of (confirm_units p s)
ring-step p s h = ring-confirm s.confirmed (s.confirmed + cs_step (kept_of s) p) s.made (omega arith) (omega arith)

-- A RetrResp empties the unconfirmed units, which the RetrData then fill again.
pub answer-ring : (now : ℕ) (s : State) → s.confirmed < length s.made → ring_of (make RetrResp [] now s) ≡ []
answer-ring now s h = grind (arith, drop-append-le, carried_at-append)

-- How many requests may be open: requests that the peer has not handled, and answers not yet taken.
abbrev pub room : ConnectionState → ℕ
room Requesting = 1
room Closed = 1
room _ = 0

-- PDUs that only an end makes that has taken something.
abbrev pub needs_peer : Kind → ℕ
needs_peer ConnReq = 0
needs_peer DiscReq = 0
needs_peer _ = 1

abbrev pub is_opening : Kind → ℕ
is_opening ConnReq = 1
is_opening ConnResp = 1
is_opening _ = 0
