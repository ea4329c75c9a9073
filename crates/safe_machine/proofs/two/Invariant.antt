-- What holds for two machines at every moment, and what making and passing a PDU keeps of it.
use Rattle.safe_machine.proofs.Words.{◌≡◌, ℕ, ◌+◌, ◌-◌, ◌≤◌, List, [], ◌++◌, length, drop, Bool, true, false, Kind, DiscReq, ConnectionState}
use Rattle.safe_machine.proofs.Words.{Closed, Down, Start, Requesting, window_of, Made, units, run_of, State, ◌∷◌, refl, ap, ◌∙◌, arith, length-append}
use Rattle.safe_machine.proofs.Words.{append-nil, drop-append-le, first_sent, after_pdu, is_request, is_answer, next_made, make, ◌<◌, sym, subst, append_assoc}
use Rattle.safe_machine.proofs.Words.{ltb-true, run_after, cs_fits, distance, cs_step, confirm_units, kept_of, RetrReq, RetrResp, Heartbeat, Data, RetrData}
use Rattle.safe_machine.proofs.Words.{leaving_body, move_to, unconfirmed, resend, reply, ask, leave, Reason, Detail, is_connected}
use Rattle.safe_machine.specs.Numbers.{sn_of, ahead}
use Rattle.safe_machine.proofs.one.Runs.{requests, answers, Every, RequestAt, CountsUp, units-append, run_after-append, count-push, count-drop_push, every-push}
use Rattle.safe_machine.proofs.one.Runs.{every-drop_push, numbered-push, first_plain-push, ahead-up, ahead-down, ahead-next, count-at, run_after-front}
use Rattle.safe_machine.proofs.one.Runs.{run_of-resume, at-length, at-next, every-at, every-weaken, no_requests, numbered-at, resend-connection, leave-cases}
pub use Rattle.safe_machine.proofs.one.Lists.{room, needs_peer, is_opening}

-- What holds for two machines at every moment.

-- A PDU made after passing at most `index` of the peer's PDUs names the last of these in its CS.
pub record Told (peer_first index : ℕ) (m : Made) : Type 0 where
  pub behind : m.behind ≤ index
  pub cs : 1 ≤ m.behind → m.pdu.cs ≡ sn_of peer_first (m.behind - 1)

-- What holds for each PDU that an end made, by itself.
pub record Sound (m : Made) : Type 0 where
  pub late : 1 ≤ needs_peer m.pdu.kind → 1 ≤ m.behind
  pub window : 1 ≤ is_opening m.pdu.kind → window_of m.pdu.body ≤ 32

-- A PDU that is not a ConnReq and not a ConnResp.
abbrev pub NotOpening : Made → Type 0
NotOpening m = is_opening m.pdu.kind ≡ 0

abbrev pub Started : ConnectionState → Bool → ℕ → List Made → Type 0
Started Closed client expected made = Unit {0}
Started Down client expected made = (made ≡ []) × (expected ≡ 0) × (client ≡ false)
Started Start client expected made =
    (client ≡ true → expected ≡ 0) × (client ≡ false → 1 ≤ expected) × (1 ≤ length made)
Started _ client expected made = (1 ≤ expected) × (1 ≤ length made)

-- One end by itself.
pub record SoloOf (first : ℕ) (made : List Made) (expected : ℕ) (connection : ConnectionState) (client : Bool) : Type 0
  where
    pub numbered : CountsUp first 0 made
    pub opening : Every NotOpening (drop 1 made)
    pub sound : Every Sound made
    pub started : Started connection client expected made

abbrev pub Solo : State → Type 0
Solo s = SoloOf s.first s.made s.expected s.connection s.settings.client

pub started-is : (connection : ConnectionState) (s : State) → Solo s → s.connection ≡ connection
    → Started connection s.settings.client s.expected s.made
started-is connection s h is =
    subst (λ (c : ConnectionState). Started c s.settings.client s.expected s.made) is h.started

-- One direction. The sender has made `made`, of which it knows that `confirmed` was taken. The receiver has passed
-- `expected` of it, has taken `taken`, and has made `back`. `pending` are units that the sender is about to send again.
pub record HalfOf (first : ℕ) (made : List Made) (confirmed answered : ℕ) (pending : List (List ℕ)) (back : List Made)
    (expected : ℕ) (taken : List (List ℕ))
    (connection : ConnectionState) (last_sn : ℕ) : Type 0 where
  -- What was taken, with what is carried from the expected index on, is what was first sent.
  pub carried : taken ++ (run_of (drop expected made) ++ pending) ≡ units made
  pub within : expected ≤ length made
  -- The first PDU carries nothing.
  pub first_plain : run_of made ≡ run_of (drop 1 made)
  -- Requests not handled and answers not taken: at most one, and only in RetrReq or Closed.
  pub open_requests : requests (drop (answered + 1) back) + answers (drop expected made) ≤ room connection
  pub requests_at : Every (RequestAt expected) (drop (answered + 1) back)
  -- Only what the receiver has passed counts as confirmed.
  pub confirmed_behind : confirmed ≤ expected - 1
  pub last : 1 ≤ expected → last_sn ≡ sn_of first (expected - 1)
  pub told : Every (Told first expected) back

abbrev pub HalfWith : List (List ℕ) → State → State → Type 0
HalfWith pending x y =
    HalfOf x.first x.made x.confirmed x.answered pending y.made y.expected y.taken y.connection y.last_sn

abbrev pub Half : State → State → Type 0
Half x y = HalfWith [] x y

-- An end with its peer: x is about to send the pending units again.
abbrev pub PairWith : List (List ℕ) → State → State → Type 0
PairWith pending x y = Solo x × HalfWith pending x y × Half y x

abbrev pub Pair : State → State → Type 0
Pair x y = PairWith [] x y

-- So few PDUs were made that sequence numbers distinguish them.
abbrev pub Few : State → Type 0
Few s = length s.made ≤ 4294901900

-- Making a PDU keeps the invariant.

-- The direction in which the end sends. The PDU type only matters for the field `carried`.
pub make-sends : (kind : Kind) (body : List ℕ) (now : ℕ) (pending pending' : List (List ℕ)) (x y : State)
    → HalfWith pending x y
    → requests (drop (x.answered + 1) y.made) + (answers (drop y.expected x.made) + is_answer kind) ≤ room y.connection
    → y.taken ++ (after_pdu kind body (run_of (drop y.expected x.made)) ++ pending')
    ≡ units x.made ++ first_sent kind body
    → (x.made ≡ [] → after_pdu kind body [] ≡ []) → HalfWith pending' (make kind body now x) y
make-sends kind body now pending pending' x y h open_after e plain =
    grind (
      arith,
      drop-append-le,
      run_after-append,
      units-append,
      append-nil,
      count-push,
      length-append,
      first_plain-push,
    )

-- The direction in which it receives, for a PDU that is not a request.
pub make-receives : (kind : Kind) (body : List ℕ) (now : ℕ) (x y : State) → Half y x → is_request kind ≡ 0
    → Half y (make kind body now x)
make-receives kind body now x y h none =
    let m = next_made x kind body now in
    let told_m : Told y.first x.expected m = record { behind = omega arith; cs = h.last } in
    let at_m : RequestAt x.expected m = λ one. refl in
    record {
      carried = h.carried;
      within = h.within;
      first_plain = h.first_plain;
      open_requests =
          (let more : requests (drop (y.answered + 1) (x.made ++ m ∷ [])) ≤ requests (drop (y.answered + 1) x.made)
          + is_request kind =
          count-drop_push is_request (y.answered + 1) x.made m in
          omega (arith, h.open_requests));
      requests_at = every-drop_push (RequestAt x.expected) (y.answered + 1) x.made m h.requests_at at_m;
      confirmed_behind = h.confirmed_behind;
      last = h.last;
      told = every-push (Told y.first x.expected) x.made m h.told told_m;
    }

pub make-solo : (kind : Kind) (body : List ℕ) (now : ℕ) (x : State) → Solo x → is_opening kind ≡ 0
    → (1 ≤ needs_peer kind → 1 ≤ x.expected)
    → Started x.connection x.settings.client x.expected (x.made ++ next_made x kind body now ∷ [])
    → Solo (make kind body now x)
make-solo kind body now x h plain late started = grind (arith, numbered-push, every-drop_push, every-push)

-- What an end learns from a PDU of its peer, and how taking it keeps the invariant.
told-more : (first a b : ℕ) → a ≤ b → (m : Made) → Told first a m → Told first b m
told-more first a b h m t = record { behind = omega (arith, t.behind); cs = t.cs }

-- The receiver x has now passed everything up to the PDU at distance d, and has taken `taken`.
pub half-pass : (d : ℕ) (taken : List (List ℕ)) (connection : ConnectionState) (m : Made) (rest : List Made)
    (x y : State) → Solo y → Half y x
    → drop (x.expected + d) y.made ≡ m ∷ rest → requests (drop (y.answered + 1) x.made) ≡ 0
    → answers (drop (x.expected + d + 1) y.made) ≡ 0
    → taken ++ (run_of (drop (x.expected + d + 1) y.made) ++ []) ≡ units y.made
    → HalfOf y.first y.made y.confirmed y.answered [] x.made (x.expected + d + 1) taken connection m.pdu.sn
half-pass d taken connection m rest x y solo h at no_request no_answer carried =
    record {
      carried = carried;
      within = (let l : x.expected + d < length y.made = at-length (x.expected + d) y.made m rest at in omega arith);
      first_plain = h.first_plain;
      open_requests = omega arith;
      requests_at = no_requests (x.expected + d + 1) (drop (y.answered + 1) x.made) no_request;
      confirmed_behind = omega (arith, h.confirmed_behind);
      last =
          λ one.
          numbered-at y.first 0 (x.expected + d) y.made m rest solo.numbered at
          ∙ ap (sn_of y.first) (omega arith);
      told = every-weaken (Told y.first x.expected) (Told y.first (x.expected + d + 1)) x.made
          (told-more y.first x.expected (x.expected + d + 1) (omega arith))
          h.told;
    }

-- The next PDU, which carries these units, while no request is open.
pub half-take : (up taken : List (List ℕ)) (connection : ConnectionState) (m : Made) (rest : List Made) (x y : State)
    → Solo y → Half y x
    → room x.connection ≡ 0 → drop (x.expected + 0) y.made ≡ m ∷ rest → is_answer m.pdu.kind ≡ 0
    → after_pdu m.pdu.kind m.pdu.body [] ≡ up
    → taken ≡ x.taken ++ up → HalfOf y.first y.made y.confirmed y.answered [] x.made (x.expected + 0 + 1) taken
    connection m.pdu.sn
half-take up taken connection m rest x y solo h closed at plain carries took =
    let e : x.expected + 0 ≡ x.expected = omega arith in
    let here : drop x.expected y.made ≡ m ∷ rest = subst (λ (n : ℕ). drop n y.made ≡ m ∷ rest) e at in
    let next : drop (x.expected + 0 + 1) y.made ≡ rest = at-next (x.expected + 0) y.made m rest at in
    let open_now : requests (drop (y.answered + 1) x.made) + answers (drop x.expected y.made)
    ≤ room x.connection = h.open_requests in
    let counted : answers (drop x.expected y.made) ≡ is_answer m.pdu.kind + answers rest = ap answers here in
    let no_answer : answers rest ≡ 0 = omega arith in
    let run : run_of (drop x.expected y.made) ≡ up ++ run_of rest =
    ap run_of here ∙ (ap (λ us. run_after us rest) (carries ∙ sym (append-nil up))
    ∙ run_after-front up [] rest no_answer) in
    let all : (x.taken ++ up) ++ (run_of rest ++ []) ≡ units y.made =
    append_assoc x.taken up (run_of rest ++ [])
    ∙ (ap (λ us. x.taken ++ us) (sym (append_assoc up (run_of rest) []) ∙ ap (λ us. us ++ []) (sym run)) ∙ h.carried) in
    half-pass 0 taken connection m rest x y solo h at (omega arith) (ap answers next ∙ no_answer)
    (ap (λ us. us ++ (run_of (drop (x.expected + 0 + 1) y.made) ++ [])) took
    ∙ (ap (λ ms. (x.taken ++ up) ++ (run_of ms ++ [])) next ∙ all))

-- The answer to the request that is open.
pub half-resume : (d : ℕ) (connection : ConnectionState) (m : Made) (rest : List Made) (x y : State) → Solo y → Half y x
    → room x.connection ≤ 1 →
    drop (x.expected + d) y.made ≡ m ∷ rest → is_answer m.pdu.kind ≡ 1 →
    HalfOf y.first y.made y.confirmed y.answered [] x.made (x.expected + d + 1) x.taken connection m.pdu.sn
half-resume d connection m rest x y solo h small at is =
    let run : run_of (drop x.expected y.made) ≡ run_of (drop (x.expected + d + 1) y.made) =
    run_of-resume x.expected (x.expected + d) y.made m rest (omega arith) at (omega arith) in
    let counted : is_answer m.pdu.kind + answers (drop (x.expected + d + 1) y.made) ≤ answers (drop x.expected y.made) =
    count-at is_answer x.expected (x.expected + d) y.made m rest (omega arith) at in
    let open_now : requests (drop (y.answered + 1) x.made) + answers (drop x.expected y.made)
    ≤ room x.connection = h.open_requests in
    half-pass d x.taken connection m rest x y solo h at (omega arith) (omega arith)
    (ap (λ us. x.taken ++ (us ++ [])) (sym run) ∙ h.carried)

-- The index that an accepted PDU confirms is the last one that its maker had passed.
pub confirm-index : (i : ℕ) (m : Made) (rest : List Made) (x y : State) → Half x y → Few x → drop i y.made ≡ m ∷ rest
    → 1 ≤ m.behind →
    cs_fits (kept_of x) m.pdu ≡ true → x.confirmed + cs_step (kept_of x) m.pdu ≡ m.behind - 1
confirm-index i m rest x y h few at late fits =
    let told = every-at (Told x.first y.expected) 0 i y.made m rest h.told (omega arith) at in
    let behind : m.behind ≤ y.expected = told.behind in
    let within : y.expected ≤ length x.made = h.within in
    let low : x.confirmed ≤ y.expected - 1 = h.confirmed_behind in
    let step : cs_step (kept_of x) m.pdu ≡ ahead (sn_of x.first x.confirmed) (sn_of x.first (m.behind - 1)) =
    ap (ahead (sn_of x.first x.confirmed)) (told.cs late) in
    let less : cs_step (kept_of x) m.pdu < length x.made - x.confirmed = ltb-true (cs_step (kept_of x) m.pdu)
    (length x.made - x.confirmed) fits in
    let up : x.confirmed ≤ m.behind - 1 → x.confirmed + cs_step (kept_of x) m.pdu ≡ m.behind - 1 =
    λ k. let s = ahead-up x.first x.confirmed (m.behind - 1) k (omega arith) in omega arith in
    let down : m.behind - 1 < x.confirmed → x.confirmed + cs_step (kept_of x) m.pdu ≡ m.behind - 1 =
    λ k. let s = ahead-down x.first x.confirmed (m.behind - 1) k (omega arith) in omega arith in
    grind (arith, up, down)

pub half-confirm : (m : Made) (x y : State) → Half x y → x.confirmed + cs_step (kept_of x) m.pdu ≤ y.expected - 1
    → Half (confirm_units m.pdu x) y
half-confirm m x y h e = grind arith

-- A PDU within reach of an end that has taken something has the index that its number means.
pub reach : (i : ℕ) (m : Made) (rest : List Made) (x y : State) → Solo y → Half y x → Few y → 1 ≤ x.expected
    → drop i y.made ≡ m ∷ rest →
    distance (kept_of x) m.pdu ≤ 320 → x.expected + distance (kept_of x) m.pdu ≡ i
reach i m rest x y solo h few late at near =
    let within : x.expected ≤ length y.made = h.within in
    let index : i < length y.made = at-length i y.made m rest at in
    let sn : m.pdu.sn ≡ sn_of y.first i = numbered-at y.first 0 i y.made m rest solo.numbered at
    ∙ ap (sn_of y.first) (omega arith) in
    let back : x.expected - 1 + 1 ≡ x.expected = omega arith in
    let step : distance (kept_of x) m.pdu ≡ ahead (sn_of y.first x.expected) (sn_of y.first i) =
    ap (λ n. ahead (n + 1) m.pdu.sn) (h.last late)
    ∙ (ahead-next y.first (x.expected - 1) m.pdu.sn
    ∙ (ap (λ n. ahead (sn_of y.first n) m.pdu.sn) back ∙ ap (ahead (sn_of y.first x.expected)) sn)) in
    let up : x.expected ≤ i → x.expected + distance (kept_of x) m.pdu ≡ i =
    λ k. let s = ahead-up y.first x.expected i k (omega arith) in omega arith in
    let down : i < x.expected → x.expected + distance (kept_of x) m.pdu ≡ i =
    λ k. let s = ahead-down y.first x.expected i k (omega arith) in omega arith in
    grind (arith, up, down)

-- The moves of one end keep the invariant of the pair.
pub room-le : (connection : ConnectionState) → room connection ≤ 1
room-le connection = grind arith

-- Closing.
pub pair-closed : (x y : State) → Pair x y → Pair (move_to Closed x) y
pair-closed x y h = grind arith

-- A PDU that carries no unit, and is neither a RetrReq nor a RetrResp.
pub pair-plain : (kind : Kind) (body : List ℕ) (now : ℕ) (pending : List (List ℕ)) (x y : State) → PairWith pending x y
    →
    ((run : List (List ℕ)) → after_pdu kind body run ≡ run) → first_sent kind body ≡ [] → is_answer kind ≡ 0
    → is_request kind ≡ 0 → is_opening kind ≡ 0 →
    (1 ≤ needs_peer kind → 1 ≤ x.expected) → Started x.connection x.settings.client x.expected
    (x.made ++ next_made x kind body now ∷ []) →
    PairWith pending (make kind body now x) y
pair-plain kind body now pending x y h after none answer request opening late started = (
  make-solo kind body now x h.0 opening late started,
  make-sends kind body now pending pending x y h.1 (omega (arith, h.1.open_requests))
      (rw (after (run_of (drop y.expected x.made))) (rw none (h.1.carried ∙ sym (append-nil (units x.made)))))
      (λ e. after []),
  make-receives kind body now x y h.2 request,
)

-- Disconnecting.
pub pair-leave : (reason : Reason) (detail : Detail) (now : ℕ) (x y : State) → Pair x y
    → Pair (leave reason detail now x) y
pair-leave reason detail now x y h =
    let closed = pair-closed x y h in
    let said : Pair (make DiscReq (leaving_body reason detail) now (move_to Closed x)) y =
    pair-plain DiscReq (leaving_body reason detail) now [] (move_to Closed x) y closed (λ run. refl) refl refl refl refl
    (λ one. absurd (omega arith)) tt in
    leave-cases (λ s. Pair s y) reason detail now x (λ _. said) (λ _. closed)

-- A connected end has taken something and made something.
pub started-parts : (connection : ConnectionState) (client : Bool) (expected : ℕ) (made : List Made)
    → is_connected connection ≡ true
    → Started connection client expected made → (1 ≤ expected) × (1 ≤ length made)
started-parts connection client expected made c h = grind arith

pub started-from : (connection : ConnectionState) (client : Bool) (expected : ℕ) (made : List Made)
    → is_connected connection ≡ true → 1 ≤ expected
    → 1 ≤ length made → Started connection client expected made
started-from connection client expected made c e m = grind arith

pub some-push : (ms : List Made) (m : Made) → 1 ≤ length (ms ++ m ∷ [])
some-push ms m = omega (arith, length-append ms (m ∷ []))

-- A connected end is started also after one more PDU.
pub started-push : (kind : Kind) (body : List ℕ) (now : ℕ) (x : State) → is_connected x.connection ≡ true → Solo x
    → Started x.connection x.settings.client x.expected (x.made ++ next_made x kind body now ∷ [])
started-push kind body now x c h = grind arith

-- A connected end has made something.
nonempty : {P : Type 0} (x : State) → is_connected x.connection ≡ true → Solo x → x.made ≡ [] → P
nonempty x c h e = grind arith

pub pair-beat : (now : ℕ) (pending : List (List ℕ)) (x y : State) → is_connected x.connection ≡ true
    → PairWith pending x y
    → PairWith pending (make Heartbeat [] now x) y
pair-beat now pending x y c h =
    pair-plain Heartbeat [] now pending x y h (λ run. refl) refl refl refl refl
    (λ one. (started-parts x.connection x.settings.client x.expected x.made c h.0.started).0)
    (started-push Heartbeat [] now x c h.0)

-- A unit is sent.
pub pair-sent : (unit : List ℕ) (now : ℕ) (x y : State) → is_connected x.connection ≡ true → Pair x y
    → Pair (make Data unit now x) y
pair-sent unit now x y c h =
    let run = run_of (drop y.expected x.made) in
    let before : y.taken ++ run ≡ units x.made = ap (λ us. y.taken ++ us) (sym (append-nil run)) ∙ h.1.carried in
    let after : y.taken ++ ((run ++ unit ∷ []) ++ []) ≡ units x.made ++ unit ∷ [] =
    ap (λ us. y.taken ++ us) (append-nil (run ++ unit ∷ []))
    ∙ (sym (append_assoc y.taken run (unit ∷ [])) ∙ ap (λ us. us ++ unit ∷ []) before) in (
      make-solo Data unit now x h.0 refl (λ one.
          (started-parts x.connection x.settings.client x.expected x.made c h.0.started).0)
          (started-push Data unit now x c h.0),
      make-sends Data unit now [] [] x y h.1 (omega (arith, h.1.open_requests)) after (nonempty x c h.0),
      make-receives Data unit now x y h.2 refl,
    )

-- A retransmission is requested while no request is open.
pub pair-ask : (now : ℕ) (x y : State) → is_connected x.connection ≡ true → room x.connection ≡ 0 → Pair x y
    → Pair (ask now x) y
pair-ask now x y c none h =
    let m = next_made x RetrReq [] now in
    let late : 1 ≤ x.expected = (started-parts x.connection x.settings.client x.expected x.made c h.0.started).0 in
    let solo : Solo (ask now x) = make-solo RetrReq [] now (move_to Requesting x)
    (record {
      numbered = h.0.numbered;
      opening = h.0.opening;
      sound = h.0.sound;
      started = started-parts x.connection x.settings.client x.expected x.made c
          h.0.started;
    })
    refl (λ one. late) (late, some-push x.made m) in
    let sends : Half (ask now x) y = make-sends RetrReq [] now [] [] x y h.1 (omega (arith, h.1.open_requests))
    (h.1.carried ∙ sym (append-nil (units x.made)))
    (λ e. refl) in
    let old = h.2 in
    let told_m : Told y.first x.expected m = record { behind = omega arith; cs = old.last } in (
      solo,
      sends,
      record {
        carried = old.carried;
        within = old.within;
        first_plain = old.first_plain;
        open_requests =
            (let more : requests (drop (y.answered + 1) (x.made ++ m ∷ [])) ≤ requests (drop (y.answered + 1) x.made)
            + 1 =
            count-drop_push is_request (y.answered + 1) x.made m in
            omega (arith, old.open_requests, none));
        requests_at = every-drop_push (RequestAt x.expected) (y.answered + 1) x.made m old.requests_at (λ one. refl);
        confirmed_behind = old.confirmed_behind;
        last = old.last;
        told = every-push (Told y.first x.expected) x.made m old.told told_m;
      },
    )

-- The units that are sent again.
pub pair-resend : (us : List (List ℕ)) (now : ℕ) (x y : State) → is_connected x.connection ≡ true → PairWith us x y
    → Pair (resend us now x) y
pair-resend [] now x y c h = h
pair-resend (u ∷ us) now x y c h =
    let run = run_of (drop y.expected x.made) in
    let after : y.taken ++ ((run ++ u ∷ []) ++ us) ≡ units x.made ++ [] =
    ap (λ vs. y.taken ++ vs) (append_assoc run (u ∷ []) us) ∙ (h.1.carried ∙ sym (append-nil (units x.made))) in
    pair-resend us now (make RetrData u now x) y c (
      make-solo RetrData u now x h.0 refl (λ one.
          (started-parts x.connection x.settings.client x.expected x.made c h.0.started).0)
          (started-push RetrData u now x c h.0),
      make-sends RetrData u now (u ∷ us) us x y h.1 (omega (arith, h.1.open_requests)) after (nonempty x c h.0),
      make-receives RetrData u now x y h.2 refl,
    )

-- A request is answered: no request is open any more, and everything that the peer has passed counts as confirmed.
pub pair-reply : (now : ℕ) (x y : State) → is_connected x.connection ≡ true → Pair x y →
    requests (drop (x.answered + 1) y.made) + answers (drop y.expected x.made) ≡ 0 → room y.connection ≡ 1
    → x.confirmed + 1 ≡ y.expected →
    Pair (reply now x) y
pair-reply now x y c h none one same =
    let us = unconfirmed x in
    let run : run_of (drop y.expected x.made) ≡ us = ap (λ n. run_of (drop n x.made)) (sym same) in
    let after : y.taken ++ ([] ++ us) ≡ units x.made ++ [] =
    ap (λ vs. y.taken ++ vs) (sym run ∙ sym (append-nil (run_of (drop y.expected x.made))))
    ∙ (h.1.carried ∙ sym (append-nil (units x.made))) in
    let begun : PairWith us (make RetrResp [] now x) y = (
      make-solo RetrResp [] now x h.0 refl (λ k.
          (started-parts x.connection x.settings.client x.expected x.made c h.0.started).0)
          (started-push RetrResp [] now x c h.0),
      make-sends RetrResp [] now [] us x y h.1 (omega (arith, none, one)) after (λ e. refl),
      make-receives RetrResp [] now x y h.2 refl,
    ) in
    let t = make RetrResp [] now x in
    pair-beat now [] (resend us now t) y (ap is_connected (resend-connection us now t)
    ∙ c) (pair-resend us now t y c begun)
