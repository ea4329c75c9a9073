-- What two ends make and decide if everything arrives in order, and the next PDU of the peer.
use Rattle.safe_machine.proofs.Words.{◌≡◌, inl, inr, ℕ, suc, zero, ◌≤◌, List, [], ◌∷◌, ◌++◌, length, take, drop, Bool, true, false, refl, sym, ap, subst, ◌∙◌}
use Rattle.safe_machine.proofs.Words.{arith, append_assoc, length-append, append-nil, append_cancel_right, take-append-drop, false≢true, Kind, ConnReq}
use Rattle.safe_machine.proofs.Words.{ConnResp, RetrReq, RetrResp, DiscReq, Heartbeat, Data, RetrData, Made, opening_body, units, first_sent, after_pdu}
use Rattle.safe_machine.proofs.Words.{run_after, run_of, AsksNothing, ◌+◌, ◌-◌, ◌<◌, lt-ltb, le-leb, State, cs_fits, cts_fits, distance, cs_step, cts_step}
use Rattle.safe_machine.proofs.Words.{kept_of, ◌⊎◌, ConnectionState, Start, Up, Pdu, Decision, is_stranger, is_goodbye, decide, Shuts, Accepts, Connects, Takes}
use Rattle.safe_machine.proofs.Words.{◌≢◌, drop-drop, Closed, next_made, make, move_to, client_state, server_state, window_of, pass, hand_up, tests_passed}
use Rattle.safe_machine.proofs.Words.{set_window, carry_out, respond, is_live}
use Rattle.safe_machine.proofs.one.Runs.{units-append, Every, every-drop, every-from, at-length, ahead-up, ahead-next, every-at, numbered-at, every-drop_push}
use Rattle.safe_machine.proofs.one.Runs.{unit-cases, opening_window}
use Rattle.safe_machine.proofs.two.Times.{at-append, Timed, Coming, basis, Rises, behind_of, arrival-coming}
use Rattle.safe_machine.specs.Numbers.{sn_of, ahead}
use Rattle.safe_machine.proofs.two.Invariant.{Told, Solo, Half, Few, needs_peer, Pair, started-is}
use Rattle.safe_machine.proofs.two.Lone.{Arrival, arrival-index}

-- What two ends make if everything arrives in order.

-- A PDU of an end that is connected, or disconnects.
abbrev pub is_plain : Kind → Bool
is_plain Heartbeat = true
is_plain Data = true
is_plain DiscReq = true
is_plain _ = false

-- The same without a unit.
abbrev pub is_bare : Kind → Bool
is_bare Heartbeat = true
is_bare DiscReq = true
is_bare _ = false

-- A PDU of a retransmission.
abbrev pub is_repeat : Kind → Bool
is_repeat RetrReq = true
is_repeat RetrResp = true
is_repeat RetrData = true
is_repeat _ = false

-- What a client with this N_sendmax has made at an index, and what a server has.
abbrev pub GoodAt : Bool → ℕ → ℕ → Made → Type 0
GoodAt true n zero m = (m.pdu.kind ≡ ConnReq) × (m.pdu.body ≡ opening_body n)
GoodAt true n (suc zero) m = is_bare m.pdu.kind ≡ true
GoodAt true n (suc (suc i)) m = is_plain m.pdu.kind ≡ true
GoodAt false n zero m = (m.pdu.kind ≡ ConnResp) × (m.pdu.body ≡ opening_body n)
GoodAt false n (suc i) m = is_plain m.pdu.kind ≡ true

abbrev pub Kinds : Bool → ℕ → List Made → Type 0
Kinds client n ms = (i : ℕ) (m : Made) (rest : List Made) → drop i ms ≡ m ∷ rest → GoodAt client n i m

abbrev pub Ordinary : Made → Type 0
Ordinary m = is_repeat m.pdu.kind ≡ false

-- A PDU without a unit may be at any place except the first.
pub good-bare : (client : Bool) (n i : ℕ) (m : Made) → 1 ≤ i → is_bare m.pdu.kind ≡ true → GoodAt client n i m
good-bare client n i m h e = grind arith

-- Any plain PDU may come after the first of a server, and after the second of a client.
pub good-plain : (client : Bool) (n i : ℕ) (m : Made) → 1 ≤ i → (client ≡ true → 2 ≤ i) → is_plain m.pdu.kind ≡ true
    → GoodAt client n i m
good-plain client n i m h k e = grind arith

pub good-ordinary : (client : Bool) (n i : ℕ) (m : Made) → GoodAt client n i m → Ordinary m
good-ordinary client n i m h = grind arith

pub kinds-none : (client : Bool) (n : ℕ) (ms : List Made) → ms ≡ [] → Kinds client n ms
kinds-none client n ms e = λ i m rest at. let l = at-length i ms m rest at in absurd (omega (arith, ap length e))

pub kinds-push : (client : Bool) (n : ℕ) (ms : List Made) (m : Made) → Kinds client n ms → GoodAt client n (length ms) m
    → Kinds client n (ms ++ m ∷ [])
kinds-push client n ms m h k =
    λ i a rest at.
    elim (at-append (λ b. m ≡ b) i ms (m ∷ []) a rest (refl, tt) at) [
      | inl old ↦ h i a old.rest old.at
      | inr new ↦
          let l = at-length i (ms ++ m ∷ []) a rest at in
          let last : length ms ≡ i = omega (arith, length-append ms (m ∷ []), new.0) in
          subst (λ (j : ℕ). GoodAt client n j a) last (subst (λ (b : Made). GoodAt client n (length ms) b) new.1 k)
    ]

pub kinds-ordinary : (client : Bool) (n : ℕ) (ms : List Made) → Kinds client n ms → Every Ordinary ms
kinds-ordinary client n ms h = every-from Ordinary ms (λ i m rest at. good-ordinary client n i m (h i m rest at))

pub ordinary-asks : (ms : List Made) → Every Ordinary ms → AsksNothing ms
ordinary-asks [] h = tt
ordinary-asks (m ∷ ms) h = ((λ e. false≢true (sym h.0 ∙ ap is_repeat e)), ordinary-asks ms h.1)

-- Ordinary PDUs carry what they first sent.
ordinary-after : (kind : Kind) (body : List ℕ) (run : List (List ℕ)) → is_repeat kind ≡ false
    → after_pdu kind body run ≡ run ++ first_sent kind body
ordinary-after kind body run e = grind (arith, append-nil)

ordinary-run : (run : List (List ℕ)) (ms : List Made) → Every Ordinary ms → run_after run ms ≡ run ++ units ms
ordinary-run run [] h = sym (append-nil run)
ordinary-run run (m ∷ ms) h =
    let sent = first_sent m.pdu.kind m.pdu.body in
    ap (λ us. run_after us ms) (ordinary-after m.pdu.kind m.pdu.body run h.0)
    ∙ (ordinary-run (run ++ sent) ms h.1 ∙ append_assoc run sent (units ms))

-- What was taken is the units of the PDUs before the expected one.
pub taken-so_far : (taken : List (List ℕ)) (n : ℕ) (ms : List Made) → Every Ordinary ms
    → taken ++ (run_of (drop n ms) ++ []) ≡ units ms
    → taken ≡ units (take n ms)
taken-so_far taken n ms h e =
    let later : run_of (drop n ms) ≡ units (drop n ms) = ordinary-run [] (drop n ms) (every-drop Ordinary n ms h) in
    let whole : units ms ≡ units (take n ms) ++ units (drop n ms) = ap units (sym (take-append-drop n ms))
    ∙ units-append (take n ms) (drop n ms) in
    let have : taken ++ units (drop n ms) ≡ units (take n ms) ++ units (drop n ms) =
    ap (λ us. taken ++ us) (sym later ∙ sym (append-nil (run_of (drop n ms)))) ∙ (e ∙ whole) in
    append_cancel_right taken (units (take n ms)) (units (drop n ms)) have

-- The next PDU of the peer passes every test.
pub next-distance : (m : Made) (rest : List Made) (x y : State) → Solo y → Half y x → 1 ≤ x.expected
    → drop x.expected y.made ≡ m ∷ rest
    → distance (kept_of x) m.pdu ≡ 0
next-distance m rest x y solo h late at =
    let sn : m.pdu.sn ≡ sn_of y.first x.expected = numbered-at y.first 0 x.expected y.made m rest solo.numbered at
    ∙ ap (sn_of y.first) (omega arith) in
    let back : x.expected - 1 + 1 ≡ x.expected = omega arith in
    let zero_step = ahead-up y.first x.expected x.expected (omega arith) (omega arith) in
    ap (λ n. ahead (n + 1) m.pdu.sn) (h.last late)
    ∙ (ahead-next y.first (x.expected - 1) m.pdu.sn
    ∙ (ap (λ n. ahead (sn_of y.first n) m.pdu.sn) back
    ∙ (ap (ahead (sn_of y.first x.expected)) sn ∙ (zero_step ∙ omega arith))))

-- If its maker had passed more than what is confirmed.
pub next-cs : (i : ℕ) (m : Made) (rest : List Made) (x y : State) → Half x y → Few x → drop i y.made ≡ m ∷ rest
    → x.confirmed + 1 ≤ m.behind
    → cs_fits (kept_of x) m.pdu ≡ true
next-cs i m rest x y h few at more =
    let told = every-at (Told x.first y.expected) 0 i y.made m rest h.told (omega arith) at in
    let step : cs_step (kept_of x) m.pdu ≡ m.behind - 1 - x.confirmed =
    ap (ahead (sn_of x.first x.confirmed)) (told.cs (omega arith))
    ∙ ahead-up x.first x.confirmed (m.behind - 1) (omega arith)
    (omega (arith, told.behind, h.within)) in
    lt-ltb (cs_step (kept_of x) m.pdu) (length x.made - x.confirmed) (omega (arith, told.behind, h.within))

pub next-cts : (clock now i : ℕ) (m : Made) (rest : List Made) (x y : State) → clock ≤ now
    → now < x.confirmed_at + 60000 → Timed clock x y
    → Coming i m rest x y → cts_fits (kept_of x) m.pdu now ≡ true
next-cts clock now i m rest x y later guarded h c =
    let b = basis clock now i m rest x y later h guarded c in
    le-leb (cts_step (kept_of x) m.pdu) (now - x.confirmed_at) (omega (arith, b.3, b.4, b.5))

-- If everything is passed, everything was taken.
pub all-taken : (x y : State) → Half x y → y.expected ≡ length x.made → y.taken ≡ units x.made
all-taken x y h all =
    let none : run_of (drop y.expected x.made) ≡ [] = ap (λ (n : ℕ). run_of (drop n x.made)) all
    ∙ ap run_of (dropped x.made) in
    sym (append-nil y.taken) ∙ (ap (λ us. y.taken ++ us) (sym (ap (λ us. us ++ []) none)) ∙ h.carried)
  where
    dropped : (ms : List Made) → drop (length ms) ms ≡ []
    dropped [] = refl
    dropped (m ∷ ms) = dropped ms

-- The decision on the next PDU of the peer.

-- The results of the tests for a PDU that needs a peer.
pub record Passes (s : State) (p : Pdu) (now : ℕ) : Type 0 where
  pub next : distance (kept_of s) p ≡ 0
  pub cs : cs_fits (kept_of s) p ≡ true
  pub cts : cts_fits (kept_of s) p now ≡ true

-- A DiscReq, or a PDU that is taken.
abbrev pub ShutsOrTakes : Pdu → Decision → Type 0
ShutsOrTakes p d = ((d ≡ Shuts) × (is_goodbye p.kind ≡ true)) ⊎ ((d ≡ Takes Up) × (needs_peer p.kind ≡ 1))

-- In Up.
decide-up : (s : State) (p : Pdu) (now : ℕ) → s.connection ≡ Up → is_stranger s p ≡ false → is_plain p.kind ≡ true
    → (needs_peer p.kind ≡ 1 → Passes s p now) →
    ShutsOrTakes p (decide (kept_of s) p now)
decide-up s p now up meant plain h = grind arith

-- A server in Start.
decide-granted : (s : State) (p : Pdu) (now : ℕ) → s.connection ≡ Start → s.settings.client ≡ false
    → is_stranger s p ≡ false → is_bare p.kind ≡ true
    → (needs_peer p.kind ≡ 1 → Passes s p now) → ShutsOrTakes p (decide (kept_of s) p now)
decide-granted s p now start server meant bare h = grind arith

-- A client in Start, and a server in Down.
pub decide-connects : (s : State) (p : Pdu) (now n : ℕ) → s.connection ≡ Start → s.settings.client ≡ true
    → is_stranger s p ≡ false → p.kind ≡ ConnResp
    → p.body ≡ opening_body n → cs_fits (kept_of s) p ≡ true → cts_fits (kept_of s) p now ≡ true
    → decide (kept_of s) p now ≡ Connects
decide-connects s p now n start client meant is body cs cts = grind arith

-- What holds for an end and its peer while everything arrives in order, and the moves that keep it.

-- The state of an end in this role after a number of arrivals.
abbrev pub state_of : Bool → ℕ → ConnectionState
state_of true n = client_state n
state_of false n = server_state n

abbrev pub opposite : Bool → Bool
opposite true = false
opposite false = true

-- A PDU that confirms anything confirms more than this.
abbrev pub Beyond : ℕ → Made → Type 0
Beyond confirmed m = 1 ≤ m.behind → confirmed + 1 ≤ m.behind

-- The state of an end in this role to which n PDUs came.
pub record StandsOf (client : Bool) (n : ℕ) (connection : ConnectionState) (expected window peer : ℕ) : Type 0 where
  pub state : connection ≢ Closed → connection ≡ state_of client n
  pub count : connection ≢ Closed → expected ≡ n
  pub window_is : connection ≢ Closed → 1 ≤ n → window ≡ peer

-- Such an end: `back` is what the peer has made.
pub record EndOf (client : Bool) (n : ℕ) (role : Bool) (own : ℕ) (connection : ConnectionState) (made : List Made)
    (expected confirmed window peer : ℕ)
    (back : List Made) : Type 0 where
  pub role_is : role ≡ client
  pub stands : StandsOf client n connection expected window peer
  pub kinds : Kinds client own made
  pub beyond : Every (Beyond confirmed) (drop expected back)

abbrev pub End : Bool → ℕ → State → State → Type 0
End client n x y = EndOf client n x.settings.client x.settings.n_sendmax x.connection x.made x.expected x.confirmed
    x.window y.settings.n_sendmax y.made

-- A client that is up has sent its first heartbeat.
abbrev pub Grown : Bool → State → Type 0
Grown client s = client ≡ true → s.connection ≡ Up → 2 ≤ length s.made

pub record Ends (client : Bool) (n k : ℕ) (x y : State) : Type 0 where
  pub own : End client n x y
  pub peer : End (opposite client) k y x
  pub grown : Grown client x
  pub grown_peer : Grown (opposite client) y

-- A PDU is made: what it says about its maker, and about the peer.
pub end-make : (client : Bool) (n : ℕ) (kind : Kind) (body : List ℕ) (now : ℕ) (x y : State)
    → GoodAt client x.settings.n_sendmax (length x.made) (next_made x kind body now) → End client n x y
    → End client n (make kind body now x) y
end-make client n kind body now x y good h = grind (arith, kinds-push)

pub end-made : (client : Bool) (n : ℕ) (kind : Kind) (body : List ℕ) (now : ℕ) (x y : State)
    → y.confirmed ≤ x.expected - 1 →
    End client n y x → End client n y (make kind body now x)
end-made client n kind body now x y behind h =
    record {
      role_is = h.role_is;
      stands = h.stands;
      kinds = h.kinds;
      beyond =
          every-drop_push (Beyond y.confirmed) y.expected x.made (next_made x kind body now) h.beyond
          (λ one. omega arith);
    }

pub ends-make : (client : Bool) (n k : ℕ) (kind : Kind) (body : List ℕ) (now : ℕ) (x y : State)
    → y.confirmed ≤ x.expected - 1 →
    GoodAt client x.settings.n_sendmax (length x.made) (next_made x kind body now) → Ends client n k x y
    → Ends client n k (make kind body now x) y
ends-make client n k kind body now x y behind good h = grind (arith, end-make, end-made, length-append)

-- An end that is closed, after any arrivals.
pub ends-closed : (connection : ConnectionState) (client : Bool) (n n' k : ℕ) (x y : State) → connection ≡ Closed
    → Ends client n k x y
    → Ends client n' k (move_to connection x) y
ends-closed connection client n n' k x y e h = grind arith

-- Later PDUs do not confirm less.
pub beyond-later : (i c : ℕ) (m : Made) (rest ms : List Made) → Rises behind_of ms → drop i ms ≡ m ∷ rest
    → c + 1 ≤ m.behind
    → Every (Beyond c) (drop (i + 1) ms)
beyond-later i c m rest ms rises at more =
    every-from (Beyond c) (drop (i + 1) ms)
    (λ j a ra e.
    let there : drop (i + 1 + j) ms ≡ a ∷ ra = sym (drop-drop j (i + 1) ms) ∙ e in
    let order : m.behind ≤ a.behind = rises i (i + 1 + j) m a rest ra (omega arith) at there in
    λ one. omega arith)

-- The end after it took the next PDU, in its new state.
pub end-take : (client : Bool) (n : ℕ) (to : ConnectionState) (window : ℕ) (m : Made) (rest : List Made) (x y : State)
    → Arrival 0 m rest x y → End client n x y
    → Rises behind_of y.made →
    x.connection ≢ Closed → needs_peer m.pdu.kind ≡ 1 → cs_fits (kept_of x) m.pdu ≡ true → to ≡ state_of client (n + 1)
    → window ≡ y.settings.n_sendmax →
    EndOf client (n + 1) x.settings.client x.settings.n_sendmax to x.made (x.expected + 0 + 1)
    (x.confirmed + cs_step (kept_of x) m.pdu) window
    y.settings.n_sendmax y.made
end-take client n to window m rest x y a h rises on needs fits state same =
    let index = arrival-index 0 m rest x y a needs fits in
    record {
      role_is = h.role_is;
      stands = record { state = λ _. state; count = λ _. omega (arith, h.stands.count on); window_is = λ _ _. same };
      kinds = h.kinds;
      beyond = beyond-later (x.expected + 0) (x.confirmed + cs_step (kept_of x) m.pdu) m rest y.made rises a.at
          (omega (arith, index.0, index.1));
    }

-- The next PDU of the peer arrives.

-- What is known when the next PDU of y arrives at x, which is not closed.
pub record NextIn (client : Bool) (n k clock now : ℕ) (m : Made) (rest : List Made) (x y : State) : Type 0 where
  pub pair : Pair x y
  pub peer : Solo y
  pub few : Few x
  pub small : y.settings.n_sendmax ≤ 32
  pub ends : Ends client n k x y
  pub timed : Timed clock x y
  pub later : clock ≤ now
  pub guarded : is_live x.connection ≡ true → now < x.confirmed_at + 60000
  pub at : drop n y.made ≡ m ∷ rest
  pub meant : is_stranger x m.pdu ≡ false
  pub on : x.connection ≢ Closed

module _ (client : Bool) (n k clock now : ℕ) (m : Made) (rest : List Made) (x y : State)
    (h : NextIn client n k clock now m rest x y) where
  next-arrival : Arrival 0 m rest x y
  next-arrival =
      let same : n ≡ x.expected + 0 = omega (arith, h.ends.own.stands.count h.on) in
      record { pair = h.pair; peer = h.peer; few = h.few; at = subst (λ (j : ℕ). drop j y.made ≡ m ∷ rest) same h.at }

  -- It passes the confirmation tests, and has the index that its number means.
  next-tests : is_live x.connection ≡ true → needs_peer m.pdu.kind ≡ 1 → (cs_fits (kept_of x) m.pdu ≡ true)
      × (cts_fits (kept_of x) m.pdu now ≡ true)
  next-tests live needs =
      let a = next-arrival in
      let c = arrival-coming 0 m rest x y a needs in
      let more : Beyond x.confirmed m = every-at (Beyond x.confirmed) x.expected (x.expected + 0) y.made m rest
      h.ends.own.beyond (omega arith) a.at in (
        next-cs (x.expected + 0) m rest x y h.pair.1 h.few a.at (more c.late),
        next-cts clock now (x.expected + 0) m rest x y h.later (h.guarded live) h.timed c,
      )

  next-passes : is_live x.connection ≡ true → 1 ≤ n → needs_peer m.pdu.kind ≡ 1 → Passes x m.pdu now
  next-passes live one needs = grind (arith, next-tests, next-distance)

  next-behind : y.confirmed ≤ x.expected + 0 + 1 - 1
  next-behind = omega (arith, h.pair.2.confirmed_behind)

-- What it leads to.
pub data Leads (client : Bool) (n : ℕ) (p : Pdu) (x y : State) (d : Decision) : Type 0 where
  shuts : d ≡ Shuts → is_goodbye p.kind ≡ true → Leads client n p x y d
  takes : d ≡ Takes Up → needs_peer p.kind ≡ 1 → is_live x.connection ≡ true → 1 ≤ n → 1 ≤ length x.made
      → (client ≡ true → 2 ≤ length x.made)
      → Up ≡ state_of client (n + 1) → Leads client n p x y d
  connects : d ≡ Connects → p.kind ≡ ConnResp → p.body ≡ opening_body y.settings.n_sendmax → is_live x.connection ≡ true
      → 1 ≤ length x.made
      → Up ≡ state_of client (n + 1) → Leads client n p x y d
  accepts : d ≡ Accepts → p.body ≡ opening_body y.settings.n_sendmax → x.made ≡ [] → client ≡ false → n ≡ 0
      → Leads client n p x y d

leads-on : (client : Bool) (n : ℕ) (p : Pdu) (x y : State) (d : Decision) → is_live x.connection ≡ true → 1 ≤ n
    → 1 ≤ length x.made →
    (client ≡ true → 2 ≤ length x.made) → Up ≡ state_of client (n + 1) → ShutsOrTakes p d → Leads client n p x y d
leads-on client n p x y d live one some grown state h = grind arith

pub next-leads : (client : Bool) (n k clock now : ℕ) (m : Made) (rest : List Made) (x y : State)
    → NextIn client n k clock now m rest x y
    → Leads client n m.pdu x y (decide (kept_of x) m.pdu now)
next-leads true zero k clock now m rest x y h =
    let start : x.connection ≡ Start = h.ends.own.stands.state h.on in
    let good : GoodAt false y.settings.n_sendmax 0 m = h.ends.peer.kinds 0 m rest h.at in
    let t = next-tests true zero k clock now m rest x y h (ap is_live start) (ap needs_peer good.0) in
    connects (decide-connects x m.pdu now y.settings.n_sendmax start h.ends.own.role_is h.meant good.0 good.1 t.0 t.1)
    good.0 good.1 (ap is_live start)
    (started-is Start x h.pair.0 start).2 refl
next-leads true (suc n) k clock now m rest x y h =
    let up : x.connection ≡ Up = h.ends.own.stands.state h.on in
    let live = ap is_live up in
    let later : suc (suc n) ≡ suc n + 1 = omega arith in
    leads-on true (suc n) m.pdu x y (decide (kept_of x) m.pdu now) live (omega arith) (started-is Up x h.pair.0 up).1
    (λ c. h.ends.grown c up)
    (ap client_state later)
    (decide-up x m.pdu now up h.meant (h.ends.peer.kinds (suc n) m rest h.at)
    (next-passes true (suc n) k clock now m rest x y h live (omega arith)))
next-leads false zero k clock now m rest x y h = grind arith
next-leads false (suc zero) k clock now m rest x y h =
    let start : x.connection ≡ Start = h.ends.own.stands.state h.on in
    let live = ap is_live start in
    leads-on false 1 m.pdu x y (decide (kept_of x) m.pdu now) live (omega arith) (started-is Start x h.pair.0 start).2
    (λ c. cc) refl
    (decide-granted x m.pdu now start h.ends.own.role_is h.meant (h.ends.peer.kinds 1 m rest h.at)
    (next-passes false 1 k clock now m rest x y h live (omega arith)))
next-leads false (suc (suc n)) k clock now m rest x y h =
    let up : x.connection ≡ Up = h.ends.own.stands.state h.on in
    let live = ap is_live up in
    let later : suc (suc (suc n)) ≡ suc (suc n) + 1 = omega arith in
    leads-on false (suc (suc n)) m.pdu x y (decide (kept_of x) m.pdu now) live (omega arith)
    (started-is Up x h.pair.0 up).1 (λ c. cc) (ap server_state later)
    (decide-up x m.pdu now up h.meant (h.ends.peer.kinds (suc (suc n)) m rest h.at)
    (next-passes false (suc (suc n)) k clock now m rest x y h live (omega arith)))

module _ (client : Bool) (n k clock now : ℕ) (m : Made) (rest : List Made) (x y : State)
    (h : NextIn client n k clock now m rest x y) where
  abbrev After : Decision → Type 0
  After d = Ends client (n + 1) k (carry_out m.pdu now d x) y

  behind : y.confirmed ≤ x.expected + 0 + 1 - 1
  behind = next-behind client n k clock now m rest x y h

  -- The end took the next PDU, and confirms what it says.
  took : (window : ℕ) → is_live x.connection ≡ true → needs_peer m.pdu.kind ≡ 1 → Up ≡ state_of client (n + 1)
      → window ≡ y.settings.n_sendmax
      → EndOf client (n + 1) x.settings.client x.settings.n_sendmax Up x.made (x.expected + 0 + 1)
      (x.confirmed + cs_step (kept_of x) m.pdu) window
      y.settings.n_sendmax y.made
  took window live needs state same =
      end-take client n Up window m rest x y (next-arrival client n k clock now m rest x y h) h.ends.own
      h.timed.behind_rises h.on needs
      (next-tests client n k clock now m rest x y h live needs).0 state same

  -- It is taken.
  after-takes : needs_peer m.pdu.kind ≡ 1 → is_live x.connection ≡ true → 1 ≤ n → 1 ≤ length x.made
      → (client ≡ true → 2 ≤ length x.made)
      → Up ≡ state_of client (n + 1) → After (Takes Up)
  after-takes needs live one some grown state =
      let z = move_to Up (pass m.pdu 0 (tests_passed m.pdu x)) in
      let u = hand_up m.pdu z in
      let own = took x.window live needs state (h.ends.own.stands.window_is h.on one) in
      let taken : Ends client (n + 1) k z y = record {
        own = own;
        peer = h.ends.peer;
        grown = λ c up. grown c;
        grown_peer = h.ends.grown_peer;
      } in
      let up : Ends client (n + 1) k u y = record {
        own = own;
        peer = h.ends.peer;
        grown = λ c up. grown c;
        grown_peer = h.ends.grown_peer;
      } in
      unit-cases (λ t. Ends client (n + 1) k t y) m.pdu now z
      (λ _. ends-make client (n + 1) k Heartbeat [] now u y behind
      (good-bare client x.settings.n_sendmax (length x.made) (next_made u Heartbeat [] now) some refl) up)
      (λ _ _. up) (λ _. taken)

  -- A ConnResp arrives at the client.
  after-connects : m.pdu.kind ≡ ConnResp → m.pdu.body ≡ opening_body y.settings.n_sendmax → is_live x.connection ≡ true
      → 1 ≤ length x.made
      → Up ≡ state_of client (n + 1) → After Connects
  after-connects is body live some state =
      let window : window_of m.pdu.body ≡ y.settings.n_sendmax = ap window_of body
      ∙ opening_window y.settings.n_sendmax h.small in
      let z = move_to Up (set_window (window_of m.pdu.body) (pass m.pdu 0 (tests_passed m.pdu x))) in
      let own : End client (n + 1) z y = took (window_of m.pdu.body) live (ap needs_peer is) state window in
      record {
        own =
            end-make client (n + 1) Heartbeat [] now z y
            (good-bare client x.settings.n_sendmax (length x.made) (next_made z Heartbeat [] now) some refl) own;
        peer = end-made (opposite client) k Heartbeat [] now z y behind h.ends.peer;
        grown = λ c on. omega (arith, length-append x.made (next_made z Heartbeat [] now ∷ []));
        grown_peer = h.ends.grown_peer;
      }

  -- A ConnReq arrives at the server.
  after-accepts : m.pdu.body ≡ opening_body y.settings.n_sendmax → x.made ≡ [] → client ≡ false → n ≡ 0 → After Accepts
  after-accepts body empty server first =
      let z = set_window (window_of m.pdu.body) (pass m.pdu 0 x) in
      let says = opening_body x.settings.n_sendmax in
      let made = next_made z ConnResp says now in
      let good : GoodAt client x.settings.n_sendmax (length x.made) made =
      subst (λ (c : Bool). GoodAt c x.settings.n_sendmax (length x.made) made) (sym server)
      (subst (λ (i : ℕ). GoodAt false x.settings.n_sendmax i made) (sym (ap length empty)) (refl, refl)) in
      record {
        own = record {
          role_is = h.ends.own.role_is;
          stands = record {
            state = λ _. ap (λ (c : Bool). state_of c 1) (sym server) ∙ ap (state_of client) (omega arith);
            count = λ _. omega (arith, h.ends.own.stands.count h.on);
            window_is = λ _ _. ap window_of body ∙ opening_window y.settings.n_sendmax h.small;
          };
          kinds = kinds-push client x.settings.n_sendmax x.made made h.ends.own.kinds good;
          beyond = every-from (Beyond (length x.made)) (drop (x.expected + 0 + 1) y.made)
              (λ i a ra at. λ one. omega (arith, ap length empty));
        };
        peer = end-made (opposite client) k ConnResp says now z y behind h.ends.peer;
        grown = λ c up. absurd (false≢true (sym server ∙ c));
        grown_peer = h.ends.grown_peer;
      }

  after-leads : (d : Decision) → Leads client n m.pdu x y d → After d
  after-leads d (shuts e bye) = subst After (sym e) (ends-closed Closed client n (n + 1) k x y refl h.ends)
  after-leads d (takes e needs live one some grown state) =
      subst After (sym e) (after-takes needs live one some grown state)
  after-leads d (connects e is body live some state) = subst After (sym e) (after-connects is body live some state)
  after-leads d (accepts e body empty server first) = subst After (sym e) (after-accepts body empty server first)

  -- For every PDU.
  pub next-ends : Ends client (n + 1) k (respond m.pdu now x) y
  next-ends = after-leads (decide (kept_of x) m.pdu now) (next-leads client n k clock now m rest x y h)
