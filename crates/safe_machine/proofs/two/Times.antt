-- The times of the PDUs of two machines: the basis of a PDU that an end took recently was made recently.
use Rattle.safe_machine.proofs.Words.{◌≡◌, ◌⊎◌, inl, inr, ℕ, suc, zero, ◌+◌, ◌-◌, ◌%◌, ◌<◌, ◌≤◌, List, [], ◌∷◌, ◌++◌, length, drop, sym, ap, subst, ◌∙◌, arith}
use Rattle.safe_machine.proofs.Words.{wrap, Made, State, true, refl, append_assoc, append-nil, Kind, RetrReq, Heartbeat, ConnectionState, Start, window_of}
use Rattle.safe_machine.proofs.Words.{make, move_to, pass, hand_up, note_request, reply, leave, Decision, distance, cts_step, Nothing, Drops, Shuts, Leaves}
use Rattle.safe_machine.proofs.Words.{Rejects, Accepts, Connects, Takes, Asks, Resumes, AnswersNext, AnswersEarly, tests_passed, carry_out, set_window}
use Rattle.safe_machine.proofs.Words.{confirm_units, Reason, Detail, is_live, kept_of, Move, HearsNothing, move, rules}
use Rattle.safe_machine.specs.Numbers.{ahead}
use Rattle.safe_machine.proofs.one.Runs.{Every, every-append, every-at, every-weaken, at-length, unit-cases, early-cases, when, made-again}
use Rattle.safe_machine.proofs.two.Invariant.{Told, Sound, needs_peer, is_opening, started-is}
use Rattle.safe_machine.proofs.one.DecisionCounts.{Fits, listens-live, ByTable}
use Rattle.safe_machine.proofs.two.Lone.{Arrival, Incoming, incoming-arrival, incoming-next, first-arrival}

-- Times of PDUs: the basis of a PDU that an end took recently was made recently.

-- A measure that never decreases along a list.
abbrev pub Rises : (Made → ℕ) → List Made → Type 0
Rises f ms =
    (i j : ℕ) (a b : Made) (ra rb : List Made) → i ≤ j → drop i ms ≡ a ∷ ra → drop j ms ≡ b ∷ rb → f a ≤ f b

-- An index in a longer list.
pub record Older (i : ℕ) (ms : List Made) (m : Made) : Type 0 where
  pub rest : List Made
  pub at : drop i ms ≡ m ∷ rest

pub at-append : (P : Made → Type 0) (i : ℕ) (ms new : List Made) (m : Made) (rest : List Made) → Every P new
    → drop i (ms ++ new) ≡ m ∷ rest
    → Older i ms m ⊎ ((length ms ≤ i) × P m)
at-append P i [] new m rest h e = inr (omega arith, every-at P 0 i new m rest h (omega arith) e)
at-append P zero (x ∷ ms) new m rest h e = grind arith
at-append P (suc i) (x ∷ ms) new m rest h e =
    elim (at-append P i ms new m rest h e)
    [ inl old ↦ inl (record { rest = old.rest; at = old.at }) | inr is ↦ inr (omega (arith, is.0), is.1) ]

pub rises-append : (f : Made → ℕ) (v : ℕ) (ms new : List Made) → Rises f ms → Every (λ m. f m ≤ v) ms
    → Every (λ m. f m ≡ v) new → Rises f (ms ++ new)
rises-append f v ms new rises old fresh i j a b ra rb h ea eb =
    let where_a = at-append (λ m. f m ≡ v) i ms new a ra fresh ea in
    let where_b = at-append (λ m. f m ≡ v) j ms new b rb fresh eb in
    elim where_b [
      | inl ob ↦
          (elim where_a [
            | inl oa ↦ rises i j a b oa.rest ob.rest h oa.at ob.at
            | inr na ↦ absurd (let l = at-length j ms b ob.rest ob.at in omega (arith, na.0))
          ])
      | inr nb ↦
          (elim where_a [
            | inl oa ↦ (let k : f a ≤ v = every-at (λ m. f m ≤ v) 0 i ms a oa.rest old (omega arith) oa.at in
                omega (arith, nb.1))
            | inr na ↦ omega (arith, na.1, nb.1)
          ])
    ]

abbrev pub time_of : Made → ℕ
time_of m = m.time

abbrev pub behind_of : Made → ℕ
behind_of m = m.behind

abbrev pub Stamped : Made → Type 0
Stamped m = m.pdu.ts ≡ m.time % wrap

-- A 32-bit time means the whole time that it was made from, if that is near.
pub ahead-time : (from v : ℕ) → from ≤ v → v - from < wrap → ahead from (v % wrap) ≡ v - from
unfolding ahead
ahead-time from v h k = omega arith

-- x receives from y, and its clock is at `clock`.
pub record TimedOf (clock : ℕ) (made : List Made) (expected confirmed_at : ℕ) (back : List Made)
    (back_expected back_last_ts : ℕ) : Type 0 where
  pub rises : Rises time_of made
  pub past : Every (λ m. m.time ≤ clock) made
  pub confirmed_past : confirmed_at ≤ clock
  pub stamped : Every Stamped made
  pub behind_rises : Rises behind_of back
  -- CTS is the TS of the basis.
  pub cts : (i k : ℕ) (m b : Made) (rm rb : List Made) → drop i back ≡ m ∷ rm → drop k made ≡ b ∷ rb → k + 1 ≡ m.behind
      → m.pdu.cts ≡ b.time % wrap
  pub last : (k : ℕ) (b : Made) (rb : List Made) → drop k made ≡ b ∷ rb → k + 1 ≡ back_expected
      → back_last_ts ≡ b.time % wrap
  -- What is still to be taken has a basis not older than the time last confirmed.
  pub based : (i k : ℕ) (m b : Made) (rm rb : List Made) → expected ≤ i → drop i back ≡ m ∷ rm → drop k made ≡ b ∷ rb
      → k + 1 ≡ m.behind → confirmed_at ≤ b.time
  pub ahead_of : (k : ℕ) (b : Made) (rb : List Made) → drop k made ≡ b ∷ rb → back_expected ≤ k + 1
      → confirmed_at ≤ b.time

abbrev pub Timed : ℕ → State → State → Type 0
Timed clock x y = TimedOf clock x.made x.expected x.confirmed_at y.made y.expected y.last_ts

-- A PDU made at this time by an end that expects this index, and took this timestamp last.
pub record MadeNow (now expected last_ts : ℕ) (m : Made) : Type 0 where
  pub time : m.time ≡ now
  pub stamp : m.pdu.ts ≡ now % wrap
  pub behind : m.behind ≡ expected
  pub cts : m.pdu.cts ≡ last_ts

-- A step of x at time `now` to t: its PDUs are appended, and what it confirms is not newer than what follows.
pub record StepsOf (now : ℕ) (x : State) (ms : List Made) (e ts at : ℕ) (y : State) : Type 0 where
  pub new : List Made
  pub made : ms ≡ x.made ++ new
  pub fresh : Every (MadeNow now e ts) new
  pub further : x.expected ≤ e
  pub last : (k : ℕ) (b : Made) (rb : List Made) → drop k y.made ≡ b ∷ rb → k + 1 ≡ e → ts ≡ b.time % wrap
  pub confirmed_past : at ≤ now
  pub based : (i k : ℕ) (m b : Made) (rm rb : List Made) → e ≤ i → drop i y.made ≡ m ∷ rm → drop k x.made ≡ b ∷ rb
      → k + 1 ≡ m.behind → at ≤ b.time
  pub ahead_of : (k : ℕ) (b : Made) (rb : List Made) → drop k x.made ≡ b ∷ rb → y.expected ≤ k + 1 → at ≤ b.time

abbrev pub Steps : ℕ → State → State → State → Type 0
Steps now x t y = StepsOf now x t.made t.expected t.last_ts t.confirmed_at y

fresh-time : (now expected last_ts : ℕ) (new : List Made) → Every (MadeNow now expected last_ts) new
    → Every (λ m. m.time ≡ now) new
fresh-time now expected last_ts new h =
    every-weaken (MadeNow now expected last_ts) (λ m. m.time ≡ now) new (λ m k. k.time) h

-- The receiver after its step.
pub timed-receiver : (clock now : ℕ) (x t y : State) → clock ≤ now → Timed clock x y → Steps now x t y
    → Every (Told x.first y.expected) y.made
    → y.expected ≤ length x.made → Timed now t y
timed-receiver clock now x t y later h s told within =
    subst (λ ms. TimedOf now ms t.expected t.confirmed_at y.made y.expected y.last_ts) (sym s.made)
    (record {
      rises = rises-append time_of now x.made s.new h.rises
          (every-weaken (λ m. m.time ≤ clock) (λ m. m.time ≤ now) x.made (λ m k. omega arith) h.past)
          (fresh-time now t.expected t.last_ts s.new s.fresh);
      past = every-append (λ m. m.time ≤ now) x.made s.new
          (every-weaken (λ m. m.time ≤ clock) (λ m. m.time ≤ now) x.made (λ m k. omega arith) h.past)
          (every-weaken (MadeNow now t.expected t.last_ts) (λ m. m.time ≤ now) s.new (λ m k. omega (arith, k.time))
          s.fresh);
      confirmed_past = s.confirmed_past;
      stamped = every-append Stamped x.made s.new h.stamped
          (every-weaken (MadeNow now t.expected t.last_ts) Stamped s.new (λ m k. k.stamp
          ∙ ap (λ (n : ℕ). n % wrap) (sym k.time)) s.fresh);
      behind_rises = h.behind_rises;
      cts =
          λ i k m b rm rb em eb e.
          let behind : m.behind ≤ y.expected = (every-at (Told x.first y.expected) 0 i y.made m rm told (omega arith)
          em).behind in
          elim (at-append (MadeNow now t.expected t.last_ts) k x.made s.new b rb s.fresh eb)
          [ inl old ↦ h.cts i k m b rm old.rest em old.at e | inr is ↦ absurd (omega (arith, is.0)) ];
      last =
          λ k b rb eb e.
          elim (at-append (MadeNow now t.expected t.last_ts) k x.made s.new b rb s.fresh eb)
          [ inl old ↦ h.last k b old.rest old.at e | inr is ↦ absurd (omega (arith, is.0)) ];
      based =
          λ i k m b rm rb l em eb e.
          elim (at-append (MadeNow now t.expected t.last_ts) k x.made s.new b rb s.fresh eb)
          [ inl old ↦ s.based i k m b rm old.rest l em old.at e | inr is ↦ omega (arith, s.confirmed_past, is.1.time) ];
      ahead_of =
          λ k b rb eb l.
          elim (at-append (MadeNow now t.expected t.last_ts) k x.made s.new b rb s.fresh eb)
          [ inl old ↦ s.ahead_of k b old.rest old.at l | inr is ↦ omega (arith, s.confirmed_past, is.1.time) ];
    })

-- The sender after its step.
pub timed-sender : (clock now : ℕ) (x t y : State) → Timed clock y x → Steps now x t y
    → Every (Told y.first x.expected) x.made → Timed clock y t
timed-sender clock now x t y h s told =
    record {
      rises = h.rises;
      past = h.past;
      confirmed_past = h.confirmed_past;
      stamped = h.stamped;
      behind_rises =
          subst (λ ms. Rises behind_of ms) (sym s.made)
          (rises-append behind_of t.expected x.made s.new h.behind_rises
          (every-weaken (Told y.first x.expected) (λ m. m.behind ≤ t.expected) x.made
          (λ m k. omega (arith, k.behind, s.further)) told)
          (every-weaken (MadeNow now t.expected t.last_ts) (λ m. m.behind ≡ t.expected) s.new (λ m k. k.behind)
          s.fresh));
      cts =
          λ i k m b rm rb em eb e.
          elim (at-append (MadeNow now t.expected t.last_ts) i x.made s.new m rm s.fresh (sym (ap (drop i) s.made)
          ∙ em))
          [ inl old ↦ h.cts i k m b old.rest rb old.at eb e | inr is ↦ is.1.cts ∙ s.last k b rb eb (e ∙ is.1.behind) ];
      last = s.last;
      based =
          λ i k m b rm rb l em eb e.
          elim (at-append (MadeNow now t.expected t.last_ts) i x.made s.new m rm s.fresh (sym (ap (drop i) s.made)
          ∙ em)) [
            | inl old ↦ h.based i k m b old.rest rb l old.at eb e
            | inr is ↦ h.ahead_of k b rb eb (let c : k + 1 ≡ t.expected = e ∙ is.1.behind in omega (arith, s.further))
          ];
      ahead_of = λ k b rb eb l. h.ahead_of k b rb eb (omega (arith, s.further));
    }

-- Each step of an end keeps the times of the pair.

-- PDUs are made, and nothing else changes that the times depend on.
pub record MakesOf (now : ℕ) (s : State) (ms : List Made) (e ts at : ℕ) : Type 0 where
  pub new : List Made
  pub made : ms ≡ s.made ++ new
  pub fresh : Every (MadeNow now e ts) new
  pub expected : e ≡ s.expected
  pub last_ts : ts ≡ s.last_ts
  pub confirmed_at : at ≡ s.confirmed_at

abbrev pub Makes : ℕ → State → State → Type 0
Makes now s t = MakesOf now s t.made t.expected t.last_ts t.confirmed_at

pub makes-none : (now : ℕ) (s : State) → Makes now s s
makes-none now s = record {
  new = [];
  made = sym (append-nil s.made);
  fresh = tt;
  expected = refl;
  last_ts = refl;
  confirmed_at = refl;
}

pub makes-one : (kind : Kind) (body : List ℕ) (now : ℕ) (s : State) → Makes now s (make kind body now s)
makes-one kind body now s = grind arith

-- What was made before, if the expected index is the same.
fresh-same : (now e ts e' ts' : ℕ) (new : List Made) → e' ≡ e → ts' ≡ ts → Every (MadeNow now e ts) new
    → Every (MadeNow now e' ts') new
fresh-same now e ts e' ts' new f g = grind arith

pub makes-then : (now : ℕ) (s t u : State) → Makes now s t → Makes now t u → Makes now s u
makes-then now s t u a b = grind (arith, append_assoc, every-append, fresh-same)

pub makes-leave : (reason : Reason) (detail : Detail) (now : ℕ) (s : State) → Makes now s (leave reason detail now s)
makes-leave reason detail now s = search rules

makes-reply : (now : ℕ) (s : State) → Makes now s (reply now s)
makes-reply now s =
    made-again (Makes now s) now (λ kind body t _ h. makes-then now s t (make kind body now t) h
    (makes-one kind body now t)) s (makes-none now s)

pub makes-move : (m : Move) (s : State) → HearsNothing m → Makes (when m) s (move m s)
makes-move m s quiet = search rules

-- A step that takes nothing, and what is made after any step.
pub steps-none : (clock other now : ℕ) (x y : State) → clock ≤ now → Timed clock x y → Timed other y x → Steps now x x y
steps-none clock other now x y later h g = search rules

pub steps-then : (now : ℕ) (x z t y : State) → Steps now x z y → Makes now z t → Steps now x t y
steps-then now x z t y s a = grind (arith, append_assoc, every-append, fresh-same)

-- The PDU at an index.
exists-at : (k : ℕ) (ms : List Made) → k < length ms → (b : Made) × (rest : List Made) × (drop k ms ≡ b ∷ rest)
exists-at k [] h = absurd (omega arith)
exists-at zero (m ∷ ms) h = (m, ms, refl)
exists-at (suc k) (m ∷ ms) h = exists-at k ms (omega arith)

same-index : (k : ℕ) (ms : List Made) (a b : Made) (ra rb : List Made) → drop k ms ≡ a ∷ ra → drop k ms ≡ b ∷ rb → a ≡ b
same-index k ms a b ra rb ea eb = cc

-- What is known about the PDU at an index after the expected one.
pub record Coming (i : ℕ) (m : Made) (rest : List Made) (x y : State) : Type 0 where
  pub at : drop i y.made ≡ m ∷ rest
  pub beyond : x.expected ≤ i
  pub late : 1 ≤ m.behind
  pub told : m.behind ≤ y.expected
  pub within : y.expected ≤ length x.made

pub arrival-coming : (d : ℕ) (m : Made) (rest : List Made) (x y : State) → Arrival d m rest x y
    → needs_peer m.pdu.kind ≡ 1 → Coming (x.expected + d) m rest x y
arrival-coming d m rest x y a needs =
    let sound = every-at Sound 0 (x.expected + d) y.made m rest a.peer.sound (omega arith) a.at in
    let told = every-at (Told x.first y.expected) 0 (x.expected + d) y.made m rest a.pair.1.told (omega arith) a.at in
    record {
      at = a.at;
      beyond = omega arith;
      late = sound.late (omega arith);
      told = told.behind;
      within = a.pair.1.within;
    }

module _ (clock now i : ℕ) (m : Made) (rest : List Made) (x y : State) (later : clock ≤ now) (h : Timed clock x y) where
  -- The basis of the PDU that arrives was made at the time that its CTS means, which is at least the time last
  -- confirmed.
  pub basis : now < x.confirmed_at + 60000 → Coming i m rest x y → (b : Made) × (rb : List Made)
      × (drop (m.behind - 1) x.made ≡ b ∷ rb)
      × (x.confirmed_at ≤ b.time) × (x.confirmed_at + cts_step (kept_of x) m.pdu ≡ b.time) × (b.time ≤ now)
  basis guarded c =
      let e = exists-at (m.behind - 1) x.made (omega (arith, c.late, c.told, c.within)) in
      let b = e.0 in
      let index : m.behind - 1 + 1 ≡ m.behind = omega (arith, c.late) in
      let low : x.confirmed_at ≤ b.time = h.based i (m.behind - 1) m b rest e.1 c.beyond c.at e.2 index in
      let high : b.time ≤ clock = every-at (λ m. m.time ≤ clock) 0 (m.behind - 1) x.made b e.1 h.past (omega arith) e.2
      in
      let cts : m.pdu.cts ≡ b.time % wrap = h.cts i (m.behind - 1) m b rest e.1 c.at e.2 index in
      let step : cts_step (kept_of x) m.pdu ≡ b.time - x.confirmed_at = ap (ahead x.confirmed_at) cts
      ∙ ahead-time x.confirmed_at b.time low (omega arith) in
      (b, e.1, e.2, low, omega arith, omega arith)

  -- The timestamp taken last.
  last-at : (other : ℕ) → Timed other y x → drop i y.made ≡ m ∷ rest → (k : ℕ) (b : Made) (rb : List Made)
      → drop k y.made ≡ b ∷ rb → k + 1 ≡ i + 1
      → m.pdu.ts ≡ b.time % wrap
  last-at other g at k b rb e f =
      let here : k ≡ i = omega arith in
      let one : m ≡ b = same-index i y.made m b rest rb at (subst (λ (n : ℕ). drop n y.made ≡ b ∷ rb) here e) in
      let stamp : m.pdu.ts ≡ m.time % wrap = every-at Stamped 0 i y.made m rest g.stamped (omega arith) at in
      stamp ∙ ap (λ (n : Made). n.time % wrap) one

  -- The end has now passed the PDU.
  steps-passed : (other : ℕ) → now < x.confirmed_at + 60000 → Timed other y x → Coming i m rest x y →
      StepsOf now x x.made (i + 1) m.pdu.ts (x.confirmed_at + cts_step (kept_of x) m.pdu) y
  steps-passed other guarded g c =
      let b0 = basis guarded c in
      record {
        new = [];
        made = sym (append-nil x.made);
        fresh = tt;
        further = omega (arith, c.beyond);
        last = last-at other g c.at;
        confirmed_past = omega (arith, b0.4, b0.5);
        based =
            λ j k n b rn rb l en eb e.
            let order : m.behind ≤ n.behind = h.behind_rises i j m n rest rn (omega arith) c.at en in
            let rise : b0.0.time ≤ b.time = h.rises (m.behind - 1) k b0.0 b b0.1 rb (omega arith) b0.2 eb in
            omega (arith, b0.4);
        ahead_of =
            λ k b rb eb l.
            let rise : b0.0.time ≤ b.time = h.rises (m.behind - 1) k b0.0 b b0.1 rb (omega (arith, c.told)) b0.2 eb in
            omega (arith, b0.4);
      }

  -- Without a test of its timestamp.
  steps-over : (other : ℕ) → Timed other y x → x.expected ≤ i → drop i y.made ≡ m ∷ rest
      → StepsOf now x x.made (i + 1) m.pdu.ts x.confirmed_at y
  steps-over other g beyond at =
      record {
        new = [];
        made = sym (append-nil x.made);
        fresh = tt;
        further = omega arith;
        last = last-at other g at;
        confirmed_past = omega (arith, h.confirmed_past);
        based = λ j k n b rn rb l en eb e. h.based j k n b rn rb (omega arith) en eb e;
        ahead_of = h.ahead_of;
      }

module _ (clock other now i : ℕ) (m : Made) (rest : List Made) (x y : State) (later : clock ≤ now)
    (guarded : is_live x.connection ≡ true → now < x.confirmed_at + 60000) (a : Incoming i m rest x y)
    (h : Timed clock x y) (g : Timed other y x) where
  none-stepped : Steps now x x y
  none-stepped = steps-none clock other now x y later h g

  -- The first PDU of the peer, and one in sequence.
  over : Arrival 0 m rest x y → Steps now x (pass m.pdu 0 x) y
  over r = steps-over clock now (x.expected + 0) m rest x y later h other g (omega arith) r.at

  passed-by : (d : ℕ) → Arrival d m rest x y → is_live x.connection ≡ true → needs_peer m.pdu.kind ≡ 1
      → Steps now x (pass m.pdu d (tests_passed m.pdu x)) y
  passed-by d r live needs = steps-passed clock now (x.expected + d) m rest x y later h other (guarded live) g
      (arrival-coming d m rest x y r needs)

  listening : ByTable (kept_of x) m.pdu → is_live x.connection ≡ true
  listening table = listens-live x.connection x.settings.client table.listens_now

  pub steps-carry : (e : Decision) → Fits (kept_of x) m.pdu now e → Steps now x (carry_out m.pdu now e x) y
  steps-carry Nothing f = none-stepped
  steps-carry (Drops cause) f = none-stepped
  steps-carry Shuts f = none-stepped
  steps-carry (Leaves reason detail) f =
      steps-then now x x (leave reason detail now x) y none-stepped (makes-leave reason detail now x)
  steps-carry Rejects (down, is) = grind (arith, first-arrival, started-is, steps-then, over, makes-one)
  steps-carry Accepts (down, is, ours) =
      grind (arith, started-is, first-arrival, steps-then, over, makes-one, at-length)
  steps-carry Connects (start, client, is, passed) =
      let r = first-arrival i m rest x y a.pair a.peer a.few a.at (ap is_opening is)
      ((started-is Start x a.pair.0 start).0 client) in
      let z = set_window (window_of m.pdu.body) (pass m.pdu 0 (tests_passed m.pdu x)) in
      steps-then now x z (make Heartbeat [] now z) y (passed-by 0 r (ap is_live start) (ap needs_peer is))
      (makes-one Heartbeat [] now z)
  steps-carry (Takes to) f =
      let z = pass m.pdu 0 (tests_passed m.pdu x) in
      let k : Steps now x z y = passed-by 0 (incoming-next i m rest x y a f.table f.next) (listening f.table) f.needs in
      let u = hand_up m.pdu (move_to to z) in
      unit-cases (λ t. Steps now x t y) m.pdu now (move_to to z)
      (λ _. steps-then now x u (make Heartbeat [] now u) y k (makes-one Heartbeat [] now u))
      (λ _ _. k) (λ _. k)
  steps-carry Asks f = steps-then now x x (make RetrReq [] now x) y none-stepped (makes-one RetrReq [] now x)
  steps-carry Resumes f =
      passed-by (distance (kept_of x) m.pdu) (incoming-arrival i m rest x y a f.table) (listening f.table) f.needs
  steps-carry AnswersNext (f, none, turn, cts) =
      let z = pass m.pdu 0 (note_request 0 (tests_passed m.pdu x)) in
      steps-then now x z (reply now z) y
      (passed-by 0 (incoming-next i m rest x y a f.table none) (listening f.table) (ap needs_peer f.request))
      (makes-reply now z)
  steps-carry AnswersEarly f =
      let z = note_request (distance (kept_of x) m.pdu) (confirm_units m.pdu x) in
      let t = reply now z in
      let k = steps-then now x z t y none-stepped (makes-reply now z) in
      early-cases (λ u. Steps now x u y) m.pdu now x
      (λ _. steps-then now x t (make RetrReq [] now t) y k (makes-one RetrReq [] now t)) k

-- The basis of a PDU whose unit is taken was made by this end less than T_max before.
pub fresh-take : (clock now i : ℕ) (m : Made) (rest : List Made) (x y : State) (to : ConnectionState) → clock ≤ now
    → now < x.confirmed_at + x.settings.t_max
    → x.settings.t_max ≤ 60000 → Incoming i m rest x y → Timed clock x y → Fits (kept_of x) m.pdu now (Takes to)
    → (b : Made) × (rb : List Made)
    × (1 ≤ m.behind) × (drop (m.behind - 1) x.made ≡ b ∷ rb) × (now < b.time + x.settings.t_max)
fresh-take clock now i m rest x y to later guarded short a h f =
    let c = arrival-coming 0 m rest x y (incoming-next i m rest x y a f.table f.next) f.needs in
    let e = basis clock now (x.expected + 0) m rest x y later h (omega arith) c in
    (e.0, e.1, c.late, e.2, omega (arith, e.3))
