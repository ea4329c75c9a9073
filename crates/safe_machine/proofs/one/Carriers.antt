-- The run of unconfirmed units is the list of units whose carrier was made after the last PDU confirmed.
use Rattle.safe_machine.proofs.Words.{◌≡◌, ◌⊎◌, inl, inr, ℕ, suc, ◌+◌, ◌-◌, ◌<◌, ◌≤◌, List, [], ◌∷◌, ◌++◌, length, take, drop, Bool, true, false, refl, sym, ap}
use Rattle.safe_machine.proofs.Words.{subst, ◌∙◌, arith, append_assoc, length-append, if◌then◌else◌, nat_lt, drop-append-le, length-drop, take-append_seam}
use Rattle.safe_machine.proofs.Words.{drop-append_seam, lt-ltb, ltb-true, nat_tests, Kind, ConnResp, RetrResp, Heartbeat, Data, RetrData, Made, units}
use Rattle.safe_machine.proofs.Words.{first_sent, opening_body, Settings, State, next_made, make, resend, reply, unconfirmed, new_state, Numbered, above}
use Rattle.safe_machine.proofs.Words.{renumber_units, octets_of, after_at, carried_at, is_resent, count_resent, carried_again, after_carrier, carriers_from, carriers}
use Rattle.safe_machine.proofs.Words.{make_moves, ReachedState, ReachedLaw, octets-renumbered, cs_step, kept_of, append-nil}
use Rattle.safe_machine.proofs.one.Runs.{units-append, octets_of-append, octets_of-length, carried_at-append, above-append, carried_at-above, ring_of-units}
use Rattle.safe_machine.proofs.one.Runs.{ring-confirm, ring-resend, resend-confirmed}
use Rattle.safe_machine.proofs.one.Kept.{Kept, Anything, is_plain, kept-unsent, kept-moved}

-- Carriers of a list that grows. A RetrData at its front would be counted for a RetrResp before it.
abbrev Begins : List Made → Type 0
Begins [] = Unit {0}
Begins (m ∷ ms) = is_resent m.pdu.kind ≡ false

resent-append : (a b : List Made) → Begins b → count_resent (a ++ b) ≡ count_resent a
resent-append [] [] h = refl
resent-append [] (m ∷ ms) h = ap (λ (t : Bool). if t then suc (count_resent ms) else 0) h
resent-append (m ∷ a) b h = ap (λ (n : ℕ). if is_resent m.pdu.kind then suc n else 0) (resent-append a b h)

carriers-append : (index : ℕ) (cs : List Numbered) (a b : List Made) → Begins b →
    carriers_from index cs (a ++ b) ≡ carriers_from (index + length a) (carriers_from index cs a) b
carriers-append index cs [] b h = ap (λ (n : ℕ). carriers_from n cs b) (omega arith)
carriers-append index cs (m ∷ a) b h =
    let next : ℕ → List Numbered = λ n. after_carrier m.pdu.kind m.pdu.body index n cs in
    ap (λ (n : ℕ). carriers_from (index + 1) (next n) (a ++ b)) (resent-append a b h)
    ∙ (carriers-append (index + 1) (next (count_resent a)) a b h
    ∙ ap (λ (n : ℕ). carriers_from n (carriers_from (index + 1) (next (count_resent a)) a) b) (omega arith))

abbrev Ring : ℕ → List Made → List Numbered
Ring confirmed made = carried_at (confirmed + 1) [] (drop (confirmed + 1) made)

-- Indices rise from the first bound on, and stay below the second.
abbrev Rises : ℕ → ℕ → List Numbered → Type 0
Rises low high [] = low ≤ high
Rises low high (c ∷ cs) = (low ≤ c.number) × Rises (c.number + 1) high cs

rises-bounds : (low high : ℕ) (cs : List Numbered) → Rises low high cs → low ≤ high
rises-bounds low high [] h = h
rises-bounds low high (c ∷ cs) h = omega (arith, h.0, rises-bounds (c.number + 1) high cs h.1)

rises-weaken : (low high : ℕ) (cs : List Numbered) → Rises low high cs → Rises low (high + 1) cs
rises-weaken low high [] h = omega (arith, h)
rises-weaken low high (c ∷ cs) h = (h.0, rises-weaken (c.number + 1) high cs h.1)

rises-push : (low high : ℕ) (unit : List ℕ) (cs : List Numbered) → Rises low high cs
    → Rises low (high + 1) (cs ++ record { number = high; octets = unit } ∷ [])
rises-push low high unit [] h = (h, omega arith)
rises-push low high unit (c ∷ cs) h = (h.0, rises-push (c.number + 1) high unit cs h.1)

rises-after : (low high : ℕ) (kind : Kind) (body : List ℕ) (cs : List Numbered) → Rises low high cs
    → Rises low (high + 1) (after_at kind body high cs)
rises-after low high kind body cs h = grind (arith, rises-push, rises-bounds, rises-weaken)

rises-carried : (low high : ℕ) (cs : List Numbered) (ms : List Made) → Rises low high cs
    → Rises low (high + length ms) (carried_at high cs ms)
rises-carried low high cs [] h = subst (λ (n : ℕ). Rises low n cs) (omega arith) h
rises-carried low high cs (m ∷ ms) h =
    let next = after_at m.pdu.kind m.pdu.body high cs in
    subst (λ (n : ℕ). Rises low n (carried_at (high + 1) next ms)) (omega arith)
    (rises-carried low (high + 1) next ms (rises-after low high m.pdu.kind m.pdu.body cs h))

all-above : (b low high : ℕ) (cs : List Numbered) → Rises low high cs → b < low → above b cs ≡ cs
all-above b low high [] h less = refl
all-above b low high (c ∷ cs) h less =
    ap (λ (t : Bool). if t then c ∷ above b cs else above b cs) (lt-ltb b c.number (omega (arith, h.0)))
    ∙ ap (λ xs. c ∷ xs) (all-above b (c.number + 1) high cs h.1 (omega (arith, h.0)))

-- The units above an index come after those that are not.
record Split (b : ℕ) (cs : List Numbered) : Type 0 where
  low : List Numbered
  is : cs ≡ low ++ above b cs
  none : above b low ≡ []

split-at : (b low high : ℕ) (cs : List Numbered) → Rises low high cs → Split b cs
split-at b low high [] h = record { low = []; is = refl; none = refl }
split-at b low high (c ∷ cs) h = go (nat_lt b c.number) refl (split-at b (c.number + 1) high cs h.1)
  where
    go : (t : Bool) → nat_lt b c.number ≡ t → Split b cs → Split b (c ∷ cs)
    go true e s =
        let less : b < c.number = ltb-true b c.number e in
        let all : above b (c ∷ cs) ≡ c ∷ cs = all-above b c.number high (c ∷ cs) (omega arith, h.1) less in
        record { low = []; is = sym all; none = refl }
    go false e s =
        let one : above b (c ∷ cs) ≡ above b cs = ap (λ (t : Bool). if t then c ∷ above b cs else above b cs) e in
        record {
          low = c ∷ s.low;
          is = ap (λ xs. c ∷ xs) s.is ∙ ap (λ xs. c ∷ s.low ++ xs) (sym one);
          none = ap (λ (t : Bool). if t then c ∷ above b s.low else above b s.low) e ∙ s.none;
        }

-- If no unit is above an index, none is above a greater one.
above-less : (a b : ℕ) (cs : List Numbered) → a ≤ b → above a cs ≡ [] → above b cs ≡ []
above-less a b [] h e = refl
above-less a b (c ∷ cs) h e = go (nat_lt a c.number) refl e (λ none. above-less a b cs h none)
  where
    go : (t : Bool) → nat_lt a c.number ≡ t → (if t then c ∷ above a cs else above a cs) ≡ []
        → (above a cs ≡ [] → above b cs ≡ []) → above b (c ∷ cs) ≡ []
    go true is e f = cc
    go false is e f = ap (λ (t : Bool). if t then c ∷ above b cs else above b cs) not_above ∙ f e
      where
        not_above : nat_lt b c.number ≡ false
        not_above = grind (arith, nat_tests)

-- The carriers: those of the confirmed units, then the ring.
record CarriersOf (made : List Made) (confirmed : ℕ) : Type 0 where
  front : List Numbered
  is : carriers made ≡ front ++ Ring confirmed made
  none : above confirmed front ≡ []
  placed : (confirmed < length made) ⊎ ((made ≡ []) × (confirmed ≡ 0))
  all : octets_of (carriers made) ≡ units made

abbrev Carriers : State → Type 0
Carriers s = CarriersOf s.made s.confirmed

-- The PDU is neither a RetrResp nor a RetrData.
abbrev is_new : Kind → Bool
is_new RetrResp = false
is_new RetrData = false
is_new _ = true

new-begins : (kind : Kind) → is_new kind ≡ true → is_resent kind ≡ false
new-begins kind h = grind arith

-- What a new PDU carries.
new-carrier : (kind : Kind) (body : List ℕ) (index n : ℕ) (cs : List Numbered) → is_new kind ≡ true
    → after_carrier kind body index n cs ≡ cs ++ after_at kind
    body index []
new-carrier kind body index n cs h = grind (arith, append-nil)

new-ring : (kind : Kind) (body : List ℕ) (index : ℕ) (cs : List Numbered) → is_new kind ≡ true
    → after_at kind body index cs ≡ cs ++ after_at kind body index []
new-ring kind body index cs h = grind (arith, append-nil)

new-units : (kind : Kind) (body : List ℕ) (index : ℕ) → is_new kind ≡ true
    → octets_of (after_at kind body index []) ≡ first_sent kind body
new-units kind body index h = grind arith

new-first : (kind : Kind) (body : List ℕ) → above 0 (after_at kind body 0 []) ≡ []
new-first kind body = grind arith

-- The ring after one more PDU.
ring-push : (confirmed : ℕ) (made : List Made) (m : Made) → confirmed < length made
    → Ring confirmed (made ++ m ∷ []) ≡ after_at m.pdu.kind m.pdu.body
    (length made) (Ring confirmed made)
ring-push confirmed made m h = grind (arith, length-drop, drop-append-le, carried_at-append)

carriers-push : (made : List Made) (m : Made) → is_new m.pdu.kind ≡ true
    → carriers (made ++ m ∷ []) ≡ carriers made ++ after_at m.pdu.kind m.pdu.body
    (length made) []
carriers-push made m new = grind (arith, carriers-append, new-begins, new-carrier)

push : (made : List Made) (confirmed : ℕ) (m : Made) → is_new m.pdu.kind ≡ true → CarriersOf made confirmed
    → CarriersOf (made ++ m ∷ []) confirmed
push made confirmed m new h =
    let add = after_at m.pdu.kind m.pdu.body (length made) [] in
    let all : octets_of (carriers (made ++ m ∷ [])) ≡ units (made ++ m ∷ []) =
    ap octets_of (carriers-push made m new)
    ∙ (octets_of-append (carriers made) add
    ∙ (ap (λ us. us ++ octets_of add) h.all
    ∙ (ap (λ us. units made ++ us) (new-units m.pdu.kind m.pdu.body (length made) new
    ∙ sym (append-nil (first_sent m.pdu.kind m.pdu.body)))
    ∙ sym (units-append made (m ∷ []))))) in
    elim h.placed [
      | inl less ↦
          record {
            front = h.front;
            is = carriers-push made m new
                ∙ (ap (λ cs. cs ++ add) h.is
                ∙ (append_assoc h.front (Ring confirmed made) add
                ∙ ap (λ cs. h.front ++ cs) (sym (ring-push confirmed made m less
                ∙ new-ring m.pdu.kind m.pdu.body (length made) (Ring confirmed made) new))));
            none = h.none;
            placed = inl (omega (arith, length-append made (m ∷ [])));
            all = all;
          }
      | inr empty ↦
          subst (λ ms. CarriersOf (ms ++ m ∷ []) confirmed) (sym empty.0)
          (subst (λ (n : ℕ). CarriersOf (m ∷ []) n) (sym empty.1)
          (record {
            front = after_at m.pdu.kind m.pdu.body 0 [];
            is = carriers-push [] m new ∙ sym (append-nil (after_at m.pdu.kind m.pdu.body 0 []));
            none = new-first m.pdu.kind m.pdu.body;
            placed = inl (omega arith);
            all = subst (λ ms. octets_of (carriers (ms ++ m ∷ [])) ≡ units (ms ++ m ∷ [])) empty.0 all;
          }))
    ]

-- More is confirmed: the units that are no longer above join the confirmed ones.
confirm : (made : List Made) (a b : ℕ) → a ≤ b → b < length made → CarriersOf made a → CarriersOf made b
confirm made a b more less h =
    let ring = Ring a made in
    let s = split-at b (a + 1) (a + 1 + length (drop (a + 1) made)) ring
    (rises-carried (a + 1) (a + 1) [] (drop (a + 1) made) (omega arith)) in
    let kept : above b ring ≡ Ring b made = ring-confirm a b made more less in
    record {
      front = h.front ++ s.low;
      is = h.is ∙ (ap (λ cs. h.front ++ cs) (s.is ∙ ap (λ cs. s.low ++ cs) kept)
          ∙ sym (append_assoc h.front s.low (Ring b made)));
      none =
          above-append b h.front s.low ∙ (ap (λ cs. cs ++ above b s.low) (above-less a b h.front more h.none) ∙ s.none);
      placed = inl less;
      all = h.all;
    }

-- A RetrResp and the RetrData after it.
datas : List (List ℕ) → ℕ → State → List Made
datas [] now s = []
datas (u ∷ us) now s = next_made s RetrData u now ∷ datas us now (make RetrData u now s)

resend-made : (us : List (List ℕ)) (now : ℕ) (s : State) → (resend us now s).made ≡ s.made ++ datas us now s
unfolding datas
resend-made [] now s = sym (append-nil s.made)
resend-made (u ∷ us) now s =
    resend-made us now (make RetrData u now s)
    ∙ append_assoc s.made (next_made s RetrData u now ∷ []) (datas us now (make RetrData u now s))

resent-datas : (us : List (List ℕ)) (now : ℕ) (s : State) (m : Made) → is_resent m.pdu.kind ≡ false
    → count_resent (datas us now s ++ m ∷ []) ≡ length us
unfolding datas
resent-datas [] now s m h = ap (λ (t : Bool). if t then 1 else 0) h
resent-datas (u ∷ us) now s m h = ap suc (resent-datas us now (make RetrData u now s) m h)

carriers-datas : (us : List (List ℕ)) (now index : ℕ) (s : State) (cs : List Numbered) (m : Made)
    → m.pdu.kind ≡ Heartbeat
    → carriers_from index cs (datas us now s ++ m ∷ []) ≡ cs
unfolding datas
carriers-datas [] now index s cs m h = ap (λ kind. after_carrier kind m.pdu.body index 0 cs) h
carriers-datas (u ∷ us) now index s cs m h = carriers-datas us now (index + 1) (make RetrData u now s) cs m h

-- The last units, carried again.
again : (front ring : List Numbered) (us : List (List ℕ)) (index : ℕ) → octets_of ring ≡ us
    → carried_again (length us) index (front ++ ring) ≡ front
    ++ renumber_units index us
again front ring us index e =
    let size : length us ≡ length ring = sym (ap length e) ∙ octets_of-length ring in
    let at : length (front ++ ring) - length us ≡ length front = omega (arith, length-append front ring) in
    ap (λ (n : ℕ). take n (front ++ ring) ++ renumber_units index (octets_of (drop n (front ++ ring)))) at
    ∙ (ap (λ cs. cs ++ renumber_units index (octets_of (drop (length front) (front ++ ring))))
    (take-append_seam front ring)
    ∙ ap (λ cs. front ++ renumber_units index cs) (ap octets_of (drop-append_seam front ring) ∙ e))

ring-answer : (confirmed : ℕ) (made : List Made) (m : Made) → m.pdu.kind ≡ RetrResp
    → (confirmed < length made) ⊎ ((made ≡ []) × (confirmed ≡ 0))
    → Ring confirmed (made ++ m ∷ []) ≡ []
ring-answer confirmed made m is h = grind (arith, ring-push)

-- The units made end in the unconfirmed ones.
ended : (s : State) (h : Carriers s) → octets_of h.front ++ unconfirmed s ≡ units s.made
ended s h = grind (arith, ring_of-units, octets_of-append)

plain-new : (kind : Kind) → is_plain kind ≡ true → is_new kind ≡ true
plain-new kind h = grind arith

replied : (now : ℕ) (s : State) → Carriers s → Carriers (reply now s)
replied now s h =
    let us = unconfirmed s in
    let answer = next_made s RetrResp [] now in
    let a = make RetrResp [] now s in
    let b = resend us now a in
    let last = next_made b Heartbeat [] now in
    let block = datas us now a ++ last ∷ [] in
    let size : length a.made ≡ length s.made + 1 = length-append s.made (answer ∷ []) in
    let in_place : s.confirmed < length a.made = elim h.placed
    [ inl less ↦ omega (arith, less) | inr empty ↦ omega (arith, empty.1) ] in
    let whole : (reply now s).made ≡ s.made ++ answer ∷ block =
    ap (λ ms. ms ++ last ∷ []) (resend-made us now a ∙ append_assoc s.made (answer ∷ []) (datas us now a))
    ∙ append_assoc s.made (answer ∷ datas us now a) (last ∷ []) in
    let first_again : 0 + length s.made + 1 ≡ length s.made + 1 = omega arith in
    let n : count_resent block ≡ length us = resent-datas us now a last refl in
    let new : carriers (reply now s).made ≡ h.front ++ renumber_units (length s.made + 1) us =
    ap carriers whole
    ∙ (carriers-append 0 [] s.made (answer ∷ block) refl
    ∙ (carriers-datas us now (0 + length s.made + 1) a
    (carried_again (count_resent block) (0 + length s.made + 1) (carriers s.made)) last refl
    ∙ (ap (λ (k : ℕ). carried_again (count_resent block) k (carriers s.made)) first_again
    ∙ (ap (λ (k : ℕ). carried_again k (length s.made + 1) (carriers s.made)) n
    ∙ (ap (carried_again (length us) (length s.made + 1)) h.is
    ∙ again h.front (Ring s.confirmed s.made) us (length s.made + 1) (ring_of-units s)))))) in
    let grown : length b.made ≡ length a.made + length (datas us now a) = ap length (resend-made us now a)
    ∙ length-append a.made (datas us now a) in
    let still : b.confirmed ≡ s.confirmed = resend-confirmed us now a in
    let ring : Ring b.confirmed (reply now s).made ≡ renumber_units (length s.made + 1) us =
    ring-push b.confirmed b.made last (omega (arith, still, grown, in_place))
    ∙ (ring-resend us now a in_place
    ∙ (ap (λ cs. cs ++ renumber_units (length a.made) us) (ring-answer s.confirmed s.made answer refl h.placed)
    ∙ ap (λ (k : ℕ). renumber_units k us) size)) in
    record {
      front = h.front;
      is = new ∙ ap (λ cs. h.front ++ cs) (sym ring);
      none = subst (λ (k : ℕ). above k h.front ≡ []) (sym still) h.none;
      placed = inl (omega (arith, still, grown, in_place, length-append b.made (last ∷ [])));
      all =
          ap octets_of new
          ∙ (octets_of-append h.front (renumber_units (length s.made + 1) us)
          ∙ (ap (λ xs. octets_of h.front ++ xs) (octets-renumbered (length s.made + 1) us)
          ∙ (ended s h ∙ sym ((kept-unsent (units s.made)).replies now s refl))));
    }

kept-carriers : Kept Anything Anything Carriers
kept-carriers =
    record {
      silent = λ s t same h. subst (λ ms. CarriersOf ms t.confirmed) (sym same.1)
          (subst (λ (k : ℕ). CarriersOf s.made k) (sym same.2) h);
      plain = λ kind body now s is fits h. push s.made s.confirmed (next_made s kind body now) (plain-new kind is) h;
      passes = λ p d s a h. h;
      confirms = λ p s fits h.
          confirm s.made s.confirmed (s.confirmed + cs_step (kept_of s) p) (omega arith)
          (omega (arith, ltb-true (cs_step (kept_of s) p) (length s.made - s.confirmed) fits)) h;
      accepts = λ now s h.
          let m = next_made s ConnResp (opening_body s.settings.n_sendmax) now in
          let longer : length (s.made ++ m ∷ []) ≡ length s.made + 1 = length-append s.made (m ∷ []) in
          confirm (s.made ++ m ∷ []) s.confirmed (length s.made)
          (elim h.placed [ inl less ↦ omega (arith, less) | inr empty ↦ omega (arith, empty.1) ])
          (omega (arith, longer))
          (push s.made s.confirmed m refl h);
      sends = λ unit now s a h. push s.made s.confirmed (next_made s Data unit now) refl h;
      replies = λ now s h. replied now s h;
    }

carriers-opened : (settings : Settings) (first now : ℕ) → Carriers (new_state settings first now)
carriers-opened settings first now = grind arith

reached : (s : State) → Carriers s → ReachedState s
reached s h =
    let ring = Ring s.confirmed s.made in
    let all_there : above s.confirmed ring ≡ ring = carried_at-above s.confirmed (s.confirmed + 1) []
    (drop (s.confirmed + 1) s.made) (omega arith) in
    record {
      by_carriers =
          sym (ap octets_of (ap (above s.confirmed) h.is
          ∙ (above-append s.confirmed h.front ring ∙ (ap (λ cs. cs ++ above s.confirmed ring) h.none ∙ all_there)))
          ∙ ring_of-units s);
      confirmed_before = octets_of h.front;
      ends = ended s h;
    }

pub reached_law_holds : ReachedLaw
reached_law_holds settings first now ms = reached (make_moves ms (new_state settings first now))
    (kept-moved Carriers kept-carriers ms (new_state settings first now) (carriers-opened settings first now))
