-- Every event keeps the times; facts on the incarnations and on one more event.
use Rattle.safe_machine.proofs.Words.{◌≡◌, ◌≢◌, ◌⊎◌, inl, inr, ℕ, suc, zero, ◌+◌, ◌-◌, ◌<◌, ◌≤◌, List, [], ◌∷◌, ◌++◌, length, drop, true, refl, sym, ap, subst}
use Rattle.safe_machine.proofs.Words.{◌∙◌, arith, cond_both, Il, Fe, ConnReq, ConnectionState, Closed, Down, Start, Pdu, Made, opening_body, Settings, is_legal}
use Rattle.safe_machine.proofs.Words.{State, unconfirmed, leave, new_state, blank, next_made, Decision, decide, Takes, respond, arrive, carry_out, World, Event}
use Rattle.safe_machine.proofs.Words.{start, change_world, run, event_end, event_time, at_end, Timely, apply_event, GenuineAt, GenuineEvent, Genuine, as_role, open_il}
use Rattle.safe_machine.proofs.Words.{open_fe, with_il, with_fe, Open, Send, Close, Guard, Tick, Arrive, Fresh, FreshEvent, AllFresh, FreshLaw, FreshAtLastLaw}
use Rattle.safe_machine.proofs.Words.{is_live, kept_of, take, Bool, false, Option, Some, None, if◌then◌else◌, nat_tests, units, Served, unopened_state, Among, is_joining}
use Rattle.safe_machine.proofs.Words.{Move, move, Guards, Hears, Ticks, Sends, next_bound, JoinsFall, IsJoined, is_number, taken_from_il, UnitLaw, LossLaw}
use Rattle.safe_machine.proofs.Words.{JoinedLaw, ◌==◌, LeavesNow, cond, by_test, TimelyEvent, InOrder, InOrderEvent, heard_by_il, heard_by_fe, all_heard_by_il}
use Rattle.safe_machine.proofs.Words.{all_heard_by_fe, is_close, has_close, OneMoreLaw, append-nil, HearsNothing}
use Rattle.safe_machine.specs.Numbers.{sn_of}
use Rattle.safe_machine.proofs.one.Runs.{legal as lawful, Every, every-at, every-weaken, at-length, numbered-at, when, arrive-cases, decided-taken}
use Rattle.safe_machine.proofs.two.Invariant.{Solo, Half, Pair, Told}
use Rattle.safe_machine.proofs.one.DecisionCounts.{Fits, listens-live, decide-fits, Bounded}
use Rattle.safe_machine.proofs.two.Lone.{Incoming, lone-leave, among-dropped, incoming-at}
use Rattle.safe_machine.proofs.two.Status.{Untouched, mute-arrive, deaf-arrive, still-arrive, incarnation, TakesBeginnings, AllTakeBeginnings, OnlyJoinedTake}
use Rattle.safe_machine.proofs.two.Status.{taken_from_fe}
use Rattle.safe_machine.proofs.two.Status.Status.{met, il_later, fe_later}
use Rattle.safe_machine.proofs.two.Times.{Timed, Steps, Stamped, timed-receiver, timed-sender, Makes, makes-leave, steps-none, steps-then, steps-carry}
use Rattle.safe_machine.proofs.two.Times.{fresh-take, makes-move, makes-none}
use Rattle.safe_machine.proofs.two.Worlds.{Inv, inv-open_il, inv-open_fe, inv-start, inv-run, il-quiet, fe-quiet, unheard-arrive, Lawful, MetIn, inv-same}
use Rattle.safe_machine.proofs.two.Worlds.{il-arrive, fe-arrive}
use Rattle.safe_machine.proofs.one.Kept.{joins-down, moves_law_holds, settings_law_holds}
use Rattle.safe_machine.specs.Law as Public

-- Over every list of events with clocks that never decrease, everything taken is fresh.

-- What a decision delivers.
carry-taken : (p : Pdu) (now : ℕ) (s : State) (e : Decision)
    → ((to : ConnectionState) × (e ≡ Takes to)) ⊎ ((carry_out p now e s).taken ≡ s.taken)
carry-taken p now s e = grind (arith, decided-taken, append-nil)

-- A later clock.
timed-later : (clock now : ℕ) (x y : State) → clock ≤ now → Timed clock x y → Timed now x y
timed-later clock now x y h t = grind (arith, every-weaken)

-- One step of x, for both directions.
pub record Both (clock other : ℕ) (t y : State) : Type 0 where
  pub receives : Timed clock t y
  pub sends : Timed other y t

both-step : (clock other now : ℕ) (x t y : State) → clock ≤ now → Half x y → Half y x → Both clock other x y
    → Steps now x t y → Both now other t y
both-step clock other now x t y later h g b s =
    record {
      receives = timed-receiver clock now x t y later b.receives s h.told h.within;
      sends = timed-sender other now x t y b.sends s g.told;
    }

pub both-makes : (clock other now : ℕ) (x t y : State) → clock ≤ now → Half x y → Half y x → Both clock other x y
    → Makes now x t → Both now other t y
both-makes clock other now x t y later h g b m =
    both-step clock other now x t y later h g b
    (steps-then now x x t y (steps-none clock other now x y later b.receives b.sends) m)

-- A genuine arrival after the two ends have met.
pub record Arrived (clock other now : ℕ) (p : Pdu) (x t y : State) : Type 0 where
  pub both : Both now other t y
  pub fresh : t.taken ≢ x.taken → Fresh x p now y.made

pub met-arrive : (clock other now n : ℕ) (p : Pdu) (x y : State) → clock ≤ now → Pair x y → Solo y → Bounded x
    → Bounded y → x.settings.t_max ≤ 60000
    → Both clock other x y → GenuineAt x p (drop n y.made) → Arrived clock other now p x (arrive p now x) y
met-arrive clock other now n p x y later h peer bounded bounded_peer short both genuine =
    arrive-cases (λ t. Arrived clock other now p x t y) p now x
    (record {
      both = both-makes clock other now x x y later h.1 h.2 both (makes-none now x);
      fresh = λ new. absurd (new refl);
    })
    (λ reason detail. record {
      both =
          both-makes clock other now x (leave reason detail now x) y later h.1 h.2 both
          (makes-leave reason detail now x);
      fresh = λ new. absurd (new (lone-leave reason detail now x).taken);
    })
    (λ on meant in_time.
    let r = among-dropped p n y.made (genuine on meant) in
    let m = r.1 in
    let d = decide (kept_of x) m.pdu now in
    let fits = decide-fits (kept_of x) m.pdu now in
    let incoming = incoming-at p n x y h peer bounded bounded_peer (genuine on meant) in
    let guarded : is_live x.connection ≡ true → now < x.confirmed_at + x.settings.t_max = λ live. (in_time live).0 in
    subst (λ (q : Pdu). Arrived clock other now q x (respond q now x) y) r.4
    (record {
      both =
          both-step clock other now x (respond m.pdu now x) y later h.1 h.2 both
          (steps-carry clock other now r.0 m r.2 x y later (λ live. omega (arith, guarded live)) incoming both.receives
          both.sends d fits);
      fresh = took_fresh m r.2 r.0 incoming guarded d fits;
    }))
  where
    took_fresh : (m : Made) (rest : List Made) (i : ℕ) → Incoming i m rest x y
        → (is_live x.connection ≡ true → now < x.confirmed_at + x.settings.t_max) →
        (e : Decision) → Fits (kept_of x) m.pdu now e → (carry_out m.pdu now e x).taken ≢ x.taken
        → Fresh x m.pdu now y.made
    took_fresh m rest i a guarded e f new =
        elim (carry-taken m.pdu now x e) [
          | inr nothing ↦ absurd (new nothing)
          | inl is ↦
              let took : Fits (kept_of x) m.pdu now (Takes is.0) = subst
              (λ (d : Decision). Fits (kept_of x) m.pdu now d) is.1 f in
              let live = listens-live x.connection x.settings.client took.table.listens_now in
              let t = both.receives in
              let r = fresh-take clock now i m rest x y is.0 later (guarded live) short a t took in
              let told : Told x.first y.expected m = every-at (Told x.first y.expected) 0 i y.made m rest a.pair.1.told
              (omega arith) a.at in
              let own = numbered-at x.first 0 (m.behind - 1) x.made r.0 r.1 a.pair.0.numbered r.3 in
              let stamped : Stamped r.0 = every-at Stamped 0 (m.behind - 1) x.made r.0 r.1 t.stamped (omega arith) r.3
              in
              record {
                index = i;
                carrier = m;
                rest = rest;
                at = a.at;
                is = refl;
                has_basis = r.2;
                basis = r.0;
                own_rest = r.1;
                own_at = r.3;
                number = own ∙ (ap (sn_of x.first) (omega arith) ∙ sym (told.cs r.2));
                stamp = stamped ∙ sym (t.cts i (m.behind - 1) m r.0 rest r.1 a.at r.3 (omega (arith, r.2)));
                recent = r.4;
              }
        ]

-- Either the two have met and keep times together, or nothing can be taken.
pub record TInv (w : World) (ci cf : ℕ) : Type 0 where
  pub inv : Inv (Both ci cf w.il w.fe) (w.fe.confirmed_at ≤ cf) w
  pub short_il : w.il.settings.t_max ≤ 60000
  pub short_fe : w.fe.settings.t_max ≤ 60000

swapped : (clock other : ℕ) (x y : State) → Both clock other x y → Both other clock y x
swapped clock other x y b = record { receives = b.sends; sends = b.receives }

short-same : (s t : State) → t.settings ≡ s.settings → s.settings.t_max ≤ 60000 → t.settings.t_max ≤ 60000
short-same s t e h = omega (arith, ap (λ (k : Settings). k.t_max) e)

-- A move of the interlocking that is not an arrival.
il-quiet_times : (w : World) (ci cf : ℕ) (m : Move) → HearsNothing m → ci ≤ when m → TInv w ci cf
    → TInv (with_il (move m w.il) w) (when m) cf
il-quiet_times w ci cf m quiet later h =
    let both : MetIn w → Both ci cf w.il w.fe → Both (when m) cf (move m w.il) w.fe =
    λ s b. both-makes ci cf (when m) w.il (move m w.il) w.fe later s.il_sends s.fe_sends b (makes-move m w.il quiet) in
    record {
      inv = il-quiet w m quiet both (λ past. past) h.inv;
      short_il = short-same w.il (move m w.il) (settings_law_holds m w.il) h.short_il;
      short_fe = h.short_fe;
    }

fe-quiet_times : (w : World) (ci cf : ℕ) (m : Move) → HearsNothing m → cf ≤ when m → TInv w ci cf
    → TInv (with_fe (move m w.fe) w) ci (when m)
fe-quiet_times w ci cf m quiet later h =
    let t = move m w.fe in
    let makes = makes-move m w.fe quiet in
    let both : MetIn w → Both ci cf w.il w.fe → Both ci (when m) w.il t =
    λ s b. swapped (when m) ci t w.il (both-makes cf ci (when m) w.fe t w.il later s.fe_sends s.il_sends
    (swapped ci cf w.il w.fe b) makes) in
    record {
      inv = fe-quiet w m quiet both (λ past. omega (arith, makes.confirmed_at, past)) h.inv;
      short_il = h.short_il;
      short_fe = short-same w.fe t (settings_law_holds m w.fe) h.short_fe;
    }

-- Arrivals, and that what they deliver is fresh.
il-arrive_times : (w : World) (ci cf now : ℕ) (p : Pdu) → ci ≤ now → TInv w ci cf
    → GenuineAt w.il p (drop w.dead_fe w.fe.made) →
    TInv (with_il (arrive p now w.il) w) now cf × ((arrive p now w.il).taken ≢ w.il.taken → Fresh w.il p now w.fe.made)
il-arrive_times w ci cf now p later h genuine = (
  record {
    inv = il-arrive w p now (λ s b. (arrived s b).both) (λ past. past) h.inv genuine;
    short_il = short-same w.il (arrive p now w.il) (settings_law_holds (Hears p now) w.il) h.short_il;
    short_fe = h.short_fe;
  },
  λ new. elim h.inv.status [
    | met s b ↦ (arrived s b).fresh new
    | il_later s ↦ absurd (new (mute-arrive now w.dead_fe p w.il w.fe.made s.mute h.inv.bounded_il s.dead
        genuine).1.taken)
    | fe_later s past ↦ absurd (new (unheard-arrive p now w.dead_fe w.il w.fe h.inv.bounded_il s.made genuine).0.taken)
  ],
)
  where
    arrived : MetIn w → Both ci cf w.il w.fe → Arrived ci cf now p w.il (arrive p now w.il) w.fe
    arrived s b =
        met-arrive ci cf now w.dead_fe p w.il w.fe later (s.solo_il, s.il_sends, s.fe_sends) s.solo_fe h.inv.bounded_il
        h.inv.bounded_fe h.short_il b genuine

fe-arrive_times : (w : World) (ci cf now : ℕ) (p : Pdu) → cf ≤ now → TInv w ci cf
    → GenuineAt w.fe p (drop w.dead_il w.il.made) →
    TInv (with_fe (arrive p now w.fe) w) ci now × ((arrive p now w.fe).taken ≢ w.fe.taken → Fresh w.fe p now w.il.made)
fe-arrive_times w ci cf now p later h genuine = (
  record {
    inv = fe-arrive w p now (λ s b. swapped now ci (arrive p now w.fe) w.il (arrived s b).both)
        (λ same past. omega (arith, same, past)) h.inv genuine;
    short_il = h.short_il;
    short_fe = short-same w.fe (arrive p now w.fe) (settings_law_holds (Hears p now) w.fe) h.short_fe;
  },
  λ new. elim h.inv.status [
    | met s b ↦ (arrived s b).fresh new
    | il_later s ↦ absurd (new (deaf-arrive now w.dead_il p w.fe w.il.made s.started h.inv.bounded_fe s.mute.quiet
        genuine).1.taken)
    | fe_later s past ↦ absurd (new (still-arrive now w.dead_il p w.fe w.il.made s.connection h.inv.bounded_fe s.dead
        genuine).0.taken)
  ],
)
  where
    arrived : MetIn w → Both ci cf w.il w.fe → Arrived cf ci now p w.fe (arrive p now w.fe) w.il
    arrived s b =
        met-arrive cf ci now w.dead_il p w.fe w.il later (s.solo_fe, s.fe_sends, s.il_sends) s.solo_il h.inv.bounded_fe
        h.inv.bounded_il h.short_fe
        (swapped ci cf w.il w.fe b) genuine

-- Openings.
pub no_index : {P : Type 0} (k : ℕ) (ms : List Made) (m : Made) (rest : List Made) → ms ≡ [] → drop k ms ≡ m ∷ rest → P
no_index k ms m rest e at = let l = at-length k ms m rest at in absurd (omega (arith, ap length e))

only_index : (k : ℕ) (m b : Made) (rb : List Made) → drop k (m ∷ []) ≡ b ∷ rb → (m ≡ b) × (k ≡ 0)
only_index zero m b rb e = (cc, refl)
only_index (suc k) m b rb e = no_index k [] b rb refl e

pub opened-times : (settings : Settings) (first now cf : ℕ) (fe : State) → Untouched fe → fe.confirmed_at ≤ cf
    → Both now cf (new_state (as_role true settings) first now) fe
opened-times settings first now cf fe k past =
    let il = new_state (as_role true settings) first now in
    record {
      receives = record {
        rises = λ i j a b ra rb l ea eb. rise i j a b ra rb ea eb;
        past = (omega arith, tt);
        confirmed_past = omega arith;
        stamped = (refl, tt);
        behind_rises = λ i j a b ra rb l ea eb. no_index i fe.made a ra k.made ea;
        cts = λ i n m b rm rb em eb e. no_index i fe.made m rm k.made em;
        last = λ n b rb eb e. absurd (omega (arith, k.expected));
        based = λ i n m b rm rb l em eb e. no_index i fe.made m rm k.made em;
        ahead_of = λ n b rb eb l. let o =
            only_index n (first_made settings first now) b rb eb in omega (arith, ap (λ (m : Made). m.time) o.0);
      };
      sends = record {
        rises = λ i j a b ra rb l ea eb. no_index i fe.made a ra k.made ea;
        past = subst (λ ms. Every (λ m. m.time ≤ cf) ms) (sym k.made) tt;
        confirmed_past = past;
        stamped = subst (λ ms. Every Stamped ms) (sym k.made) tt;
        behind_rises = λ i j a b ra rb l ea eb. rise_behind i j a b ra rb ea eb;
        cts = λ i n m b rm rb em eb e. no_index n fe.made b rb k.made eb;
        last = λ n b rb eb e. no_index n fe.made b rb k.made eb;
        based = λ i n m b rm rb l em eb e. no_index n fe.made b rb k.made eb;
        ahead_of = λ n b rb eb l. no_index n fe.made b rb k.made eb;
      };
    }
  where
    first_made : Settings → ℕ → ℕ → Made
    first_made settings first now =
        next_made (blank (as_role true settings) first now Start) ConnReq (opening_body settings.n_sendmax) now

    rise : (i j : ℕ) (a b : Made) (ra rb : List Made)
        → drop i (new_state (as_role true settings) first now).made ≡ a ∷ ra
        → drop j (new_state (as_role true settings) first now).made ≡ b ∷ rb → a.time ≤ b.time
    rise i j a b ra rb ea eb =
        let x = only_index i (first_made settings first now) a ra ea in
        let y = only_index j (first_made settings first now) b rb eb in
        omega (arith, ap (λ (m : Made). m.time) x.0, ap (λ (m : Made). m.time) y.0)

    rise_behind : (i j : ℕ) (a b : Made) (ra rb : List Made)
        → drop i (new_state (as_role true settings) first now).made ≡ a ∷ ra
        → drop j (new_state (as_role true settings) first now).made ≡ b ∷ rb → a.behind ≤ b.behind
    rise_behind i j a b ra rb ea eb =
        let x = only_index i (first_made settings first now) a ra ea in
        let y = only_index j (first_made settings first now) b rb eb in
        omega (arith, ap (λ (m : Made). m.behind) x.0, ap (λ (m : Made). m.behind) y.0)

pub fe-past : (w : World) (ci cf : ℕ) → TInv w ci cf → w.fe.connection ≡ Down → w.fe.confirmed_at ≤ cf
fe-past w ci cf h down = grind arith

-- Every event keeps the times, and everything it takes is fresh.
t-changed : (w : World) (e : Event) (ci cf : ℕ) → TInv w ci cf → GenuineEvent w e
    → at_end (event_end e) ci cf ≤ event_time e →
    TInv (change_world w e) (at_end (event_end e) (event_time e) ci) (at_end (event_end e) cf (event_time e))
    × FreshEvent w e
t-changed w (Open Il settings first now) ci cf h g later = (
  cond_both (is_legal settings) (open_il settings first now w) w (λ v. TInv v now cf)
      (λ legal. record {
        inv = inv-open_il settings first now w h.inv legal
            (λ down. opened-times settings first now cf w.fe (h.inv.idle down).0 (fe-past w ci cf h down));
        short_il = (lawful settings legal).t_max_most;
        short_fe = h.short_fe;
      })
      (λ _. record {
        inv = inv-same w (λ b. record { receives = timed-later ci now w.il w.fe later b.receives; sends = b.sends })
            (λ past. past) h.inv;
        short_il = h.short_il;
        short_fe = h.short_fe;
      }),
  tt,
)
t-changed w (Open Fe settings first now) ci cf h g later = (
  cond_both (is_legal settings) (open_fe settings first now w) w (λ v. TInv v ci now)
      (λ legal. record {
        inv = inv-open_fe settings first now w h.inv legal (omega arith);
        short_il = h.short_il;
        short_fe = (lawful settings legal).t_max_most;
      })
      (λ _. record {
        inv = inv-same w (λ b. record { receives = b.receives; sends = timed-later cf now w.fe w.il later b.sends })
            (λ past. omega (arith, past)) h.inv;
        short_il = h.short_il;
        short_fe = h.short_fe;
      }),
  tt,
)
t-changed w (Send Il unit now) ci cf h g later = (il-quiet_times w ci cf (Sends unit now) tt later h, tt)
t-changed w (Send Fe unit now) ci cf h g later = (fe-quiet_times w ci cf (Sends unit now) tt later h, tt)
t-changed w (Close Il reason detail now) ci cf h g later =
    (il-quiet_times w ci cf (LeavesNow reason detail now) tt later h, tt)
t-changed w (Close Fe reason detail now) ci cf h g later =
    (fe-quiet_times w ci cf (LeavesNow reason detail now) tt later h, tt)
t-changed w (Guard Il now) ci cf h g later = (il-quiet_times w ci cf (Guards now) tt later h, tt)
t-changed w (Guard Fe now) ci cf h g later = (fe-quiet_times w ci cf (Guards now) tt later h, tt)
t-changed w (Tick Il now) ci cf h g later = (il-quiet_times w ci cf (Ticks now) tt later h, tt)
t-changed w (Tick Fe now) ci cf h g later = (fe-quiet_times w ci cf (Ticks now) tt later h, tt)
t-changed w (Arrive Il p now) ci cf h g later = il-arrive_times w ci cf now p later h g
t-changed w (Arrive Fe p now) ci cf h g later = fe-arrive_times w ci cf now p later h g

-- The invariant does not depend on the recorded times.
pub t-event : (w : World) (e : Event) (ci cf : ℕ) → TInv w ci cf → GenuineEvent w e
    → at_end (event_end e) ci cf ≤ event_time e →
    TInv (apply_event w e) (at_end (event_end e) (event_time e) ci) (at_end (event_end e) cf (event_time e))
    × FreshEvent w e
t-event w e ci cf h g later =
    let r = t-changed w e ci cf h g later in
    (record { inv = r.0.inv; short_il = r.0.short_il; short_fe = r.0.short_fe }, r.1)

pub t-start : TInv start 0 0
t-start = record { inv = inv-start; short_il = omega arith; short_fe = omega arith }

t-run : (events : List Event) (w : World) → TInv w w.clock_il w.clock_fe → Genuine events w → Timely events w
    → AllFresh events w
t-run [] w h g k = tt
t-run (e ∷ es) w h g k =
    let r = t-event w e w.clock_il w.clock_fe h g.0 k.0 in
    (r.1, t-run es (apply_event w e) r.0 g.1 k.1)

-- The law.
pub fresh_law_holds : FreshLaw
fresh_law_holds events genuine timely = t-run events start t-start genuine timely

-- What is fresh along a list is fresh at its last event.
fresh-last : (events : List Event) (e : Event) (w : World) → AllFresh (events ++ e ∷ []) w → FreshEvent (run events w) e
fresh-last [] e w h = h.0
fresh-last (a ∷ es) e w h = fresh-last es e (apply_event w a) h.1

pub fresh_at_last_law_holds : FreshAtLastLaw
fresh_at_last_law_holds events e genuine timely =
    fresh-last events e start (fresh_law_holds (events ++ e ∷ []) genuine timely)

-- From the law over all ends, that before the first opening included, to that over the incarnations, which are the ends
-- that were opened.

-- A list without its last entry.
length-front : {A : Type 0} (x : A) (xs : List A) → length (take (length xs) (x ∷ xs)) ≡ length xs
length-front x [] = refl
length-front x (y ∷ ys) = ap suc (length-front y ys)

differ : (a b : ℕ) → a ≢ b → (a == b) ≡ false
differ a b h = grind (arith, nat_tests, h)

-- The same incarnation by its number.
found : (x : State) (xs : List State) (number : ℕ) → 1 ≤ number
    → incarnation (x ∷ xs) number ≡ Public.incarnation (take (length xs) (x ∷ xs)) number
found x [] number late = ap (λ (t : Bool). if t then Some x else None) (differ number 0 (omega (arith, late)))
found x (y ∷ ys) number late =
    let count : length (y ∷ ys) ≡ length (take (length ys) (y ∷ ys)) + 1 = omega (arith, length-front y ys) in
    ap (λ (n : ℕ). if number == n then Some x else incarnation (y ∷ ys) number) count
    ∙ ap (λ o. if number == length (take (length ys) (y ∷ ys)) + 1 then Some x else o) (found y ys number late)

-- No end is joined to the one before the first opening.
abbrev pub Late : Option ℕ → Type 0
Late None = Unit {0}
Late (Some number) = 1 ≤ number

abbrev pub AllLate : List Served → Type 0
AllLate [] = Unit {0}
AllLate (f ∷ fs) = Late f.joined × AllLate fs

takes : (x : State) (xs : List State) (fe : State) (joined : Option ℕ) → Late joined
    → TakesBeginnings (x ∷ xs) fe joined
    → Public.TakesBeginnings (take (length xs) (x ∷ xs)) fe joined
takes x xs fe joined late h = grind (arith, found)

all-takes : (x : State) (xs : List State) (fs : List Served) (n : ℕ) → AllLate fs → AllTakeBeginnings (x ∷ xs) fs
    → Public.AllTakeBeginnings (take (length xs) (x ∷ xs)) (take n fs)
all-takes x xs [] zero late h = tt
all-takes x xs [] (suc n) late h = tt
all-takes x xs (f ∷ fs) zero late h = tt
all-takes x xs (f ∷ fs) (suc n) late h = (takes x xs f.machine f.joined late.0 h.0, all-takes x xs fs n late.1 h.1)

falls-take : (bound n : ℕ) (fs : List Served) → JoinsFall bound fs → JoinsFall bound (take n fs)
falls-take bound zero fs h = tt
falls-take bound (suc n) [] h = tt
falls-take bound (suc n) (f ∷ fs) h = (h.0, falls-take (next_bound bound f.joined) n fs h.1)

-- The end before the first opening is the last of the lists.
abbrev pub LastIl : State → List State → Type 0
LastIl s [] = s ≡ unopened_state
LastIl s (t ∷ ts) = LastIl t ts

abbrev pub LastFe : Served → List Served → Type 0
LastFe f [] = (f.machine ≡ unopened_state) × (f.joined ≡ None)
LastFe f (g ∷ gs) = LastFe g gs

is-joined : (number : ℕ) (f : Served) (fs : List Served) → LastFe f fs → IsJoined number (f ∷ fs)
    → IsJoined number (take (length fs) (f ∷ fs))
is-joined number f [] last (inl e) = absurd (none-some (sym last.1 ∙ e))
  where
    none-some : None ≡ Some number → ⊥
    none-some e = cc
is-joined number f [] last (inr h) = absurd h
is-joined number f (g ∷ gs) last (inl e) = inl e
is-joined number f (g ∷ gs) last (inr h) = inr (is-joined number g gs last h)

only : (f : Served) (fs : List Served) (x : State) (xs : List State) → LastFe f fs → OnlyJoinedTake (f ∷ fs) (x ∷ xs)
    → Public.OnlyJoinedTake (take (length fs) (f ∷ fs)) (take (length xs) (x ∷ xs))
only f fs x [] last h = tt
only f fs x (y ∷ ys) last h =
    let count : length (y ∷ ys) ≡ length (take (length ys) (y ∷ ys)) + 1 = omega (arith, length-front y ys) in (
      elim h.0 [
        | inl none ↦ inl none
        | inr is ↦ inr (subst (λ (n : ℕ). IsJoined n (take (length fs) (f ∷ fs))) count
            (is-joined (length (y ∷ ys)) f fs last is))
      ],
      only f fs y ys last h.1,
    )

taken-same : (number : ℕ) (f : Served) (fs : List Served) → LastFe f fs
    → taken_from_il number (f ∷ fs) ≡ taken_from_il number (take (length fs) (f ∷ fs))
taken-same number f [] last = ap (λ o. if is_number number o then length f.machine.taken else 0) last.1
taken-same number f (g ∷ gs) last =
    ap (λ (n : ℕ). if is_number number f.joined then length f.machine.taken else n) (taken-same number g gs last)

taken-found : (x : State) (xs : List State) (joined : Option ℕ) → Late joined
    → taken_from_fe (x ∷ xs) joined ≡ Public.taken_from_fe (take (length xs) (x ∷ xs))
    joined
taken-found x xs joined late = grind (arith, found)

-- The lists have this form in every world.
abbrev pub entry : World → Served
entry w = record { machine = w.fe; joined = w.joined }

pub record Shaped (w : World) : Type 0 where
  pub il : LastIl w.il w.il_before
  pub fe : LastFe (entry w) w.fe_before
  pub late : AllLate (entry w ∷ w.fe_before)

shaped-law : (w : World) → Lawful w → Shaped w → Public.Law w
shaped-law w h s = grind (arith, all-takes, length-front, falls-take, only)

shaped-losses : (w : World) → Lawful w → Shaped w → Public.LosesNothing w
shaped-losses w h s =
    record {
      from_il =
          subst (λ (n : ℕ). length (units w.il.made) ≤ n + length (unconfirmed w.il))
          (taken-same (length w.il_before) (entry w) w.fe_before s.fe
          ∙ ap (λ (n : ℕ). taken_from_il n (take (length w.fe_before) (entry w ∷ w.fe_before)))
          (sym (length-front w.il w.il_before)))
          h.loses_nothing.from_il;
      from_fe =
          subst (λ (n : ℕ). length (units w.fe.made) ≤ n + length (unconfirmed w.fe))
          (taken-found w.il w.il_before w.joined s.late.0)
          h.loses_nothing.from_fe;
    }

il-moved : (m : Move) (s : State) (before : List State) → LastIl s before → LastIl (move m s) before
il-moved m s [] e = (moves_law_holds m s).closed (ap (λ t. t.connection) e) ∙ e
il-moved m s (b ∷ bs) h = h

among-none : (n : ℕ) (p : Pdu) → Among p (drop n []) → ⊥
among-none n p h = grind arith

-- An end that has made a PDU was opened.
was-opened : (n : ℕ) (p : Pdu) (s : State) (before : List State) → LastIl s before → Among p (drop n s.made)
    → 1 ≤ length before
was-opened n p s [] e h = absurd (among-none n p (subst (λ t. Among p (drop n t.made)) e h))
was-opened n p s (b ∷ bs) e h = omega arith

-- An arrival that starts a connection is of a PDU that the present interlocking has made.
abbrev came : Move → World → Type 0
came (Hears p now) w = GenuineAt w.fe p (drop w.dead_il w.il.made)
came _ w = Unit {0}

starts-late : (m : Move) (w : World) → Shaped w → came m w → is_joining w.fe.connection (move m w.fe).connection ≡ true
    → 1 ≤ length w.il_before
starts-late m w s g e = grind (arith, joins-down, was-opened)

fe-moved : (m : Move) (w : World) → Shaped w → came m w → Shaped (with_fe (move m w.fe) w)
fe-moved m w s g =
    let t = move m w.fe in
    record {
      il = s.il;
      fe = last w.fe_before s.fe;
      late = (
        cond_both (is_joining w.fe.connection t.connection) (Some (length w.il_before)) w.joined Late
            (λ e. starts-late m w s g e) (λ _. s.late.0),
        s.late.1,
      );
    }
  where
    last : (before : List Served) → LastFe (entry w) before → LastFe (entry (with_fe (move m w.fe) w)) before
    last [] e =
        let closed : w.fe.connection ≡ Closed = ap (λ x. x.connection) e.0 in (
          (moves_law_holds m w.fe).closed closed ∙ e.0,
          ap (λ c. if is_joining c (move m w.fe).connection then Some (length w.il_before) else w.joined) closed ∙ e.1,
        )
    last (f ∷ fs) h = h

il-step : (m : Move) (w : World) → Shaped w → Shaped (with_il (move m w.il) w)
il-step m w s = record { il = il-moved m w.il w.il_before s.il; fe = s.fe; late = s.late }

shaped-changed : (w : World) (e : Event) → Shaped w → GenuineEvent w e → Shaped (change_world w e)
shaped-changed w (Open Il settings first now) s g =
    cond_both (is_legal settings) (open_il settings first now w) w Shaped
    (λ _. record { il = s.il; fe = s.fe; late = s.late }) (λ _. s)
shaped-changed w (Open Fe settings first now) s g =
    cond_both (is_legal settings) (open_fe settings first now w) w Shaped
    (λ _. record { il = s.il; fe = s.fe; late = (tt, s.late) }) (λ _. s)
shaped-changed w (Send Il unit now) s g = il-step (Sends unit now) w s
shaped-changed w (Send Fe unit now) s g = fe-moved (Sends unit now) w s tt
shaped-changed w (Close Il reason detail now) s g = il-step (LeavesNow reason detail now) w s
shaped-changed w (Close Fe reason detail now) s g = fe-moved (LeavesNow reason detail now) w s tt
shaped-changed w (Guard Il now) s g = il-step (Guards now) w s
shaped-changed w (Guard Fe now) s g = fe-moved (Guards now) w s tt
shaped-changed w (Tick Il now) s g = il-step (Ticks now) w s
shaped-changed w (Tick Fe now) s g = fe-moved (Ticks now) w s tt
shaped-changed w (Arrive Il p now) s g = il-step (Hears p now) w s
shaped-changed w (Arrive Fe p now) s g = fe-moved (Hears p now) w s g

shaped-event : (w : World) (e : Event) → Shaped w → GenuineEvent w e → Shaped (apply_event w e)
shaped-event w e s g = let h = shaped-changed w e s g in record { il = h.il; fe = h.fe; late = h.late }

shaped-run : (events : List Event) (w : World) → Shaped w → Genuine events w → Shaped (run events w)
shaped-run [] w s g = s
shaped-run (e ∷ es) w s g = shaped-run es (apply_event w e) (shaped-event w e s g.0) g.1

shaped-start : Shaped start
shaped-start = record { il = refl; fe = (refl, refl); late = (tt, tt) }

-- The laws.
pub unit_law_holds : UnitLaw
unit_law_holds events genuine = shaped-law (run events start) (inv-run events start inv-start genuine)
    (shaped-run events start shaped-start genuine)

pub loss_law_holds : LossLaw
loss_law_holds events genuine = shaped-losses (run events start) (inv-run events start inv-start genuine)
    (shaped-run events start shaped-start genuine)

genuine-last : (events : List Event) (e : Event) (w : World) → Genuine (events ++ e ∷ []) w
    → GenuineEvent (run events w) e
genuine-last [] e w h = h.0
genuine-last (a ∷ es) e w h = genuine-last es e (apply_event w a) h.1

among-drop : (n : ℕ) (p : Pdu) (ms : List Made) → Among p (drop n ms) → Among p ms
among-drop zero p ms h = h
among-drop (suc n) p [] h = h
among-drop (suc n) p (m ∷ ms) h = inr (among-drop n p ms h)

joins-event : (w : World) (e : Event) → GenuineEvent w e → Public.JoinsEvent w e
joins-event w e g = grind (arith, among-drop)

pub joined_law_holds : JoinedLaw
joined_law_holds events e genuine = joins-event (run events start) e (genuine-last events e start genuine)

-- One more event, at the end of a list.
leads-more : (es : List Event) (e : Event) (w : World) → run (es ++ e ∷ []) w ≡ apply_event (run es w) e
leads-more [] e w = refl
leads-more (d ∷ es) e w = leads-more es e (apply_event w d)

genuine-more : (es : List Event) (e : Event) (w : World) → Genuine es w → GenuineEvent (run es w) e
    → Genuine (es ++ e ∷ []) w
genuine-more [] e w h g = (g, tt)
genuine-more (d ∷ es) e w h g = (h.0, genuine-more es e (apply_event w d) h.1 g)

timely-more : (es : List Event) (e : Event) (w : World) → Timely es w → TimelyEvent (run es w) e
    → Timely (es ++ e ∷ []) w
timely-more [] e w h t = (t, tt)
timely-more (d ∷ es) e w h t = (h.0, timely-more es e (apply_event w d) h.1 t)

in_order-more : (es : List Event) (e : Event) (il fe : ℕ) (w : World) → InOrder il fe es w
    → InOrderEvent (all_heard_by_il es il) (all_heard_by_fe es fe) (run es w) e → InOrder il fe (es ++ e ∷ []) w
in_order-more [] e il fe w h k = (k, tt)
in_order-more (d ∷ es) e il fe w h k =
    (h.0, in_order-more es e (heard_by_il d il) (heard_by_fe d fe) (apply_event w d) h.1 k)

il-heard-more : (es : List Event) (e : Event) (n : ℕ)
    → all_heard_by_il (es ++ e ∷ []) n ≡ heard_by_il e (all_heard_by_il es n)
il-heard-more [] e n = refl
il-heard-more (d ∷ es) e n = il-heard-more es e (heard_by_il d n)

fe-heard-more : (es : List Event) (e : Event) (n : ℕ)
    → all_heard_by_fe (es ++ e ∷ []) n ≡ heard_by_fe e (all_heard_by_fe es n)
fe-heard-more [] e n = refl
fe-heard-more (d ∷ es) e n = fe-heard-more es e (heard_by_fe d n)

one-close : (b : Bool) → cond b true false ≡ b
one-close b = grind arith

closes-more : (es : List Event) (e : Event) → has_close (es ++ e ∷ []) ≡ cond (has_close es) true (is_close e)
closes-more [] e = one-close (is_close e)
closes-more (d ∷ es) e =
    by_test (λ b. cond b true (has_close (es ++ e ∷ [])) ≡ cond (cond b true (has_close es)) true (is_close e))
    (is_close d) (λ _. refl)
    (λ _. closes-more es e)

pub one_more_law_holds : OneMoreLaw
one_more_law_holds es e =
    grind (arith, leads-more, genuine-more, timely-more, in_order-more, il-heard-more, fe-heard-more, closes-more)
