-- Every event keeps the law.
use Rattle.safe_machine.proofs.Words.{◌≡◌, ◌≢◌, ◌⊎◌, inl, inr, ℕ, zero, suc, ◌+◌, List, [], ◌∷◌, ◌++◌, length, drop, Option, Some, None, Bool, true, false}
use Rattle.safe_machine.proofs.Words.{refl, sym, ap, subst, ◌∙◌, arith, if◌then◌else◌, false≢true, cond_both, Il, Fe, ConnectionState, Closed, Down, Pdu, Made}
use Rattle.safe_machine.proofs.Words.{units, run_of, is_request, Settings, is_legal, State, new_state, Decision, decide, guard, respond, arrive, carry_out, World}
use Rattle.safe_machine.proofs.Words.{Served, Event, unopened_state, start, apply_event, run, Among, GenuineAt, GenuineEvent, Genuine, is_joining, as_role, open_il, open_fe}
use Rattle.safe_machine.proofs.Words.{with_il, with_fe, Open, Send, Close, Guard, Tick, Arrive, next_bound, JoinsFall, taken_from_il, is_live, kept_of, Hears}
use Rattle.safe_machine.proofs.Words.{Move, Sends, HearsNothing, LeavesNow, move, Guards, Ticks}
use Rattle.safe_machine.proofs.two.Status.{AllTakeBeginnings, OnlyJoinedTake, LawOf, LosesNothingOf, linked-latest, takes-other, takes-pushed, takes-il_lone}
use Rattle.safe_machine.proofs.two.Status.{takes-fe_lone, fall-more, all-takes, only-weaken, Settled, JoinedTo, Met, Mute, IlLater, FeLater, Status, Untouched}
use Rattle.safe_machine.proofs.two.Status.{mute-arrive, deaf-arrive, still-arrive, met-loses_nothing, mute-loses_nothing, taken-other, taken-pushed, lone-owes}
use Rattle.safe_machine.proofs.two.Status.{mute-move}
use Rattle.safe_machine.proofs.one.TurnSteps.{arrive-is}
use Rattle.safe_machine.proofs.one.Runs.{legal, requests, answers, count-drop_nil, Every, every-drop_all, no_requests, closed-move, guard-idle, down_or}
use Rattle.safe_machine.proofs.one.Runs.{closed≢down, arrive-cases}
use Rattle.safe_machine.proofs.two.Invariant.{NotOpening, Told, Solo, Half, Pair}
use Rattle.safe_machine.proofs.two.Lone.{Lone, lone-leave, pair-arrive, pair-move, lone-move, lone-refl}
use Rattle.safe_machine.proofs.one.DecisionCounts.{Fits, decide-fits, Bounded, bounded-leave, bounded-move, bounded-opened, bounded-low}
use Rattle.safe_machine.proofs.two.Status.Status.{met, il_later, fe_later}
use Rattle.safe_machine.proofs.one.Kept.{moves_law_holds}

abbrev pub Idle : State → Option ℕ → Type 0
Idle fe joined = fe.connection ≡ Down → Untouched fe × (joined ≡ None)

-- T is what else holds if the two have met, and P if the field element was opened later.
pub record InvOf (T P : Type 0) (il : State) (il_before : List State) (fe : State) (joined : Option ℕ)
    (fe_before : List Served) (dead_il dead_fe : ℕ)
    : Type 0 where
  pub bounded_il : Bounded il
  pub bounded_fe : Bounded fe
  pub idle : Idle fe joined
  pub status : Status T P (length il_before) il fe joined fe_before dead_il dead_fe
  pub law : LawOf (il ∷ il_before) (record { machine = fe; joined = joined } ∷ fe_before)
  pub loses_nothing : LosesNothingOf il il_before fe joined fe_before

-- With this field element, joined to this number.
abbrev InvAt : Type 0 → Type 0 → World → State → Option ℕ → Type 0
InvAt T P w t p = InvOf T P w.il w.il_before t p w.fe_before w.dead_il w.dead_fe

abbrev pub Inv : Type 0 → Type 0 → World → Type 0
Inv T P w = InvAt T P w w.fe w.joined

abbrev pub StatusIn : Type 0 → Type 0 → World → Type 0
StatusIn T P w = Status T P (length w.il_before) w.il w.fe w.joined w.fe_before w.dead_il w.dead_fe

abbrev pub MetIn : World → Type 0
MetIn w = Met (length w.il_before) w.il w.fe w.joined w.fe_before

nothing-left : (us vs : List (List ℕ)) → us ++ vs ≡ [] → us ≡ []
nothing-left [] vs e = refl
nothing-left (u ∷ us) vs e = cc

-- The law, if the two have met.
met-law : (s il : State) (before : List State) (fe : State) (joined : Option ℕ) (fe_before : List Served) (old : Served)
    → Met (length before) il fe joined fe_before → AllTakeBeginnings (s ∷ before) fe_before
    → OnlyJoinedTake (old ∷ fe_before) before
    → ((number : ℕ) → old.joined ≡ Some number → joined ≡ Some number)
    → LawOf (il ∷ before) (record { machine = fe; joined = joined } ∷ fe_before)
met-law s il before fe None fe_before old m takes only more =
    grind (arith, nothing-left, all-takes, takes-other, fall-more, only-weaken)
met-law s il before fe (Some number) fe_before old m takes only more =
    grind (arith, linked-latest, all-takes, takes-other, only-weaken)

-- The law, if the interlocking takes nothing.
il_lone-law : (s t : State) (before : List State) (fes : List Served) → Lone s t → LawOf (s ∷ before) fes
    → LawOf (t ∷ before) fes
il_lone-law s t before fes l h = grind (arith, all-takes, fall-more, takes-il_lone)

fe_lone-law : (ils : List State) (s t : State) (p : Option ℕ) (before : List Served) → Lone s t →
    LawOf ils (record { machine = s; joined = p } ∷ before) → LawOf ils (record { machine = t; joined = p } ∷ before)
fe_lone-law ils s t p before l h = grind (arith, takes-fe_lone, only-weaken)

pub nobody-among : (p : Pdu) (n : ℕ) (made : List Made) → made ≡ [] → Among p (drop n made) → ⊥
nobody-among p n made e h = grind arith

-- No genuine PDU arrives from an end that has made nothing.
pub unheard-arrive : (p : Pdu) (now n : ℕ) (x y : State) → Bounded x → y.made ≡ [] → GenuineAt x p (drop n y.made)
    → Lone x (arrive p now x) × Bounded (arrive p now x)
unheard-arrive p now n x y b none genuine =
    arrive-cases (λ t. Lone x t × Bounded t) p now x (lone-refl x, b)
    (λ reason detail. (lone-leave reason detail now x, bounded-leave reason detail now x b))
    (λ on meant _. absurd (nobody-among p n y.made none (genuine on meant)))

module _ {T P T' P' : Type 0} where
  -- A step of the interlocking, by the status in which it is made.
  il-met : (w : World) (t : State) → Inv T P w → MetIn w → Pair t w.fe → Bounded t → T' → Inv T' P' (with_il t w)
  il-met w t h m pair b times =
      let after : Met (length w.il_before) t w.fe w.joined w.fe_before =
      record {
        solo_il = pair.0;
        solo_fe = m.solo_fe;
        il_sends = pair.1;
        fe_sends = pair.2;
        joined_to = m.joined_to;
        falls = m.falls;
      } in
      record {
        bounded_il = b;
        bounded_fe = h.bounded_fe;
        idle = h.idle;
        status = met after times;
        law = met-law w.il t w.il_before w.fe w.joined w.fe_before (record { machine = w.fe; joined = w.joined }) after
            h.law.beginnings.1 h.law.only_joined.1
            (λ number e. e);
        loses_nothing = met-loses_nothing t w.il_before w.fe w.joined w.fe_before after;
      }

  il-later : (w : World) (t : State) → Inv T P w → IlLater (length w.il_before) w.il w.fe w.joined w.fe_before w.dead_fe
      → Mute t → Lone w.il t → Bounded t
      → Inv T' P' (with_il t w)
  il-later w t h s mute l b =
      record {
        bounded_il = b;
        bounded_fe = h.bounded_fe;
        idle = h.idle;
        status = il_later (record { mute = mute; started = s.started; dead = s.dead; falls = s.falls });
        law = il_lone-law w.il t w.il_before (record { machine = w.fe; joined = w.joined } ∷ w.fe_before) l h.law;
        loses_nothing = record {
          from_il =
              mute-loses_nothing t (taken_from_il (length w.il_before)
              (record { machine = w.fe; joined = w.joined } ∷ w.fe_before)) mute;
          from_fe = omega (arith, h.loses_nothing.from_fe, taken-other w.il t w.il_before w.joined s.falls.0);
        };
      }

  il-fe_later : (w : World) (t : State) → Inv T P w
      → FeLater (length w.il_before) w.il w.fe w.joined w.fe_before w.dead_il → Lone w.il t → Bounded t
      → P' → Inv T' P' (with_il t w)
  il-fe_later w t h s l b past =
      record {
        bounded_il = b;
        bounded_fe = h.bounded_fe;
        idle = h.idle;
        status = fe_later (record {
          connection = s.connection;
          made = s.made;
          taken = s.taken;
          dead = l.opening w.dead_il s.dead;
          none = s.none;
          falls = s.falls;
        }) past;
        law = il_lone-law w.il t w.il_before (record { machine = w.fe; joined = w.joined } ∷ w.fe_before) l h.law;
        loses_nothing = record {
          from_il =
              lone-owes w.il t (taken_from_il (length w.il_before)
              (record { machine = w.fe; joined = w.joined } ∷ w.fe_before)) l h.loses_nothing.from_il;
          from_fe = omega (arith, ap (λ ms. length (units ms)) s.made);
        };
      }

  -- A move of the interlocking that is not an arrival.
  pub il-quiet : (w : World) (m : Move) → HearsNothing m → (MetIn w → T → T') → (P → P') → Inv T P w
      → Inv T' P' (with_il (move m w.il) w)
  il-quiet w m quiet times past h = go h.status
    where
      go : StatusIn T P w → Inv T' P' (with_il (move m w.il) w)
      go (met s t) =
          il-met w (move m w.il) h s (pair-move m w.il w.fe quiet (s.solo_il, s.il_sends, s.fe_sends))
          (bounded-move m w.il quiet h.bounded_il) (times s t)
      go (il_later s) =
          il-later w (move m w.il) h s (mute-move m w.il quiet s.mute) (lone-move m w.il quiet h.bounded_il)
          (bounded-move m w.il quiet h.bounded_il)
      go (fe_later s p) = il-fe_later w (move m w.il) h s (lone-move m w.il quiet h.bounded_il)
          (bounded-move m w.il quiet h.bounded_il) (past p)

  pub il-arrive : (w : World) (p : Pdu) (now : ℕ) → (MetIn w → T → T') → (P → P') → Inv T P w
      → GenuineAt w.il p (drop w.dead_fe w.fe.made)
      → Inv T' P' (with_il (arrive p now w.il) w)
  il-arrive w p now times past h genuine = go h.status
    where
      go : StatusIn T P w → Inv T' P' (with_il (arrive p now w.il) w)
      go (met s t) =
          let r = pair-arrive now w.dead_fe p w.il w.fe (s.solo_il, s.il_sends, s.fe_sends) s.solo_fe h.bounded_il
          h.bounded_fe genuine in
          il-met w (arrive p now w.il) h s r.0 r.1 (times s t)
      go (il_later s) =
          let r = mute-arrive now w.dead_fe p w.il w.fe.made s.mute h.bounded_il s.dead genuine in
          il-later w (arrive p now w.il) h s r.0 r.1 r.2
      go (fe_later s q) =
          let r = unheard-arrive p now w.dead_fe w.il w.fe h.bounded_il s.made genuine in
          il-fe_later w (arrive p now w.il) h s r.0 r.1 (past q)

-- Steps of the field element in which it takes nothing.
joins-same : (c d : ConnectionState) → (d ≡ c) ⊎ (d ≡ Closed) → is_joining c d ≡ false
joins-same c d h = grind arith

joins-on : (c d : ConnectionState) → c ≢ Down → is_joining c d ≡ false
joins-on c d h = grind arith

abbrev joined_after : World → State → Option ℕ
joined_after w t = if is_joining w.fe.connection t.connection then Some (length w.il_before) else w.joined

kept : (w : World) (t : State) → is_joining w.fe.connection t.connection ≡ false → joined_after w t ≡ w.joined
kept w t e = ap (λ (b : Bool). if b then Some (length w.il_before) else w.joined) e

idle-lone : (s t : State) (p : Option ℕ) → Lone s t → Idle s p → Idle t p
idle-lone s t p l h = grind arith

joined-lone : (index : ℕ) (s t : State) (p : Option ℕ) → Lone s t → JoinedTo index s p → JoinedTo index t p
joined-lone index s t p l h = grind arith

pub still-lone : (s t : State) → Lone s t → (s.connection ≡ Down) ⊎ (s.connection ≡ Closed)
    → ((t.connection ≡ Down) ⊎ (t.connection ≡ Closed))
    × (t.made ≡ s.made)
still-lone s t l h = grind arith

pub on-lone : (s t : State) → Lone s t → s.connection ≢ Down → t.connection ≢ Down
on-lone s t l on = λ e. elim l.connection [ inl same ↦ on (sym same ∙ e) | inr closed ↦ closed≢down (sym closed ∙ e) ]

-- What a field element in Down does.
abbrev AfterDown : ℕ → State → State → Type 0
AfterDown index s t =
    JoinedTo index t (if is_joining s.connection t.connection then Some index else None)
    × Idle t (if is_joining s.connection t.connection then Some index else None)

down-carry : (index : ℕ) (p : Pdu) (now : ℕ) (s : State) → s.connection ≡ Down → Untouched s → (e : Decision)
    → Fits (kept_of s) p now e
    → AfterDown index s (carry_out p now e s)
down-carry index p now s down k h f = grind arith

none_some : (number : ℕ) (o : Option ℕ) → o ≡ None → o ≡ Some number → ⊥
none_some number o a b = cc

module _ {T P T' P' : Type 0} where
  fe-met : (w : World) (t : State) (p : Option ℕ) → Inv T P w → MetIn w → Pair t w.il → Bounded t → Idle t p
      → JoinedTo (length w.il_before) t p
      → ((number : ℕ) → w.joined ≡ Some number → p ≡ Some number) → T' → InvAt T' P' w t p
  fe-met w t p h m pair b idle joined more times =
      let after : Met (length w.il_before) w.il t p w.fe_before =
      record {
        solo_il = m.solo_il;
        solo_fe = pair.0;
        il_sends = pair.2;
        fe_sends = pair.1;
        joined_to = joined;
        falls = m.falls;
      } in
      record {
        bounded_il = h.bounded_il;
        bounded_fe = b;
        idle = idle;
        status = met after times;
        law = met-law w.il w.il w.il_before t p w.fe_before (record { machine = w.fe; joined = w.joined }) after
            h.law.beginnings.1 h.law.only_joined.1 more;
        loses_nothing = met-loses_nothing w.il w.il_before t p w.fe_before after;
      }

  fe-il_later : (w : World) (t : State) → Inv T P w
      → IlLater (length w.il_before) w.il w.fe w.joined w.fe_before w.dead_fe → t.connection ≢ Down → Lone w.fe t
      → Bounded t → InvAt T' P' w t w.joined
  fe-il_later w t h s on l b = grind (arith, fe_lone-law, mute-loses_nothing, lone-owes)

  fe-fe_later : (w : World) (t : State) → Inv T P w
      → FeLater (length w.il_before) w.il w.fe w.joined w.fe_before w.dead_il
      → (t.connection ≡ Down) ⊎ (t.connection ≡ Closed) → t.made ≡ w.fe.made → Lone w.fe t → Bounded t → P'
      → InvAt T' P' w t w.joined
  fe-fe_later w t h s still same l b past = grind arith

  -- A move of the field element that is not an arrival.
  pub fe-quiet : (w : World) (m : Move) → HearsNothing m → (MetIn w → T → T') → (P → P') → Inv T P w
      → Inv T' P' (with_fe (move m w.fe) w)
  fe-quiet w m quiet times past h =
      subst (InvAt T' P' w (move m w.fe))
      (sym (kept w (move m w.fe) (joins-same w.fe.connection (move m w.fe).connection
      (lone-move m w.fe quiet h.bounded_fe).connection))) (go h.status)
    where
      go : StatusIn T P w → InvAt T' P' w (move m w.fe) w.joined
      go status =
          let t = move m w.fe in
          let l = lone-move m w.fe quiet h.bounded_fe in
          let b = bounded-move m w.fe quiet h.bounded_fe in
          elim status [
            | met s x ↦
                fe-met w t w.joined h s (pair-move m w.fe w.il quiet (s.solo_fe, s.fe_sends, s.il_sends)) b
                (idle-lone w.fe t w.joined l h.idle)
                (joined-lone (length w.il_before) w.fe t w.joined l s.joined_to) (λ number e. e) (times s x)
            | il_later s ↦ fe-il_later w t h s (on-lone w.fe t l s.started) l b
            | fe_later s p ↦ (let k = still-lone w.fe t l s.connection in fe-fe_later w t h s k.0 k.1 l b (past p))
          ]

  fe-arrive_met : (w : World) (p : Pdu) (now : ℕ) → Inv T P w → MetIn w → GenuineAt w.fe p (drop w.dead_il w.il.made)
      → T'
      → Inv T' P' (with_fe (arrive p now w.fe) w)
  fe-arrive_met w p now h m genuine times =
      elim (down_or w.fe.connection) [ inl down ↦ in_down down | inr on ↦ while_on on ]
    where
      in_down : w.fe.connection ≡ Down → Inv T' P' (with_fe (arrive p now w.fe) w)
      in_down down =
          let r = pair-arrive now w.dead_il p w.fe w.il (m.solo_fe, m.fe_sends, m.il_sends) m.solo_il h.bounded_fe
          h.bounded_il genuine in
          let k = h.idle down in
          let same : guard now w.fe ≡ w.fe = guard-idle now w.fe (ap is_live down) in
          let c = down-carry (length w.il_before) p now w.fe down k.0 (decide (kept_of w.fe) p now)
          (decide-fits (kept_of w.fe) p now) in
          let after : AfterDown (length w.il_before) w.fe (arrive p now w.fe) =
          subst (AfterDown (length w.il_before) w.fe) (sym (arrive-is p now w.fe))
          (subst (λ (s : State). AfterDown (length w.il_before) w.fe (respond p now s)) (sym same) c) in
          let joined : JoinedTo (length w.il_before) (arrive p now w.fe) (joined_after w (arrive p now w.fe)) =
          subst (λ (q : Option ℕ). JoinedTo (length w.il_before) (arrive p now w.fe)
          (if is_joining w.fe.connection (arrive p now w.fe).connection then Some (length w.il_before) else q))
          (sym k.1) after.0 in
          let idle : Idle (arrive p now w.fe) (joined_after w (arrive p now w.fe)) =
          subst (λ (q : Option ℕ). Idle (arrive p now w.fe)
          (if is_joining w.fe.connection (arrive p now w.fe).connection then Some (length w.il_before) else q))
          (sym k.1) after.1 in
          fe-met w (arrive p now w.fe) (joined_after w (arrive p now w.fe)) h m r.0 r.1 idle joined
          (λ number e. absurd (none_some number w.joined k.1 e)) times

      while_on : w.fe.connection ≢ Down → Inv T' P' (with_fe (arrive p now w.fe) w)
      while_on on =
          let r = pair-arrive now w.dead_il p w.fe w.il (m.solo_fe, m.fe_sends, m.il_sends) m.solo_il h.bounded_fe
          h.bounded_il genuine in
          let still_on : (arrive p now w.fe).connection ≢ Down = λ e.
          on ((moves_law_holds (Hears p now) w.fe).never_down e) in
          subst (InvAt T' P' w (arrive p now w.fe))
          (sym (kept w (arrive p now w.fe) (joins-on w.fe.connection (arrive p now w.fe).connection on)))
          (fe-met w (arrive p now w.fe) w.joined h m r.0 r.1 (λ e. absurd (still_on e)) (joined w.joined m.joined_to)
          (λ number e. e) times)
        where
          joined : (q : Option ℕ) → JoinedTo (length w.il_before) w.fe q
              → JoinedTo (length w.il_before) (arrive p now w.fe) q
          joined (Some number) j = j
          joined None j =
              let closed : w.fe.connection ≡ Closed = elim j.0 [ inl down ↦ absurd (on down) | inr c ↦ c ] in
              subst Settled (sym (closed-move (Hears p now) w.fe closed)) j

  pub fe-arrive : (w : World) (p : Pdu) (now : ℕ) → (MetIn w → T → T')
      → ((arrive p now w.fe).confirmed_at ≡ w.fe.confirmed_at → P → P') → Inv T P w
      → GenuineAt w.fe p (drop w.dead_il w.il.made) → Inv T' P' (with_fe (arrive p now w.fe) w)
  fe-arrive w p now times past h genuine = go h.status
    where
      same : is_joining w.fe.connection (arrive p now w.fe).connection ≡ false
          → InvAt T' P' w (arrive p now w.fe) w.joined
          → Inv T' P' (with_fe (arrive p now w.fe) w)
      same e = subst (InvAt T' P' w (arrive p now w.fe)) (sym (kept w (arrive p now w.fe) e))

      go : StatusIn T P w → Inv T' P' (with_fe (arrive p now w.fe) w)
      go (met s t) = fe-arrive_met w p now h s genuine (times s t)
      go (il_later s) =
          let r = deaf-arrive now w.dead_il p w.fe w.il.made s.started h.bounded_fe s.mute.quiet genuine in
          same (joins-on w.fe.connection (arrive p now w.fe).connection s.started)
          (fe-il_later w (arrive p now w.fe) h s r.0 r.1 r.2)
      go (fe_later s q) =
          let r = still-arrive now w.dead_il p w.fe w.il.made s.connection h.bounded_fe s.dead genuine in
          same (joins-same w.fe.connection (arrive p now w.fe).connection r.0.connection)
          (fe-fe_later w (arrive p now w.fe) h s r.2 r.3 r.0 r.1 (past r.4 q))

pub solo-il : (s : Settings) (first now : ℕ) → is_legal s ≡ true → Solo (new_state (as_role true s) first now)
solo-il s first now e = grind arith

pub mute-il : (s : Settings) (first now : ℕ) → Mute (new_state (as_role true s) first now)
mute-il s first now = record { client = refl; connection = inl refl; taken = refl; quiet = (refl, tt) }

pub solo-untouched : (s : State) → s.connection ≡ Down → Untouched s → Solo s
solo-untouched s down k = grind arith

-- The interlocking is opened while the field element is in Down.
pub met-opened : (settings : Settings) (first now : ℕ) (fe : State) → fe.connection ≡ Down → Untouched fe →
    let il = new_state (as_role true settings) first now in Half il fe × Half fe il
met-opened settings first now fe down k =
    let il = new_state (as_role true settings) first now in
    let no_answers : answers (drop fe.expected il.made) ≡ 0 = ap (λ (n : ℕ). answers (drop n il.made)) k.expected in
    let no_requests_fe : requests (drop 1 fe.made) ≡ 0 = ap (λ ms. requests (drop 1 ms)) k.made in
    let no_requests_il : requests (drop (fe.answered + 1) il.made)
    ≡ 0 = only_opening (fe.answered + 1) settings first now in
    let no_answers_fe : answers fe.made ≡ 0 = ap answers k.made in (
      record {
        carried = subst (λ us. us ++ (run_of (drop fe.expected il.made) ++ []) ≡ []) (sym k.taken)
            (ap (λ (n : ℕ). run_of (drop n il.made) ++ []) k.expected);
        within = omega (arith, k.expected);
        first_plain = refl;
        open_requests = omega arith;
        requests_at = no_requests fe.expected (drop 1 fe.made) no_requests_fe;
        confirmed_behind = omega arith;
        last = λ one. absurd (omega (arith, k.expected));
        told = subst (λ ms. Every (Told first fe.expected) ms) (sym k.made) tt;
      },
      record {
        carried = ap (λ ms. run_of ms ++ []) k.made ∙ sym (ap units k.made);
        within = omega arith;
        first_plain = ap run_of k.made ∙ sym (ap (λ ms. run_of (drop 1 ms)) k.made);
        open_requests = omega arith;
        requests_at = no_requests 0 (drop (fe.answered + 1) il.made) no_requests_il;
        confirmed_behind = omega (arith, k.confirmed);
        last = λ one. absurd (omega arith);
        told = (record { behind = omega arith; cs = λ one. absurd (omega arith) }, tt);
      },
    )
  where
    only_opening : (n : ℕ) (settings : Settings) (first now : ℕ)
        → requests (drop n (new_state (as_role true settings) first now).made) ≡ 0
    only_opening zero settings first now = refl
    only_opening (suc n) settings first now = count-drop_nil is_request n

module _ {T P T' P' : Type 0} where
  pub inv-open_il : (settings : Settings) (first now : ℕ) (w : World) → Inv T P w → is_legal settings ≡ true
      → (w.fe.connection ≡ Down → T')
      → Inv T' P' (open_il settings first now w)
  inv-open_il settings first now w h legal times =
      let il = new_state (as_role true settings) first now in
      let ils = w.il ∷ w.il_before in
      let entry : Served = record { machine = w.fe; joined = w.joined } in
      let pushed : AllTakeBeginnings (il ∷ ils) (entry ∷ w.fe_before) =
      all-takes ils (il ∷ ils) (length ils) (entry ∷ w.fe_before) h.law.joins_fall
      (λ f p below k. takes-pushed il ils f p below k) h.law.beginnings in
      elim (down_or w.fe.connection) [
        | inl down ↦
            let k = h.idle down in
            let halves = met-opened settings first now w.fe down k.0 in
            let falls : JoinsFall (length ils) w.fe_before =
            subst (λ (p : Option ℕ). JoinsFall (next_bound (length ils) p) w.fe_before) k.1 h.law.joins_fall.1 in
            let after : Met (length ils) il w.fe w.joined w.fe_before =
            record {
              solo_il = solo-il settings first now legal;
              solo_fe = solo-untouched w.fe down k.0;
              il_sends = halves.0;
              fe_sends = halves.1;
              joined_to =
                  subst (λ (p : Option ℕ). JoinedTo (length ils) w.fe p) (sym k.1)
                  (inl down, ap units k.0.made, k.0.taken);
              falls = falls;
            } in
            record {
              bounded_il = bounded-opened (as_role true settings) first now legal;
              bounded_fe = h.bounded_fe;
              idle = h.idle;
              status = met after (times down);
              law = met-law il il ils w.fe w.joined w.fe_before entry after pushed.1 h.law.only_joined (λ number e. e);
              loses_nothing = met-loses_nothing il ils w.fe w.joined w.fe_before after;
            }
        | inr on ↦
            record {
              bounded_il = bounded-opened (as_role true settings) first now legal;
              bounded_fe = h.bounded_fe;
              idle = h.idle;
              status = il_later (record {
                mute = mute-il settings first now;
                started = on;
                dead = every-drop_all NotOpening w.fe.made;
                falls = h.law.joins_fall;
              });
              law = record {
                beginnings = pushed;
                joins_fall =
                    fall-more (length ils) (length (il ∷ ils)) (entry ∷ w.fe_before) (omega arith) h.law.joins_fall;
                only_joined = (inl refl, h.law.only_joined);
              };
              loses_nothing = record {
                from_il =
                    mute-loses_nothing il (taken_from_il (length ils) (entry ∷ w.fe_before))
                    (mute-il settings first now);
                from_fe = omega (arith, h.loses_nothing.from_fe, taken-pushed il ils w.joined h.law.joins_fall.0);
              };
            }
      ]

  pub inv-open_fe : (settings : Settings) (first now : ℕ) (w : World) → Inv T P w → is_legal settings ≡ true → P'
      → Inv T' P' (open_fe settings first now w)
  inv-open_fe settings first now w h legal past =
      let fe = new_state (as_role false settings) first now in
      let ils = w.il ∷ w.il_before in
      let entry : Served = record { machine = w.fe; joined = w.joined } in
      let fresh_entry : Served = record { machine = fe; joined = None } in
      record {
        bounded_il = h.bounded_il;
        bounded_fe = bounded-opened (as_role false settings) first now legal;
        idle = λ down. (record { made = refl; expected = refl; taken = refl; confirmed = refl; server = refl }, refl);
        status = fe_later (record {
          connection = inl refl;
          made = refl;
          taken = refl;
          dead = every-drop_all NotOpening w.il.made;
          none = refl;
          falls = fall-more (length ils) (length w.il_before + 1) (entry ∷ w.fe_before) (omega arith) h.law.joins_fall;
        }) past;
        law = record {
          beginnings = (refl, h.law.beginnings);
          joins_fall = (tt, h.law.joins_fall);
          only_joined =
              only-weaken (entry ∷ w.fe_before) (fresh_entry ∷ entry ∷ w.fe_before) ils (λ number is. inr is)
              h.law.only_joined;
        };
        loses_nothing = record { from_il = h.loses_nothing.from_il; from_fe = omega arith };
      }

  -- Nothing has happened except the passing of time.
  pub inv-same : (w : World) → (T → T') → (P → P') → Inv T P w → Inv T' P' w
  inv-same w times past h = grind arith

pub inv-start : {T P : Type 0} → Inv T P start
inv-start =
    record {
      bounded_il = bounded_unopened;
      bounded_fe = bounded_unopened;
      idle = λ e. absurd (closed≢down e);
      status = il_later (record {
        mute = record { client = refl; connection = inr refl; taken = refl; quiet = tt };
        started = closed≢down;
        dead = tt;
        falls = (tt, tt);
      });
      law = record { beginnings = (refl, tt); joins_fall = (tt, tt); only_joined = (inl refl, tt) };
      loses_nothing = record { from_il = omega arith; from_fe = omega arith };
    }
  where
    bounded_unopened : Bounded unopened_state
    bounded_unopened =
        bounded-low unopened_state (omega arith) (omega arith) (omega arith) (omega arith) (omega arith)
        (λ _. omega arith) (λ live. absurd (false≢true live))

-- The law by itself, which every event keeps.
abbrev pub Lawful : World → Type 0
Lawful w = Inv (Unit {0}) (Unit {0}) w

quiet-il : (w : World) (m : Move) → HearsNothing m → Lawful w → Lawful (with_il (move m w.il) w)
quiet-il w m quiet h = il-quiet w m quiet (λ _ t. t) (λ p. p) h

quiet-fe : (w : World) (m : Move) → HearsNothing m → Lawful w → Lawful (with_fe (move m w.fe) w)
quiet-fe w m quiet h = fe-quiet w m quiet (λ _ t. t) (λ p. p) h

inv-event : (w : World) (e : Event) → Lawful w → GenuineEvent w e → Lawful (apply_event w e)
inv-event w (Open Il settings first now) h g =
    cond_both (is_legal settings) (open_il settings first now w) w Lawful
    (λ legal. inv-open_il settings first now w h legal (λ _. tt)) (λ _. h)
inv-event w (Open Fe settings first now) h g =
    cond_both (is_legal settings) (open_fe settings first now w) w Lawful
    (λ legal. inv-open_fe settings first now w h legal tt) (λ _. h)
inv-event w (Send Il unit now) h g = quiet-il w (Sends unit now) tt h
inv-event w (Send Fe unit now) h g = quiet-fe w (Sends unit now) tt h
inv-event w (Close Il reason detail now) h g = quiet-il w (LeavesNow reason detail now) tt h
inv-event w (Close Fe reason detail now) h g = quiet-fe w (LeavesNow reason detail now) tt h
inv-event w (Guard Il now) h g = quiet-il w (Guards now) tt h
inv-event w (Guard Fe now) h g = quiet-fe w (Guards now) tt h
inv-event w (Tick Il now) h g = quiet-il w (Ticks now) tt h
inv-event w (Tick Fe now) h g = quiet-fe w (Ticks now) tt h
inv-event w (Arrive Il p now) h g = il-arrive w p now (λ _ t. t) (λ q. q) h g
inv-event w (Arrive Fe p now) h g = fe-arrive w p now (λ _ t. t) (λ _ q. q) h g

pub inv-run : (events : List Event) (w : World) → Lawful w → Genuine events w → Lawful (run events w)
inv-run [] w h g = h
inv-run (e ∷ es) w h g = inv-run es (apply_event w e) (inv-event w e h g.0) g.1
