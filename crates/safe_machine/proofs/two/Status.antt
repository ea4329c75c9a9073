-- How the present incarnations can be related, and what each step changes about that.
use Rattle.safe_machine.proofs.Words.{◌==◌, MatchOption, if◌then◌else◌, IsBeginning, Closed, units, State, unconfirmed, Served, JoinsFall, IsJoined}
use Rattle.safe_machine.proofs.Words.{taken_from_il, taken_count, ℕ, ◌+◌, ◌≡◌, ◌≢◌, ◌≤◌, ◌⊎◌, Option, Some, None, List, [], ◌∷◌, length, inl, inr, Bool, false}
use Rattle.safe_machine.proofs.Words.{refl, sym, ap, subst, ◌∙◌, arith, eq-eqb, eqb_tells, JoinedBelow, next_bound, drop, true, false≢true, ConnectionState}
use Rattle.safe_machine.proofs.Words.{Down, Start, Pdu, Made, move_to, leave, Decision, decide, arrive, carry_out, GenuineAt, Reason, Detail, is_live, in_turn}
use Rattle.safe_machine.proofs.Words.{is_connected, kept_of, ◌++◌, length-append, append-nil, Kind, first_sent, Move, ConnReq, HearsNothing, ConnResp, move}
use Rattle.safe_machine.proofs.two.Lone.{Lone, beginning_trans, lone-refl, lone-leave, lone-closed, among-dropped}
use Rattle.safe_machine.proofs.one.Runs.{Every, every-at, every-push, leave-cases, closed≢down, quiet-cases, arrive-cases, when, every-drop}
use Rattle.safe_machine.proofs.two.Invariant.{is_opening, needs_peer, NotOpening, Solo, Half}
use Rattle.safe_machine.proofs.one.DecisionCounts.{Fits, listens, decide-fits, Bounded, bounded-leave, bounded-closed, run_of-shrinks}

-- The law over all ends, with the end before its first opening as number 0 and last of its list.

-- The incarnation with this number, counted from 0.
abbrev pub incarnation : List State → ℕ → Option State
incarnation [] number = None
incarnation (s ∷ before) number = if number == length before then Some s else incarnation before number

-- If an incarnation of the field element is not joined, it has taken nothing. If it is, each of the two has taken a
-- prefix of the units that the other sent.
abbrev pub TakesBeginnings : List State → State → Option ℕ → Type 0
TakesBeginnings ils fe None = fe.taken ≡ []
TakesBeginnings ils fe (Some number) =
    MatchOption (incarnation ils number) ⊥ (λ il. IsBeginning fe.taken (units il.made)
    × IsBeginning il.taken (units fe.made))

abbrev pub AllTakeBeginnings : List State → List Served → Type 0
AllTakeBeginnings ils [] = Unit {0}
AllTakeBeginnings ils (f ∷ fs) = TakesBeginnings ils f.machine f.joined × AllTakeBeginnings ils fs

abbrev pub OnlyJoinedTake : List Served → List State → Type 0
OnlyJoinedTake fes [] = Unit {0}
OnlyJoinedTake fes (s ∷ before) = ((s.taken ≡ []) ⊎ IsJoined (length before) fes) × OnlyJoinedTake fes before

pub record LawOf (ils : List State) (fes : List Served) : Type 0 where
  pub beginnings : AllTakeBeginnings ils fes
  pub joins_fall : JoinsFall (length ils) fes
  pub only_joined : OnlyJoinedTake fes ils

abbrev pub taken_from_fe : List State → Option ℕ → ℕ
taken_from_fe ils None = 0
taken_from_fe ils (Some number) = taken_count (incarnation ils number)

pub record LosesNothingOf (il : State) (il_before : List State) (fe : State) (joined : Option ℕ)
    (fe_before : List Served) : Type 0 where
  pub from_il : length (units il.made) ≤ taken_from_il (length il_before)
      (record { machine = fe; joined = joined } ∷ fe_before)
      + length (unconfirmed il)
  pub from_fe : length (units fe.made) ≤ taken_from_fe (il ∷ il_before) joined + length (unconfirmed fe)

-- The law over the lists of incarnations: what an opening and a step change.
abbrev pub Linked : State → State → Type 0
Linked fe il = IsBeginning fe.taken (units il.made) × IsBeginning il.taken (units fe.made)

-- The incarnation with the greatest number is the latest.
pub latest : (s : State) (before : List State) → incarnation (s ∷ before) (length before) ≡ Some s
latest s before = ap (λ (b : Bool). if b then Some s else incarnation before (length before))
    (eq-eqb (length before) (length before) refl)

-- The present pair.
pub linked-latest : (il fe : State) (before : List State) → Linked fe il
    → TakesBeginnings (il ∷ before) fe (Some (length before))
linked-latest il fe before h =
    subst (λ (o : Option State). MatchOption o ⊥ (λ g. Linked fe g)) (sym (latest il before)) h

linked-of : (il fe : State) (before : List State) → TakesBeginnings (il ∷ before) fe (Some (length before))
    → Linked fe il
linked-of il fe before h = subst (λ (o : Option State). MatchOption o ⊥ (λ g. Linked fe g)) (latest il before) h

-- An incarnation joined to an earlier one does not depend on the latest.
pub takes-other : (s t : State) (before : List State) (fe : State) (p : Option ℕ) → JoinedBelow (length before) p
    → TakesBeginnings (s ∷ before) fe p
    → TakesBeginnings (t ∷ before) fe p
takes-other s t before fe p below h = grind arith

pub takes-pushed : (t : State) (ils : List State) (fe : State) (p : Option ℕ) → JoinedBelow (length ils) p
    → TakesBeginnings ils fe p
    → TakesBeginnings (t ∷ ils) fe p
takes-pushed t ils fe p below h = grind arith

-- The interlocking takes nothing and sends more.
pub takes-il_lone : (s t : State) (before : List State) (fe : State) (p : Option ℕ) → JoinedBelow (length before + 1) p
    → Lone s t
    → TakesBeginnings (s ∷ before) fe p → TakesBeginnings (t ∷ before) fe p
takes-il_lone s t before fe None below l h = h
takes-il_lone s t before fe (Some number) below l h =
    elim (eqb_tells number (length before)) [
      | inl same ↦
          let at_latest : TakesBeginnings (s ∷ before) fe (Some (length before)) = subst
          (λ (n : ℕ). TakesBeginnings (s ∷ before) fe (Some n)) same.1 h in
          let k = linked-of s fe before at_latest in
          let after : TakesBeginnings (t ∷ before) fe (Some (length before)) =
          linked-latest t fe before (
            beginning_trans fe.taken (units s.made) (units t.made) k.0 l.longer,
            subst (λ us. IsBeginning us (units fe.made))
                (sym l.taken) k.1,
          ) in
          subst (λ (n : ℕ). TakesBeginnings (t ∷ before) fe (Some n)) (sym same.1) after
      | inr other ↦ takes-other s t before fe (Some number) (omega (arith, other.1)) h
    ]

-- The field element takes nothing and sends more.
pub takes-fe_lone : (ils : List State) (s t : State) (p : Option ℕ) → Lone s t → TakesBeginnings ils s p
    → TakesBeginnings ils t p
takes-fe_lone ils s t None l h = l.taken ∙ h
takes-fe_lone ils s t (Some number) l h = with_il (incarnation ils number) h
  where
    with_il : (o : Option State) → MatchOption o ⊥ (λ g. Linked s g) → MatchOption o ⊥ (λ g. Linked t g)
    with_il None k = k
    with_il (Some g) k = (
      subst (λ us. IsBeginning us (units g.made)) (sym l.taken) k.0,
      beginning_trans g.taken (units s.made)
          (units t.made) k.1 l.longer,
    )

-- Lists of such incarnations.
pub below-more : (a b : ℕ) (p : Option ℕ) → a ≤ b → JoinedBelow a p → JoinedBelow b p
below-more a b p h k = grind arith

fall-joined : (a b : ℕ) (fs : List Served) (p : Option ℕ) → (JoinsFall a fs → JoinsFall b fs)
    → JoinsFall (next_bound a p) fs → JoinsFall (next_bound b p) fs
fall-joined a b fs p f m = grind arith

pub fall-more : (a b : ℕ) (fes : List Served) → a ≤ b → JoinsFall a fes → JoinsFall b fes
fall-more a b [] h k = tt
fall-more a b (f ∷ fs) h k =
    (below-more a b f.joined h k.0, fall-joined a b fs f.joined (λ m. fall-more a b fs h m) k.1)

bound-le : (bound : ℕ) (p : Option ℕ) → JoinedBelow bound p → next_bound bound p ≤ bound
bound-le bound p h = grind arith

-- What each entry keeps that is joined below the bound, all keep.
pub all-takes : (ils ils' : List State) (bound : ℕ) (fes : List Served) → JoinsFall bound fes →
    ((fe : State) (p : Option ℕ) → JoinedBelow bound p → TakesBeginnings ils fe p → TakesBeginnings ils' fe p) →
    AllTakeBeginnings ils fes → AllTakeBeginnings ils' fes
all-takes ils ils' bound [] fall f h = tt
all-takes ils ils' bound (e ∷ es) fall f h =
    let rest : JoinsFall bound es = fall-more (next_bound bound e.joined) bound es (bound-le bound e.joined fall.0)
    fall.1 in
    (f e.machine e.joined fall.0 h.0, all-takes ils ils' bound es rest f h.1)

-- Joined incarnations that stay joined.
pub only-weaken : (fes fes' : List Served) (ils : List State)
    → ((number : ℕ) → IsJoined number fes → IsJoined number fes') → OnlyJoinedTake fes ils
    → OnlyJoinedTake fes' ils
only-weaken fes fes' [] f h = tt
only-weaken fes fes' (s ∷ before) f h =
    (elim h.0 [ inl none ↦ inl none | inr is ↦ inr (f (length before) is) ], only-weaken fes fes' before f h.1)

-- The three ways in which the present incarnations can be related.

-- A field element that has not joined.
abbrev pub Settled : State → Type 0
Settled s = ((s.connection ≡ Down) ⊎ (s.connection ≡ Closed)) × (units s.made ≡ []) × (s.taken ≡ [])

abbrev pub JoinedTo : ℕ → State → Option ℕ → Type 0
JoinedTo index fe None = Settled fe
JoinedTo index fe (Some number) = number ≡ index

-- The interlocking was opened while the field element was in Down.
pub record Met (index : ℕ) (il fe : State) (joined : Option ℕ) (fe_before : List Served) : Type 0 where
  pub solo_il : Solo il
  pub solo_fe : Solo fe
  pub il_sends : Half il fe
  pub fe_sends : Half fe il
  pub joined_to : JoinedTo index fe joined
  pub falls : JoinsFall index fe_before

-- An interlocking that cannot get an answer.
abbrev pub Quiet : Made → Type 0
Quiet m = needs_peer m.pdu.kind ≡ 0

pub record Mute (il : State) : Type 0 where
  pub client : il.settings.client ≡ true
  pub connection : (il.connection ≡ Start) ⊎ (il.connection ≡ Closed)
  pub taken : il.taken ≡ []
  pub quiet : Every Quiet il.made

-- The interlocking was opened while the field element was not in Down.
pub record IlLater (index : ℕ) (il fe : State) (joined : Option ℕ) (fe_before : List Served) (dead_fe : ℕ) : Type 0
  where
    pub mute : Mute il
    pub started : fe.connection ≢ Down
    pub dead : Every NotOpening (drop dead_fe fe.made)
    pub falls : JoinsFall index (record { machine = fe; joined = joined } ∷ fe_before)

-- The field element was opened later.
pub record FeLater (index : ℕ) (il fe : State) (joined : Option ℕ) (fe_before : List Served) (dead_il : ℕ) : Type 0
  where
    pub connection : (fe.connection ≡ Down) ⊎ (fe.connection ≡ Closed)
    pub made : fe.made ≡ []
    pub taken : fe.taken ≡ []
    pub dead : Every NotOpening (drop dead_il il.made)
    pub none : joined ≡ None
    pub falls : JoinsFall (index + 1) fe_before

-- One of the three. T holds if the two have met, and P if the field element was opened later.
pub data Status (T P : Type 0) (index : ℕ) (il fe : State) (joined : Option ℕ) (fe_before : List Served)
    (dead_il dead_fe : ℕ) : Type 0 where
  met : Met index il fe joined fe_before → T → Status T P index il fe joined fe_before dead_il dead_fe
  il_later : IlLater index il fe joined fe_before dead_fe → Status T P index il fe joined fe_before dead_il dead_fe
  fe_later : FeLater index il fe joined fe_before dead_il → P → Status T P index il fe joined fe_before dead_il dead_fe

-- A field element in Down is as it was opened.
pub record Untouched (s : State) : Type 0 where
  pub made : s.made ≡ []
  pub expected : s.expected ≡ 0
  pub taken : s.taken ≡ []
  pub confirmed : s.confirmed ≡ 0
  pub server : s.settings.client ≡ false

-- A mute interlocking.
mute-deaf : (connection : ConnectionState) (client : Bool) → client ≡ true
    → (connection ≡ Start) ⊎ (connection ≡ Closed) → listens connection client ≡ false
mute-deaf connection client c h = grind arith

mute-not_connected : (connection : ConnectionState) → (connection ≡ Start) ⊎ (connection ≡ Closed)
    → (is_connected connection ≡ false)
    × (in_turn connection ≡ false)
mute-not_connected connection h = grind arith

pub mute-leave : (reason : Reason) (detail : Detail) (now : ℕ) (s : State) → Mute s → Mute (leave reason detail now s)
mute-leave reason detail now s h =
    leave-cases Mute reason detail now s (λ live. grind (arith, every-push)) (λ quiet. grind arith)

pub mute-move : (m : Move) (s : State) → HearsNothing m → Mute s → Mute (move m s)
mute-move m s quiet h =
    let silent = mute-not_connected s.connection h.connection in
    quiet-cases Mute m s quiet h (λ reason detail. mute-leave reason detail (when m) s h)
    (λ connected _. absurd (false≢true (sym silent.0 ∙ connected)))
    (λ unit turn _. absurd (false≢true (sym silent.1 ∙ turn)))

-- An end that no PDU opens, and for which the table decides nothing.
record Deaf (s : State) (p : Pdu) : Type 0 where
  down : s.connection ≡ Down → p.kind ≡ ConnReq → ⊥
  start : s.connection ≡ Start → p.kind ≡ ConnResp → ⊥
  table : listens s.connection s.settings.client ≡ true → needs_peer p.kind ≡ 1 → ⊥

deaf-carry : (P : State → Type 0) (p : Pdu) (now : ℕ) (s : State) (d : Decision) → Deaf s p → Fits (kept_of s) p now d
    → P s → P (move_to Closed s) →
    ((reason : Reason) (detail : Detail) → P (leave reason detail now s)) → P (carry_out p now d s)
deaf-carry P p now s d deaf f same closed left = grind arith

-- What arrives there is among PDUs of this form.
deaf-hears : (P : State → Type 0) (Q : Made → Type 0) (now n : ℕ) (p : Pdu) (s : State) (made : List Made)
    → Every Q (drop n made) →
    GenuineAt s p (drop n made) → ((m : Made) → Q m → Deaf s m.pdu) → P s → P (move_to Closed s) →
    ((reason : Reason) (detail : Detail) → P (leave reason detail now s)) → P (arrive p now s)
deaf-hears P Q now n p s made all genuine deaf same closed left =
    arrive-cases P p now s same left
    (λ on meant _.
    let r = among-dropped p n made (genuine on meant) in
    let here : Deaf s p = subst (Deaf s) r.4 (deaf r.1 (every-at Q n r.0 made r.1 r.2 all r.5 r.3)) in
    deaf-carry P p now s (decide (kept_of s) p now) here (decide-fits (kept_of s) p now) same closed left)

-- What arrives at a mute interlocking is not a ConnResp.
pub mute-arrive : (now n : ℕ) (p : Pdu) (il : State) (made : List Made) → Mute il → Bounded il
    → Every NotOpening (drop n made) → GenuineAt il p (drop n made) →
    Mute (arrive p now il) × Lone il (arrive p now il) × Bounded (arrive p now il)
mute-arrive now n p il made h b dead genuine =
    let deaf = mute-deaf il.connection il.settings.client h.client h.connection in
    deaf-hears (λ t. Mute t × Lone il t × Bounded t) NotOpening now n p il made dead genuine
    (λ m plain. record {
      down = λ _ is. absurd (omega (arith, ap is_opening is, plain));
      start = λ _ is. absurd (omega (arith, ap is_opening is, plain));
      table = λ on _. false≢true (sym deaf ∙ on);
    })
    (h, lone-refl il, b) (
      record { client = h.client; connection = inr refl; taken = h.taken; quiet = h.quiet },
      lone-closed il,
      bounded-closed il b,
    )
    (λ reason detail. (
      mute-leave reason detail now il h,
      lone-leave reason detail now il,
      bounded-leave reason detail now il b,
    ))

-- A field element after Down that receives only the PDUs of a mute interlocking.
pub deaf-arrive : (now n : ℕ) (p : Pdu) (fe : State) (made : List Made) → fe.connection ≢ Down → Bounded fe
    → Every Quiet made → GenuineAt fe p (drop n made) →
    ((arrive p now fe).connection ≢ Down) × Lone fe (arrive p now fe) × Bounded (arrive p now fe)
deaf-arrive now n p fe made on b quiet genuine =
    deaf-hears (λ t. (t.connection ≢ Down) × Lone fe t × Bounded t) Quiet now n p fe made
    (every-drop Quiet n made quiet) genuine
    (λ m plain. record {
      down = λ down _. on down;
      start = λ _ is. absurd (omega (arith, ap needs_peer is, plain));
      table = λ _ needs. absurd (omega (arith, needs, plain));
    })
    (on, lone-refl fe, b) (closed≢down, lone-closed fe, bounded-closed fe b)
    (λ reason detail. (closed≢down, lone-leave reason detail now fe, bounded-leave reason detail now fe b))

-- A field element in Down or Closed that receives no opening.
still_deaf : (connection : ConnectionState) (client : Bool) → (connection ≡ Down) ⊎ (connection ≡ Closed)
    → (listens connection client ≡ false)
    × (is_live connection ≡ false)
still_deaf connection client h = grind arith

pub still-arrive : (now n : ℕ) (p : Pdu) (fe : State) (made : List Made)
    → (fe.connection ≡ Down) ⊎ (fe.connection ≡ Closed) → Bounded fe
    → Every NotOpening (drop n made) → GenuineAt fe p (drop n made) →
    Lone fe (arrive p now fe) × Bounded (arrive p now fe)
    × (((arrive p now fe).connection ≡ Down) ⊎ ((arrive p now fe).connection ≡ Closed))
    × ((arrive p now fe).made ≡ fe.made) × ((arrive p now fe).confirmed_at ≡ fe.confirmed_at)
still-arrive now n p fe made still b dead genuine =
    let P : State → Type 0 = λ t. Lone fe t × Bounded t × ((t.connection ≡ Down) ⊎ (t.connection ≡ Closed))
    × (t.made ≡ fe.made)
    × (t.confirmed_at ≡ fe.confirmed_at) in
    let silent = still_deaf fe.connection fe.settings.client still in
    let closed : P (move_to Closed fe) = (lone-closed fe, bounded-closed fe b, inr refl, refl, refl) in
    deaf-hears P NotOpening now n p fe made dead genuine
    (λ m plain. record {
      down = λ _ is. absurd (omega (arith, ap is_opening is, plain));
      start = λ _ is. absurd (omega (arith, ap is_opening is, plain));
      table = λ on _. false≢true (sym silent.0 ∙ on);
    })
    (lone-refl fe, b, still, refl, refl) closed
    (λ reason detail. leave-cases P reason detail now fe (λ live. absurd (false≢true (sym silent.1 ∙ live)))
    (λ _. closed))

-- A unit that is neither taken nor unconfirmed was not sent.

-- One direction.
pub half-owes : (x y : State) → Half x y → length (units x.made) ≤ length y.taken + length (unconfirmed x)
half-owes x y h = grind (arith, append-nil, length-append, run_of-shrinks)

quiet-none : (kind : Kind) (body : List ℕ) → needs_peer kind ≡ 0 → first_sent kind body ≡ []
quiet-none kind body e = grind arith

pub quiet-units : (ms : List Made) → Every Quiet ms → units ms ≡ []
quiet-units [] h = refl
quiet-units (m ∷ ms) h = ap (λ us. us ++ units ms) (quiet-none m.pdu.kind m.pdu.body h.0) ∙ quiet-units ms h.1

-- After the two have met.
pub met-loses_nothing : (il : State) (before : List State) (fe : State) (joined : Option ℕ) (fe_before : List Served)
    → Met (length before) il fe joined fe_before → LosesNothingOf il before fe joined fe_before
met-loses_nothing il before fe joined fe_before m = grind (arith, half-owes, eq-eqb)

-- An incarnation joined to an earlier one does not depend on the latest.
pub taken-other : (s t : State) (before : List State) (p : Option ℕ) → JoinedBelow (length before) p
    → taken_from_fe (s ∷ before) p ≡ taken_from_fe (t ∷ before)
    p
taken-other s t before p below = grind arith

pub taken-pushed : (t : State) (ils : List State) (p : Option ℕ) → JoinedBelow (length ils) p
    → taken_from_fe ils p ≡ taken_from_fe (t ∷ ils) p
taken-pushed t ils p below = grind arith

-- A step in which nothing is taken.
pub lone-owes : (s t : State) (n : ℕ) → Lone s t → length (units s.made) ≤ n + length (unconfirmed s)
    → length (units t.made) ≤ n + length (unconfirmed t)
lone-owes s t n l h = omega (arith, l.owes, h)

pub mute-loses_nothing : (il : State) (n : ℕ) → Mute il → length (units il.made) ≤ n + length (unconfirmed il)
mute-loses_nothing il n h = omega (arith, ap length (quiet-units il.made h.quiet))
