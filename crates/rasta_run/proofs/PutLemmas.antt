-- The telegrams that a turn puts, one by one.
use Rattle.std.proofs.Common.{◌≡◌, ◌+◌, ℕ, Bool, true, false, List, [], ◌∷◌, ◌++◌, Option, Some, length, length-append, ap, sym, subst, ◌∙◌, refl, add-one, is_some, ◌==◌}
use Rattle.std.specs.List.{FoldsTo}
use Rattle.channels.specs.ChannelHistory.{ChannelHistory}
use Rattle.octets.proofs.Steps.{FoldsTo-append}
use Rattle.pdi_session.specs.declared.PutFault.TheVariants.{Full}
use Rattle.settings_file.specs.declared.values.PutEntry.{PutEntry as Telegram}
use Rattle.stack_end.specs.EndValue.{EndTakesTurn, EndValue}
use Rattle.end_settings.specs.declared.Side.{Side}
use Rattle.stack_end.specs.EndValue.{inside}
use Rattle.rasta_run.specs.TelegramPuts.{AnswersTelegram, EndsInitialisationIf, EndWithInput, IsFullFor, OfferState, OffersTelegram, PutsTelegram, PutState, PutsBeginning, TakesInput, TakesInputIf, TakesLine, TakesLines, is_full}
use Rattle.rasta_run.specs.ExpectedStates.{ends_initialisation_in, puts_list_in}
use Rattle.rasta_run.specs.Turns.{Course, Hears, PollsEnd, PutsListIf, PutsAllowed, TakesTurn, deaf_after}
use Rattle.pdi_session.specs.SessionStep.{Item}
use Rattle.stack_end.specs.Turns.{is_over, time_turn}
use Rattle.rasta_run.specs.declared.telegram_puts.PutOutcome.{PutOutcome}
use Rattle.rasta_run.specs.declared.telegram_puts.PutOutcome.TheVariants as offered

-- one more telegram is done with
moved : {A : Type 0} (done rest : List A) (x : A) → done ++ (x ∷ rest) ≡ (done ++ x ∷ []) ++ rest
moved [] rest x = refl
moved (d ∷ ds) rest x = ap (λ l. d ∷ l) (moved ds rest x)

pub one-more : {S A : Type 0} (R : S → A → S → Type 0) (before left rest : List A) (x : A) (s t u : S) (n : ℕ)
    → (done : List A) × (length done ≡ n) × (before ≡ done ++ left) × FoldsTo R s done t → left ≡ x ∷ rest → R t x u
    → (done : List A) × (length done ≡ n + 1) × (before ≡ done ++ rest) × FoldsTo R s done u
one-more R before left rest x s t u n h split step = (
  h.0 ++ x ∷ [],
  length-append h.0 (x ∷ []) ∙ ap (λ m. m + 1) h.1,
  h.2 ∙ ap (λ l. h.0 ++ l) split ∙ moved h.0 rest x,
  FoldsTo-append R h.0 (x ∷ []) s t u h.3 (u, step, refl),
)

-- the end is full for the next telegram, and nothing has changed
pub stops : {C A T : Type 0} (told : C → ChannelHistory) (refuses : T → List ℕ → T
    → Type 0) (now : ℕ) (before left after rest : List Telegram) (p : Telegram)
    (s : PutState C A T) (v w : EndValue C A) (n m : ℕ) (x y : T) (r q : ℕ) (done : List Telegram)
    → before ≡ done ++ left → FoldsTo (PutsTelegram told refuses now) s done (v, n, x, r) → left ≡ p ∷ rest
    → AnswersTelegram v p (Some Full)
    → after ≡ left → w ≡ v → m ≡ n → y ≡ x → q ≡ r → PutsBeginning told refuses now before s after (w, m, y, q)
stops told refuses now before left after rest p s v w n m x y r q done e along split full same-left same-end same-count
    same-app same-refused =
    let base : PutsBeginning told refuses now before s left (v, n, x, r) =
    (done, e, along, subst (λ l. IsFullFor v l) (sym split) full) in
    subst (λ l. PutsBeginning told refuses now before s l (w, m, y, q)) (sym same-left)
    (subst (λ z. PutsBeginning told refuses now before s left (z, m, y, q)) (sym same-end)
    (subst (λ z. PutsBeginning told refuses now before s left (v, z, y, q)) (sym same-count)
    (subst (λ z. PutsBeginning told refuses now before s left (v, n, z, q)) (sym same-app)
    (subst (λ z. PutsBeginning told refuses now before s left (v, n, x, z)) (sym same-refused) base))))

-- one more line was taken
pub line-more : {C A T : Type 0} (told : C → ChannelHistory) (refuses : T → List ℕ → T
    → Type 0) (now : ℕ) (ended : Bool) (n : ℕ) (s mid t : EndWithInput C A T)
    → TakesLines told refuses now ended n s mid → TakesLine told refuses now ended mid true t
    → TakesLines told refuses now ended (n + 1) s t
line-more told refuses now ended n s mid t h step =
    subst (λ k. TakesLines told refuses now ended k s t) (sym (add-one n)) (mid, h, step)

-- it is the time for lines, and they were taken
pub when-ready : {C A T : Type 0} (told : C → ChannelHistory) (refuses : T → List ℕ → T
    → Type 0) (now : ℕ) (ended ready : Bool) (s : EndWithInput C A T) (found : Bool) (t : EndWithInput C A T)
    → ready ≡ true → TakesInput told refuses now ended s found t → TakesInputIf told refuses now ended ready s found t
when-ready told refuses now ended ready s found t e h =
    subst (λ b. TakesInputIf told refuses now ended b s found t) (sym e) h

-- it is not the time for lines, and nothing has changed
pub not-ready : {C A T : Type 0} (told : C → ChannelHistory) (refuses : T → List ℕ → T
    → Type 0) (now : ℕ) (ended ready : Bool) (s : EndWithInput C A T) (found : Bool) (t : EndWithInput C A T)
    → ready ≡ false → found ≡ false → t ≡ s → TakesInputIf told refuses now ended ready s found t
not-ready told refuses now ended ready s found t e f h =
    subst (λ b. TakesInputIf told refuses now ended b s found t) (sym e) (f, h)

-- the end is full for the telegram that was offered
pub full-offer : {C A T : Type 0} (told : C → ChannelHistory) (refuses : T → List ℕ → T
    → Type 0) (now : ℕ) (s : OfferState C A T) (p : Telegram) (o : PutOutcome) (t : OfferState C A T)
    → OffersTelegram told refuses now s p o t → is_full o ≡ true → OffersTelegram told refuses now s p offered.Full t
full-offer told refuses now s p offered.Full t h e = h
full-offer told refuses now s p offered.Put t h e = cc
full-offer told refuses now s p offered.Refused t h e = cc

-- a line was taken or not, of an input that is at its end or not
pub line-as : {C A T : Type 0} (told : C → ChannelHistory) (refuses : T → List ℕ → T
    → Type 0) (now : ℕ) (e f : Option ℕ) (s : EndWithInput C A T) (d b : Bool) (t : EndWithInput C A T)
    → e ≡ f → d ≡ b → TakesLine told refuses now (is_some e) s d t → TakesLine told refuses now (is_some f) s b t
line-as told refuses now e f s d b t same is h =
    subst (λ x. TakesLine told refuses now (is_some f) s x t) is
    (subst (λ o. TakesLine told refuses now (is_some o) s d t) same h)

-- an end put what it may, and ended its initialisation if it may
pub puts-now : {C A T : Type 0} (told : C → ChannelHistory) (refuses : T → List ℕ → T
    → Type 0) (now : ℕ) (side other : Side) (s mid t : Course C A T) (puts ends : Bool)
    → puts ≡ puts_list_in side (inside s.end).upper.session.phase → PutsListIf told refuses now puts s mid
    → other ≡ side
    → ends ≡ ends_initialisation_in other (inside mid.end).upper.session.phase (length mid.left == 0)
    → EndsInitialisationIf told refuses now ends (mid.end, mid.app) (t.end, t.app) → t.left ≡ mid.left → t.put ≡ mid.put
    → t.refused ≡ mid.refused → t.deaf ≡ mid.deaf
    → t.closed ≡ mid.closed → PutsAllowed told refuses now side s t
puts-now told refuses now side other s mid t puts ends first puts_mid same second completes left put refused deaf
    closed = (
      mid,
      subst (λ b. PutsListIf told refuses now b s mid) first puts_mid,
      subst (λ b. EndsInitialisationIf told refuses now b (mid.end, mid.app) (t.end, t.app))
          (second ∙ ap (λ x. ends_initialisation_in x (inside mid.end).upper.session.phase (length mid.left == 0)) same)
          completes,
      left,
      put,
      refused,
      deaf,
      closed,
    )

-- an end received, and then put what it may
pub takes-turn : {C A T : Type 0} (told : C → ChannelHistory) (takes : T → Item → T → Type 0) (lost : T
    → Bool) (refuses : T → List ℕ → T → Type 0) (now : ℕ) (side other : Side)
    (s t : Course C A T) (works : Bool) (from end near : EndValue C A) (app : T) (left : List Telegram)
    (put refused deaf : ℕ) (closed : Bool)
    → from ≡ s.end → PollsEnd told takes works now (from, s.app) (end, app) → lost app ≡ false → other ≡ side
    → near ≡ end → left ≡ s.left → put ≡ s.put → refused ≡ s.refused
    → deaf ≡ deaf_after works s.deaf → closed ≡ is_over (inside end)
    → PutsAllowed told refuses now other (record {
      end = near;
      left = left;
      put = put;
      refused = refused;
      app = app;
      deaf = deaf;
      closed = closed;
    }) t
    → TakesTurn told takes lost refuses now side s t
takes-turn told takes lost refuses now side other s t works from end near app left put refused deaf closed start heard
    kept sides ends lefts puts refusals deafs closes h =
    let with_side = subst (λ x. PutsAllowed told refuses now x
    (record { end = near; left = left; put = put; refused = refused; app = app; deaf = deaf; closed = closed }) t)
    sides h in
    let with_end = subst (λ x. PutsAllowed told refuses now side
    (record { end = x; left = left; put = put; refused = refused; app = app; deaf = deaf; closed = closed }) t) ends
    with_side in
    let with_left = subst (λ x. PutsAllowed told refuses now side
    (record { end = end; left = x; put = put; refused = refused; app = app; deaf = deaf; closed = closed }) t) lefts
    with_end in
    let with_put = subst (λ x. PutsAllowed told refuses now side
    (record { end = end; left = s.left; put = x; refused = refused; app = app; deaf = deaf; closed = closed }) t)
    puts with_left in
    let with_refused = subst (λ x. PutsAllowed told refuses now side
    (record { end = end; left = s.left; put = s.put; refused = x; app = app; deaf = deaf; closed = closed }) t)
    refusals with_put in
    let with_deaf = subst (λ x. PutsAllowed told refuses now side
    (record { end = end; left = s.left; put = s.put; refused = s.refused; app = app; deaf = x; closed = closed }) t)
    deafs with_refused in
    let with_closed = subst (λ x. PutsAllowed told refuses now side
    (record {
      end = end;
      left = s.left;
      put = s.put;
      refused = s.refused;
      app = app;
      deaf = deaf_after works s.deaf;
      closed = x;
    }) t) closes with_deaf in
    (works, end, app, subst (λ v. PollsEnd told takes works now (v, s.app) (end, app)) start heard, kept, with_closed)

-- an end received: what was polled is what it is left as
pub hears : {C A T : Type 0} (told : C → ChannelHistory) (takes : T → Item → T → Type 0) (lost : T
    → Bool) (now : ℕ) (s t : Course C A T) (works : Bool) (from end : EndValue C A) (app : T)
    → from ≡ s.end → PollsEnd told takes works now (from, s.app) (end, app) → lost app ≡ false
    → t.end ≡ end → t.app ≡ app → t.left ≡ s.left → t.put ≡ s.put → t.refused ≡ s.refused
    → t.deaf ≡ deaf_after works s.deaf → t.closed ≡ is_over (inside end) → Hears told takes lost now s t
hears told takes lost now s t works from end app start heard kept ends apps left put refused deaf closed = (
  works,
  subst (λ v. PollsEnd told takes works now (s.end, s.app) (v, t.app)) (sym ends)
      (subst (λ a. PollsEnd told takes works now (s.end, s.app) (end, a)) (sym apps)
      (subst (λ v. PollsEnd told takes works now (v, s.app) (end, app)) start heard)),
  subst (λ a. lost a ≡ false) (sym apps) kept,
  left,
  put,
  refused,
  deaf,
  closed ∙ ap (λ v. is_over (inside v)) (sym ends),
)

-- an end received, and then put what it may
pub hears-and-puts : {C A T : Type 0} (told : C → ChannelHistory) (takes : T → Item → T → Type 0) (lost : T
    → Bool) (refuses : T → List ℕ → T → Type 0) (now : ℕ) (side other : Side)
    (s mid t : Course C A T) → Hears told takes lost now s mid → other ≡ side
    → PutsAllowed told refuses now other mid t → TakesTurn told takes lost refuses now side s t
hears-and-puts told takes lost refuses now side other s mid t h sides puts =
    takes-turn told takes lost refuses now side other s t h.0 s.end mid.end mid.end mid.app mid.left mid.put
    mid.refused mid.deaf mid.closed refl h.1 h.2 sides refl h.3 h.4 h.5 h.6 h.7 puts

-- time passed for an end: what ticked is what it is left as
pub holds : {C A T : Type 0} (told : C → ChannelHistory) (takes : T → Item → T → Type 0) (lost : T → Bool) (now : ℕ)
    (first from end last : EndValue C A) (before after : T) → from ≡ first
    → EndTakesTurn told takes (time_turn now) from before end after → last ≡ end → lost after ≡ false
    → EndTakesTurn told takes (time_turn now) first before last after × (lost after ≡ false)
holds told takes lost now first from end last before after start ticks ends kept = (
  subst (λ v. EndTakesTurn told takes (time_turn now) first before v after) (sym ends)
      (subst (λ v. EndTakesTurn told takes (time_turn now) v before end after) start ticks),
  kept,
)
