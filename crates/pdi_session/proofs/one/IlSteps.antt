-- Each event of an interlocking keeps the facts of its phase on the queue and the judged telegrams.
use Rattle.std.proofs.Common.{◌≡◌, ℕ, ◌==◌, Bool, true, false, not, cond, List, [], ◌∷◌, ◌++◌, length, Some, None, refl, sym, ap, ◌∙◌, arith, subst, ⊎_elim, inl, inr, suc, nat_le, nat_lt}
use Rattle.std.specs.Prelude.{is_none}
use Rattle.std.proofs.lemmas.Bool.{eqb-true, false≢true, true≢false}
use Rattle.std.proofs.lemmas.List.{append-nil, length-append}
use Rattle.octets.specs.declared.limits.TheConstants.{PAYLOAD_MAX}
use Rattle.octets.specs.declared.limits.TheConstants.{WAITING_MAX}
use Rattle.pdi_session.specs.telegram.Tele.{Tele}
use Rattle.pdi_session.specs.declared.TheConstants.{INITIALISATION_COMPLETED}
use Rattle.pdi_session.specs.declared.Phase.{Phase}
use Rattle.pdi_session.specs.declared.Phase.TheVariants.{Idle, Checking, Requesting, AwaitCheck, AwaitRequest, Refused, Initialising, Established, Ended}
use Rattle.pdi_session.specs.declared.SessionDetail.TheVariants as detail
use Rattle.pdi_session.specs.declared.Notice.{Notice}
use Rattle.pdi_session.specs.declared.Notice.TheVariants as notice
use Rattle.pdi_session.specs.declared.Form.TheVariants.{Notifies, Item}
use Rattle.pdi_session.specs.declared.Verdict.{Verdict}
use Rattle.pdi_session.specs.declared.PutFault.TheVariants as fault
use Rattle.pdi_session.specs.Settings.{Interlocking}
use Rattle.pdi_session.specs.Telegrams.{form_of, is_addressed, is_reserved, kind_of, telegram}
use Rattle.pdi_session.specs.Tables.{at_up, interlocking_up, is_initialising, may_put, table}
use Rattle.pdi_session.specs.SessionStep.{Event, Up, Arrives, Puts, InitDone, Closes, SessionState, added_by, judge_telegram, phase_after, phase_by, put_refusal, sent_by}
use Rattle.pdi_session.specs.Histories.{handed_by}
use Rattle.pdi_session.specs.Laws.{IsItem, completions}
use Rattle.pdi_session.proofs.one.TableLemmas.{by_cond}
use Rattle.pdi_session.proofs.one.Rows.{form_kind, item_of_form, FormKind, InterlockingRow, IlOver, IlEqual, IlBegins, IlInitial, IlDone, IlStatus, interlocking_row}
use Rattle.pdi_session.proofs.one.Shapes.{IlAt, IlPast, Told, Asked, IlRequesting, IlInitialising, IlEstablished, base, check_from, request_from, il_past, completions-append, All-append}

pub by_bool : (P : Bool → Type 0) (b : Bool) → (b ≡ true → P true) → (b ≡ false → P false) → P b
by_bool P true p q = p refl
by_bool P false p q = q refl

one_completion : (t : Tele) → (t.kind == INITIALISATION_COMPLETED) ≡ false → completions (t ∷ []) ≡ 0
one_completion t other = rw other refl

-- the message type of a telegram with this form
pub kind_said : (t : Tele) (n : Notice) → form_of t.kind t.payload ≡ Notifies n → t.kind ≡ kind_of n
kind_said t n says = subst (FormKind t.kind) says (form_kind t.kind t.payload)

pub uncounted : (t : Tele) (n : Notice) → form_of t.kind t.payload ≡ Notifies n
    → (kind_of n == INITIALISATION_COMPLETED) ≡ false → completions (t ∷ []) ≡ 0
uncounted t n says other = one_completion t (ap (λ k. k == INITIALISATION_COMPLETED) (kind_said t n says) ∙ other)

pub counted : (t : Tele) → form_of t.kind t.payload ≡ Notifies notice.InitialisationCompleted → completions (t ∷ []) ≡ 1
counted t says = let is : (t.kind == INITIALISATION_COMPLETED) ≡ true =
    ap (λ k. k == INITIALISATION_COMPLETED) (kind_said t notice.InitialisationCompleted says) in rw is refl

-- a message type that is not reserved is not that of the end of the initialisation
pub unreserved : (kind : ℕ) → is_reserved kind ≡ false → (kind == INITIALISATION_COMPLETED) ≡ false
unreserved kind free = by_bool (λ b. (kind == INITIALISATION_COMPLETED) ≡ b
    → b ≡ false) (kind == INITIALISATION_COMPLETED)
    (λ e same. absurd (true≢false (sym (ap is_reserved (eqb-true kind INITIALISATION_COMPLETED e)) ∙ free)))
    (λ e same. refl) refl

pub item_uncounted : (t : Tele) → is_reserved t.kind ≡ false → completions (t ∷ []) ≡ 0
item_uncounted t free = one_completion t (unreserved t.kind free)

told_more : (version : ℕ) (judge_telegram more : List Tele) → Told version judge_telegram
    → Told version (judge_telegram ++ more)
told_more version judge_telegram more told =
    record { first = told.first; others = told.others ++ more; is = ap (λ xs. xs ++ more) told.is; says = told.says }

-- more was judged, and nothing was added
asked_more : (version : ℕ) (s : SessionState) (queue js more : List Tele) → Asked version s queue js
    → Asked version s (queue ++ []) (js ++ more)
asked_more version s queue js more asked =
    record {
      commands = asked.commands;
      is = append-nil queue ∙ asked.is;
      each = asked.each;
      told = told_more version js more asked.told;
      late = λ some. let before = asked.late some in
          (omega (arith, before.0, length-append js more), omega (arith, before.1, completions-append js more));
    }

il_past_more : (version : ℕ) (s : SessionState) (queue js more : List Tele) → IlPast version s queue js
    → IlPast version s (queue ++ []) (js ++ more)
il_past_more version s queue js more past =
    ⊎_elim (λ none. inl (append-nil queue ∙ none))
    (λ some. inr (⊎_elim (λ one. inl (append-nil queue ∙ one))
    (λ asked. inr (asked_more version s queue js more asked)) some)) past

-- the state after a verdict
abbrev pub IlThen : ℕ → SessionState → List Tele → List Tele → Phase → Verdict → Type 0
IlThen version s queue js phase verdict = IlAt version (base s) (phase_by phase verdict) (queue ++ sent_by s verdict) js

il_still : (version : ℕ) (s : SessionState) (phase : Phase) (queue js : List Tele) → IlAt version s phase queue js
    → IlAt version s phase (queue ++ []) (js ++ [])
il_still version s phase queue js at =
    subst (λ x. IlAt version s phase x (js ++ [])) (sym (append-nil queue))
    (subst (λ x. IlAt version s phase queue x) (sym (append-nil js)) at)

il_up : (version : ℕ) (s : SessionState) (queue js : List Tele) (phase : Phase) → IlAt version (base s) phase queue js
    → IlThen version s queue (js ++ []) phase (interlocking_up version phase)
il_up version s queue js Idle at = (ap (λ xs. xs ++ check_from version s ∷ []) at.0, append-nil js ∙ at.1)
il_up version s queue js Checking at = il_still version (base s) Checking queue js at
il_up version s queue js Requesting at = il_still version (base s) Requesting queue js at
il_up version s queue js AwaitCheck at = absurd at
il_up version s queue js AwaitRequest at = absurd at
il_up version s queue js Refused at = absurd at
il_up version s queue js Initialising at = il_still version (base s) Initialising queue js at
il_up version s queue js Established at = il_still version (base s) Established queue js at
il_up version s queue js Ended at = il_still version (base s) Ended queue js at

il_equal : (version : ℕ) (s : SessionState) (queue js : List Tele) (t : Tele)
    → form_of t.kind t.payload ≡ Notifies (notice.VersionEqual version) → IlAt version s Checking queue js
    → IlRequesting version s (queue ++ request_from s ∷ []) (js ++ t ∷ [])
il_equal version s queue js t says at =
    record {
      asked = record {
        commands = [];
        is = ap (λ xs. xs ++ request_from s ∷ []) at.0;
        each = tt;
        told = record { first = t; others = []; is = ap (λ xs. xs ++ t ∷ []) at.1; says = says };
        late = λ some. absurd (some refl);
      };
      none = refl;
      one = ap (λ xs. length (xs ++ t ∷ [])) at.1;
    }

-- a single reply is not the end of the initialisation
told_open : (version : ℕ) (js : List Tele) → Told version js → length js ≡ 1 → completions js ≡ 0
told_open version js told one = by told.others told.is
  where
    by : (others : List Tele) → js ≡ told.first ∷ others → completions js ≡ 0
    by [] is = ap completions is ∙ uncounted told.first (notice.VersionEqual version) told.says refl
    by (other ∷ others) is = let long : length js ≡ suc (suc (length others)) =
        ap length is in absurd (omega (arith, long, one))

il_begins : (version : ℕ) (s : SessionState) (queue js : List Tele) (t : Tele)
    → form_of t.kind t.payload ≡ Notifies notice.StartInitialisation → IlAt version s Requesting queue js
    → IlInitialising version s (queue ++ []) (js ++ t ∷ [])
unfolding asked_more
il_begins version s queue js t says at =
    record {
      asked = asked_more version s queue js (t ∷ []) at.asked;
      none = at.none;
      some = omega (arith, at.one, length-append js (t ∷ []));
      unfinished = completions-append js (t ∷ [])
          ∙ omega (arith, told_open version js at.asked.told at.one, uncounted t notice.StartInitialisation says refl);
    }

il_initial : (version : ℕ) (s : SessionState) (queue js : List Tele) (t : Tele) → form_of t.kind t.payload ≡ Item
    → IlAt version s Initialising queue js
    → IlInitialising version s (queue ++ []) (js ++ t ∷ [])
unfolding asked_more
il_initial version s queue js t says at =
    record {
      asked = asked_more version s queue js (t ∷ []) at.asked;
      none = at.none;
      some = omega (arith, at.some, length-append js (t ∷ []));
      unfinished = completions-append js (t ∷ [])
          ∙ omega (arith, at.unfinished, item_uncounted t (item_of_form t.kind t.payload says));
    }

il_done : (version : ℕ) (s : SessionState) (queue js : List Tele) (t : Tele)
    → form_of t.kind t.payload ≡ Notifies notice.InitialisationCompleted → IlAt version s Initialising queue js
    → IlEstablished version s (queue ++ []) (js ++ t ∷ [])
il_done version s queue js t says at =
    record {
      asked = asked_more version s queue js (t ∷ []) at.asked;
      some = omega (arith, at.some, length-append js (t ∷ []));
      done = completions-append js (t ∷ []) ∙ omega (arith, at.unfinished, counted t says);
    }

il_status : (version : ℕ) (s : SessionState) (queue js : List Tele) (t : Tele) → form_of t.kind t.payload ≡ Item
    → IlAt version s Established queue js
    → IlEstablished version s (queue ++ []) (js ++ t ∷ [])
il_status version s queue js t says at =
    record {
      asked = asked_more version s queue js (t ∷ []) at.asked;
      some = omega (arith, at.some, length-append js (t ∷ []));
      done =
          completions-append js (t ∷ []) ∙ omega (
            arith,
            at.done,
            item_uncounted t (item_of_form t.kind t.payload says),
          );
    }

il_by_row : (version : ℕ) (s : SessionState) (queue js : List Tele) (t : Tele) (verdict : Verdict)
    → InterlockingRow version s.phase (form_of t.kind t.payload) verdict
    → IlAt version (base s) s.phase queue js → IlThen version s queue (js ++ t ∷ []) s.phase verdict
il_by_row version s queue js t verdict (IlOver why e) at =
    subst (IlThen version s queue (js ++ t ∷ []) s.phase) (sym e)
    (il_past_more version (base s) queue js (t ∷ []) (il_past version (base s) s.phase queue js at))
il_by_row version s queue js t verdict (IlEqual p f e) at =
    subst (IlThen version s queue (js ++ t ∷ []) s.phase) (sym e)
    (il_equal version (base s) queue js t f (subst (λ x. IlAt version (base s) x queue js) p at))
il_by_row version s queue js t verdict (IlBegins p f e) at =
    subst (IlThen version s queue (js ++ t ∷ []) s.phase) (sym e)
    (il_begins version (base s) queue js t f (subst (λ x. IlAt version (base s) x queue js) p at))
il_by_row version s queue js t verdict (IlInitial p f e) at =
    subst (IlThen version s queue (js ++ t ∷ []) s.phase) (sym e)
    (subst (λ x. IlAt version (base s) x (queue ++ []) (js ++ t ∷ [])) (sym p)
    (il_initial version (base s) queue js t f (subst (λ x. IlAt version (base s) x queue js) p at)))
il_by_row version s queue js t verdict (IlDone p f e) at =
    subst (IlThen version s queue (js ++ t ∷ []) s.phase) (sym e)
    (il_done version (base s) queue js t f (subst (λ x. IlAt version (base s) x queue js) p at))
il_by_row version s queue js t verdict (IlStatus p f e) at =
    subst (IlThen version s queue (js ++ t ∷ []) s.phase) (sym e)
    (subst (λ x. IlAt version (base s) x (queue ++ []) (js ++ t ∷ [])) (sym p)
    (il_status version (base s) queue js t f (subst (λ x. IlAt version (base s) x queue js) p at)))

-- the row of an interlocking's decision
pub il_row : (version : ℕ) (s : SessionState) (t : Tele) → s.role ≡ Interlocking version
    → InterlockingRow version s.phase (form_of t.kind t.payload) (judge_telegram s t)
il_row version s t role =
    by_cond (InterlockingRow version s.phase (form_of t.kind t.payload)) (is_addressed s.addressing t) _ _
    (λ _. subst (λ r. InterlockingRow version s.phase (form_of t.kind t.payload)
    (table r s.phase (form_of t.kind t.payload))) (sym role)
    (interlocking_row version s.phase (form_of t.kind t.payload)))
    (λ _. IlOver detail.NotOfThisPair refl)

-- the phases with puts
pub open_by_tests : (a b c d : Bool) → is_none
    (cond (not a) (Some fault.NotEstablished)
    (cond b (Some fault.Full) (cond c (Some fault.ReservedType) (cond d (Some fault.TooLong) None)))) ≡ true
    → (a ≡ true) × (c ≡ false)
open_by_tests true false false d none = (refl, refl)
open_by_tests true false true d none = absurd (true≢false (sym none))
open_by_tests true true c d none = absurd (true≢false (sym none))
open_by_tests false b c d none = absurd (true≢false (sym none))

pub put_open : (s : SessionState) (kind : ℕ) (payload : List ℕ) (waits : ℕ)
    → is_none (put_refusal s kind payload waits) ≡ true → (may_put s.role s.phase ≡ true) × (is_reserved kind ≡ false)
put_open s kind payload waits none = open_by_tests (may_put s.role s.phase) (nat_le WAITING_MAX waits)
    (is_reserved kind) (nat_lt PAYLOAD_MAX (length payload)) none

pub il_may_put : (version : ℕ) (phase : Phase) → may_put (Interlocking version) phase ≡ true → phase ≡ Established
il_may_put version Idle may = absurd (false≢true may)
il_may_put version Checking may = absurd (false≢true may)
il_may_put version Requesting may = absurd (false≢true may)
il_may_put version AwaitCheck may = absurd (false≢true may)
il_may_put version AwaitRequest may = absurd (false≢true may)
il_may_put version Refused may = absurd (false≢true may)
il_may_put version Initialising may = absurd (false≢true may)
il_may_put version Established may = refl
il_may_put version Ended may = absurd (false≢true may)

il_no_init : (version : ℕ) (phase : Phase) → is_initialising (Interlocking version) phase ≡ false
il_no_init version Idle = refl
il_no_init version Checking = refl
il_no_init version Requesting = refl
il_no_init version AwaitCheck = refl
il_no_init version AwaitRequest = refl
il_no_init version Refused = refl
il_no_init version Initialising = refl
il_no_init version Established = refl
il_no_init version Ended = refl

il_puts : (version : ℕ) (s : SessionState) (queue js : List Tele) (kind : ℕ) (payload : List ℕ)
    → is_reserved kind ≡ false → IlAt version s Established queue js
    → IlEstablished version s (queue ++ telegram s.addressing kind payload ∷ []) (js ++ [])
il_puts version s queue js kind payload free at =
    record {
      asked = record {
        commands = at.asked.commands ++ telegram s.addressing kind payload ∷ [];
        is = ap (λ xs. xs ++ telegram s.addressing kind payload ∷ []) at.asked.is;
        each =
            All-append (IsItem s) at.asked.commands (telegram s.addressing kind payload ∷ []) at.asked.each
            ((free, refl), tt);
        told = told_more version js [] at.asked.told;
        late = λ _. (omega (arith, at.some, length-append js []), omega (arith, at.done, completions-append js []));
      };
      some = omega (arith, at.some, length-append js []);
      done = omega (arith, at.done, completions-append js []);
    }

pub il_step : (version : ℕ) (e : Event) (s : SessionState) (queue js : List Tele) → s.role ≡ Interlocking version
    → IlAt version (base s) s.phase queue js
    → IlAt version (base s) (phase_after e s) (queue ++ added_by e s) (js ++ handed_by e)
il_step version Up s queue js role at = subst (λ r. IlThen version s queue (js ++ []) s.phase (at_up r s.phase))
    (sym role) (il_up version s queue js s.phase at)
il_step version (Arrives t) s queue js role at =
    il_by_row version s queue js t (judge_telegram s t) (il_row version s t role) at
il_step version (Puts kind payload waits) s queue js role at =
    by_cond (λ x. IlAt version (base s) s.phase (queue ++ x) (js ++ [])) (is_none (put_refusal s kind payload waits)) _
    _
    (λ none.
    let may = put_open s kind payload waits none in
    let now : s.phase ≡ Established = il_may_put version s.phase (ap (λ r. may_put r s.phase) (sym role) ∙ may.0) in
    subst (λ p. IlAt version (base s) p (queue ++ telegram s.addressing kind payload ∷ []) (js ++ [])) (sym now)
    (il_puts version (base s) queue js kind payload may.1 (subst (λ p. IlAt version (base s) p queue js) now at)))
    (λ _. il_still version (base s) s.phase queue js at)
il_step version (InitDone waits) s queue js role at =
    let no : is_initialising s.role s.phase ≡ false = ap (λ r. is_initialising r s.phase) role
    ∙ il_no_init version s.phase in
    rw no (il_still version (base s) s.phase queue js at)
il_step version Closes s queue js role at =
    il_past_more version (base s) queue js [] (il_past version (base s) s.phase queue js at)
