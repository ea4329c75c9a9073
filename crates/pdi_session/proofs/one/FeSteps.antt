-- Each event of a field element keeps the facts of its phase on the queue and the judged telegrams.
use Rattle.std.proofs.Common.{◌≡◌, ◌⊎◌, ℕ, Bool, true, false, not, cond, List, [], ◌∷◌, ◌++◌, length, Some, None, refl, sym, ap, ◌∙◌, arith, subst, ⊎_elim, inl, inr, nat_le}
use Rattle.std.specs.Prelude.{is_none}
use Rattle.std.proofs.lemmas.Bool.{false≢true, true≢false}
use Rattle.std.proofs.lemmas.List.{append-nil, length-append}
use Rattle.octets.specs.declared.limits.TheConstants.{WAITING_MAX}
use Rattle.pdi_session.specs.telegram.Tele.{Tele}
use Rattle.pdi_session.specs.declared.Phase.{Phase}
use Rattle.pdi_session.specs.declared.Phase.TheVariants.{Idle, Checking, Requesting, AwaitCheck, AwaitRequest, Refused, Initialising, Established, Ended}
use Rattle.pdi_session.specs.declared.Notice.TheVariants as notice
use Rattle.pdi_session.specs.declared.Form.TheVariants.{Notifies}
use Rattle.pdi_session.specs.declared.Verdict.{Verdict}
use Rattle.pdi_session.specs.declared.InitFault.TheVariants as fault
use Rattle.pdi_session.specs.Settings.{Field, first_version}
use Rattle.pdi_session.specs.Telegrams.{form_of, is_addressed, is_reserved, telegram}
use Rattle.pdi_session.specs.Tables.{at_up, field_up, is_initialising, may_put, table}
use Rattle.pdi_session.specs.SessionStep.{Event, Up, Arrives, Puts, InitDone, Closes, SessionState, added_by, at_init_done, init_refusal, notice_tele, phase_after, phase_by, put_refusal, sent_by}
use Rattle.pdi_session.specs.Histories.{handed_by}
use Rattle.pdi_session.specs.Laws.{IsStatus}
use Rattle.pdi_session.proofs.one.TableLemmas.{by_cond}
use Rattle.pdi_session.proofs.one.Rows.{FieldRow, FeOver, FeEqual, FeDiffers, FeAsked, FeCommand, field_row}
use Rattle.pdi_session.proofs.one.Shapes.{base, FeAt, FePast, Heard, Refuses, Accepts, Starts, FeInitialising, FeEstablished, equal_from, differs_from, start_from, fe_past, completions-append, All-append}
use Rattle.pdi_session.proofs.one.IlSteps.{by_bool, item_uncounted, put_open}

heard_more : (version : ℕ) (s : SessionState) (js more : List Tele) → Heard version s js → Heard version s (js ++ more)
heard_more version s js more heard =
    record {
      first = heard.first;
      others = heard.others ++ more;
      is = ap (λ xs. xs ++ more) heard.is;
      says = heard.says;
      from = heard.from;
    }

refuses_more : (s : SessionState) (queue js more : List Tele) → Refuses s queue js
    → Refuses s (queue ++ []) (js ++ more)
refuses_more s queue js more r = record {
  asked = r.asked;
  version = r.version;
  is = append-nil queue
      ∙ r.is;
  heard = heard_more r.asked s js more r.heard;
}

accepts_more : (s : SessionState) (queue js more : List Tele) → Accepts s queue js
    → Accepts s (queue ++ []) (js ++ more)
accepts_more s queue js more r =
    record { version = r.version; is = append-nil queue ∙ r.is; heard = heard_more r.version s js more r.heard }

starts_more : (s : SessionState) (queue js more : List Tele) → Starts s queue js → Starts s (queue ++ []) (js ++ more)
starts_more s queue js more r =
    record {
      version = r.version;
      status = r.status;
      is = append-nil queue ∙ r.is;
      each = r.each;
      most = r.most;
      heard = heard_more r.version s js more r.heard;
    }

fe_past_more : (s : SessionState) (queue js more : List Tele) → FePast s queue js → FePast s (queue ++ []) (js ++ more)
fe_past_more s queue js more past =
    ⊎_elim (λ none. inl (append-nil queue ∙ none))
    (λ some. inr (⊎_elim (λ refuses. inl (refuses_more s queue js more refuses))
    (λ rest. inr (⊎_elim (λ accepts. inl (accepts_more s queue js more accepts))
    (λ starts. inr (starts_more s queue js more starts)) rest)) some)) past

-- the state after a verdict
abbrev pub FeThen : SessionState → List Tele → List Tele → Phase → Verdict → Type 0
FeThen s queue js phase verdict = FeAt (base s) (phase_by phase verdict) (queue ++ sent_by s verdict) js

fe_still : (s : SessionState) (phase : Phase) (queue js : List Tele) → FeAt s phase queue js
    → FeAt s phase (queue ++ []) (js ++ [])
fe_still s phase queue js at =
    subst (λ x. FeAt s phase x (js ++ [])) (sym (append-nil queue))
    (subst (λ x. FeAt s phase queue x) (sym (append-nil js)) at)

fe_up : (s : SessionState) (queue js : List Tele) (phase : Phase) → FeAt (base s) phase queue js
    → FeThen s queue (js ++ []) phase (field_up phase)
fe_up s queue js Idle at = (append-nil queue ∙ at.0, append-nil js ∙ at.1)
fe_up s queue js Checking at = absurd at
fe_up s queue js Requesting at = absurd at
fe_up s queue js AwaitCheck at = fe_still (base s) AwaitCheck queue js at
fe_up s queue js AwaitRequest at = fe_still (base s) AwaitRequest queue js at
fe_up s queue js Refused at = fe_still (base s) Refused queue js at
fe_up s queue js Initialising at = fe_still (base s) Initialising queue js at
fe_up s queue js Established at = fe_still (base s) Established queue js at
fe_up s queue js Ended at = fe_still (base s) Ended queue js at

fe_equal : (s : SessionState) (queue js : List Tele) (t : Tele) (version : ℕ) → is_addressed s.addressing t ≡ true
    → form_of t.kind t.payload ≡ Notifies (notice.VersionCheck version) → FeAt s AwaitCheck queue js
    → FeAt s AwaitRequest (queue ++ equal_from version s ∷ []) (js ++ t ∷ [])
fe_equal s queue js t version from says at = (
  record {
    version = version;
    is = ap (λ xs. xs ++ equal_from version s ∷ []) at.0;
    heard = record { first = t; others = []; is = ap (λ xs. xs ++ t ∷ []) at.1; says = says; from = from };
  },
  ap (λ xs. length (xs ++ t ∷ [])) at.1,
)

fe_differs : (s : SessionState) (queue js : List Tele) (t : Tele) (version other : ℕ)
    → is_addressed s.addressing t ≡ true → form_of t.kind t.payload ≡ Notifies (notice.VersionCheck version)
    → FeAt s AwaitCheck queue js
    → FeAt s Refused (queue ++ differs_from other s ∷ []) (js ++ t ∷ [])
fe_differs s queue js t version other from says at = (
  record {
    asked = version;
    version = other;
    is = ap (λ xs. xs ++ differs_from other s ∷ []) at.0;
    heard = record { first = t; others = []; is = ap (λ xs. xs ++ t ∷ []) at.1; says = says; from = from };
  },
  ap (λ xs. length (xs ++ t ∷ [])) at.1,
)

fe_asked : (s : SessionState) (queue js : List Tele) (t : Tele) → FeAt s AwaitRequest queue js
    → FeInitialising s (queue ++ start_from s ∷ []) (js ++ t ∷ [])
fe_asked s queue js t at =
    record {
      starts = record {
        version = at.0.version;
        status = [];
        is = ap (λ xs. xs ++ start_from s ∷ []) at.0.is;
        each = tt;
        most = omega arith;
        heard = heard_more at.0.version s js (t ∷ []) at.0.heard;
      };
      unfinished = refl;
      two = omega (arith, at.1, length-append js (t ∷ []));
    }

fe_command : (s : SessionState) (queue js : List Tele) (t : Tele) → FeAt s Established queue js
    → FeEstablished s (queue ++ []) (js ++ t ∷ [])
fe_command s queue js t at = record {
  starts = starts_more s queue js (t ∷ []) at.starts;
  some = omega (arith, at.some, length-append js (t ∷ []));
}

fe_by_row : (versions : List ℕ) (s : SessionState) (queue js : List Tele) (t : Tele) (verdict : Verdict)
    → is_addressed s.addressing t ≡ true → FieldRow versions s.phase (form_of t.kind t.payload) verdict
    → FeAt (base s) s.phase queue js → FeThen s queue (js ++ t ∷ []) s.phase verdict
fe_by_row versions s queue js t verdict from (FeOver why e) at =
    subst (FeThen s queue (js ++ t ∷ []) s.phase) (sym e)
    (fe_past_more (base s) queue js (t ∷ []) (fe_past (base s) s.phase queue js at))
fe_by_row versions s queue js t verdict from (FeEqual version p f e) at =
    subst (FeThen s queue (js ++ t ∷ []) s.phase) (sym e)
    (fe_equal (base s) queue js t version from f (subst (λ x. FeAt (base s) x queue js) p at))
fe_by_row versions s queue js t verdict from (FeDiffers version p f e) at =
    subst (FeThen s queue (js ++ t ∷ []) s.phase) (sym e)
    (fe_differs (base s) queue js t version (first_version versions) from f
    (subst (λ x. FeAt (base s) x queue js) p at))
fe_by_row versions s queue js t verdict from (FeAsked p f e) at =
    subst (FeThen s queue (js ++ t ∷ []) s.phase) (sym e)
    (fe_asked (base s) queue js t (subst (λ x. FeAt (base s) x queue js) p at))
fe_by_row versions s queue js t verdict from (FeCommand p f e) at =
    subst (FeThen s queue (js ++ t ∷ []) s.phase) (sym e)
    (subst (λ x. FeAt (base s) x (queue ++ []) (js ++ t ∷ [])) (sym p)
    (fe_command (base s) queue js t (subst (λ x. FeAt (base s) x queue js) p at)))

-- the decision of a field element on a telegram for it
pub fe_row : (versions checksum : List ℕ) (s : SessionState) (t : Tele) → s.role ≡ Field versions checksum
    → FieldRow versions s.phase (form_of t.kind t.payload) (table s.role s.phase (form_of t.kind t.payload))
fe_row versions checksum s t role =
    subst (λ r. FieldRow versions s.phase (form_of t.kind t.payload) (table r s.phase (form_of t.kind t.payload)))
    (sym role) (field_row versions s.phase (form_of t.kind t.payload))

-- the phases in which it may put
pub fe_may_put : (versions checksum : List ℕ) (phase : Phase) → may_put (Field versions checksum) phase ≡ true
    → (phase ≡ Initialising) ⊎ (phase ≡ Established)
fe_may_put versions checksum Idle may = absurd (false≢true may)
fe_may_put versions checksum Checking may = absurd (false≢true may)
fe_may_put versions checksum Requesting may = absurd (false≢true may)
fe_may_put versions checksum AwaitCheck may = absurd (false≢true may)
fe_may_put versions checksum AwaitRequest may = absurd (false≢true may)
fe_may_put versions checksum Refused may = absurd (false≢true may)
fe_may_put versions checksum Initialising may = inl refl
fe_may_put versions checksum Established may = inr refl
fe_may_put versions checksum Ended may = absurd (false≢true may)

pub fe_init : (versions checksum : List ℕ) (phase : Phase) → is_initialising (Field versions checksum) phase ≡ true
    → phase ≡ Initialising
fe_init versions checksum Idle is = absurd (false≢true is)
fe_init versions checksum Checking is = absurd (false≢true is)
fe_init versions checksum Requesting is = absurd (false≢true is)
fe_init versions checksum AwaitCheck is = absurd (false≢true is)
fe_init versions checksum AwaitRequest is = absurd (false≢true is)
fe_init versions checksum Refused is = absurd (false≢true is)
fe_init versions checksum Initialising is = refl
fe_init versions checksum Established is = absurd (false≢true is)
fe_init versions checksum Ended is = absurd (false≢true is)

-- one more status
starts_put : (s : SessionState) (queue js : List Tele) (kind : ℕ) (payload : List ℕ) → is_reserved kind ≡ false
    → Starts s queue js → Starts s (queue ++ telegram s.addressing kind payload ∷ []) (js ++ [])
starts_put s queue js kind payload free r =
    let t : Tele = telegram s.addressing kind payload in
    record {
      version = r.version;
      status = r.status ++ t ∷ [];
      is = ap (λ xs. xs ++ t ∷ []) r.is;
      each = All-append (IsStatus s) r.status (t ∷ []) r.each (inl (free, refl), tt);
      most = omega (arith, r.most, completions-append r.status (t ∷ []), item_uncounted t free);
      heard = heard_more r.version s js [] r.heard;
    }

fe_puts : (s : SessionState) (queue js : List Tele) (kind : ℕ) (payload : List ℕ) → is_reserved kind ≡ false
    → (phase : Phase) → (phase ≡ Initialising) ⊎ (phase ≡ Established) → FeAt s phase queue js
    → FeAt s phase (queue ++ telegram s.addressing kind payload ∷ []) (js ++ [])
unfolding starts_put
fe_puts s queue js kind payload free phase (inl now) at =
    subst (λ p. FeAt s p (queue ++ telegram s.addressing kind payload ∷ []) (js ++ [])) (sym now)
    (let init : FeInitialising s queue js = subst (λ p. FeAt s p queue js) now at in
    record {
      starts = starts_put s queue js kind payload free init.starts;
      unfinished = completions-append init.starts.status (telegram s.addressing kind payload ∷ [])
          ∙ omega (arith, init.unfinished, item_uncounted (telegram s.addressing kind payload) free);
      two = ap length (append-nil js) ∙ init.two;
    })
fe_puts s queue js kind payload free phase (inr now) at =
    subst (λ p. FeAt s p (queue ++ telegram s.addressing kind payload ∷ []) (js ++ [])) (sym now)
    (let est : FeEstablished s queue js = subst (λ p. FeAt s p queue js) now at in
    record {
      starts = starts_put s queue js kind payload free est.starts;
      some = omega (arith, est.some, length-append js []);
    })

fe_done : (s : SessionState) (queue js : List Tele) → FeInitialising s queue js
    → FeEstablished s (queue ++ notice_tele s notice.InitialisationCompleted ∷ []) (js ++ [])
fe_done s queue js at =
    let t : Tele = notice_tele s notice.InitialisationCompleted in
    record {
      starts = record {
        version = at.starts.version;
        status = at.starts.status ++ t ∷ [];
        is = ap (λ xs. xs ++ t ∷ []) at.starts.is;
        each = All-append (IsStatus s) at.starts.status (t ∷ []) at.starts.each (inr refl, tt);
        most = omega (arith, at.unfinished, completions-append at.starts.status (t ∷ []));
        heard = heard_more at.starts.version s js [] at.starts.heard;
      };
      some = omega (arith, at.two, length-append js []);
    }

init_open : (a b : Bool) → is_none (cond (not a) (Some fault.NotInitialising) (cond b (Some fault.Full) None)) ≡ true
    → a ≡ true
init_open true b none = refl
init_open false b none = absurd (true≢false (sym none))

pub fe_step : (versions checksum : List ℕ) (e : Event) (s : SessionState) (queue js : List Tele)
    → s.role ≡ Field versions checksum → FeAt (base s) s.phase queue js
    → FeAt (base s) (phase_after e s) (queue ++ added_by e s) (js ++ handed_by e)
fe_step versions checksum Up s queue js role at =
    subst (λ r. FeThen s queue (js ++ []) s.phase (at_up r s.phase)) (sym role) (fe_up s queue js s.phase at)
fe_step versions checksum (Arrives t) s queue js role at =
    by_cond (FeThen s queue (js ++ t ∷ []) s.phase) (is_addressed s.addressing t) _ _
    (λ from. fe_by_row versions s queue js t _ from (fe_row versions checksum s t role) at)
    (λ _. fe_past_more (base s) queue js (t ∷ []) (fe_past (base s) s.phase queue js at))
fe_step versions checksum (Puts kind payload waits) s queue js role at =
    by_cond (λ x. FeAt (base s) s.phase (queue ++ x) (js ++ [])) (is_none (put_refusal s kind payload waits)) _ _
    (λ none. let may = put_open s kind payload waits none in
    fe_puts (base s) queue js kind payload may.1 s.phase
    (fe_may_put versions checksum s.phase (ap (λ r. may_put r s.phase) (sym role) ∙ may.0)) at)
    (λ _. fe_still (base s) s.phase queue js at)
fe_step versions checksum (InitDone waits) s queue js role at =
    by_bool (λ b. FeAt (base s) (cond b (phase_by s.phase at_init_done) s.phase)
    (queue ++ cond b (sent_by s at_init_done) []) (js ++ [])) (is_none (init_refusal s waits))
    (λ none.
    let is : is_initialising s.role s.phase ≡ true = init_open (is_initialising s.role s.phase)
    (nat_le WAITING_MAX waits) none in
    let now : s.phase ≡ Initialising = fe_init versions checksum s.phase (ap (λ r. is_initialising r s.phase) (sym role)
    ∙ is) in
    fe_done (base s) queue js (subst (λ p. FeAt (base s) p queue js) now at))
    (λ _. fe_still (base s) s.phase queue js at)
fe_step versions checksum Closes s queue js role at =
    fe_past_more (base s) queue js [] (fe_past (base s) s.phase queue js at)
