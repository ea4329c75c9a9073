-- Two sessions with matching settings: no telegram ends either, except one that arrives before the connection is up.
use Rattle.std.proofs.Common.{◌≡◌, ◌⊎◌, ℕ, ◌==◌, true, List, [], ◌∷◌, ◌++◌, length, Option, Some, None, refl, sym, ap, subst, ◌∙◌, arith, ⊎_elim, inl, inr}
use Rattle.std.specs.Prelude.{is_none}
use Rattle.std.specs.List.{list_any}
use Rattle.std.proofs.lemmas.Bool.{false≢true, true≢false}
use Rattle.octets.specs.Lists.{IsBeginning}
use Rattle.pdi_session.specs.telegram.Tele.{Tele}
use Rattle.pdi_session.specs.declared.Phase.{Phase}
use Rattle.pdi_session.specs.declared.Phase.TheVariants.{Idle, Checking, Requesting, AwaitCheck, AwaitRequest, Refused, Initialising, Established, Ended}
use Rattle.pdi_session.specs.declared.Notice.TheVariants as notice
use Rattle.pdi_session.specs.declared.Form.TheVariants.{Notifies}
use Rattle.pdi_session.specs.declared.Verdict.TheVariants.{Answers}
use Rattle.pdi_session.specs.Settings.{Field}
use Rattle.pdi_session.specs.Telegrams.{form_of, is_addressed}
use Rattle.pdi_session.specs.Tables.{at_up, is_early}
use Rattle.pdi_session.specs.SessionStep.{Event, Up, Arrives, Puts, InitDone, Closes, added_by, end_of, judge_telegram, sent_by}
use Rattle.pdi_session.specs.Histories.{History, add_event}
use Rattle.pdi_session.specs.JoinedSessions.{AtFe, AtIl, InTurn, IsNext, SessionPair, PairEvent, MatchingLaw, apply_events, apply_event, new_sessions}
use Rattle.pdi_session.proofs.one.Shapes.{FeAt, base, check_from, differs_from, il_past}
use Rattle.pdi_session.proofs.two.PhaseLemma.{Crossed, Joint, decides, first_same, to_field}
use Rattle.pdi_session.proofs.two.PhaseFails.{Fails, fe_fails}
use Rattle.pdi_session.proofs.two.JointSteps.{Both, Quiet, both_joined, ended_by, fe_event, il_event, not_both, quiet_adds, quiet_field}

-- facts that two sessions with matching settings keep
record Fit (version : ℕ) (versions : List ℕ) (x y : History) : Type 0 where
  crossed : Crossed x.state.addressing y.state.addressing
  version_is : list_any (λ v. v == version) versions ≡ true
  equal : (v : ℕ) → y.queue ≡ differs_from v (base y.state) ∷ [] → ⊥
  idle : (phase : Phase) → y.ended_in ≡ Some phase → phase ≡ Idle

-- the reply to the check has its version
answers : (version : ℕ) (versions checksum : List ℕ) (x y : History) (t : Tele) → Both version versions checksum x y
    → Fit version versions x y → y.state.phase ≡ AwaitCheck → y.judged ≡ []
    → IsBeginning (y.judged ++ t ∷ []) x.queue
    → judge_telegram y.state t ≡ Answers AwaitRequest (notice.VersionEqual version)
answers version versions checksum x y t b f phase none begins =
    let j : Joint version versions checksum x y = b.joint in
    let line : t ∷ begins.0 ≡ x.queue = ap (λ l. (l ++ t ∷ []) ++ begins.0) (sym none) ∙ begins.1 in
    let is : t ≡ check_from version (base x.state) =
    ⊎_elim (λ nothing. absurd (let l = ap length (line ∙ nothing) in omega (arith, l)))
    (λ some. ⊎_elim (λ one. first_same t (check_from version (base x.state)) begins.0 [] (line ∙ one))
    (λ asked. first_same t (check_from version (base x.state)) begins.0 _ (line ∙ asked.is)) some)
    (il_past version (base x.state) x.state.phase x.queue x.judged j.il_at)
    in
    let from : is_addressed y.state.addressing t ≡ true =
    ap (is_addressed y.state.addressing) is ∙ to_field x.state.addressing y.state.addressing
    (check_from version (base x.state)).kind (check_from version (base x.state)).payload f.crossed
    in
    let says : form_of t.kind t.payload ≡ Notifies (notice.VersionCheck version) = ap (λ u. form_of u.kind u.payload) is
    in
    decides y.state t (Field versions checksum) AwaitCheck (Notifies (notice.VersionCheck version)) j.fe_role phase from
    says ∙ rw f.version_is refl

idle_quiet : (versions checksum : List ℕ) → Quiet (Field versions checksum) Idle
idle_quiet versions checksum = record { up = (AwaitCheck, refl); judges = λ form. refl; puts = refl; done = refl }

-- a telegram added to an empty queue is not a refusal
no_refusal : (version : ℕ) (versions checksum : List ℕ) (e : Event) (x y : History) → IsNext e y x
    → Both version versions checksum x y → Fit version versions x y → (phase : Phase) → y.state.phase ≡ phase
    → FeAt (base y.state) phase y.queue y.judged → y.queue ≡ [] → (v : ℕ)
    → added_by e y.state ≡ differs_from v (base y.state) ∷ [] → ⊥
no_refusal version versions checksum e x y next b f Idle p at none v added =
    let quiet : added_by e y.state ≡ [] = quiet_adds e y.state
    (subst (λ q. Quiet y.state.role q) (sym p)
    (subst (λ r. Quiet r Idle) (sym b.joint.fe_role) (idle_quiet versions checksum))) in
    let l = ap length (sym quiet ∙ added) in omega (arith, l)
no_refusal version versions checksum e x y next b f Checking p at none v added = at
no_refusal version versions checksum e x y next b f Requesting p at none v added = at
no_refusal version versions checksum Up x y next b f AwaitCheck p at none v added =
    let quiet : sent_by y.state (at_up y.state.role y.state.phase) ≡ [] = rw (b.joint.fe_role, p) refl in
    let l = ap length (sym quiet ∙ added) in omega (arith, l)
no_refusal version versions checksum (Arrives t) x y next b f AwaitCheck p at none v added =
    let is = answers version versions checksum x y t b f p at.1 next.1 in
    not_both version v (base y.state) checksum [] (sym (ap (sent_by y.state) is) ∙ added)
no_refusal version versions checksum (Puts kind payload waits) x y next b f AwaitCheck p at none v added =
    let quiet : added_by (Puts kind payload waits) y.state ≡ [] = rw (b.joint.fe_role, p) refl in
    let l = ap length (sym quiet ∙ added) in omega (arith, l)
no_refusal version versions checksum (InitDone waits) x y next b f AwaitCheck p at none v added =
    let quiet : added_by (InitDone waits) y.state ≡ [] = rw (b.joint.fe_role, p) refl in
    let l = ap length (sym quiet ∙ added) in omega (arith, l)
no_refusal version versions checksum Closes x y next b f AwaitCheck p at none v added = let l =
    ap length added in omega (arith, l)
no_refusal version versions checksum e x y next b f AwaitRequest p at none v added = let l =
    ap length (sym at.0.is ∙ none) in omega (arith, l)
no_refusal version versions checksum e x y next b f Refused p at none v added = let l =
    ap length (sym at.0.is ∙ none) in omega (arith, l)
no_refusal version versions checksum e x y next b f Initialising p at none v added = let l =
    ap length (sym at.starts.is ∙ none) in omega (arith, l)
no_refusal version versions checksum e x y next b f Established p at none v added = let l =
    ap length (sym at.starts.is ∙ none) in omega (arith, l)
no_refusal version versions checksum e x y next b f Ended p at none v added =
    let quiet = quiet_field versions checksum e y.state b.joint.fe_role (inr p) in
    let l = ap length (sym quiet ∙ added) in omega (arith, l)

-- a queue that is one refusal was that, or was empty
one_of : (queue added : List Tele) (d : Tele) → queue ++ added ≡ d ∷ []
    → (queue ≡ d ∷ []) ⊎ ((queue ≡ []) × (added ≡ d ∷ []))
one_of [] added d e = inr (refl, e)
one_of (q ∷ []) added d e = let same : q ≡ d = cc in inl (ap (λ z. z ∷ []) same)
one_of (q ∷ r ∷ queue) added d e = absurd (let l = ap length e in omega (arith, l))

-- it fails only while Idle
fails_idle : (version : ℕ) (versions checksum : List ℕ) (x y : History) (t : Tele) → Both version versions checksum x y
    → Fit version versions x y → IsNext (Arrives t) y x → (phase : Phase) → y.state.phase ≡ phase
    → FeAt (base y.state) phase y.queue y.judged → (is_early phase ≡ true) × (y.queue ≡ []) → Fails y t → phase ≡ Idle
fails_idle version versions checksum x y t b f next Idle p at early fails = refl
fails_idle version versions checksum x y t b f next Checking p at early fails = absurd at
fails_idle version versions checksum x y t b f next Requesting p at early fails = absurd at
fails_idle version versions checksum x y t b f next AwaitCheck p at early fails =
    absurd (true≢false (sym (ap (λ v. is_none (end_of v)) (answers version versions checksum x y t b f p at.1 next.1))
    ∙ fails))
fails_idle version versions checksum x y t b f next AwaitRequest p at early fails =
    absurd (let l = ap length (sym at.0.is ∙ early.1) in omega (arith, l))
fails_idle version versions checksum x y t b f next Refused p at early fails =
    absurd (let l = ap length (sym at.0.is ∙ early.1) in omega (arith, l))
fails_idle version versions checksum x y t b f next Initialising p at early fails = absurd (false≢true early.0)
fails_idle version versions checksum x y t b f next Established p at early fails = absurd (false≢true early.0)
fails_idle version versions checksum x y t b f next Ended p at early fails = absurd (false≢true early.0)

fit_il : (version : ℕ) (versions : List ℕ) (e : Event) (x y : History) → Fit version versions x y
    → Fit version versions (add_event e x) y
fit_il version versions e x y f =
    record { crossed = f.crossed; version_is = f.version_is; equal = f.equal; idle = f.idle }

fit_fe : (version : ℕ) (versions checksum : List ℕ) (e : Event) (x y : History) → IsNext e y x
    → Both version versions checksum x y → Fit version versions x y → Fit version versions x (add_event e y)
fit_fe version versions checksum e x y next b f =
    let j : Joint version versions checksum x y = b.joint in
    record {
      crossed = f.crossed;
      version_is = f.version_is;
      equal = λ v is.
          ⊎_elim (λ old. f.equal v old) (λ new. no_refusal version versions checksum e x y next b f y.state.phase refl
          j.fe_at new.0 v new.1)
          (one_of y.queue (added_by e y.state) (differs_from v (base y.state)) is);
      idle = ended_by (λ phase. phase ≡ Idle) e y
          (λ t same fails.
          let n : IsNext (Arrives t) y x = subst (λ g. IsNext g y x) same next in
          fails_idle version versions checksum x y t b f n y.state.phase refl j.fe_at
          (fe_fails version versions checksum x y t n.1.0 j y.state.phase refl j.fe_at
          (il_past version (base x.state) x.state.phase x.queue x.judged j.il_at) n.1.1 n.0 fails) fails)
          f.idle;
    }

record Well (version : ℕ) (versions checksum : List ℕ) (x y : History) : Type 0 where
  both : Both version versions checksum x y
  fit : Fit version versions x y

well_along : (version : ℕ) (versions checksum : List ℕ) (es : List PairEvent) (j : SessionPair) → InTurn es j
    → Well version versions checksum j.il j.fe
    → Well version versions checksum (apply_events es j).il (apply_events es j).fe
well_along version versions checksum [] j turn w = w
well_along version versions checksum (AtIl e ∷ es) j turn w =
    well_along version versions checksum es (apply_event (AtIl e) j) turn.1
    (record {
      both = il_event version versions checksum e j.il j.fe turn.0 w.both;
      fit = fit_il version versions e j.il j.fe w.fit;
    })
well_along version versions checksum (AtFe e ∷ es) j turn w =
    well_along version versions checksum es (apply_event (AtFe e) j) turn.1
    (record {
      both = fe_event version versions checksum e j.il j.fe turn.0 w.both;
      fit = fit_fe version versions checksum e j.il j.fe turn.0 w.both w.fit;
    })

nothing_some : (phase : Phase) → ◌≡◌ {A = Option Phase} None (Some phase) → ⊥
nothing_some phase e = cc

pub matching_law : MatchingLaw
matching_law il fe version versions checksum short fits es turn =
    let b = new_sessions il version fe versions checksum in
    let w : Well version versions checksum (apply_events es b).il (apply_events es b).fe =
    well_along version versions checksum es b turn
    (record {
      both = both_joined il fe version versions checksum short;
      fit = record {
        crossed = record { protocol = fits.protocol; own = fits.own; peer = fits.peer };
        version_is = fits.taken;
        equal = λ v is. let l = ap length is in omega (arith, l);
        idle = λ phase is. absurd (nothing_some phase is);
      };
    }) in
    (none_of (apply_events es b).il.ended_in refl w, w.fit.idle)
  where
    none_of : {x y : History} (o : Option Phase) → x.ended_in ≡ o → Well version versions checksum x y → o ≡ None
    none_of None is w = refl
    none_of (Some phase) is w = let failed = w.both.il_ended phase is in absurd (w.fit.equal failed.1.0 failed.1.1)
