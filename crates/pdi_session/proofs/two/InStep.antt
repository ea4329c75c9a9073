-- Two sessions that run and have judged all of each other's queue are in step.
use Rattle.std.proofs.Common.{◌≡◌, ◌≢◌, ◌⊎◌, ℕ, ◌≤◌, true, false, cond, List, [], ◌∷◌, ◌++◌, length, refl, sym, ap, subst, ◌∙◌, arith, ⊎_elim, inl, inr}
use Rattle.std.specs.Prelude.{is_none}
use Rattle.std.proofs.lemmas.Bool.{false≢true, true≢false}
use Rattle.pdi_session.specs.declared.Phase.{Phase}
use Rattle.pdi_session.specs.declared.Phase.TheVariants.{Idle, Checking, Requesting, AwaitCheck, AwaitRequest, Refused, Initialising, Established, Ended}
use Rattle.pdi_session.specs.declared.Verdict.{Verdict}
use Rattle.pdi_session.specs.declared.Form.{Form}
use Rattle.pdi_session.specs.Settings.{Field}
use Rattle.pdi_session.specs.Telegrams.{form_of, is_addressed}
use Rattle.pdi_session.specs.Tables.{at_up, field_up, table}
use Rattle.pdi_session.specs.SessionStep.{Event, Up, Arrives, Puts, InitDone, Closes, SessionState, added_by, at_init_done, init_refusal, phase_after, phase_by, sent_by}
use Rattle.pdi_session.specs.Histories.{History, add_event, is_ended}
use Rattle.pdi_session.specs.Laws.{completions, is_established, was_established}
use Rattle.pdi_session.specs.JoinedSessions.{AtFe, AtIl, InStepLaw, SessionPair, PairEvent, apply_events, apply_event, new_sessions}
use Rattle.pdi_session.proofs.one.TableLemmas.{by_cond}
use Rattle.pdi_session.proofs.one.Rows.{FieldRow, FeOver, FeEqual, FeDiffers, FeAsked, FeCommand, field_row}
use Rattle.pdi_session.proofs.one.Shapes.{FeAt, IlAt, base, completions-append}
use Rattle.pdi_session.proofs.one.Queues.{established_is, was-last}
use Rattle.pdi_session.proofs.one.IlSteps.{by_bool}
use Rattle.pdi_session.proofs.two.JointSteps.{Both, both_after}

-- the way of a field element to Established
comes_row : (versions : List ℕ) (phase : Phase) (form : Form) (v : Verdict) → FieldRow versions phase form v
    → phase_by phase v ≡ Established → phase ≡ Established
comes_row versions phase form v (FeOver why e) is = let x : Ended ≡ Established = sym (ap (phase_by phase) e) ∙ is in cc
comes_row versions phase form v (FeEqual version p f e) is = let x : AwaitRequest ≡ Established =
    sym (ap (phase_by phase) e) ∙ is in cc
comes_row versions phase form v (FeDiffers version p f e) is = let x : Refused ≡ Established =
    sym (ap (phase_by phase) e) ∙ is in cc
comes_row versions phase form v (FeAsked p f e) is = let x : Initialising ≡ Established =
    sym (ap (phase_by phase) e) ∙ is in cc
comes_row versions phase form v (FeCommand p f e) is = p

comes_up : (phase : Phase) → phase_by phase (field_up phase) ≡ Established → phase ≡ Established
comes_up Idle is = cc
comes_up Checking is = cc
comes_up Requesting is = cc
comes_up AwaitCheck is = cc
comes_up AwaitRequest is = cc
comes_up Refused is = cc
comes_up Initialising is = cc
comes_up Established is = refl
comes_up Ended is = cc

comes : (versions checksum : List ℕ) (e : Event) (s : SessionState) → s.role ≡ Field versions checksum
    → phase_after e s ≡ Established → (s.phase ≡ Established) ⊎ (1 ≤ completions (added_by e s))
comes versions checksum Up s role is =
    inl (comes_up s.phase (ap (λ r. phase_by s.phase (at_up r s.phase)) (sym role) ∙ is))
comes versions checksum (Arrives t) s role is =
    inl (by_cond (λ v. phase_by s.phase v ≡ Established → s.phase ≡ Established) (is_addressed s.addressing t) _ _
    (λ _ k. comes_row versions s.phase (form_of t.kind t.payload) _
    (field_row versions s.phase (form_of t.kind t.payload))
    (ap (λ r. phase_by s.phase (table r s.phase (form_of t.kind t.payload))) (sym role) ∙ k))
    (λ _ k. let x : Ended ≡ Established = k in cc) is)
comes versions checksum (Puts kind payload waits) s role is = inl is
comes versions checksum (InitDone waits) s role is =
    by_bool (λ b. cond b (phase_by s.phase at_init_done) s.phase ≡ Established
    → (s.phase ≡ Established) ⊎ (1 ≤ completions (cond b (sent_by s at_init_done) [])))
    (is_none (init_refusal s waits))
    (λ _ _. inr (omega arith)) (λ _ k. inl k) is
comes versions checksum Closes s role is = cc

was-split : (xs : List Phase) (p : Phase) → was_established (xs ++ p ∷ []) ≡ true
    → (was_established xs ≡ true) ⊎ (p ≡ Established)
was-split [] p h =
    inr (established_is p (by_bool (λ b. cond b true false ≡ true → b ≡ true) (is_established p) (λ _ _. refl)
    (λ _ no. absurd (false≢true no)) h))
was-split (x ∷ xs) p h =
    by_bool (λ b. cond b true (was_established (xs ++ p ∷ [])) ≡ true
    → (cond b true (was_established xs) ≡ true) ⊎ (p ≡ Established)) (is_established x) (λ _ _. inl refl)
    (λ _ k. was-split xs p k) h

-- a field element that was Established has sent the end of the initialisation
record Said (y : History) : Type 0 where
  now : is_established y.state.phase ≡ true → was_established y.phases ≡ true
  some : was_established y.phases ≡ true → 1 ≤ completions y.queue

said_grows : (versions checksum : List ℕ) (e : Event) (y : History) → y.state.role ≡ Field versions checksum → Said y
    → Said (add_event e y)
said_grows versions checksum e y role h =
    let added = added_by e y.state in
    let old : was_established y.phases ≡ true
    → 1 ≤ completions (y.queue ++ added) = λ was. let s = h.some was in let a =
    completions-append y.queue added in omega (arith, s, a) in
    record {
      now = λ is. subst (λ p. was_established (y.phases ++ p ∷ []) ≡ true)
          (sym (established_is (phase_after e y.state) is)) (was-last y.phases);
      some = λ was.
          ⊎_elim old
          (λ is. ⊎_elim (λ before. old (h.now (ap is_established before)))
          (λ more. let a = completions-append y.queue added in omega (arith, more, a))
          (comes versions checksum e y.state role is))
          (was-split y.phases (phase_after e y.state) was);
    }

said_along : (versions checksum : List ℕ) (es : List PairEvent) (j : SessionPair)
    → j.fe.state.role ≡ Field versions checksum → Said j.fe → Said (apply_events es j).fe
said_along versions checksum [] j role h = h
said_along versions checksum (AtIl e ∷ es) j role h = said_along versions checksum es (apply_event (AtIl e) j) role h
said_along versions checksum (AtFe e ∷ es) j role h =
    said_along versions checksum es (apply_event (AtFe e) j) role (said_grows versions checksum e j.fe role h)

-- the phases of both, by the numbers of telegrams sent and judged
module _ (version : ℕ) (x y : History) (said : Said y) (il-all : x.judged ≡ y.queue) (fe-all : y.judged ≡ x.queue) where
  len-il : length x.judged ≡ length y.queue
  len-il = ap length il-all

  len-fe : length y.judged ≡ length x.queue
  len-fe = ap length fe-all

  unsaid : completions y.queue ≡ 0 → was_established y.phases ≡ false
  unsaid none = by_bool (λ b. was_established y.phases ≡ b → b ≡ false) (was_established y.phases)
      (λ _ is. absurd (let s = said.some is in omega (arith, s, none))) (λ _ _. refl) refl

  abbrev Wanted : Phase → Phase → Type 0
  Wanted p q =
      ((was_established y.phases ≡ false) × (p ≡ Initialising) × (q ≡ Initialising)) ⊎
      ((was_established y.phases ≡ true) × (p ≡ Established) × (q ≡ Established))

  long : (r : FeAt (base y.state) Initialising y.queue y.judged) → 2 ≤ length y.queue
  long r = let l = ap length r.starts.is in omega (arith, l)

  long-done : (r : FeAt (base y.state) Established y.queue y.judged) → 2 ≤ length y.queue
  long-done r = let l = ap length r.starts.is in omega (arith, l)

  -- the field element has sent nothing or one telegram
  few : (q : Phase) → FeAt (base y.state) q y.queue y.judged → q ≢ Idle → is_ended q ≡ false → length y.queue ≤ 1
      → 2 ≤ length x.queue ⊎ (length y.queue ≡ 0 × 1 ≤ length x.queue) → ⊥
  few Idle at some on short l = some refl
  few Checking at some on short l = at
  few Requesting at some on short l = at
  few AwaitCheck at some on short l =
      let a = ap length at.1 in
      ⊎_elim (λ two. omega (arith, a, two, len-fe)) (λ one. let o = one.1 in omega (arith, a, o, len-fe)) l
  few AwaitRequest at some on short l =
      let a = at.1 in let b = ap length at.0.is in
      ⊎_elim (λ two. omega (arith, a, two, len-fe)) (λ one. let o = one.0 in omega (arith, b, o)) l
  few Refused at some on short l =
      let a = at.1 in let b = ap length at.0.is in
      ⊎_elim (λ two. omega (arith, a, two, len-fe)) (λ one. let o = one.0 in omega (arith, b, o)) l
  few Initialising at some on short l = let two = long at in omega (arith, two, short)
  few Established at some on short l = let two = long-done at in omega (arith, two, short)
  few Ended at some on short l = absurd (true≢false on)

  many : (q : Phase) → FeAt (base y.state) q y.queue y.judged → y.state.phase ≡ q → q ≢ Idle → is_ended q ≡ false
      → 2 ≤ length y.queue
      → ((completions y.queue ≡ 0) × (q ≡ Initialising)) ⊎ ((1 ≤ completions y.queue)
      × (was_established y.phases ≡ true) × (q ≡ Established))
  many Idle at is some on two = absurd (some refl)
  many Checking at is some on two = absurd at
  many Requesting at is some on two = absurd at
  many AwaitCheck at is some on two = absurd (let a = ap length at.0 in omega (arith, a, two))
  many AwaitRequest at is some on two = absurd (let b = ap length at.0.is in omega (arith, b, two))
  many Refused at is some on two = absurd (let b = ap length at.0.is in omega (arith, b, two))
  many Initialising at is some on two = inl (ap completions at.starts.is ∙ at.unfinished, refl)
  many Established at is some on two = let was = said.now (ap is_established is) in inr (said.some was, was, refl)
  many Ended at is some on two = absurd (true≢false on)

  by_phase : (p q : Phase) → IlAt version (base x.state) p x.queue x.judged → FeAt (base y.state) q y.queue y.judged
      → y.state.phase ≡ q → p ≢ Idle → is_ended p ≡ false → q ≢ Idle → is_ended q ≡ false → Wanted p q
  by_phase Idle q at be is some on more still = absurd (some refl)
  by_phase Checking q at be is some on more still =
      let a = ap length at.0 in let b = ap length at.1 in
      absurd (few q be more still (omega (arith, b, len-il)) (inr (omega (arith, b, len-il), omega (arith, a))))
  by_phase Requesting q at be is some on more still =
      let a = ap length at.asked.is in let b = at.one in
      absurd (few q be more still (omega (arith, b, len-il)) (inl (omega (arith, a))))
  by_phase AwaitCheck q at be is some on more still = absurd at
  by_phase AwaitRequest q at be is some on more still = absurd at
  by_phase Refused q at be is some on more still = absurd at
  by_phase Initialising q at be is some on more still =
      let c = ap completions il-all in let u = at.unfinished in let b = at.some in
      ⊎_elim (λ init. inl (unsaid init.0, refl, init.1)) (λ done. absurd (let d = done.0 in omega (arith, c, u, d)))
      (many q be is more still (omega (arith, b, len-il)))
  by_phase Established q at be is some on more still =
      let c = ap completions il-all in let u = at.done in let b = at.some in
      ⊎_elim (λ init. absurd (let d = init.0 in omega (arith, c, u, d))) (λ done. inr (done.1, refl, done.2))
      (many q be is more still (omega (arith, b, len-il)))
  by_phase Ended q at be is some on more still = absurd (true≢false on)

pub in_step_law : InStepLaw
in_step_law il fe version versions checksum short es turn run_il run_fe il_all fe_all =
    let end : SessionPair = apply_events es (new_sessions il version fe versions checksum) in
    let b : Both version versions checksum end.il end.fe = both_after il fe version versions checksum short es turn in
    let said : Said end.fe = said_along versions checksum es (new_sessions il version fe versions checksum) refl
    (record { now = λ is. absurd (false≢true is); some = λ was. absurd (false≢true was) }) in
    by_phase version end.il end.fe said il_all fe_all end.il.state.phase end.fe.state.phase b.joint.il_at b.joint.fe_at
    refl run_il.begun run_il.unended run_fe.begun run_fe.unended
