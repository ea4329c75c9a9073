-- If a telegram ended one of two sessions in turn, each has judged all of the other's queue, so all of it was sent.
use Rattle.std.proofs.Common.{◌≡◌, ◌≢◌, ◌≤◌, ◌⊎◌, ℕ, List, [], ◌∷◌, ◌++◌, length, drop, Option, Some, None, refl, sym, ap, ◌∙◌, arith, subst, ⊎_elim}
use Rattle.std.proofs.lemmas.Bool.{true≢false}
use Rattle.std.proofs.lemmas.List.{length-append}
use Rattle.octets.specs.Lists.{IsBeginning}
use Rattle.pdi_session.specs.telegram.Tele.{Tele}
use Rattle.pdi_session.specs.declared.Phase.{Phase}
use Rattle.pdi_session.specs.Telegrams.{form_of}
use Rattle.pdi_session.specs.SessionStep.{Event, Arrives}
use Rattle.pdi_session.specs.Histories.{History, add_event, handed_by}
use Rattle.pdi_session.specs.declared.TheConstants.{CHECKSUM_MAX}
use Rattle.pdi_session.specs.Settings.{Addressing}
use Rattle.pdi_session.specs.JoinedSessions.{AtFe, AtIl, InTurn, PairEvent, SessionPair, apply_event, apply_events, new_sessions}
use Rattle.pdi_session.proofs.one.Shapes.{FePast, Heard, Told, base, check_from, differs_from, fe_past, il_past}
use Rattle.pdi_session.proofs.two.PhaseLemma.{first_same, is_equal, none_begins}
use Rattle.pdi_session.proofs.two.JointSteps.{Both, both_after, ended_by}

-- a session that a telegram ended has judged one
abbrev HasJudged : History → Type 0
HasJudged h = (phase : Phase) → h.ended_in ≡ Some phase → h.judged ≡ [] → ⊥

has_judged_more : (e : Event) (h : History) → HasJudged h → HasJudged (add_event e h)
has_judged_more e h old =
    ended_by (λ _. h.judged ++ handed_by e ≡ [] → ⊥) e h
    (λ t same fails none.
    let one : length (handed_by e) ≡ 1 = ap (λ f. length (handed_by f)) same in
    let all = ap length none in
    omega (arith, one, all, length-append h.judged (handed_by e)))
    (λ phase is none. old phase is (none_begins h.judged (handed_by e, none)))

has_judged_along : (es : List PairEvent) (j : SessionPair) → HasJudged j.il → HasJudged j.fe
    → HasJudged (apply_events es j).il × HasJudged (apply_events es j).fe
has_judged_along [] j il fe = (il, fe)
has_judged_along (AtIl e ∷ es) j il fe = has_judged_along es (apply_event (AtIl e) j) (has_judged_more e j.il il) fe
has_judged_along (AtFe e ∷ es) j il fe = has_judged_along es (apply_event (AtFe e) j) il (has_judged_more e j.fe fe)

-- a prefix of one telegram is that telegram, or nothing
one_begins : (ts : List Tele) (t : Tele) → IsBeginning ts (t ∷ []) → (ts ≡ [] → ⊥) → ts ≡ t ∷ []
one_begins [] t begins some = absurd (some refl)
one_begins (first ∷ ts) t begins some =
    ap (λ l. first ∷ l) (none_begins ts (begins.0, ap (drop 1) begins.1))
    ∙ ap (λ u. u ∷ []) (first_same first t (ts ++ begins.0) [] begins.1)

heard_something : (asked : ℕ) (y : History) → Heard asked (base y.state) y.judged → y.judged ≡ [] → ⊥
heard_something asked y heard none = let long = ap length (sym heard.is ∙ none) in omega (arith, long)

abbrev AllJudged : History → History → Type 0
AllJudged x y = (x.judged ≡ y.queue) × (y.judged ≡ x.queue)

module _ (version : ℕ) (versions checksum : List ℕ) (x y : History) (b : Both version versions checksum x y) where
  -- the field element has judged the version check, and nothing else was sent
  all_by_fe : (y.judged ≡ [] → ⊥) → (Told version x.judged → ⊥) → y.judged ≡ x.queue
  all_by_fe some untold =
      let is : x.queue ≡ check_from version (base x.state) ∷ [] =
      ⊎_elim (λ none. absurd (some (none_begins y.judged (subst (IsBeginning y.judged) none b.joint.fe_hears))))
      (λ more. ⊎_elim (λ one. one) (λ asked. absurd (untold asked.told)) more)
      (il_past version (base x.state) x.state.phase x.queue x.judged b.joint.il_at)
      in
      one_begins y.judged (check_from version (base x.state)) (subst (IsBeginning y.judged) is b.joint.fe_hears) some
      ∙ sym is

  -- a field element that ended has sent nothing
  pub by_fe : (phase : Phase) → y.ended_in ≡ Some phase → HasJudged y → AllJudged x y
  by_fe phase ended judged =
      let none : y.queue ≡ [] = (b.fe_ended phase ended).1 in
      let unheard : x.judged ≡ [] = none_begins x.judged (subst (IsBeginning x.judged) none b.joint.il_hears) in (
        unheard ∙ sym none,
        all_by_fe (judged phase ended) (λ told. let long = ap length (sym told.is ∙ unheard) in omega (arith, long)),
      )

  -- an interlocking that ended has judged the refusal of its version
  pub by_il : (phase : Phase) → x.ended_in ≡ Some phase → HasJudged x → AllJudged x y
  by_il phase ended judged =
      let failed = (b.il_ended phase ended).1 in
      let refusal : Tele = differs_from failed.0 (base y.state) in
      let all : x.judged ≡ refusal ∷ [] =
      one_begins x.judged refusal (subst (IsBeginning x.judged) failed.1 b.joint.il_hears) (judged phase ended) in (
        all ∙ sym failed.1,
        all_by_fe
            (heard failed.0 failed.1 (fe_past (base y.state) y.state.phase y.queue y.judged b.joint.fe_at))
            (λ told.
            let same : told.first ≡ refusal = first_same told.first refusal told.others [] (sym told.is ∙ all) in
            true≢false (sym (ap is_equal told.says) ∙ ap (λ u. is_equal (form_of u.kind u.payload)) same)),
      )
    where
      heard : (refused : ℕ) → y.queue ≡ differs_from refused (base y.state) ∷ []
          → FePast (base y.state) y.queue y.judged
          → y.judged ≡ [] → ⊥
      heard refused is past =
          ⊎_elim (λ none _. let long = ap length (sym none ∙ is) in omega (arith, long))
          (λ some. ⊎_elim (λ refuses. heard_something refuses.asked y refuses.heard)
          (λ more. ⊎_elim (λ accepts. heard_something accepts.version y accepts.heard)
          (λ starts. heard_something starts.version y starts.heard) more) some) past

some_of : (o : Option Phase) → o ≢ None → (phase : Phase) × (o ≡ Some phase)
some_of None some = absurd (some refl)
some_of (Some phase) some = (phase, refl)

no_phase : (phase : Phase) → ◌≡◌ {A = Option Phase} None (Some phase) → ⊥
no_phase phase e = cc

pub all_judged : (il fe : Addressing) (version : ℕ) (versions checksum : List ℕ) → length checksum ≤ CHECKSUM_MAX
    → (es : List PairEvent) → InTurn es (new_sessions il version fe versions checksum)
    → let end = apply_events es (new_sessions il version fe versions checksum) in
    (end.il.ended_in ≢ None) ⊎ (end.fe.ended_in ≢ None) → AllJudged end.il end.fe
all_judged il fe version versions checksum short es turn ended =
    let end : SessionPair = apply_events es (new_sessions il version fe versions checksum) in
    let b : Both version versions checksum end.il end.fe = both_after il fe version versions checksum short es turn in
    let judged = has_judged_along es (new_sessions il version fe versions checksum)
    (λ phase is. absurd (no_phase phase is)) (λ phase is. absurd (no_phase phase is)) in
    ⊎_elim (λ some.
    let s = some_of end.il.ended_in some in
    by_il version versions checksum end.il end.fe b s.0 s.1 judged.0)
    (λ some.
    let s = some_of end.fe.ended_in some in
    by_fe version versions checksum end.il end.fe b s.0 s.1 judged.1) ended
