-- If a telegram ends a session before Initialising, the session has put nothing.
use Rattle.std.proofs.Common.{◌≡◌, ℕ, true, false, List, [], ◌∷◌, ◌++◌, Option, Some, None, refl, sym, ap, ◌∙◌}
use Rattle.std.specs.Prelude.{is_none}
use Rattle.std.proofs.lemmas.Bool.{false≢true}
use Rattle.pdi_session.specs.declared.Phase.{Phase}
use Rattle.pdi_session.specs.declared.Phase.TheVariants.{Idle, Checking, Requesting, AwaitCheck, AwaitRequest, Refused, Initialising, Established, Ended}
use Rattle.pdi_session.specs.declared.Verdict.{Verdict}
use Rattle.pdi_session.specs.declared.Form.{Form}
use Rattle.pdi_session.specs.Settings.{Role, Interlocking, Field}
use Rattle.pdi_session.specs.Telegrams.{form_of, is_addressed}
use Rattle.pdi_session.specs.Tables.{at_up, is_early, may_put, table}
use Rattle.pdi_session.specs.SessionStep.{Event, Up, Arrives, Puts, InitDone, Closes, SessionState, Item, init_refusal, judge_telegram, phase_after, phase_by}
use Rattle.pdi_session.specs.Histories.{History, new_history, add_event, add_events, put_by}
use Rattle.pdi_session.specs.Laws.{OwnEarlyLaw}
use Rattle.pdi_session.proofs.one.TableLemmas.{by_cond}
use Rattle.pdi_session.proofs.one.Rows.{InterlockingRow, IlOver, IlEqual, IlBegins, IlInitial, IlDone, IlStatus, FieldRow, FeOver, FeEqual, FeDiffers, FeAsked, FeCommand, interlocking_row, field_row}
use Rattle.pdi_session.proofs.one.ItemLists.{phase_over}
use Rattle.pdi_session.proofs.two.JointSteps.{ended_by, phase_by_end}

-- no event leads back before Initialising
il_back : (own : ℕ) (phase : Phase) (form : Form) (v : Verdict) → InterlockingRow own phase form v
    → is_early (phase_by phase v) ≡ true → is_early phase ≡ true
il_back own phase form v (IlOver why e) early =
    absurd (false≢true (sym (ap (λ w. is_early (phase_by phase w)) e) ∙ early))
il_back own phase form v (IlEqual p f e) early = ap is_early p
il_back own phase form v (IlBegins p f e) early = ap is_early p
il_back own phase form v (IlInitial p f e) early = sym (ap (λ w. is_early (phase_by phase w)) e) ∙ early
il_back own phase form v (IlDone p f e) early =
    absurd (false≢true (sym (ap (λ w. is_early (phase_by phase w)) e) ∙ early))
il_back own phase form v (IlStatus p f e) early = sym (ap (λ w. is_early (phase_by phase w)) e) ∙ early

fe_back : (versions : List ℕ) (phase : Phase) (form : Form) (v : Verdict) → FieldRow versions phase form v
    → is_early (phase_by phase v) ≡ true → is_early phase ≡ true
fe_back versions phase form v (FeOver why e) early =
    absurd (false≢true (sym (ap (λ w. is_early (phase_by phase w)) e) ∙ early))
fe_back versions phase form v (FeEqual version p f e) early = ap is_early p
fe_back versions phase form v (FeDiffers version p f e) early = ap is_early p
fe_back versions phase form v (FeAsked p f e) early = ap is_early p
fe_back versions phase form v (FeCommand p f e) early = sym (ap (λ w. is_early (phase_by phase w)) e) ∙ early

table_back : (role : Role) (phase : Phase) (form : Form) → is_early (phase_by phase (table role phase form)) ≡ true
    → is_early phase ≡ true
table_back (Interlocking version) phase form early =
    il_back version phase form _ (interlocking_row version phase form) early
table_back (Field versions checksum) phase form early =
    fe_back versions phase form _ (field_row versions phase form) early

up_back : (role : Role) (phase : Phase) → is_early (phase_by phase (at_up role phase)) ≡ true → is_early phase ≡ true
up_back (Interlocking version) Idle early = refl
up_back (Interlocking version) Checking early = refl
up_back (Interlocking version) Requesting early = refl
up_back (Interlocking version) AwaitCheck early = refl
up_back (Interlocking version) AwaitRequest early = refl
up_back (Interlocking version) Refused early = refl
up_back (Interlocking version) Initialising early = early
up_back (Interlocking version) Established early = early
up_back (Interlocking version) Ended early = early
up_back (Field versions checksum) Idle early = refl
up_back (Field versions checksum) Checking early = refl
up_back (Field versions checksum) Requesting early = refl
up_back (Field versions checksum) AwaitCheck early = refl
up_back (Field versions checksum) AwaitRequest early = refl
up_back (Field versions checksum) Refused early = refl
up_back (Field versions checksum) Initialising early = early
up_back (Field versions checksum) Established early = early
up_back (Field versions checksum) Ended early = early

early_back : (e : Event) (s : SessionState) → is_early (phase_after e s) ≡ true → is_early s.phase ≡ true
early_back Up s early = up_back s.role s.phase early
early_back (Arrives t) s early =
    by_cond (λ v. is_early (phase_by s.phase v) ≡ true → is_early s.phase ≡ true) (is_addressed s.addressing t) _ _
    (λ _ k. table_back s.role s.phase (form_of t.kind t.payload) k) (λ _ k. absurd (false≢true k)) early
early_back (Puts kind payload waits) s early = early
early_back (InitDone waits) s early =
    by_cond (λ p. is_early p ≡ true → is_early s.phase ≡ true) (is_none (init_refusal s waits)) _ _
    (λ _ k. absurd (false≢true k)) (λ _ k. k) early
early_back Closes s early = absurd (false≢true early)

-- nothing is put in a phase without puts
early_shut : (role : Role) (phase : Phase) → is_early phase ≡ true → may_put role phase ≡ false
early_shut (Interlocking version) Idle early = refl
early_shut (Interlocking version) Checking early = refl
early_shut (Interlocking version) Requesting early = refl
early_shut (Interlocking version) AwaitCheck early = refl
early_shut (Interlocking version) AwaitRequest early = refl
early_shut (Interlocking version) Refused early = refl
early_shut (Interlocking version) Initialising early = absurd (false≢true early)
early_shut (Interlocking version) Established early = absurd (false≢true early)
early_shut (Interlocking version) Ended early = absurd (false≢true early)
early_shut (Field versions checksum) Idle early = refl
early_shut (Field versions checksum) Checking early = refl
early_shut (Field versions checksum) Requesting early = refl
early_shut (Field versions checksum) AwaitCheck early = refl
early_shut (Field versions checksum) AwaitRequest early = refl
early_shut (Field versions checksum) Refused early = refl
early_shut (Field versions checksum) Initialising early = absurd (false≢true early)
early_shut (Field versions checksum) Established early = absurd (false≢true early)
early_shut (Field versions checksum) Ended early = absurd (false≢true early)

over_shut : (role : Role) → may_put role Ended ≡ false
over_shut (Interlocking version) = refl
over_shut (Field versions checksum) = refl

shut_puts : (e : Event) (s : SessionState) → may_put s.role s.phase ≡ false → put_by e s ≡ []
shut_puts Up s shut = refl
shut_puts (Arrives t) s shut = refl
shut_puts (Puts kind payload waits) s shut = rw shut refl
shut_puts (InitDone waits) s shut = refl
shut_puts Closes s shut = refl

-- facts that every history keeps
record Own (h : History) : Type 0 where
  early : is_early h.state.phase ≡ true → h.put ≡ []
  ended : (phase : Phase) → h.ended_in ≡ Some phase → is_early phase ≡ true → h.put ≡ []
  over : (phase : Phase) → h.ended_in ≡ Some phase → h.state.phase ≡ Ended

none_more : (a b : List Item) → a ≡ [] → b ≡ [] → a ++ b ≡ []
none_more a b e f = ap (λ l. l ++ b) e ∙ f

own_grows : (e : Event) (h : History) → Own h → Own (add_event e h)
own_grows e h o =
    record {
      early = λ early.
          let before = early_back e h.state early in
          none_more h.put (put_by e h.state) (o.early before)
          (shut_puts e h.state (early_shut h.state.role h.state.phase before));
      ended = ended_by (λ phase. is_early phase ≡ true → h.put ++ put_by e h.state ≡ []) e h
          (λ t same fails early. none_more h.put (put_by e h.state) (o.early early) (ap (λ f. put_by f h.state) same))
          (λ phase is early. none_more h.put (put_by e h.state) (o.ended phase is early)
          (shut_puts e h.state (ap (may_put h.state.role) (o.over phase is) ∙ over_shut h.state.role)));
      over = ended_by (λ _. phase_after e h.state ≡ Ended) e h
          (λ t same fails. ap (λ f. phase_after f h.state) same
          ∙ phase_by_end h.state.phase (judge_telegram h.state t) fails)
          (λ phase is. phase_over e h.state (o.over phase is));
    }

own_along : (es : List Event) (h : History) → Own h → Own (add_events es h)
own_along [] h o = o
own_along (e ∷ es) h o = own_along es (add_event e h) (own_grows e h o)

nothing_some : (phase : Phase) → ◌≡◌ {A = Option Phase} None (Some phase) → ⊥
nothing_some phase e = cc

pub own_early_law : OwnEarlyLaw
own_early_law addressing role es =
    (own_along es (new_history addressing role)
    (record {
      early = λ _. refl;
      ended = λ phase is early. refl;
      over = λ phase is. absurd (nothing_some phase is);
    })).ended
