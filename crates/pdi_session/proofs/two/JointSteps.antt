-- Two sessions keep the facts of the tables on both over all events in turn: the phase law.
use Rattle.std.proofs.Common.{◌≡◌, ◌⊎◌, ℕ, ◌≤◌, Bool, true, false, not, ◌&&◌, cond, List, [], ◌∷◌, ◌++◌, length, get_or, Option, Some, None, refl, sym, ap, ◌∙◌, arith, subst, ⊎_elim, inl, inr}
use Rattle.std.specs.Prelude.{is_none, unwrap_or}
use Rattle.std.proofs.lemmas.Bool.{false≢true, true≢false}
use Rattle.std.proofs.lemmas.List.{append-nil}
use Rattle.octets.specs.Lists.{IsBeginning}
use Rattle.pdi_session.specs.telegram.Tele.{Tele}
use Rattle.pdi_session.specs.declared.TheConstants.{CHECKSUM_MAX}
use Rattle.pdi_session.specs.declared.Phase.{Phase}
use Rattle.pdi_session.specs.declared.Phase.TheVariants.{Idle, Checking, Requesting, AwaitCheck, AwaitRequest, Refused, Initialising, Established, Ended}
use Rattle.pdi_session.specs.declared.SessionDetail.TheVariants as detail
use Rattle.pdi_session.specs.declared.Form.{Form}
use Rattle.pdi_session.specs.declared.Verdict.{Verdict}
use Rattle.pdi_session.specs.declared.Verdict.TheVariants.{Takes, Goes, Answers, Ends}
use Rattle.pdi_session.specs.Settings.{Addressing, Role, Interlocking, Field}
use Rattle.pdi_session.specs.Telegrams.{form_of, is_addressed}
use Rattle.pdi_session.specs.Tables.{at_up, is_early, is_initialising, may_put, table}
use Rattle.pdi_session.specs.SessionStep.{Event, Up, Arrives, Puts, InitDone, Closes, SessionState, added_by, end_of, judge_telegram, phase_after, phase_by, sent_by}
use Rattle.pdi_session.specs.Histories.{History, ends_by, add_event, add_events, handed_by, is_ended}
use Rattle.pdi_session.specs.Laws.{items_of}
use Rattle.pdi_session.specs.JoinedSessions.{AtFe, AtIl, EndsEarly, InTurn, IsNext, IsNextAt, SessionPair, PairEvent, OneMoreLaw, PhaseLaw, TakesFrontLaw, apply_events, apply_event, new_sessions}
use Rattle.pdi_session.proofs.one.TableLemmas.{by_cond}
use Rattle.pdi_session.proofs.one.ItemLists.{PutIsQueue, Taken, begins_through, items_begin, phase_over, put_grows, taken_begun, taken_grows}
use Rattle.pdi_session.proofs.one.Shapes.{FeAt, base, differs_from, equal_from, fe_past, il_past}
use Rattle.pdi_session.proofs.one.IlSteps.{by_bool, il_step}
use Rattle.pdi_session.proofs.one.FeSteps.{fe_step}
use Rattle.pdi_session.proofs.two.PhaseLemma.{Joint, begins_longer, none_begins}
use Rattle.pdi_session.proofs.two.PhaseFails.{Fails, IlFailed, fe_fails, il_fails}

-- a session that does nothing more
pub record Quiet (role : Role) (phase : Phase) : Type 0 where
  pub up : (next : Phase) × (at_up role phase ≡ Goes next)
  pub judges : (form : Form) → table role phase form ≡ Ends detail.OutOfOrder
  pub puts : may_put role phase ≡ false
  pub done : is_initialising role phase ≡ false

quiet_phase : (versions checksum : List ℕ) (phase : Phase) → (phase ≡ Refused) ⊎ (phase ≡ Ended)
    → Quiet (Field versions checksum) phase
quiet_phase versions checksum phase (inl is) =
    subst (Quiet (Field versions checksum)) (sym is)
    (record { up = (Refused, refl); judges = λ form. refl; puts = refl; done = refl })
quiet_phase versions checksum phase (inr is) =
    subst (Quiet (Field versions checksum)) (sym is)
    (record { up = (Ended, refl); judges = λ form. refl; puts = refl; done = refl })

pub quiet_adds : (e : Event) (s : SessionState) → Quiet s.role s.phase → added_by e s ≡ []
quiet_adds Up s quiet = ap (sent_by s) quiet.up.1
quiet_adds (Arrives t) s quiet =
    by_cond (λ v. sent_by s v ≡ []) (is_addressed s.addressing t) _ _
    (λ _. ap (sent_by s) (quiet.judges (form_of t.kind t.payload))) (λ _. refl)
quiet_adds (Puts kind payload waits) s quiet = rw quiet.puts refl
quiet_adds (InitDone waits) s quiet = rw quiet.done refl
quiet_adds Closes s quiet = refl

pub quiet_field : (versions checksum : List ℕ) (e : Event) (s : SessionState) → s.role ≡ Field versions checksum
    → (s.phase ≡ Refused) ⊎ (s.phase ≡ Ended) → added_by e s ≡ []
quiet_field versions checksum e s role phase =
    quiet_adds e s (subst (λ r. Quiet r s.phase) (sym role) (quiet_phase versions checksum s.phase phase))

-- a reply of equal versions is not a refusal
pub not_both : (a b : ℕ) (s : SessionState) (checksum : List ℕ) (more : List Tele)
    → equal_from a s ∷ more ≡ differs_from b s ∷ [] → ⊥
not_both a b s checksum more e =
    let octet : 2 ≡ 1 = ap (λ l. get_or (get_or l 0 (equal_from a s)).payload 0 0) e in
    omega (arith, octet)

-- a field element that has refused is in Refused, or over
pub refused_phase : (s : SessionState) (phase : Phase) (queue js : List Tele) (version : ℕ) → FeAt s phase queue js
    → queue ≡ differs_from version s ∷ [] → (phase ≡ Refused) ⊎ (phase ≡ Ended)
refused_phase s Idle queue js version at is = let e = ap length (sym at.0 ∙ is) in absurd (omega (arith, e))
refused_phase s Checking queue js version at is = absurd at
refused_phase s Requesting queue js version at is = absurd at
refused_phase s AwaitCheck queue js version at is = let e = ap length (sym at.0 ∙ is) in absurd (omega (arith, e))
refused_phase s AwaitRequest queue js version at is = absurd (not_both at.0.version version s [] [] (sym at.0.is ∙ is))
refused_phase s Refused queue js version at is = inl refl
refused_phase s Initialising queue js version at is = let e =
    ap length (sym at.starts.is ∙ is) in absurd (omega (arith, e))
refused_phase s Established queue js version at is = let e =
    ap length (sym at.starts.is ∙ is) in absurd (omega (arith, e))
refused_phase s Ended queue js version at is = inr refl

-- facts that both keep
pub record Both (version : ℕ) (versions checksum : List ℕ) (x y : History) : Type 0 where
  pub joint : Joint version versions checksum x y
  pub il_items : PutIsQueue x
  pub fe_items : PutIsQueue y
  pub il_taken : Taken x
  pub fe_taken : Taken y
  pub il_ended : (phase : Phase) → x.ended_in ≡ Some phase → IlFailed phase y
  pub fe_ended : (phase : Phase) → y.ended_in ≡ Some phase → (is_early phase ≡ true) × (y.queue ≡ [])
  pub fe_over : (phase : Phase) → y.ended_in ≡ Some phase → y.state.phase ≡ Ended

-- the telegrams received are still a prefix
next_begins : (e : Event) (h peer : History) → IsNext e h peer → IsBeginning h.judged peer.queue
    → IsBeginning (h.judged ++ handed_by e) peer.queue
next_begins Up h peer next begins = subst (λ l. IsBeginning l peer.queue) (sym (append-nil h.judged)) begins
next_begins (Arrives t) h peer next begins = next.1
next_begins (Puts kind payload waits) h peer next begins =
    subst (λ l. IsBeginning l peer.queue) (sym (append-nil h.judged)) begins
next_begins (InitDone waits) h peer next begins =
    subst (λ l. IsBeginning l peer.queue) (sym (append-nil h.judged)) begins
next_begins Closes h peer next begins = subst (λ l. IsBeginning l peer.queue) (sym (append-nil h.judged)) begins

-- the phase in which a session ended, by whether this event ended it
pub ended_by : (P : Phase → Type 0) (e : Event) (h : History)
    → ((t : Tele) → e ≡ Arrives t → Fails h t → P h.state.phase) → ((phase : Phase) → h.ended_in ≡ Some phase → P phase)
    → (phase : Phase) → (add_event e h).ended_in ≡ Some phase → P phase
ended_by P Up h new old phase is = old phase is
ended_by P (Arrives t) h new old phase is =
    by_bool (λ b. ends_by (Arrives t) h.state ≡ b → cond b (Some h.state.phase) h.ended_in ≡ Some phase
    → P phase) (ends_by (Arrives t) h.state)
    (λ _ ends some. subst P (ap (λ o. unwrap_or o h.state.phase) some)
    (new t refl (fails (is_ended h.state.phase) (is_none (end_of (judge_telegram h.state t))) refl ends)))
    (λ _ _ some. old phase some) refl is
  where
    fails : (a b : Bool) → is_none (end_of (judge_telegram h.state t)) ≡ b → (not a && not b) ≡ true
        → is_none (end_of (judge_telegram h.state t)) ≡ false
    fails false false same ends = same
    fails false true same ends = absurd (false≢true ends)
    fails true b same ends = absurd (false≢true ends)
ended_by P (Puts kind payload waits) h new old phase is = old phase is
ended_by P (InitDone waits) h new old phase is = old phase is
ended_by P Closes h new old phase is = old phase is

pub il_event : (version : ℕ) (versions checksum : List ℕ) (e : Event) (x y : History) → IsNext e x y
    → Both version versions checksum x y → Both version versions checksum (add_event e x) y
il_event version versions checksum e x y next b =
    let j : Joint version versions checksum x y = b.joint in
    record {
      joint = record {
        il_role = j.il_role;
        fe_role = j.fe_role;
        short = j.short;
        il_at = il_step version e x.state x.queue x.judged j.il_role j.il_at;
        fe_at = j.fe_at;
        il_hears = next_begins e x y next j.il_hears;
        fe_hears = begins_longer y.judged x.queue (added_by e x.state) j.fe_hears;
      };
      il_items = put_grows e x b.il_items;
      fe_items = b.fe_items;
      il_taken = taken_grows e x b.il_taken;
      fe_taken = b.fe_taken;
      il_ended = ended_by (λ phase. IlFailed phase y) e x
          (λ t same fails.
          let n : IsNext (Arrives t) x y = subst (λ f. IsNext f x y) same next in
          il_fails version versions checksum x y t n.1.0 j x.state.phase refl j.il_at
          (fe_past (base y.state) y.state.phase y.queue y.judged j.fe_at) n.1.1 n.0 fails)
          b.il_ended;
      fe_ended = b.fe_ended;
      fe_over = b.fe_over;
    }

pub sent_over : (s : SessionState) (verdict : Verdict) → is_none (end_of verdict) ≡ false → sent_by s verdict ≡ []
sent_over s Takes over = refl
sent_over s (Goes next) over = refl
sent_over s (Answers next n) over = absurd (true≢false over)
sent_over s (Ends why) over = refl

pub phase_by_end : (phase : Phase) (verdict : Verdict) → is_none (end_of verdict) ≡ false
    → phase_by phase verdict ≡ Ended
phase_by_end phase Takes over = absurd (true≢false over)
phase_by_end phase (Goes next) over = absurd (true≢false over)
phase_by_end phase (Answers next n) over = absurd (true≢false over)
phase_by_end phase (Ends why) over = refl

pub fe_event : (version : ℕ) (versions checksum : List ℕ) (e : Event) (x y : History) → IsNext e y x
    → Both version versions checksum x y → Both version versions checksum x (add_event e y)
fe_event version versions checksum e x y next b =
    let j : Joint version versions checksum x y = b.joint in
    record {
      joint = record {
        il_role = j.il_role;
        fe_role = j.fe_role;
        short = j.short;
        il_at = j.il_at;
        fe_at = fe_step versions checksum e y.state y.queue y.judged j.fe_role j.fe_at;
        il_hears = begins_longer x.judged y.queue (added_by e y.state) j.il_hears;
        fe_hears = next_begins e y x next j.fe_hears;
      };
      il_items = b.il_items;
      fe_items = put_grows e y b.fe_items;
      il_taken = b.il_taken;
      fe_taken = taken_grows e y b.fe_taken;
      il_ended = λ phase is.
          (let before = b.il_ended phase is in
          let none : added_by e y.state ≡ [] =
          quiet_field versions checksum e y.state j.fe_role
          (refused_phase (base y.state) y.state.phase y.queue y.judged before.1.0 j.fe_at before.1.1)
          in
          (before.0, (before.1.0, ap (λ l. y.queue ++ l) none ∙ append-nil y.queue ∙ before.1.1)));
      fe_ended = ended_by (λ phase. (is_early phase ≡ true) × (y.queue ++ added_by e y.state ≡ [])) e y
          (λ t same fails.
          let n : IsNext (Arrives t) y x = subst (λ f. IsNext f y x) same next in
          let failed = fe_fails version versions checksum x y t n.1.0 j y.state.phase refl j.fe_at
          (il_past version (base x.state) x.state.phase x.queue x.judged j.il_at) n.1.1 n.0 fails in
          let none : added_by e y.state ≡ [] = ap (λ f. added_by f y.state) same
          ∙ sent_over y.state (judge_telegram y.state t) fails in
          (failed.0, ap (λ l. y.queue ++ l) none ∙ append-nil y.queue ∙ failed.1))
          (λ phase is.
          let before = b.fe_ended phase is in
          let none : added_by e y.state ≡ [] = quiet_field versions checksum e y.state j.fe_role
          (inr (b.fe_over phase is)) in
          (before.0, ap (λ l. y.queue ++ l) none ∙ append-nil y.queue ∙ before.1));
      fe_over = ended_by (λ _. phase_after e y.state ≡ Ended) e y
          (λ t same fails. ap (λ f. phase_after f y.state) same
          ∙ phase_by_end y.state.phase (judge_telegram y.state t) fails)
          (λ phase is. phase_over e y.state (b.fe_over phase is));
    }

both_along : (version : ℕ) (versions checksum : List ℕ) (es : List PairEvent) (j : SessionPair) → InTurn es j
    → Both version versions checksum j.il j.fe
    → Both version versions checksum (apply_events es j).il (apply_events es j).fe
both_along version versions checksum [] j turn b = b
both_along version versions checksum (AtIl e ∷ es) j turn b =
    both_along version versions checksum es (apply_event (AtIl e) j) turn.1
    (il_event version versions checksum e j.il j.fe turn.0 b)
both_along version versions checksum (AtFe e ∷ es) j turn b =
    both_along version versions checksum es (apply_event (AtFe e) j) turn.1
    (fe_event version versions checksum e j.il j.fe turn.0 b)

-- while a field element has sent nothing, its peer has put no command
nothing_put : (version : ℕ) (versions checksum : List ℕ) (x y : History) → Both version versions checksum x y
    → y.queue ≡ [] → x.put ≡ []
nothing_put version versions checksum x y b none =
    let j : Joint version versions checksum x y = b.joint in
    let unheard : x.judged ≡ [] = none_begins x.judged (subst (IsBeginning x.judged) none j.il_hears) in
    sym b.il_items
    ∙ ⊎_elim (λ empty. ap items_of empty)
    (λ more. ⊎_elim (λ one. ap items_of one)
    (λ asked. absurd (let long = ap length (sym asked.told.is ∙ unheard) in omega (arith, long))) more)
    (il_past version (base x.state) x.state.phase x.queue x.judged j.il_at)

ends_early : (version : ℕ) (versions checksum : List ℕ) (x y : History) → Both version versions checksum x y
    → EndsEarly x y × EndsEarly y x
ends_early version versions checksum x y b = (
  λ phase is. (let failed = b.il_ended phase is in (failed.0, sym b.fe_items ∙ ap items_of failed.1.1)),
  λ phase is. (let failed = b.fe_ended phase is in (failed.0, nothing_put version versions checksum x y b failed.1)),
)

some_none : (phase : Phase) → ◌≡◌ {A = Option Phase} None (Some phase) → ⊥
some_none phase e = cc

-- two new sessions keep it
pub both_joined : (il fe : Addressing) (version : ℕ) (versions checksum : List ℕ) → length checksum ≤ CHECKSUM_MAX
    → Both version versions checksum (new_sessions il version fe versions checksum).il
    (new_sessions il version fe versions checksum).fe
both_joined il fe version versions checksum short =
    record {
      joint = record {
        il_role = refl;
        fe_role = refl;
        short = short;
        il_at = (refl, refl);
        fe_at = (refl, refl);
        il_hears = ([], refl);
        fe_hears = ([], refl);
      };
      il_items = refl;
      fe_items = refl;
      il_taken = taken_begun il (Interlocking version);
      fe_taken = taken_begun fe (Field versions checksum);
      il_ended = λ phase is. absurd (some_none phase is);
      fe_ended = λ phase is. absurd (some_none phase is);
      fe_over = λ phase is. absurd (some_none phase is);
    }

-- and after all events
pub both_after : (il fe : Addressing) (version : ℕ) (versions checksum : List ℕ) → length checksum ≤ CHECKSUM_MAX
    → (es : List PairEvent) → InTurn es (new_sessions il version fe versions checksum)
    → Both version versions checksum (apply_events es (new_sessions il version fe versions checksum)).il
    (apply_events es (new_sessions il version fe versions checksum)).fe
both_after il fe version versions checksum short es turn =
    both_along version versions checksum es (new_sessions il version fe versions checksum) turn
    (both_joined il fe version versions checksum short)

pub phase_law : PhaseLaw
phase_law il fe version versions checksum short es turn =
    ends_early version versions checksum _ _ (both_after il fe version versions checksum short es turn)

-- what is taken is a prefix of what the peer has put
takes_front : (h peer : History) → Taken h → IsBeginning h.judged peer.queue → PutIsQueue peer
    → IsBeginning h.taken peer.put
takes_front h peer taken hears items =
    subst (IsBeginning h.taken) items (begins_through h.taken (items_of h.judged) (items_of peer.queue) taken.front
    (items_begin h.judged peer.queue hears))

pub fronts_law : TakesFrontLaw
fronts_law il fe version versions checksum short es turn =
    let end : SessionPair = apply_events es (new_sessions il version fe versions checksum) in
    let b : Both version versions checksum end.il end.fe = both_after il fe version versions checksum short es turn in (
      takes_front end.il end.fe b.il_taken b.joint.il_hears b.fe_items,
      takes_front end.fe end.il b.fe_taken b.joint.fe_hears b.il_items,
    )

-- one more event, at the end
grown_more : (es : List Event) (e : Event) (h : History) → add_events (es ++ e ∷ []) h ≡ add_event e (add_events es h)
grown_more [] e h = refl
grown_more (x ∷ es) e h = grown_more es e (add_event x h)

happen_more : (es : List PairEvent) (e : PairEvent) (j : SessionPair)
    → apply_events (es ++ e ∷ []) j ≡ apply_event e (apply_events es j)
happen_more [] e j = refl
happen_more (x ∷ es) e j = happen_more es e (apply_event x j)

turn_more : (es : List PairEvent) (e : PairEvent) (j : SessionPair) → InTurn es j → IsNextAt e (apply_events es j)
    → InTurn (es ++ e ∷ []) j
turn_more [] e j turn next = (next, tt)
turn_more (x ∷ es) e j turn next = (turn.0, turn_more es e (apply_event x j) turn.1 next)

pub one_more_law : OneMoreLaw
one_more_law = (grown_more, happen_more, turn_more)
