-- Only a telegram that ends it, or a closing, ends a session, and one that has begun is never Idle again.
use Rattle.std.proofs.Common.{◌≡◌, ◌≢◌, ℕ, List, Option, Some, None, Bool, true, false, not, ◌&&◌, refl, sym, ap, ◌∙◌}
use Rattle.std.specs.Prelude.{is_none}
use Rattle.pdi_session.specs.telegram.Tele.{Tele}
use Rattle.pdi_session.specs.declared.Phase.{Phase}
use Rattle.pdi_session.specs.declared.Phase.TheVariants.{Idle, Checking, Requesting, AwaitCheck, AwaitRequest, Refused, Initialising, Established, Ended}
use Rattle.pdi_session.specs.declared.SessionDetail.{SessionDetail}
use Rattle.pdi_session.specs.declared.Form.{Form}
use Rattle.pdi_session.specs.declared.Verdict.{Verdict}
use Rattle.pdi_session.specs.declared.Verdict.TheVariants.{Ends}
use Rattle.pdi_session.specs.Settings.{Role, Interlocking, Field}
use Rattle.pdi_session.specs.Telegrams.{form_of, is_addressed}
use Rattle.pdi_session.specs.Tables.{at_up, table}
use Rattle.pdi_session.specs.SessionStep.{Event, Up, Arrives, Puts, InitDone, Closes, SessionState, end_of, init_refusal, judge_telegram, phase_after, phase_by}
use Rattle.pdi_session.specs.Histories.{is_ended}
use Rattle.pdi_session.specs.Laws.{OverLaw, BegunLaw}
use Rattle.pdi_session.proofs.one.TableLemmas.{by_cond}
use Rattle.pdi_session.proofs.one.Rows.{InterlockingRow, IlOver, IlEqual, IlBegins, IlInitial, IlDone, IlStatus, FieldRow, FeOver, FeEqual, FeDiffers, FeAsked, FeCommand, interlocking_row, field_row}

row-on : (own : ℕ) (phase : Phase) (v : Verdict) (form : Form) → InterlockingRow own phase form v
    → is_ended phase ≡ false → end_of v ≡ None → is_ended (phase_by phase v) ≡ false
row-on own phase v form (IlOver why e) on none = let no : Some why ≡ None = sym (ap end_of e) ∙ none in cc
row-on own phase v form (IlEqual p f e) on none = ap (λ w. is_ended (phase_by phase w)) e
row-on own phase v form (IlBegins p f e) on none = ap (λ w. is_ended (phase_by phase w)) e
row-on own phase v form (IlInitial p f e) on none = ap (λ w. is_ended (phase_by phase w)) e ∙ on
row-on own phase v form (IlDone p f e) on none = ap (λ w. is_ended (phase_by phase w)) e
row-on own phase v form (IlStatus p f e) on none = ap (λ w. is_ended (phase_by phase w)) e ∙ on

field-on : (versions : List ℕ) (phase : Phase) (v : Verdict) (form : Form) → FieldRow versions phase form v
    → is_ended phase ≡ false → end_of v ≡ None → is_ended (phase_by phase v) ≡ false
field-on versions phase v form (FeOver why e) on none = let no : Some why ≡ None = sym (ap end_of e) ∙ none in cc
field-on versions phase v form (FeEqual version p f e) on none = ap (λ w. is_ended (phase_by phase w)) e
field-on versions phase v form (FeDiffers version p f e) on none = ap (λ w. is_ended (phase_by phase w)) e
field-on versions phase v form (FeAsked p f e) on none = ap (λ w. is_ended (phase_by phase w)) e
field-on versions phase v form (FeCommand p f e) on none = ap (λ w. is_ended (phase_by phase w)) e ∙ on

table-on : (role : Role) (phase : Phase) (form : Form) → is_ended phase ≡ false → end_of (table role phase form) ≡ None
    → is_ended (phase_by phase (table role phase form)) ≡ false
table-on (Interlocking version) phase form on none =
    row-on version phase _ form (interlocking_row version phase form) on none
table-on (Field versions checksum) phase form on none =
    field-on versions phase _ form (field_row versions phase form) on none

arrives-on : (s : SessionState) (t : Tele) → is_ended s.phase ≡ false → end_of (judge_telegram s t) ≡ None
    → is_ended (phase_after (Arrives t) s) ≡ false
arrives-on s t on none =
    by_cond (λ v. end_of v ≡ None → is_ended (phase_by s.phase v) ≡ false) (is_addressed s.addressing t)
    (table s.role s.phase (form_of t.kind t.payload)) (Ends _)
    (λ _ none. table-on s.role s.phase (form_of t.kind t.payload) on none) (λ _ no. cc) none

up-on : (role : Role) (phase : Phase) → is_ended phase ≡ false → is_ended (phase_by phase (at_up role phase)) ≡ false
up-on (Interlocking version) Idle on = refl
up-on (Interlocking version) Checking on = refl
up-on (Interlocking version) Requesting on = refl
up-on (Interlocking version) AwaitCheck on = refl
up-on (Interlocking version) AwaitRequest on = refl
up-on (Interlocking version) Refused on = refl
up-on (Interlocking version) Initialising on = refl
up-on (Interlocking version) Established on = refl
up-on (Interlocking version) Ended on = on
up-on (Field versions checksum) Idle on = refl
up-on (Field versions checksum) Checking on = refl
up-on (Field versions checksum) Requesting on = refl
up-on (Field versions checksum) AwaitCheck on = refl
up-on (Field versions checksum) AwaitRequest on = refl
up-on (Field versions checksum) Refused on = refl
up-on (Field versions checksum) Initialising on = refl
up-on (Field versions checksum) Established on = refl
up-on (Field versions checksum) Ended on = on

done-on : (s : SessionState) (waits : ℕ) → is_ended s.phase ≡ false → is_ended (phase_after (InitDone waits) s) ≡ false
done-on s waits on =
    by_cond (λ p. is_ended p ≡ false) (is_none (init_refusal s waits)) Established s.phase (λ _. refl) (λ _. on)

not-ending : (b : Bool) (o : Option SessionDetail) → b ≡ false → (not b && not (is_none o)) ≡ false → o ≡ None
not-ending true o on quiet = cc
not-ending false None on quiet = refl
not-ending false (Some why) on quiet = cc

pub over_law : OverLaw
over_law Up s on quiet other = up-on s.role s.phase on
over_law (Arrives t) s on quiet other =
    arrives-on s t on (not-ending (is_ended s.phase) (end_of (judge_telegram s t)) on quiet)
over_law (Puts kind payload waits) s on quiet other = on
over_law (InitDone waits) s on quiet other = done-on s waits on
over_law Closes s on quiet other = absurd (other refl)

-- no event leads back to Idle
il-goes : (own : ℕ) (phase : Phase) (form : Form) (v : Verdict) → InterlockingRow own phase form v → phase ≢ Idle
    → phase_by phase v ≢ Idle
il-goes own phase form v (IlOver why e) some = λ is. let x : Ended ≡ Idle = sym (ap (phase_by phase) e) ∙ is in cc
il-goes own phase form v (IlEqual p f e) some = λ is. let x : Requesting ≡ Idle = sym (ap (phase_by phase) e) ∙ is in cc
il-goes own phase form v (IlBegins p f e) some = λ is. let x : Initialising ≡ Idle =
    sym (ap (phase_by phase) e) ∙ is in cc
il-goes own phase form v (IlInitial p f e) some = λ is. some (sym (ap (phase_by phase) e) ∙ is)
il-goes own phase form v (IlDone p f e) some = λ is. let x : Established ≡ Idle = sym (ap (phase_by phase) e) ∙ is in cc
il-goes own phase form v (IlStatus p f e) some = λ is. some (sym (ap (phase_by phase) e) ∙ is)

fe-goes : (versions : List ℕ) (phase : Phase) (form : Form) (v : Verdict) → FieldRow versions phase form v
    → phase ≢ Idle → phase_by phase v ≢ Idle
fe-goes versions phase form v (FeOver why e) some = λ is. let x : Ended ≡ Idle = sym (ap (phase_by phase) e) ∙ is in cc
fe-goes versions phase form v (FeEqual version p f e) some = λ is. let x : AwaitRequest ≡ Idle =
    sym (ap (phase_by phase) e) ∙ is in cc
fe-goes versions phase form v (FeDiffers version p f e) some = λ is. let x : Refused ≡ Idle =
    sym (ap (phase_by phase) e) ∙ is in cc
fe-goes versions phase form v (FeAsked p f e) some = λ is. let x : Initialising ≡ Idle =
    sym (ap (phase_by phase) e) ∙ is in cc
fe-goes versions phase form v (FeCommand p f e) some = λ is. some (sym (ap (phase_by phase) e) ∙ is)

table-goes : (role : Role) (phase : Phase) (form : Form) → phase ≢ Idle → phase_by phase (table role phase form) ≢ Idle
table-goes (Interlocking version) phase form some =
    il-goes version phase form _ (interlocking_row version phase form) some
table-goes (Field versions checksum) phase form some =
    fe-goes versions phase form _ (field_row versions phase form) some

arrives-goes : (s : SessionState) (t : Tele) → s.phase ≢ Idle → phase_after (Arrives t) s ≢ Idle
arrives-goes s t some =
    by_cond (λ v. phase_by s.phase v ≢ Idle) (is_addressed s.addressing t)
    (table s.role s.phase (form_of t.kind t.payload)) (Ends _)
    (λ _. table-goes s.role s.phase (form_of t.kind t.payload) some) (λ _ is. let x : Ended ≡ Idle = is in cc)

up-goes : (role : Role) (phase : Phase) → phase_by phase (at_up role phase) ≢ Idle
up-goes (Interlocking version) Idle = λ is. cc
up-goes (Interlocking version) Checking = λ is. cc
up-goes (Interlocking version) Requesting = λ is. cc
up-goes (Interlocking version) AwaitCheck = λ is. cc
up-goes (Interlocking version) AwaitRequest = λ is. cc
up-goes (Interlocking version) Refused = λ is. cc
up-goes (Interlocking version) Initialising = λ is. cc
up-goes (Interlocking version) Established = λ is. cc
up-goes (Interlocking version) Ended = λ is. cc
up-goes (Field versions checksum) Idle = λ is. cc
up-goes (Field versions checksum) Checking = λ is. cc
up-goes (Field versions checksum) Requesting = λ is. cc
up-goes (Field versions checksum) AwaitCheck = λ is. cc
up-goes (Field versions checksum) AwaitRequest = λ is. cc
up-goes (Field versions checksum) Refused = λ is. cc
up-goes (Field versions checksum) Initialising = λ is. cc
up-goes (Field versions checksum) Established = λ is. cc
up-goes (Field versions checksum) Ended = λ is. cc

event-goes : (e : Event) (s : SessionState) → s.phase ≢ Idle → phase_after e s ≢ Idle
event-goes Up s some = up-goes s.role s.phase
event-goes (Arrives t) s some = arrives-goes s t some
event-goes (Puts kind payload waits) s some = some
event-goes (InitDone waits) s some =
    by_cond (λ p. p ≢ Idle) (is_none (init_refusal s waits)) Established s.phase (λ _ is. cc) (λ _. some)
event-goes Closes s some = λ is. let x : Ended ≡ Idle = is in cc

pub begun_law : BegunLaw
begun_law = (λ s. up-goes s.role s.phase, event-goes)
