-- In the phases after the version check an agreement is kept.
use Rattle.std.proofs.Common.{◌≡◌, ℕ, List, [], ◌∷◌, Option, Some, None, Bool, true, false, refl, sym, ap, subst}
use Rattle.std.specs.Prelude.{is_none}
use Rattle.std.proofs.lemmas.Bool.{false≢true}
use Rattle.pdi_session.specs.telegram.Tele.{Tele}
use Rattle.pdi_session.specs.declared.Phase.{Phase}
use Rattle.pdi_session.specs.declared.Phase.TheVariants.{Idle, Checking, Requesting, AwaitCheck, AwaitRequest, Refused, Initialising, Established, Ended}
use Rattle.pdi_session.specs.declared.Form.{Form}
use Rattle.pdi_session.specs.declared.Verdict.{Verdict}
use Rattle.pdi_session.specs.declared.Verdict.TheVariants.{Ends}
use Rattle.pdi_session.specs.Settings.{Role, Interlocking, Field}
use Rattle.pdi_session.specs.Telegrams.{form_of, is_addressed}
use Rattle.pdi_session.specs.Tables.{at_up, is_initialising, table}
use Rattle.pdi_session.specs.SessionStep.{Agreement, Event, Up, Arrives, Puts, InitDone, Closes, SessionState, agreed_after, agreed_by, init_refusal, judge_telegram, phase_after, phase_by}
use Rattle.pdi_session.specs.Histories.{History, add_event, add_events, new_history}
use Rattle.pdi_session.specs.Laws.{AgreedLaw, is_agreed_in}
use Rattle.pdi_session.proofs.one.TableLemmas.{by_cond}
use Rattle.pdi_session.proofs.one.Rows.{InterlockingRow, IlOver, IlEqual, IlBegins, IlInitial, IlDone, IlStatus, FieldRow, FeOver, FeEqual, FeDiffers, FeAsked, FeCommand, interlocking_row, field_row}

-- in such a phase something is agreed
abbrev pub Keeps : Phase → Option Agreement → Type 0
Keeps phase agreed = is_agreed_in phase ≡ true → is_none agreed ≡ false

-- so it is after this verdict
abbrev pub Left : Role → List ℕ → Phase → Option Agreement → Verdict → Type 0
Left role payload phase before v = Keeps (phase_by phase v) (agreed_by role payload v before)

il-keeps : (own : ℕ) (payload : List ℕ) (phase : Phase) (before : Option Agreement) (form : Form) (v : Verdict)
    → InterlockingRow own phase form v → Keeps phase before → Left (Interlocking own) payload phase before v
il-keeps own payload phase before form v (IlOver why e) k =
    subst (Left (Interlocking own) payload phase before) (sym e) (λ is. absurd (false≢true is))
il-keeps own payload phase before form v (IlEqual p f e) k =
    subst (Left (Interlocking own) payload phase before) (sym e) (λ is. refl)
il-keeps own payload phase before form v (IlBegins p f e) k =
    subst (Left (Interlocking own) payload phase before) (sym e) (λ is. k (ap is_agreed_in p))
il-keeps own payload phase before form v (IlInitial p f e) k =
    subst (Left (Interlocking own) payload phase before) (sym e) k
il-keeps own payload phase before form v (IlDone p f e) k =
    subst (Left (Interlocking own) payload phase before) (sym e) (λ is. k (ap is_agreed_in p))
il-keeps own payload phase before form v (IlStatus p f e) k =
    subst (Left (Interlocking own) payload phase before) (sym e) k

fe-keeps : (versions checksum payload : List ℕ) (phase : Phase) (before : Option Agreement) (form : Form) (v : Verdict)
    → FieldRow versions phase form v → Keeps phase before → Left (Field versions checksum) payload phase before v
fe-keeps versions checksum payload phase before form v (FeOver why e) k =
    subst (Left (Field versions checksum) payload phase before) (sym e) (λ is. absurd (false≢true is))
fe-keeps versions checksum payload phase before form v (FeEqual version p f e) k =
    subst (Left (Field versions checksum) payload phase before) (sym e) (λ is. refl)
fe-keeps versions checksum payload phase before form v (FeDiffers version p f e) k =
    subst (Left (Field versions checksum) payload phase before) (sym e) (λ is. absurd (false≢true is))
fe-keeps versions checksum payload phase before form v (FeAsked p f e) k =
    subst (Left (Field versions checksum) payload phase before) (sym e) (λ is. k (ap is_agreed_in p))
fe-keeps versions checksum payload phase before form v (FeCommand p f e) k =
    subst (Left (Field versions checksum) payload phase before) (sym e) k

table-keeps : (role : Role) (payload : List ℕ) (phase : Phase) (before : Option Agreement) (form : Form)
    → Keeps phase before → Left role payload phase before (table role phase form)
table-keeps (Interlocking own) payload phase before form k =
    il-keeps own payload phase before form _ (interlocking_row own phase form) k
table-keeps (Field versions checksum) payload phase before form k =
    fe-keeps versions checksum payload phase before form _ (field_row versions phase form) k

-- what a session that ends has agreed on does not matter
ends-keeps : (role : Role) (payload : List ℕ) (phase : Phase) (before : Option Agreement) (why : _)
    → Left role payload phase before (Ends why)
ends-keeps role payload phase before why is = absurd (false≢true is)

up-keeps : (role : Role) (phase : Phase) (agreed : Option Agreement) → Keeps phase agreed
    → Keeps (phase_by phase (at_up role phase)) agreed
up-keeps (Interlocking own) Idle agreed k is = absurd (false≢true is)
up-keeps (Interlocking own) Checking agreed k is = k is
up-keeps (Interlocking own) Requesting agreed k is = k is
up-keeps (Interlocking own) AwaitCheck agreed k is = k is
up-keeps (Interlocking own) AwaitRequest agreed k is = k is
up-keeps (Interlocking own) Refused agreed k is = k is
up-keeps (Interlocking own) Initialising agreed k is = k is
up-keeps (Interlocking own) Established agreed k is = k is
up-keeps (Interlocking own) Ended agreed k is = k is
up-keeps (Field versions checksum) Idle agreed k is = absurd (false≢true is)
up-keeps (Field versions checksum) Checking agreed k is = k is
up-keeps (Field versions checksum) Requesting agreed k is = k is
up-keeps (Field versions checksum) AwaitCheck agreed k is = k is
up-keeps (Field versions checksum) AwaitRequest agreed k is = k is
up-keeps (Field versions checksum) Refused agreed k is = k is
up-keeps (Field versions checksum) Initialising agreed k is = k is
up-keeps (Field versions checksum) Established agreed k is = k is
up-keeps (Field versions checksum) Ended agreed k is = k is

-- InitDone is refused unless the phase is Initialising
done-keeps : (role : Role) (phase : Phase) (agreed : Option Agreement) → Keeps phase agreed
    → is_initialising role phase ≡ true → is_none agreed ≡ false
done-keeps (Field versions checksum) Initialising agreed k is = k refl
done-keeps (Interlocking own) phase agreed k is = absurd (false≢true is)
done-keeps (Field versions checksum) Idle agreed k is = absurd (false≢true is)
done-keeps (Field versions checksum) Checking agreed k is = absurd (false≢true is)
done-keeps (Field versions checksum) Requesting agreed k is = absurd (false≢true is)
done-keeps (Field versions checksum) AwaitCheck agreed k is = absurd (false≢true is)
done-keeps (Field versions checksum) AwaitRequest agreed k is = absurd (false≢true is)
done-keeps (Field versions checksum) Refused agreed k is = absurd (false≢true is)
done-keeps (Field versions checksum) Established agreed k is = absurd (false≢true is)
done-keeps (Field versions checksum) Ended agreed k is = absurd (false≢true is)

-- a phase in which InitDone is not refused is Initialising
accepted : (s : SessionState) (waits : ℕ) → is_none (init_refusal s waits) ≡ true
    → is_initialising s.role s.phase ≡ true
accepted s waits = by (is_initialising s.role s.phase) refl
  where
    by : (b : Bool) → is_initialising s.role s.phase ≡ b → is_none (init_refusal s waits) ≡ true
        → is_initialising s.role s.phase ≡ true
    by true e none = e
    by false e none = let no : false ≡ true = rw e at none in absurd (false≢true no)

event-keeps : (e : Event) (s : SessionState) → Keeps s.phase s.agreed → Keeps (phase_after e s) (agreed_after e s)
event-keeps Up s k = up-keeps s.role s.phase s.agreed k
event-keeps (Arrives t) s k =
    by_cond (Left s.role t.payload s.phase s.agreed) (is_addressed s.addressing t)
    (table s.role s.phase (form_of t.kind t.payload)) (Ends _)
    (λ _. table-keeps s.role t.payload s.phase s.agreed (form_of t.kind t.payload) k)
    (λ _. ends-keeps s.role t.payload s.phase s.agreed _)
event-keeps (Puts kind payload waits) s k = k
event-keeps (InitDone waits) s k =
    by_cond (λ p. Keeps p s.agreed) (is_none (init_refusal s waits)) Established s.phase
    (λ none _. done-keeps s.role s.phase s.agreed k (accepted s waits none)) (λ _. k)
event-keeps Closes s k = λ is. absurd (false≢true is)

events-keep : (es : List Event) (h : History) → Keeps h.state.phase h.state.agreed
    → Keeps (add_events es h).state.phase (add_events es h).state.agreed
events-keep [] h k = k
events-keep (e ∷ es) h k = events-keep es (add_event e h) (event-keeps e h.state k)

pub agreed_law : AgreedLaw
agreed_law addressing role es = events-keep es (new_history addressing role) (λ is. absurd (false≢true is))
