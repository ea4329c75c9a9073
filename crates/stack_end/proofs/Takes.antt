-- Which telegrams the application takes: of those that do not end the session, the ones that leave its phase as it was.
use Rattle.stack_end.proofs.Words.{after, ap, Arrives, Bool, end_of, false, is_none, judge_telegram, None, Ok, refl, Result, Some, sym, Tele, TeleFault}
use Rattle.stack_end.proofs.Words.{true, true≢false, ◌∙◌, ◌≡◌, if◌then◌else◌, ℕ, List}
use denote.Enum.Bare.{sameb}
use Rattle.std.specs.Prelude.{◌==◌}
use Rattle.std.specs.List.{list_any}
use Rattle.pdi_session.specs.SessionStep.{phase_by, SessionState}
use Rattle.pdi_session.specs.Settings.{Field, Interlocking, Role, first_version}
use Rattle.pdi_session.specs.Tables.{table}
use Rattle.pdi_session.specs.Telegrams.{form_of, is_addressed}
use Rattle.pdi_session.specs.contracts.Phase.{the_type}
use Rattle.pdi_session.specs.declared.Form.{Form}
use Rattle.pdi_session.specs.declared.Form.TheVariants.{Notifies, Item as ItemForm, OtherPayload}
use Rattle.pdi_session.specs.declared.Notice.TheVariants as notice
use Rattle.pdi_session.specs.declared.Phase.{Phase}
use Rattle.pdi_session.specs.declared.Phase.TheVariants as phase
use Rattle.pdi_session.specs.declared.SessionDetail.{SessionDetail}
use Rattle.pdi_session.specs.declared.SessionDetail.TheVariants as detail
use Rattle.pdi_session.specs.declared.Verdict.{Verdict}
use Rattle.pdi_session.specs.declared.Verdict.TheVariants.{Answers, Ends, Goes, Takes}
use Rattle.stack_end.specs.Dialogue.{is_taken, is_take}

-- a verdict that ends the session hands nothing to the application
none-of : {A : Type 0} {x : A} → Some x ≡ None → {B : Type 0} → B
none-of e = absurd (true≢false (sym (ap is_none e)))

pub ends-takes : (v : Verdict) (why : SessionDetail) → end_of v ≡ Some why → false ≡ is_take v
ends-takes Takes why e = none-of (sym e)
ends-takes (Goes next) why e = refl
ends-takes (Answers next n) why e = refl
ends-takes (Ends d) why e = refl

-- a verdict in a phase: if it does not end the session, the phase stays if and only if the telegram is taken
abbrev Stays : Phase → Verdict → Type 0
Stays p v = end_of v ≡ None → sameb the_type (phase_by p v) p ≡ is_take v

-- the rows that compare versions
equal-row : (b : Bool)
    → let v = if b then Answers phase.Requesting notice.InitialisationRequest else Ends detail.OutOfOrder in
    sameb the_type (phase_by phase.Checking v) phase.Checking ≡ is_take v
equal-row true = refl
equal-row false = refl

check-row : (b : Bool) (version : ℕ) (versions : List ℕ)
    → let v = if b then Answers phase.AwaitRequest (notice.VersionEqual version)
    else Answers phase.Refused (notice.VersionDiffers (first_version versions)) in
    sameb the_type (phase_by phase.AwaitCheck v) phase.AwaitCheck ≡ is_take v
check-row true version versions = refl
check-row false version versions = refl

-- in each row of the tables
stays : (role : Role) (p : Phase) (form : Form) → Stays p (table role p form)
stays (Interlocking own) phase.Idle form e = refl
stays (Interlocking own) phase.Checking (Notifies (notice.VersionCheck version)) e = refl
stays (Interlocking own) phase.Checking (Notifies (notice.VersionEqual version)) e = equal-row (version == own)
stays (Interlocking own) phase.Checking (Notifies (notice.VersionDiffers version)) e = refl
stays (Interlocking own) phase.Checking (Notifies notice.InitialisationRequest) e = refl
stays (Interlocking own) phase.Checking (Notifies notice.StartInitialisation) e = refl
stays (Interlocking own) phase.Checking (Notifies notice.InitialisationCompleted) e = refl
stays (Interlocking own) phase.Checking ItemForm e = refl
stays (Interlocking own) phase.Checking OtherPayload e = refl
stays (Interlocking own) phase.Requesting (Notifies (notice.VersionCheck version)) e = refl
stays (Interlocking own) phase.Requesting (Notifies (notice.VersionEqual version)) e = refl
stays (Interlocking own) phase.Requesting (Notifies (notice.VersionDiffers version)) e = refl
stays (Interlocking own) phase.Requesting (Notifies notice.InitialisationRequest) e = refl
stays (Interlocking own) phase.Requesting (Notifies notice.StartInitialisation) e = refl
stays (Interlocking own) phase.Requesting (Notifies notice.InitialisationCompleted) e = refl
stays (Interlocking own) phase.Requesting ItemForm e = refl
stays (Interlocking own) phase.Requesting OtherPayload e = refl
stays (Interlocking own) phase.AwaitCheck form e = refl
stays (Interlocking own) phase.AwaitRequest form e = refl
stays (Interlocking own) phase.Refused form e = refl
stays (Interlocking own) phase.Initialising (Notifies (notice.VersionCheck version)) e = refl
stays (Interlocking own) phase.Initialising (Notifies (notice.VersionEqual version)) e = refl
stays (Interlocking own) phase.Initialising (Notifies (notice.VersionDiffers version)) e = refl
stays (Interlocking own) phase.Initialising (Notifies notice.InitialisationRequest) e = refl
stays (Interlocking own) phase.Initialising (Notifies notice.StartInitialisation) e = refl
stays (Interlocking own) phase.Initialising (Notifies notice.InitialisationCompleted) e = refl
stays (Interlocking own) phase.Initialising ItemForm e = refl
stays (Interlocking own) phase.Initialising OtherPayload e = refl
stays (Interlocking own) phase.Established (Notifies (notice.VersionCheck version)) e = refl
stays (Interlocking own) phase.Established (Notifies (notice.VersionEqual version)) e = refl
stays (Interlocking own) phase.Established (Notifies (notice.VersionDiffers version)) e = refl
stays (Interlocking own) phase.Established (Notifies notice.InitialisationRequest) e = refl
stays (Interlocking own) phase.Established (Notifies notice.StartInitialisation) e = refl
stays (Interlocking own) phase.Established (Notifies notice.InitialisationCompleted) e = refl
stays (Interlocking own) phase.Established ItemForm e = refl
stays (Interlocking own) phase.Established OtherPayload e = refl
stays (Interlocking own) phase.Ended form e = none-of e
stays (Field versions checksum) phase.Idle form e = refl
stays (Field versions checksum) phase.Checking form e = refl
stays (Field versions checksum) phase.Requesting form e = refl
stays (Field versions checksum) phase.AwaitCheck (Notifies (notice.VersionCheck version)) e =
    check-row (list_any (λ v. v == version) versions) version versions
stays (Field versions checksum) phase.AwaitCheck (Notifies (notice.VersionEqual version)) e = refl
stays (Field versions checksum) phase.AwaitCheck (Notifies (notice.VersionDiffers version)) e = refl
stays (Field versions checksum) phase.AwaitCheck (Notifies notice.InitialisationRequest) e = refl
stays (Field versions checksum) phase.AwaitCheck (Notifies notice.StartInitialisation) e = refl
stays (Field versions checksum) phase.AwaitCheck (Notifies notice.InitialisationCompleted) e = refl
stays (Field versions checksum) phase.AwaitCheck ItemForm e = refl
stays (Field versions checksum) phase.AwaitCheck OtherPayload e = refl
stays (Field versions checksum) phase.AwaitRequest (Notifies (notice.VersionCheck version)) e = refl
stays (Field versions checksum) phase.AwaitRequest (Notifies (notice.VersionEqual version)) e = refl
stays (Field versions checksum) phase.AwaitRequest (Notifies (notice.VersionDiffers version)) e = refl
stays (Field versions checksum) phase.AwaitRequest (Notifies notice.InitialisationRequest) e = refl
stays (Field versions checksum) phase.AwaitRequest (Notifies notice.StartInitialisation) e = refl
stays (Field versions checksum) phase.AwaitRequest (Notifies notice.InitialisationCompleted) e = refl
stays (Field versions checksum) phase.AwaitRequest ItemForm e = refl
stays (Field versions checksum) phase.AwaitRequest OtherPayload e = refl
stays (Field versions checksum) phase.Refused form e = refl
stays (Field versions checksum) phase.Initialising form e = refl
stays (Field versions checksum) phase.Established (Notifies (notice.VersionCheck version)) e = refl
stays (Field versions checksum) phase.Established (Notifies (notice.VersionEqual version)) e = refl
stays (Field versions checksum) phase.Established (Notifies (notice.VersionDiffers version)) e = refl
stays (Field versions checksum) phase.Established (Notifies notice.InitialisationRequest) e = refl
stays (Field versions checksum) phase.Established (Notifies notice.StartInitialisation) e = refl
stays (Field versions checksum) phase.Established (Notifies notice.InitialisationCompleted) e = refl
stays (Field versions checksum) phase.Established ItemForm e = refl
stays (Field versions checksum) phase.Established OtherPayload e = refl
stays (Field versions checksum) phase.Ended form e = none-of e

-- a telegram is taken if and only if it leaves the phase as it was, unless it ends the session
addressed : (a : Bool) (role : Role) (p : Phase) (form : Form)
    → Stays p (if a then table role p form else Ends detail.NotOfThisPair)
addressed true role p form e = stays role p form e
addressed false role p form e = none-of e

pub stays-takes : (read : Result Tele TeleFault) (t : Tele) (s u : SessionState) (before p : Phase) (b : Bool)
    → read ≡ Ok t → u ≡ after (Arrives t) s
    → end_of (judge_telegram s t) ≡ None → before ≡ s.phase → p ≡ u.phase → b ≡ sameb the_type p before
    → b ≡ is_taken read s
stays-takes read t s u before p b coded left goes was now same =
    same
    ∙ (ap (λ q. sameb the_type p q) was
    ∙ (ap (λ q. sameb the_type q s.phase) (now ∙ ap (λ (w : SessionState). w.phase) left)
    ∙ (addressed (is_addressed s.addressing t) s.role s.phase (form_of t.kind t.payload) goes
    ∙ sym (ap (λ r. is_taken r s) coded))))

pub ends-taken : (read : Result Tele TeleFault) (t : Tele) (s : SessionState) (why : SessionDetail) → read ≡ Ok t
    → end_of (judge_telegram s t) ≡ Some why
    → false ≡ is_taken read s
ends-taken read t s why coded ends = ends-takes (judge_telegram s t) why ends ∙ sym (ap (λ r. is_taken r s) coded)
