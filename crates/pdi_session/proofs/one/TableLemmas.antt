-- Laws of the tables.
use Rattle.std.proofs.Common.{◌≡◌, ℕ, ◌+◌, ◌≤◌, ◌==◌, Bool, true, false, cond, List, ◌++◌, length, refl, arith}
use Rattle.std.proofs.lemmas.List.{length-append}
use Rattle.std.specs.List.{list_any}
use Rattle.octets.specs.declared.limits.TheConstants.{WAITING_MAX}
use Rattle.pdi_session.specs.telegram.Tele.{Tele}
use Rattle.pdi_session.specs.declared.Phase.{Phase}
use Rattle.pdi_session.specs.declared.Phase.TheVariants.{Idle, Checking, Requesting, AwaitCheck, AwaitRequest, Refused, Initialising, Established, Ended}
use Rattle.pdi_session.specs.declared.Notice.TheVariants as notice
use Rattle.pdi_session.specs.declared.Form.{Form}
use Rattle.pdi_session.specs.declared.Form.TheVariants.{Notifies, Item, OtherPayload}
use Rattle.pdi_session.specs.declared.Verdict.{Verdict}
use Rattle.pdi_session.specs.declared.Verdict.TheVariants.{Takes, Goes, Answers, Ends}
use Rattle.pdi_session.specs.Settings.{Role, Interlocking, Field}
use Rattle.pdi_session.specs.Telegrams.{form_of, is_addressed}
use Rattle.pdi_session.specs.Tables.{table, interlocking_table, field_table}
use Rattle.pdi_session.specs.SessionStep.{SessionState, FewWait, judge_telegram, most_waiting, phase_by, sent_by, texts, with_phase}

-- a choice by a test has what both ways have
pub by_cond : {A : Type 0} (P : A → Type 0) (b : Bool) (x y : A) → (b ≡ true → P x) → (b ≡ false → P y) → P (cond b x y)
by_cond P true x y p q = p refl
by_cond P false x y p q = q refl

-- how many telegrams a verdict sends
abbrev pub sends : Verdict → ℕ
sends (Answers next n) = 1
sends verdict = 0

-- the bound on waiting messages and what is sent are within the bound of the next phase
abbrev pub Fits : Phase → Verdict → Type 0
Fits phase verdict = most_waiting phase + sends verdict ≤ most_waiting (phase_by phase verdict)

most : (phase : Phase) → most_waiting phase + 0 ≤ WAITING_MAX
most Idle = omega arith
most Checking = omega arith
most Requesting = omega arith
most AwaitCheck = omega arith
most AwaitRequest = omega arith
most Refused = omega arith
most Initialising = omega arith
most Established = omega arith
most Ended = omega arith

pub interlocking_fits : (own : ℕ) (phase : Phase) (form : Form) → Fits phase (interlocking_table own phase form)
interlocking_fits own Idle form = most Idle
interlocking_fits own Checking (Notifies (notice.VersionCheck version)) = most Checking
interlocking_fits own Checking (Notifies (notice.VersionEqual version)) =
    by_cond (Fits Checking) (version == own) _ _ (λ _. omega arith) (λ _. most Checking)
interlocking_fits own Checking (Notifies (notice.VersionDiffers version)) = most Checking
interlocking_fits own Checking (Notifies notice.InitialisationRequest) = most Checking
interlocking_fits own Checking (Notifies notice.StartInitialisation) = most Checking
interlocking_fits own Checking (Notifies notice.InitialisationCompleted) = most Checking
interlocking_fits own Checking Item = most Checking
interlocking_fits own Checking OtherPayload = most Checking
interlocking_fits own Requesting (Notifies (notice.VersionCheck version)) = most Requesting
interlocking_fits own Requesting (Notifies (notice.VersionEqual version)) = most Requesting
interlocking_fits own Requesting (Notifies (notice.VersionDiffers version)) = most Requesting
interlocking_fits own Requesting (Notifies notice.InitialisationRequest) = most Requesting
interlocking_fits own Requesting (Notifies notice.StartInitialisation) = omega arith
interlocking_fits own Requesting (Notifies notice.InitialisationCompleted) = most Requesting
interlocking_fits own Requesting Item = most Requesting
interlocking_fits own Requesting OtherPayload = most Requesting
interlocking_fits own AwaitCheck form = most AwaitCheck
interlocking_fits own AwaitRequest form = most AwaitRequest
interlocking_fits own Refused form = most Refused
interlocking_fits own Initialising (Notifies (notice.VersionCheck version)) = most Initialising
interlocking_fits own Initialising (Notifies (notice.VersionEqual version)) = most Initialising
interlocking_fits own Initialising (Notifies (notice.VersionDiffers version)) = most Initialising
interlocking_fits own Initialising (Notifies notice.InitialisationRequest) = most Initialising
interlocking_fits own Initialising (Notifies notice.StartInitialisation) = most Initialising
interlocking_fits own Initialising (Notifies notice.InitialisationCompleted) = most Initialising
interlocking_fits own Initialising Item = most Initialising
interlocking_fits own Initialising OtherPayload = most Initialising
interlocking_fits own Established (Notifies n) = most Established
interlocking_fits own Established Item = most Established
interlocking_fits own Established OtherPayload = most Established
interlocking_fits own Ended form = most Ended

pub field_fits : (versions : List ℕ) (phase : Phase) (form : Form) → Fits phase (field_table versions phase form)
field_fits versions Idle form = most Idle
field_fits versions Checking form = most Checking
field_fits versions Requesting form = most Requesting
field_fits versions AwaitCheck (Notifies (notice.VersionCheck version)) =
    by_cond (Fits AwaitCheck) (list_any (λ v. v == version) versions) _ _ (λ _. omega arith) (λ _. omega arith)
field_fits versions AwaitCheck (Notifies (notice.VersionEqual version)) = most AwaitCheck
field_fits versions AwaitCheck (Notifies (notice.VersionDiffers version)) = most AwaitCheck
field_fits versions AwaitCheck (Notifies notice.InitialisationRequest) = most AwaitCheck
field_fits versions AwaitCheck (Notifies notice.StartInitialisation) = most AwaitCheck
field_fits versions AwaitCheck (Notifies notice.InitialisationCompleted) = most AwaitCheck
field_fits versions AwaitCheck Item = most AwaitCheck
field_fits versions AwaitCheck OtherPayload = most AwaitCheck
field_fits versions AwaitRequest (Notifies (notice.VersionCheck version)) = most AwaitRequest
field_fits versions AwaitRequest (Notifies (notice.VersionEqual version)) = most AwaitRequest
field_fits versions AwaitRequest (Notifies (notice.VersionDiffers version)) = most AwaitRequest
field_fits versions AwaitRequest (Notifies notice.InitialisationRequest) = omega arith
field_fits versions AwaitRequest (Notifies notice.StartInitialisation) = most AwaitRequest
field_fits versions AwaitRequest (Notifies notice.InitialisationCompleted) = most AwaitRequest
field_fits versions AwaitRequest Item = most AwaitRequest
field_fits versions AwaitRequest OtherPayload = most AwaitRequest
field_fits versions Refused form = most Refused
field_fits versions Initialising form = most Initialising
field_fits versions Established (Notifies n) = most Established
field_fits versions Established Item = most Established
field_fits versions Established OtherPayload = most Established
field_fits versions Ended form = most Ended

table_fits : (role : Role) (phase : Phase) (form : Form) → Fits phase (table role phase form)
table_fits (Interlocking version) phase form = interlocking_fits version phase form
table_fits (Field versions checksum) phase form = field_fits versions phase form

-- so it is for any decision on a telegram
pub judged_fits : (s : SessionState) (t : Tele) → Fits s.phase (judge_telegram s t)
judged_fits s t = by_cond (Fits s.phase) (is_addressed s.addressing t) _ _
    (λ _. table_fits s.role s.phase (form_of t.kind t.payload)) (λ _. most s.phase)

length-sent : (s : SessionState) (verdict : Verdict) → length (texts (sent_by s verdict)) ≡ sends verdict
length-sent s Takes = refl
length-sent s (Goes next) = refl
length-sent s (Answers next n) = refl
length-sent s (Ends why) = refl

-- and the bound on waiting messages still holds
pub few_judged : (s : SessionState) (t : Tele) (waiting : List (List ℕ)) → FewWait s waiting
    → FewWait (with_phase (phase_by s.phase (judge_telegram s t)) s) (waiting ++ texts (sent_by s (judge_telegram s t)))
few_judged s t waiting few =
    omega (
      arith,
      few,
      judged_fits s t,
      length-sent s (judge_telegram s t),
      length-append waiting (texts (sent_by s (judge_telegram s t))),
    )
