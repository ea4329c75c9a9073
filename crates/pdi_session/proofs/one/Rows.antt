-- The laws of the tables, row by row.
use Rattle.std.proofs.Common.{◌≡◌, ℕ, ◌==◌, true, false, ◌&&◌, nat_le, List, [], ◌∷◌, length, refl, ap, ◌∙◌, subst}
use Rattle.std.proofs.lemmas.Bool.{eqb-true}
use Rattle.std.specs.List.{list_any}
use Rattle.pdi_session.specs.declared.TheConstants.{VERSION_CHECK, VERSION_ANSWER, INITIALISATION_REQUEST, START_INITIALISATION, INITIALISATION_COMPLETED, CHECKSUM_MAX, EQUAL, DIFFERENT}
use Rattle.pdi_session.specs.declared.Phase.{Phase}
use Rattle.pdi_session.specs.declared.Phase.TheVariants.{Idle, Checking, Requesting, AwaitCheck, AwaitRequest, Refused, Initialising, Established, Ended}
use Rattle.pdi_session.specs.declared.SessionDetail.{SessionDetail}
use Rattle.pdi_session.specs.declared.SessionDetail.TheVariants as detail
use Rattle.pdi_session.specs.declared.Notice.{Notice}
use Rattle.pdi_session.specs.declared.Notice.TheVariants as notice
use Rattle.pdi_session.specs.declared.Form.{Form}
use Rattle.pdi_session.specs.declared.Form.TheVariants.{Notifies, Item, OtherPayload}
use Rattle.pdi_session.specs.declared.Verdict.{Verdict}
use Rattle.pdi_session.specs.declared.Verdict.TheVariants.{Takes, Goes, Answers, Ends}
use Rattle.pdi_session.specs.Settings.{first_version}
use Rattle.pdi_session.specs.Telegrams.{form_of, is_reserved, check_form, answer_form, bare_form, kind_of}
use Rattle.pdi_session.specs.Tables.{interlocking_table, field_table}
use Rattle.pdi_session.proofs.one.TableLemmas.{by_cond}

-- the rows of the interlocking: the phase and the form of each verdict
pub data InterlockingRow (own : ℕ) (phase : Phase) (form : Form) (verdict : Verdict) : Type 0 where
  IlOver : (why : SessionDetail) → verdict ≡ Ends why → InterlockingRow own phase form verdict
  IlEqual : phase ≡ Checking → form ≡ Notifies (notice.VersionEqual own)
      → verdict ≡ Answers Requesting notice.InitialisationRequest → InterlockingRow own phase form verdict
  IlBegins : phase ≡ Requesting → form ≡ Notifies notice.StartInitialisation → verdict ≡ Goes Initialising
      → InterlockingRow own phase form verdict
  IlInitial : phase ≡ Initialising → form ≡ Item → verdict ≡ Takes → InterlockingRow own phase form verdict
  IlDone : phase ≡ Initialising → form ≡ Notifies notice.InitialisationCompleted → verdict ≡ Goes Established
      → InterlockingRow own phase form verdict
  IlStatus : phase ≡ Established → form ≡ Item → verdict ≡ Takes → InterlockingRow own phase form verdict

-- the rows of the field element
pub data FieldRow (versions : List ℕ) (phase : Phase) (form : Form) (verdict : Verdict) : Type 0 where
  FeOver : (why : SessionDetail) → verdict ≡ Ends why → FieldRow versions phase form verdict
  FeEqual : (version : ℕ) → phase ≡ AwaitCheck → form ≡ Notifies (notice.VersionCheck version)
      → verdict ≡ Answers AwaitRequest (notice.VersionEqual version) → FieldRow versions phase form verdict
  FeDiffers : (version : ℕ) → phase ≡ AwaitCheck → form ≡ Notifies (notice.VersionCheck version)
      → verdict ≡ Answers Refused (notice.VersionDiffers (first_version versions))
      → FieldRow versions phase form verdict
  FeAsked : phase ≡ AwaitRequest → form ≡ Notifies notice.InitialisationRequest
      → verdict ≡ Answers Initialising notice.StartInitialisation → FieldRow versions phase form verdict
  FeCommand : phase ≡ Established → form ≡ Item → verdict ≡ Takes → FieldRow versions phase form verdict

pub interlocking_row : (own : ℕ) (phase : Phase) (form : Form)
    → InterlockingRow own phase form (interlocking_table own phase form)
interlocking_row own Idle form = IlOver detail.OutOfOrder refl
interlocking_row own Checking (Notifies (notice.VersionCheck version)) = IlOver detail.OutOfOrder refl
interlocking_row own Checking (Notifies (notice.VersionEqual version)) =
    by_cond (InterlockingRow own Checking (Notifies (notice.VersionEqual version))) (version == own) _ _
    (λ e. IlEqual refl (ap (λ v. Notifies (notice.VersionEqual v)) (eqb-true version own e)) refl)
    (λ _. IlOver detail.OutOfOrder refl)
interlocking_row own Checking (Notifies (notice.VersionDiffers version)) = IlOver detail.VersionDiffers refl
interlocking_row own Checking (Notifies notice.InitialisationRequest) = IlOver detail.OutOfOrder refl
interlocking_row own Checking (Notifies notice.StartInitialisation) = IlOver detail.OutOfOrder refl
interlocking_row own Checking (Notifies notice.InitialisationCompleted) = IlOver detail.OutOfOrder refl
interlocking_row own Checking Item = IlOver detail.OutOfOrder refl
interlocking_row own Checking OtherPayload = IlOver detail.OutOfOrder refl
interlocking_row own Requesting (Notifies (notice.VersionCheck version)) = IlOver detail.OutOfOrder refl
interlocking_row own Requesting (Notifies (notice.VersionEqual version)) = IlOver detail.OutOfOrder refl
interlocking_row own Requesting (Notifies (notice.VersionDiffers version)) = IlOver detail.OutOfOrder refl
interlocking_row own Requesting (Notifies notice.InitialisationRequest) = IlOver detail.OutOfOrder refl
interlocking_row own Requesting (Notifies notice.StartInitialisation) = IlBegins refl refl refl
interlocking_row own Requesting (Notifies notice.InitialisationCompleted) = IlOver detail.OutOfOrder refl
interlocking_row own Requesting Item = IlOver detail.OutOfOrder refl
interlocking_row own Requesting OtherPayload = IlOver detail.OutOfOrder refl
interlocking_row own AwaitCheck form = IlOver detail.OutOfOrder refl
interlocking_row own AwaitRequest form = IlOver detail.OutOfOrder refl
interlocking_row own Refused form = IlOver detail.OutOfOrder refl
interlocking_row own Initialising (Notifies (notice.VersionCheck version)) = IlOver detail.OutOfOrder refl
interlocking_row own Initialising (Notifies (notice.VersionEqual version)) = IlOver detail.OutOfOrder refl
interlocking_row own Initialising (Notifies (notice.VersionDiffers version)) = IlOver detail.OutOfOrder refl
interlocking_row own Initialising (Notifies notice.InitialisationRequest) = IlOver detail.OutOfOrder refl
interlocking_row own Initialising (Notifies notice.StartInitialisation) = IlOver detail.OutOfOrder refl
interlocking_row own Initialising (Notifies notice.InitialisationCompleted) = IlDone refl refl refl
interlocking_row own Initialising Item = IlInitial refl refl refl
interlocking_row own Initialising OtherPayload = IlOver detail.OutOfOrder refl
interlocking_row own Established (Notifies (notice.VersionCheck version)) = IlOver detail.OutOfOrder refl
interlocking_row own Established (Notifies (notice.VersionEqual version)) = IlOver detail.OutOfOrder refl
interlocking_row own Established (Notifies (notice.VersionDiffers version)) = IlOver detail.OutOfOrder refl
interlocking_row own Established (Notifies notice.InitialisationRequest) = IlOver detail.OutOfOrder refl
interlocking_row own Established (Notifies notice.StartInitialisation) = IlOver detail.OutOfOrder refl
interlocking_row own Established (Notifies notice.InitialisationCompleted) = IlOver detail.OutOfOrder refl
interlocking_row own Established Item = IlStatus refl refl refl
interlocking_row own Established OtherPayload = IlOver detail.OutOfOrder refl
interlocking_row own Ended form = IlOver detail.OutOfOrder refl

pub field_row : (versions : List ℕ) (phase : Phase) (form : Form)
    → FieldRow versions phase form (field_table versions phase form)
field_row versions Idle form = FeOver detail.OutOfOrder refl
field_row versions Checking form = FeOver detail.OutOfOrder refl
field_row versions Requesting form = FeOver detail.OutOfOrder refl
field_row versions AwaitCheck (Notifies (notice.VersionCheck version)) =
    by_cond (FieldRow versions AwaitCheck (Notifies (notice.VersionCheck version)))
    (list_any (λ v. v == version) versions) _ _ (λ _. FeEqual version refl refl refl)
    (λ _. FeDiffers version refl refl refl)
field_row versions AwaitCheck (Notifies (notice.VersionEqual version)) = FeOver detail.OutOfOrder refl
field_row versions AwaitCheck (Notifies (notice.VersionDiffers version)) = FeOver detail.OutOfOrder refl
field_row versions AwaitCheck (Notifies notice.InitialisationRequest) = FeOver detail.OutOfOrder refl
field_row versions AwaitCheck (Notifies notice.StartInitialisation) = FeOver detail.OutOfOrder refl
field_row versions AwaitCheck (Notifies notice.InitialisationCompleted) = FeOver detail.OutOfOrder refl
field_row versions AwaitCheck Item = FeOver detail.OutOfOrder refl
field_row versions AwaitCheck OtherPayload = FeOver detail.OutOfOrder refl
field_row versions AwaitRequest (Notifies (notice.VersionCheck version)) = FeOver detail.OutOfOrder refl
field_row versions AwaitRequest (Notifies (notice.VersionEqual version)) = FeOver detail.OutOfOrder refl
field_row versions AwaitRequest (Notifies (notice.VersionDiffers version)) = FeOver detail.OutOfOrder refl
field_row versions AwaitRequest (Notifies notice.InitialisationRequest) = FeAsked refl refl refl
field_row versions AwaitRequest (Notifies notice.StartInitialisation) = FeOver detail.OutOfOrder refl
field_row versions AwaitRequest (Notifies notice.InitialisationCompleted) = FeOver detail.OutOfOrder refl
field_row versions AwaitRequest Item = FeOver detail.OutOfOrder refl
field_row versions AwaitRequest OtherPayload = FeOver detail.OutOfOrder refl
field_row versions Refused form = FeOver detail.OutOfOrder refl
field_row versions Initialising form = FeOver detail.OutOfOrder refl
field_row versions Established (Notifies (notice.VersionCheck version)) = FeOver detail.OutOfOrder refl
field_row versions Established (Notifies (notice.VersionEqual version)) = FeOver detail.OutOfOrder refl
field_row versions Established (Notifies (notice.VersionDiffers version)) = FeOver detail.OutOfOrder refl
field_row versions Established (Notifies notice.InitialisationRequest) = FeOver detail.OutOfOrder refl
field_row versions Established (Notifies notice.StartInitialisation) = FeOver detail.OutOfOrder refl
field_row versions Established (Notifies notice.InitialisationCompleted) = FeOver detail.OutOfOrder refl
field_row versions Established Item = FeCommand refl refl refl
field_row versions Established OtherPayload = FeOver detail.OutOfOrder refl
field_row versions Ended form = FeOver detail.OutOfOrder refl

-- the message type, by the form
abbrev pub FormKind : ℕ → Form → Type 0
FormKind kind (Notifies n) = kind ≡ kind_of n
FormKind kind Item = is_reserved kind ≡ false
FormKind kind OtherPayload = is_reserved kind ≡ true

check_kind : (payload : List ℕ) → FormKind VERSION_CHECK (check_form payload)
check_kind [] = refl
check_kind (version ∷ []) = refl
check_kind (version ∷ octet ∷ payload) = refl

answer_kind : (payload : List ℕ) → FormKind VERSION_ANSWER (answer_form payload)
answer_kind [] = refl
answer_kind (result ∷ []) = refl
answer_kind (result ∷ version ∷ []) = refl
answer_kind (result ∷ version ∷ size ∷ checksum) =
    by_cond (FormKind VERSION_ANSWER) (nat_le size CHECKSUM_MAX && length checksum == size) _ _
    (λ _. by_cond (FormKind VERSION_ANSWER) (result == EQUAL) _ _ (λ _. refl)
    (λ _. by_cond (FormKind VERSION_ANSWER) (result == DIFFERENT) _ _ (λ _. refl) (λ _. refl)))
    (λ _. refl)

bare_kind : (n : Notice) (payload : List ℕ) → is_reserved (kind_of n) ≡ true
    → FormKind (kind_of n) (bare_form n payload)
bare_kind n [] is = refl
bare_kind n (octet ∷ payload) is = is

pub form_kind : (kind : ℕ) (payload : List ℕ) → FormKind kind (form_of kind payload)
form_kind kind payload =
    by_cond (FormKind kind) (kind == VERSION_CHECK) _ _ (λ e. rw (eqb-true kind VERSION_CHECK e) (check_kind payload))
    (λ a.
    by_cond (FormKind kind) (kind == VERSION_ANSWER) _ _
    (λ e. rw (eqb-true kind VERSION_ANSWER e) (answer_kind payload)) (λ b.
    by_cond (FormKind kind) (kind == INITIALISATION_REQUEST) _ _
    (λ e. rw (eqb-true kind INITIALISATION_REQUEST e) (bare_kind notice.InitialisationRequest payload refl)) (λ c.
    by_cond (FormKind kind) (kind == START_INITIALISATION) _ _
    (λ e. rw (eqb-true kind START_INITIALISATION e) (bare_kind notice.StartInitialisation payload refl)) (λ d.
    by_cond (FormKind kind) (kind == INITIALISATION_COMPLETED) _ _
    (λ e. rw (eqb-true kind INITIALISATION_COMPLETED e) (bare_kind notice.InitialisationCompleted payload refl))
    (λ e.
    rw (a, b, c, d, e) refl)))))

pub reserved_notice : (n : Notice) → is_reserved (kind_of n) ≡ true
reserved_notice (notice.VersionCheck version) = refl
reserved_notice (notice.VersionEqual version) = refl
reserved_notice (notice.VersionDiffers version) = refl
reserved_notice notice.InitialisationRequest = refl
reserved_notice notice.StartInitialisation = refl
reserved_notice notice.InitialisationCompleted = refl

-- a telegram with a notice has a message type of the establishment
pub reserved_of : (kind : ℕ) (payload : List ℕ) (n : Notice) → form_of kind payload ≡ Notifies n
    → is_reserved kind ≡ true
reserved_of kind payload n e = ap is_reserved (subst (FormKind kind) e (form_kind kind payload)) ∙ reserved_notice n

-- a command or status does not
pub item_of_form : (kind : ℕ) (payload : List ℕ) → form_of kind payload ≡ Item → is_reserved kind ≡ false
item_of_form kind payload e = subst (FormKind kind) e (form_kind kind payload)
