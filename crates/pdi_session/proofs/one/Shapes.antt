-- The form of a session's queue and of its judged telegrams in each phase.
use Rattle.std.proofs.Common.{◌≡◌, ◌≢◌, ◌⊎◌, ℕ, ◌+◌, ◌≤◌, ◌==◌, true, cond, None, List, [], ◌∷◌, ◌++◌, length, arith, inl, inr}
use Rattle.std.specs.List.{AllByRecursion}
use Rattle.pdi_session.specs.telegram.Tele.{Tele}
use Rattle.pdi_session.specs.declared.TheConstants.{INITIALISATION_COMPLETED}
use Rattle.pdi_session.specs.declared.Phase.{Phase}
use Rattle.pdi_session.specs.declared.Phase.TheVariants.{Idle, Checking, Requesting, AwaitCheck, AwaitRequest, Refused, Initialising, Established, Ended}
use Rattle.pdi_session.specs.declared.Notice.TheVariants as notice
use Rattle.pdi_session.specs.declared.Form.TheVariants.{Notifies}
use Rattle.pdi_session.specs.Telegrams.{form_of, is_addressed}
use Rattle.pdi_session.specs.SessionStep.{SessionState, notice_tele, with_agreed, with_phase}
use Rattle.pdi_session.specs.Laws.{IsItem, IsStatus, completions}
use Rattle.pdi_session.proofs.one.TableLemmas.{by_cond}

-- a session without its phase and its agreement
abbrev pub base : SessionState → SessionState
base s = with_phase Idle (with_agreed None s)

-- the telegrams of an interlocking of this version
abbrev pub check_from : ℕ → SessionState → Tele
check_from version s = notice_tele s (notice.VersionCheck version)

abbrev pub request_from : SessionState → Tele
request_from s = notice_tele s notice.InitialisationRequest

-- it has judged this reply first
pub record Told (version : ℕ) (judged : List Tele) : Type 0 where
  pub first : Tele
  pub others : List Tele
  pub is : judged ≡ first ∷ others
  pub says : form_of first.kind first.payload ≡ Notifies (notice.VersionEqual version)

-- it has sent its request and then commands; there are commands only after the end of the initialisation
pub record Asked (version : ℕ) (s : SessionState) (queue judged : List Tele) : Type 0 where
  pub commands : List Tele
  pub is : queue ≡ check_from version s ∷ request_from s ∷ commands
  pub each : AllByRecursion (IsItem s) commands
  pub told : Told version judged
  pub late : commands ≢ [] → (2 ≤ length judged) × (1 ≤ completions judged)

-- in any phase
abbrev pub IlPast : ℕ → SessionState → List Tele → List Tele → Type 0
IlPast version s queue judged = (queue ≡ []) ⊎ ((queue ≡ check_from version s ∷ []) ⊎ Asked version s queue judged)

pub record IlRequesting (version : ℕ) (s : SessionState) (queue judged : List Tele) : Type 0 where
  pub asked : Asked version s queue judged
  pub none : asked.commands ≡ []
  pub one : length judged ≡ 1

pub record IlInitialising (version : ℕ) (s : SessionState) (queue judged : List Tele) : Type 0 where
  pub asked : Asked version s queue judged
  pub none : asked.commands ≡ []
  pub some : 2 ≤ length judged
  pub unfinished : completions judged ≡ 0

pub record IlEstablished (version : ℕ) (s : SessionState) (queue judged : List Tele) : Type 0 where
  pub asked : Asked version s queue judged
  pub some : 2 ≤ length judged
  pub done : completions judged ≡ 1

-- by the phase
abbrev pub IlAt : ℕ → SessionState → Phase → List Tele → List Tele → Type 0
IlAt version s Idle queue judged = (queue ≡ []) × (judged ≡ [])
IlAt version s Checking queue judged = (queue ≡ check_from version s ∷ []) × (judged ≡ [])
IlAt version s Requesting queue judged = IlRequesting version s queue judged
IlAt version s Initialising queue judged = IlInitialising version s queue judged
IlAt version s Established queue judged = IlEstablished version s queue judged
IlAt version s Ended queue judged = IlPast version s queue judged
IlAt version s phase queue judged = ⊥

-- the telegrams of a field element
abbrev pub equal_from : ℕ → SessionState → Tele
equal_from version s = notice_tele s (notice.VersionEqual version)

abbrev pub differs_from : ℕ → SessionState → Tele
differs_from version s = notice_tele s (notice.VersionDiffers version)

abbrev pub start_from : SessionState → Tele
start_from s = notice_tele s notice.StartInitialisation

-- it has judged this check first, from its peer
pub record Heard (version : ℕ) (s : SessionState) (judged : List Tele) : Type 0 where
  pub first : Tele
  pub others : List Tele
  pub is : judged ≡ first ∷ others
  pub says : form_of first.kind first.payload ≡ Notifies (notice.VersionCheck version)
  pub from : is_addressed s.addressing first ≡ true

pub record Refuses (s : SessionState) (queue judged : List Tele) : Type 0 where
  pub asked : ℕ
  pub version : ℕ
  pub is : queue ≡ differs_from version s ∷ []
  pub heard : Heard asked s judged

pub record Accepts (s : SessionState) (queue judged : List Tele) : Type 0 where
  pub version : ℕ
  pub is : queue ≡ equal_from version s ∷ []
  pub heard : Heard version s judged

pub record Starts (s : SessionState) (queue judged : List Tele) : Type 0 where
  pub version : ℕ
  pub status : List Tele
  pub is : queue ≡ equal_from version s ∷ start_from s ∷ status
  pub each : AllByRecursion (IsStatus s) status
  pub most : completions status ≤ 1
  pub heard : Heard version s judged

abbrev pub FePast : SessionState → List Tele → List Tele → Type 0
FePast s queue judged = (queue ≡ []) ⊎ (Refuses s queue judged ⊎ (Accepts s queue judged ⊎ Starts s queue judged))

pub record FeInitialising (s : SessionState) (queue judged : List Tele) : Type 0 where
  pub starts : Starts s queue judged
  pub unfinished : completions starts.status ≡ 0
  pub two : length judged ≡ 2

pub record FeEstablished (s : SessionState) (queue judged : List Tele) : Type 0 where
  pub starts : Starts s queue judged
  pub some : 2 ≤ length judged

abbrev pub FeAt : SessionState → Phase → List Tele → List Tele → Type 0
FeAt s Idle queue judged = (queue ≡ []) × (judged ≡ [])
FeAt s AwaitCheck queue judged = (queue ≡ []) × (judged ≡ [])
FeAt s AwaitRequest queue judged = Accepts s queue judged × (length judged ≡ 1)
FeAt s Refused queue judged = Refuses s queue judged × (length judged ≡ 1)
FeAt s Initialising queue judged = FeInitialising s queue judged
FeAt s Established queue judged = FeEstablished s queue judged
FeAt s Ended queue judged = FePast s queue judged
FeAt s phase queue judged = ⊥

-- the facts of a phase hold after any event
pub il_past : (version : ℕ) (s : SessionState) (phase : Phase) (queue judged : List Tele)
    → IlAt version s phase queue judged → IlPast version s queue judged
il_past version s Idle queue judged at = inl at.0
il_past version s Checking queue judged at = inr (inl at.0)
il_past version s Requesting queue judged at = inr (inr at.asked)
il_past version s AwaitCheck queue judged at = absurd at
il_past version s AwaitRequest queue judged at = absurd at
il_past version s Refused queue judged at = absurd at
il_past version s Initialising queue judged at = inr (inr at.asked)
il_past version s Established queue judged at = inr (inr at.asked)
il_past version s Ended queue judged at = at

pub fe_past : (s : SessionState) (phase : Phase) (queue judged : List Tele) → FeAt s phase queue judged
    → FePast s queue judged
fe_past s Idle queue judged at = inl at.0
fe_past s Checking queue judged at = absurd at
fe_past s Requesting queue judged at = absurd at
fe_past s AwaitCheck queue judged at = inl at.0
fe_past s AwaitRequest queue judged at = inr (inr (inl at.0))
fe_past s Refused queue judged at = inr (inl at.0)
fe_past s Initialising queue judged at = inr (inr (inr at.starts))
fe_past s Established queue judged at = inr (inr (inr at.starts))
fe_past s Ended queue judged at = at

pub completions-append : (xs ys : List Tele) → completions (xs ++ ys) ≡ completions xs + completions ys
completions-append [] ys = omega arith
completions-append (x ∷ xs) ys =
    let rest : completions (xs ++ ys) ≡ completions xs + completions ys = completions-append xs ys in
    by_cond (λ n. cond (x.kind == INITIALISATION_COMPLETED) (completions (xs ++ ys) + 1) (completions (xs ++ ys))
    ≡ n + completions ys) (x.kind == INITIALISATION_COMPLETED) _ _
    (λ is. rw is (omega (arith, rest))) (λ is. rw is rest)

pub All-append : {X : Type 0} (P : X → Type 0) (xs ys : List X) → AllByRecursion P xs → AllByRecursion P ys
    → AllByRecursion P (xs ++ ys)
All-append P [] ys a b = b
All-append P (x ∷ xs) ys a b = (a.0, All-append P xs ys a.1 b)

-- the telegram after a prefix has the property of all
pub All-next : {X : Type 0} (P : X → Type 0) (xs : List X) (x : X) (ys : List X) → AllByRecursion P (xs ++ x ∷ ys) → P x
All-next P [] x ys all = all.0
All-next P (z ∷ xs) x ys all = All-next P xs x ys all.1
