-- What each decision says about the state and the PDU.
use Rattle.safe_machine.proofs.Words.{◌≡◌, ℕ, List, [], ◌∷◌, Bool, true, false, Kind, RetrReq, ConnectionState, Start, Up}
use Rattle.safe_machine.proofs.Words.{Requesting, RetrRun, is_carrier_kind, after_pdu, is_answer, in_turn, is_connected, ◌+◌, ◌*◌, ◌<◌, ◌≤◌}
use Rattle.safe_machine.proofs.Words.{ConnReq, ConnResp, Closed, Down, Pdu, Decision, is_ours, cs_fits, cts_fits, distance, decide}
use Rattle.safe_machine.proofs.Words.{Leaves, Rejects, Accepts, Connects, Takes, Asks, Resumes, AnswersNext, AnswersEarly}
use Rattle.safe_machine.proofs.Words.{is_live, View, arith}
use Rattle.safe_machine.proofs.Words.{rules}
use Rattle.safe_machine.proofs.one.Lists.{room, needs_peer}

-- What starts a connection, what a PDU carries, and which states send.

-- A PDU that starts a connection leads up, and carries no unit.
abbrev pub StartsBy : ConnectionState → Kind → ConnectionState → Type 0
StartsBy connection kind to = connection ≡ Start → (to ≡ Up) × (is_carrier_kind kind ≡ false)

-- What a PDU that is not a RetrResp adds to the units carried.
pub carries-unit : (kind : Kind) (body : List ℕ) → is_carrier_kind kind ≡ true → after_pdu kind body [] ≡ body ∷ []
carries-unit kind body e = grind arith

pub carries-none : (kind : Kind) (body : List ℕ) → is_carrier_kind kind ≡ false → after_pdu kind body [] ≡ []
carries-none kind body e = grind arith

pub in_turn-room : (connection : ConnectionState) → in_turn connection ≡ true → (room connection ≡ 0)
    × (is_connected connection ≡ true)
in_turn-room connection e = grind arith

-- What each decision says about the state and the PDU.

-- The states in which the table decides.
abbrev pub listens : ConnectionState → Bool → Bool
listens Start false = true
listens Start true = false
listens Up client = true
listens Requesting client = true
listens RetrRun client = true
listens Closed client = false
listens Down client = false

-- Both confirmation tests have passed.
pub record Tested (v : View) (p : Pdu) (now : ℕ) : Type 0 where
  pub cs : cs_fits v p ≡ true
  pub cts : cts_fits v p now ≡ true

-- The table has decided.
pub record ByTable (v : View) (p : Pdu) : Type 0 where
  pub listens_now : listens v.connection v.settings.client ≡ true
  pub near : distance v p ≤ 10 * v.settings.n_sendmax

pub record TakeFits (v : View) (p : Pdu) (now : ℕ) (to : ConnectionState) : Type 0 where
  pub table : ByTable v p
  pub next : distance v p ≡ 0
  pub quiet : room v.connection ≡ 0
  pub connected : is_connected to ≡ true
  pub plain : is_answer p.kind ≡ 0
  pub needs : needs_peer p.kind ≡ 1
  pub starts : StartsBy v.connection p.kind to
  pub passed : Tested v p now

pub record AskFits (v : View) (p : Pdu) : Type 0 where
  pub table : ByTable v p
  pub quiet : room v.connection ≡ 0
  pub needs : needs_peer p.kind ≡ 1
  pub connected : is_connected v.connection ≡ true

pub record ResumeFits (v : View) (p : Pdu) (now : ℕ) : Type 0 where
  pub table : ByTable v p
  pub connected : is_connected v.connection ≡ true
  pub answer : is_answer p.kind ≡ 1
  pub needs : needs_peer p.kind ≡ 1
  pub passed : Tested v p now

pub record AnswerFits (v : View) (p : Pdu) : Type 0 where
  pub table : ByTable v p
  pub connected : is_connected v.connection ≡ true
  pub request : p.kind ≡ RetrReq
  pub new : v.answered < v.expected + distance v p
  pub cs : cs_fits v p ≡ true

abbrev pub Fits : View → Pdu → ℕ → Decision → Type 0
Fits v p now (Leaves reason detail) = is_live v.connection ≡ true
Fits v p now Rejects = (v.connection ≡ Down) × (p.kind ≡ ConnReq)
Fits v p now Accepts = (v.connection ≡ Down) × (p.kind ≡ ConnReq) × (is_ours p.body ≡ true)
Fits v p now Connects = (v.connection ≡ Start) × (v.settings.client ≡ true) × (p.kind ≡ ConnResp) × Tested v p now
Fits v p now (Takes to) = TakeFits v p now to
Fits v p now Asks = AskFits v p
Fits v p now Resumes = ResumeFits v p now
Fits v p now AnswersNext =
    AnswerFits v p × (distance v p ≡ 0) × (in_turn v.connection ≡ true) × (cts_fits v p now ≡ true)
Fits v p now AnswersEarly = AnswerFits v p
Fits v p now _ = Unit {0}

pub listens-live : (connection : ConnectionState) (client : Bool) → listens connection client ≡ true
    → is_live connection ≡ true
listens-live connection client h = grind arith

-- Every decision that is made fits.
pub decide-fits : (v : View) (p : Pdu) (now : ℕ) → Fits v p now (decide v p now)
decide-fits v p now = search rules
