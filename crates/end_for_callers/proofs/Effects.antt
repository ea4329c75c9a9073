-- What a machine does with a PDU, by its effects.
use Rattle.std.proofs.Common.{◌≡◌, ℕ, ◌+◌, ◌*◌, Bool, true, false, Option, Some, None, List, length, refl, arith}
use Rattle.std.specs.Prelude.{◌==◌, nat_le, nat_lt, ◌&&◌, Result, Ok, Err}
use Rattle.octets.proofs.Choices.{by_cond}
use Rattle.octets.specs.declared.limits.TheConstants.{SAFE_FRONT_MAX, SAFE_HEADER, REACH}
use Rattle.safe_pdu.specs.Bodies.{IsBody, is_body}
use Rattle.safe_pdu.specs.Pdu.{Pdu}
use Rattle.safe_pdu.specs.Places.{body_of, has_code, kind_of, length_field, read_kind, safe_seen, type_field}
use Rattle.safe_pdu.specs.SafeText.{code_octets}
use Rattle.safe_pdu.specs.declared.CodeRule.{CodeRule}
use Rattle.safe_pdu.specs.declared.Kind.{Kind}
use Rattle.safe_pdu.specs.declared.Kind.TheVariants.{ConnReq, ConnResp, Data, Heartbeat, RetrData, RetrReq, RetrResp}
use Rattle.safe_pdu.specs.declared.SafeFault.{SafeFault}
use Rattle.safe_pdu.specs.declared.SafeFault.TheVariants.{BadType, Body, Code, Length, Short}
use Rattle.safe_pdu.specs.declared.reasons.Detail.{Detail}
use Rattle.safe_pdu.specs.declared.reasons.Detail.TheVariants.{ConfirmedNumber, ConfirmedTimestamp, Unspecified}
use Rattle.safe_pdu.specs.declared.reasons.Reason.{Reason}
use Rattle.safe_pdu.specs.declared.reasons.Reason.TheVariants.{ProtocolError, RetransmissionImpossible, SequenceError, UnexpectedPdu, WrongVersion}
use Rattle.safe_machine.specs.Connections.{in_turn, is_closed}
use Rattle.safe_machine.specs.Decision.{decide_request, as_client, by_cell, by_connection, by_table, cs_fits, cs_step, cts_fits, distance, in_down, is_foreign}
use Rattle.safe_machine.specs.Decision.{is_goodbye, is_ours, decide_by_tests}
use Rattle.safe_machine.specs.Table.{cell, request_row, run_row, start_row, up_row}
use Rattle.safe_machine.specs.Turns.{Turn as MachineTurn, answer_early_turn, answer_next_turn, request_turn, decision_turn, leave_turn, response_turn, still, acceptance_turn, connection_turn}
use Rattle.safe_machine.specs.Turns.{moved_to, rejection_turn, resume, take_next_turn}
use Rattle.safe_machine.specs.View.{View}
use Rattle.safe_machine.specs.declared.ConnectionState.{ConnectionState}
use Rattle.safe_machine.specs.declared.ConnectionState.TheVariants.{Closed, Down, RetrReq as Requesting, RetrRun, Start, Up}

-- What holds of each of its effects holds of what a machine does with a PDU.

pub record Effects (P : MachineTurn → Type 0) (p : Pdu) (now : ℕ) (v : View) : Type 0 where
  pub stays : P (still v)
  pub leaves : (reason : Reason) (detail : Detail) → P (leave_turn reason detail now v)
  pub shuts : P (moved_to Closed (still v))
  pub rejects : P (rejection_turn p now v)
  pub accepts : p.kind ≡ ConnReq → P (acceptance_turn p now v)
  pub connects : p.kind ≡ ConnResp → P (connection_turn p now v)
  pub takes : (connection : ConnectionState) → P (take_next_turn connection p now v)
  pub asks : P (request_turn now v)
  pub resumes : P (still (resume p v))
  pub next : P (answer_next_turn p now v)
  pub early : P (answer_early_turn p now v)

module _ (P : MachineTurn → Type 0) (p : Pdu) (now : ℕ) (v : View) (h : Effects P p now v) where
  tested-has : (d : _) → P (decision_turn p now d v) → P (decision_turn p now (decide_by_tests v p now d) v)
  tested-has d k =
      by_cond (λ e. P (decision_turn p now e v)) (cs_fits v p) _ _
      (λ _. by_cond (λ e. P (decision_turn p now e v)) (cts_fits v p now) _ _ (λ _. k)
      (λ _. h.leaves ProtocolError ConfirmedTimestamp))
      (λ _. h.leaves ProtocolError ConfirmedNumber)

  down-has : (k : Kind) → p.kind ≡ k → P (decision_turn p now (in_down p k) v)
  down-has ConnReq e =
      by_cond (λ d. P (decision_turn p now d v)) (is_ours p.body) _ _ (λ _. h.accepts e) (λ _. h.rejects)
  down-has _ e = h.stays

  client-has : (k : Kind) → p.kind ≡ k → P (decision_turn p now (as_client v p now k) v)
  client-has ConnResp e =
      by_cond (λ d. P (decision_turn p now d v)) (is_ours p.body) _ _ (λ _. tested-has _ (h.connects e))
      (λ _. h.leaves WrongVersion Unspecified)
  client-has _ e = h.leaves UnexpectedPdu Unspecified

  answering-has : (d : ℕ) → P (decision_turn p now (decide_request v p now d) v)
  answering-has d =
      by_cond (λ e. P (decision_turn p now e v)) (nat_le (v.expected + d) v.answered) _ _ (λ _. h.stays)
      (λ _. by_cond (λ e. P (decision_turn p now e v)) (cs_fits v p) _ _
      (λ _. by_cond (λ e. P (decision_turn p now e v)) ((d == 0) && in_turn v.connection) _ _
      (λ _. by_cond (λ e. P (decision_turn p now e v)) (cts_fits v p now) _ _ (λ _. h.next)
      (λ _. h.leaves ProtocolError ConfirmedTimestamp))
      (λ _. h.early))
      (λ _. by_cond (λ e. P (decision_turn p now e v)) (nat_le 0x8000_0000 (cs_step v p)) _ _ (λ _. h.stays)
      (λ _. h.leaves RetransmissionImpossible Unspecified)))

  start-has : (d : ℕ) (next : Bool) (k : Kind) → P (decision_turn p now (by_cell v p now d (start_row next k)) v)
  start-has d true Heartbeat = tested-has _ (h.takes Up)
  start-has d false Heartbeat = h.leaves SequenceError Unspecified
  start-has d false Data = h.leaves SequenceError Unspecified
  start-has d _ _ = h.leaves UnexpectedPdu Unspecified

  up-has : (d : ℕ) (next : Bool) (k : Kind) → P (decision_turn p now (by_cell v p now d (up_row next k)) v)
  up-has d true Heartbeat = tested-has _ (h.takes Up)
  up-has d true Data = tested-has _ (h.takes Up)
  up-has d false Heartbeat = h.asks
  up-has d false Data = h.asks
  up-has d _ RetrReq = answering-has d
  up-has d _ _ = h.leaves UnexpectedPdu Unspecified

  run-has : (d : ℕ) (next : Bool) (k : Kind) → P (decision_turn p now (by_cell v p now d (run_row next k)) v)
  run-has d true Heartbeat = tested-has _ (h.takes Up)
  run-has d true Data = tested-has _ (h.takes Up)
  run-has d true RetrData = tested-has _ (h.takes RetrRun)
  run-has d false Heartbeat = h.asks
  run-has d false Data = h.asks
  run-has d false RetrData = h.asks
  run-has d _ RetrReq = answering-has d
  run-has d _ _ = h.leaves UnexpectedPdu Unspecified

  request-has : (d : ℕ) (k : Kind) → P (decision_turn p now (by_cell v p now d (request_row k)) v)
  request-has d Heartbeat = h.stays
  request-has d Data = h.stays
  request-has d RetrData = h.stays
  request-has d RetrReq = answering-has d
  request-has d RetrResp = tested-has _ h.resumes
  request-has d _ = h.leaves UnexpectedPdu Unspecified

  cell-has : (d : ℕ) (c : ConnectionState) (next : Bool) (k : Kind)
      → P (decision_turn p now (by_cell v p now d (cell c next k)) v)
  cell-has d Start next k = start-has d next k
  cell-has d Up next k = up-has d next k
  cell-has d RetrRun next k = run-has d next k
  cell-has d Requesting next k = request-has d k
  cell-has d _ next k = h.stays

  table-has : (d : ℕ) → P (decision_turn p now (by_table v p now d) v)
  table-has d =
      by_cond (λ e. P (decision_turn p now e v)) (nat_le d (REACH * v.settings.n_sendmax)) _ _
      (λ _. cell-has d v.connection (d == 0) p.kind) (λ _. h.stays)

  connection-has : (c : ConnectionState) → P (decision_turn p now (by_connection v p now c) v)
  connection-has Closed = h.stays
  connection-has Down = down-has p.kind refl
  connection-has Start =
      by_cond (λ d. P (decision_turn p now d v)) (is_goodbye p.kind) _ _ (λ _. h.shuts)
      (λ _. by_cond (λ d. P (decision_turn p now d v)) v.settings.client _ _ (λ _. client-has p.kind refl)
      (λ _. table-has (distance v p)))
  connection-has _ =
      by_cond (λ d. P (decision_turn p now d v)) (is_goodbye p.kind) _ _ (λ _. h.shuts) (λ _. table-has (distance v p))

  pub responds-has : P (response_turn p now v)
  responds-has =
      by_cond (λ d. P (decision_turn p now d v)) (is_closed v.connection) _ _ (λ _. h.stays)
      (λ _. by_cond (λ d. P (decision_turn p now d v)) (is_foreign v.settings p) _ _ (λ _. h.stays)
      (λ _. connection-has v.connection))

-- the PDU, if it was read, has a body that fits it
abbrev pub Fitting : Result Pdu SafeFault → Type 0
Fitting read = (p : Pdu) → read ≡ Ok p → IsBody p.kind p.body

fault-fits : (fault : SafeFault) → Fitting (Err fault)
fault-fits fault p e = grind arith

kind-fits : (kind : Option Kind) (rule : CodeRule) (octets : List ℕ) → Fitting (read_kind kind rule octets)
kind-fits None rule octets = fault-fits BadType
kind-fits (Some kind) rule octets =
    by_cond Fitting (is_body kind (body_of rule octets)) _ _ (λ fits p e. grind (arith, fits, e)) (λ _. fault-fits Body)

pub read-body : (rule : CodeRule) (octets : List ℕ) → Fitting (safe_seen rule octets)
read-body rule octets =
    by_cond Fitting (nat_lt (length octets) (SAFE_HEADER + code_octets rule.length)) _ _ (λ _. fault-fits Short)
    (λ _. by_cond Fitting (nat_lt (SAFE_FRONT_MAX + code_octets rule.length) (length octets)) _ _
    (λ _. fault-fits Length)
    (λ _. by_cond Fitting (length_field octets == length octets) _ _
    (λ _. by_cond Fitting (has_code rule octets) _ _ (λ _. kind-fits (kind_of (type_field octets)) rule octets)
    (λ _. fault-fits Code))
    (λ _. fault-fits Length)))
