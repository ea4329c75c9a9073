-- The PDUs that an end has made, and the units that they carry
-- (safety and retransmission layer of DIN VDE V 0831-200:2015).
use Rattle.std.specs.Prelude.{ℕ, Bool, true, false, List, [], ◌∷◌, ◌++◌}
use Rattle.byteorder.specs.Endian.{little_bytes}
use Rattle.safe_pdu.specs.declared.Kind.{Kind}
use Rattle.safe_pdu.specs.declared.Kind.TheVariants.{RetrReq, RetrResp, Data, RetrData}
use Rattle.safe_pdu.specs.Pdu.{Pdu}
use Rattle.safe_pdu.specs.declared.reasons.Reason.{Reason}
use Rattle.safe_pdu.specs.declared.reasons.Detail.{Detail}
use Rattle.safe_pdu.specs.LeavingNumbers.{reason_number, detail_number}

-- A PDU that an end made.
pub record Made : Type 0 where
  -- Its fields.
  pub pdu : Pdu
  -- The own time, in milliseconds.
  pub time : ℕ
  -- How many of the peer's PDUs the end had passed. The last of these is the basis of this PDU.
  pub behind : ℕ

-- The time of the last PDU made, or `time` if there is no PDU.
abbrev pub last_time : List Made → ℕ → ℕ
last_time [] time = time
last_time (m ∷ ms) time = last_time ms m.time

-- The version of this profile: "0303".
abbrev pub our_version : List ℕ
our_version = 0x30 ∷ 0x33 ∷ 0x30 ∷ 0x33 ∷ []

-- The body of a ConnReq or ConnResp: version, N_sendmax, eight zero bytes.
abbrev pub opening_body : ℕ → List ℕ
opening_body n = our_version ++ little_bytes 2 n ++ 0 ∷ 0 ∷ 0 ∷ 0 ∷ 0 ∷ 0 ∷ 0 ∷ 0 ∷ []

-- The body of a DiscReq: detail, reason.
abbrev pub leaving_body : Reason → Detail → List ℕ
leaving_body reason detail = little_bytes 2 (detail_number detail) ++ little_bytes 2 (reason_number reason)

-- Data and RetrData carry a unit.
abbrev pub is_carrier_kind : Kind → Bool
is_carrier_kind Data = true
is_carrier_kind RetrData = true
is_carrier_kind _ = false

-- The unit that a PDU sends for the first time.
abbrev pub first_sent : Kind → List ℕ → List (List ℕ)
first_sent Data body = body ∷ []
first_sent _ body = []

-- The units that an incarnation sent: the bodies of its Data, in order.
abbrev pub units : List Made → List (List ℕ)
units [] = []
units (m ∷ ms) = first_sent m.pdu.kind m.pdu.body ++ units ms

-- The units of a run after one more PDU: a RetrResp empties it, Data and RetrData append theirs.
abbrev pub after_pdu : Kind → List ℕ → List (List ℕ) → List (List ℕ)
after_pdu RetrResp body run = []
after_pdu Data body run = run ++ body ∷ []
after_pdu RetrData body run = run ++ body ∷ []
after_pdu _ body run = run

-- The units that PDUs carry after their last RetrResp. Without a RetrResp they follow `run`.
abbrev pub run_after : List (List ℕ) → List Made → List (List ℕ)
run_after run [] = run
run_after run (m ∷ ms) = run_after (after_pdu m.pdu.kind m.pdu.body run) ms

-- The run of a list of PDUs.
abbrev pub run_of : List Made → List (List ℕ)
run_of ms = run_after [] ms

-- 1 for a RetrReq, so that a sum counts them.
abbrev pub is_request : Kind → ℕ
is_request RetrReq = 1
is_request _ = 0

-- 1 for a RetrResp, so that a sum counts them.
abbrev pub is_answer : Kind → ℕ
is_answer RetrResp = 1
is_answer _ = 0
