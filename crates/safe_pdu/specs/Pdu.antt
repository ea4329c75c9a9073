-- A safety PDU as its fields, without its safety code and its place in memory (safety and retransmission layer of DIN
-- VDE V 0831-200:2015).
use Rattle.std.specs.Prelude.{ℕ, List}
use Rattle.safe_pdu.specs.declared.Kind.{Kind}
use Rattle.safe_pdu.specs.declared.Kind.TheVariants.{ConnReq, ConnResp, RetrReq, RetrResp, DiscReq, Heartbeat, Data, RetrData}
use Rattle.safe_pdu.specs.declared.SafePdu.{SafePdu}

-- the fields of a safety PDU
pub record Pdu : Type 0 where
  -- PDU type
  pub kind : Kind
  -- identifiers of the end that receives it and of the end that made it
  pub receiver : ℕ
  pub sender : ℕ
  -- sequence number, and confirmed sequence number
  pub sn : ℕ
  pub cs : ℕ
  -- timestamp, and confirmed timestamp
  pub ts : ℕ
  pub cts : ℕ
  pub body : List ℕ

-- the fields of a decoded PDU
abbrev pub pdu_of : SafePdu → Pdu
pdu_of p =
    record {
      kind = p.kind;
      receiver = p.receiver;
      sender = p.sender;
      sn = p.sn;
      cs = p.cs;
      ts = p.ts;
      cts = p.cts;
      body = p.body.now;
    }

-- the number of a PDU type
abbrev pub kind_number : Kind → ℕ
kind_number ConnReq = 6200
kind_number ConnResp = 6201
kind_number RetrReq = 6212
kind_number RetrResp = 6213
kind_number DiscReq = 6216
kind_number Heartbeat = 6220
kind_number Data = 6240
kind_number RetrData = 6241
