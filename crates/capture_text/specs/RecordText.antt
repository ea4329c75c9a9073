-- The line of a datagram.
use Rattle.std.specs.Prelude.{ℕ, List, [], ◌∷◌, ◌++◌, codes}
use Rattle.std.specs.Fmt.{decimal}
use Rattle.red_layer.specs.declared.pdu.RedFault.{RedFault}
use Rattle.red_layer.specs.pdu.FaultNames.{red_name, red_number}
use Rattle.safe_pdu.specs.declared.SafeFault.{SafeFault}
use Rattle.safe_pdu.specs.Names.{kind_name, safe_name, safe_number}
use Rattle.capture.specs.declared.direction.Remarks.{Remarks}
use Rattle.capture.specs.declared.follower.Remark.{Remark}
use Rattle.capture.specs.declared.follower.Remark.TheVariants.{Pdu, NoRed, NoSafe}
use Rattle.capture.specs.declared.datagram.Header.{Header}
use Rattle.capture.specs.declared.line.Record.{Record}
use Rattle.pdu_text.specs.Lines.{join_pieces}
use Rattle.capture_text.specs.declared.summary.Scale.{Scale}
use Rattle.capture_text.specs.declared.pieces.Clock.{Clock}
use Rattle.capture_text.specs.Pieces.{address_text, channel_text, ends_text, since_text}
use Rattle.capture_text.specs.RemarkText.{remarks_text}

-- The time of a datagram, and its line in the capture.
unfoldable pub head_text : Clock → ℕ → Record → List ℕ
head_text clock line r = join_pieces (since_text clock r.time ∷ codes " line " ∷ decimal line ∷ codes " " ∷ [])

-- The redundancy number, type and header fields of a PDU.
unfoldable pub fields_text : ℕ → Header → List ℕ
fields_text seq h =
    join_pieces
    (codes " red " ∷ decimal seq ∷ codes " " ∷ kind_name h.kind ∷ codes " sn " ∷ decimal h.sn ∷ codes " cs " ∷
    decimal h.cs
    ∷ codes " ts " ∷ decimal h.ts ∷ codes " cts " ∷ decimal h.cts ∷ [])

-- A PDU: ends, channel, fields, remarks.
unfoldable pub pdu_text : ℕ → ℕ → Header → Remarks → List ℕ
pdu_text t_max seq h m =
    join_pieces (ends_text h.sender h.receiver ∷ channel_text m.route ∷ fields_text seq h ∷ remarks_text t_max m ∷ [])

-- The addresses of a datagram that is not a PDU.
unfoldable pub way_text : Record → List ℕ
way_text r = join_pieces (address_text r.source ∷ codes "->" ∷ address_text r.destination ∷ [])

-- LAYER fault NUMBER NAME
unfoldable pub fault_text : List ℕ → ℕ → List ℕ → List ℕ
fault_text layer number name =
    join_pieces (codes " " ∷ layer ∷ codes " fault " ∷ decimal number ∷ codes " " ∷ name ∷ [])

-- The fault of a safety PDU.
abbrev pub safe_fault_text : SafeFault → List ℕ
safe_fault_text fault = fault_text (codes "safe") (safe_number fault) (safe_name fault)

-- The fault of a redundancy PDU.
abbrev pub red_fault_text : RedFault → List ℕ
red_fault_text fault = fault_text (codes "red") (red_number fault) (red_name fault)

-- A redundancy number.
unfoldable pub number_text : ℕ → List ℕ
number_text seq = join_pieces (codes " red " ∷ decimal seq ∷ [])

-- A datagram whose part is not a safety PDU.
unfoldable pub no_safe_text : Record → ℕ → SafeFault → List ℕ
no_safe_text r seq fault = way_text r ++ number_text seq ++ safe_fault_text fault

-- A datagram that is not a redundancy PDU.
unfoldable pub no_red_text : Record → RedFault → List ℕ
no_red_text r fault = way_text r ++ red_fault_text fault

-- A datagram, by its remark.
abbrev pub remark_text : ℕ → Record → Remark → List ℕ
remark_text t_max r (Pdu seq h m) = pdu_text t_max seq h m
remark_text t_max r (NoSafe seq fault) = no_safe_text r seq fault
remark_text t_max r (NoRed fault) = no_red_text r fault

-- The whole line of a datagram.
unfoldable pub record_text : Scale → ℕ → Record → Remark → List ℕ
record_text s line r m = join_pieces (head_text s.clock line r ∷ remark_text s.t_max r m ∷ codes "\n" ∷ [])
