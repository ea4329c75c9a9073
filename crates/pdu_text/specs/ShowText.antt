-- The text that `show` prints for a datagram.
use Rattle.std.specs.Prelude.{ℕ, Bool, false, List, [], ◌∷◌, ◌++◌, length, codes, Result, Ok, Err}
use Rattle.std.specs.Fmt.{decimal}
use Rattle.red_layer.specs.declared.pdu.RedFault.{RedFault}
use Rattle.red_layer.specs.pdu.FaultNames.{red_name, red_number}
use Rattle.red_layer.specs.pdu.RedText.{red_seen}
use Rattle.safe_pdu.specs.declared.CodeRule.{CodeRule}
use Rattle.safe_pdu.specs.declared.Kind.{Kind}
use Rattle.safe_pdu.specs.declared.Kind.TheVariants.{ConnReq, ConnResp, DiscReq}
use Rattle.safe_pdu.specs.declared.SafeFault.{SafeFault}
use Rattle.safe_pdu.specs.Pdu.{Pdu}
use Rattle.safe_pdu.specs.Names.{kind_name, safe_name, safe_number}
use Rattle.safe_pdu.specs.Bodies.{version_of, window_of, detail_of, reason_of}
use Rattle.safe_pdu.specs.Places.{safe_seen}
use Rattle.pdu_text.specs.Lines.{fault_line, join_pieces}
use Rattle.pdu_text.specs.MessageText.{unit_lines, is_clean_body}

-- red length N seq N
abbrev pub red_line : ℕ → ℕ → List ℕ
red_line size seq = join_pieces (codes "red length " ∷ decimal size ∷ codes " seq " ∷ decimal seq ∷ codes "\n" ∷ [])

-- the PDU type and the header fields of a safety PDU
abbrev pub fields_text : Pdu → List ℕ
fields_text p =
    join_pieces
    (kind_name p.kind ∷ codes " receiver " ∷ decimal p.receiver ∷ codes " sender " ∷ decimal p.sender ∷ codes " sn " ∷
    decimal p.sn
    ∷ codes " cs " ∷ decimal p.cs ∷ codes " ts " ∷ decimal p.ts ∷ codes " cts " ∷ decimal p.cts ∷ [])

-- the content of the body of a ConnReq or ConnResp: version and N_sendmax
abbrev pub opening_text : List ℕ → List ℕ
opening_text body =
    join_pieces (codes " version " ∷ version_of body ∷ codes " nsendmax " ∷ decimal (window_of body) ∷ [])

-- the content of the body of a DiscReq: detail and reason
abbrev pub leaving_text : List ℕ → List ℕ
leaving_text body =
    join_pieces (codes " detail " ∷ decimal (detail_of body) ∷ codes " reason " ∷ decimal (reason_of body) ∷ [])

-- the content of a body, on the line of its PDU; empty for the other PDU types
abbrev pub body_text : Kind → List ℕ → List ℕ
body_text ConnReq body = opening_text body
body_text ConnResp body = opening_text body
body_text DiscReq body = leaving_text body
body_text _ body = []

-- the line of a safety PDU
abbrev pub safe_line : Pdu → List ℕ
safe_line p = join_pieces (fields_text p ∷ body_text p.kind p.body ∷ codes "\n" ∷ [])

-- the lines of a decoded safety PDU, or of its fault
abbrev pub upper_text : Result Pdu SafeFault → List ℕ
upper_text (Ok p) = safe_line p ++ unit_lines p.kind p.body
upper_text (Err f) = fault_line (codes "safe") (safe_number f) (safe_name f)

-- the lines of a decoded redundancy PDU, or of its fault
abbrev pub datagram_text : CodeRule → ℕ → Result (ℕ × List ℕ) RedFault → List ℕ
datagram_text rule size (Ok p) = red_line size p.0 ++ upper_text (safe_seen rule p.1)
datagram_text rule size (Err f) = fault_line (codes "red") (red_number f) (red_name f)

-- the text of a datagram
abbrev pub show_text : CodeRule → List ℕ → List ℕ
show_text rule octets = datagram_text rule (length octets) (red_seen octets)

-- no line of the safety PDU names a fault
abbrev pub is_clean_upper : Result Pdu SafeFault → Bool
is_clean_upper (Ok p) = is_clean_body p.kind p.body
is_clean_upper (Err f) = false

-- no line of the redundancy PDU names a fault
abbrev pub is_clean_datagram : CodeRule → Result (ℕ × List ℕ) RedFault → Bool
is_clean_datagram rule (Ok p) = is_clean_upper (safe_seen rule p.1)
is_clean_datagram rule (Err f) = false

-- no line of the text names a fault
abbrev pub is_clean : CodeRule → List ℕ → Bool
is_clean rule octets = is_clean_datagram rule (red_seen octets)
