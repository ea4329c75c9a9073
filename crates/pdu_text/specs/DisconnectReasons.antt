-- Why an end disconnected: the reason and detail of its DiscReq, and their meaning in words for operators.
use Rattle.std.specs.Prelude.{ℕ, nat_eq, List, [], ◌∷◌, codes, if◌then◌else◌}
use Rattle.std.specs.Fmt.{decimal}
use Rattle.safe_pdu.specs.declared.Leaving.{Leaving}
use Rattle.pdu_text.specs.Lines.{join_pieces}

-- the words for a detail of reason 4, a refusal by the session
abbrev pub session_words : ℕ → List ℕ
session_words detail =
    if nat_eq detail 1 then codes ": no common PDI version"
    else if nat_eq detail 2 then codes ": a telegram out of order"
    else if nat_eq detail 3 then codes ": a telegram with other names or another protocol type, or not a telegram"
    else codes ": the session is refused"

-- the words for a detail of reason 7, a protocol error
abbrev pub protocol_words : ℕ → List ℕ
protocol_words detail =
    if nat_eq detail 1 then codes ": the limit of PDUs in one connection is reached"
    else if nat_eq detail 2 then codes ": a malformed unit"
    else if nat_eq detail 3 then codes ": a confirmed number that no unconfirmed PDU has"
    else if nat_eq detail 4 then codes ": a confirmed timestamp that is not of this time"
    else codes ": a protocol error"

-- the words for a reason and its detail; none for an unknown reason
abbrev pub leaving_words : ℕ → ℕ → List ℕ
leaving_words reason detail =
    if nat_eq reason 0 then codes ": closed by its user"
    else if nat_eq reason 1 then codes ": a PDU that is not allowed in this state"
    else if nat_eq reason 2 then codes ": a sequence error while connecting"
    else if nat_eq reason 3 then codes ": nothing recent was confirmed within T_max"
    else if nat_eq reason 4 then session_words detail
    else if nat_eq reason 5 then codes ": another version of RaSTA"
    else if nat_eq reason 6 then codes ": the requested PDUs cannot be resent"
    else if nat_eq reason 7 then protocol_words detail
    else []

-- a front that says who disconnected, reason and detail in decimal, and their words
unfoldable pub leaving_text : List ℕ → Leaving → List ℕ
leaving_text front l =
    join_pieces (front ∷ codes "reason " ∷ decimal l.reason ∷ codes " detail " ∷ decimal l.detail ∷
    leaving_words l.reason l.detail ∷ [])
