-- The telegrams of a datagram.
use Rattle.std.specs.Prelude.{ℕ, List, [], Result, Ok, Err}
use Rattle.red_layer.specs.declared.pdu.RedFault.{RedFault}
use Rattle.red_layer.specs.pdu.RedText.{red_seen}
use Rattle.safe_pdu.specs.declared.CodeRule.{CodeRule}
use Rattle.safe_pdu.specs.declared.SafeFault.{SafeFault}
use Rattle.safe_pdu.specs.Pdu.{Pdu}
use Rattle.safe_pdu.specs.Places.{safe_seen}
use Rattle.pdu_text.specs.MessageText.{unit_lines}

-- The lines of the telegrams in a safety PDU.
abbrev pub body_lines : Result Pdu SafeFault → List ℕ
body_lines (Ok p) = unit_lines p.kind p.body
body_lines (Err fault) = []

-- The lines of the telegrams in a redundancy PDU.
abbrev pub upper_lines : CodeRule → Result (ℕ × List ℕ) RedFault → List ℕ
upper_lines rule (Ok p) = body_lines (safe_seen rule p.1)
upper_lines rule (Err fault) = []

-- The lines of a datagram's telegrams, as `show` prints them; nothing if it is not a PDU.
abbrev pub telegram_lines : CodeRule → List ℕ → List ℕ
telegram_lines rule octets = upper_lines rule (red_seen octets)
