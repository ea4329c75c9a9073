-- The datagrams that an end sends: each PDU made, under its index, on every channel in order.
use Rattle.std.specs.Prelude.{ℕ, zero, suc, ◌+◌, List, [], ◌∷◌, ◌++◌}
use Rattle.red_layer.specs.pdu.RedText.{red_text}
use Rattle.safe_pdu.specs.declared.CodeRule.{CodeRule}
use Rattle.safe_pdu.specs.SafeText.{safe_text}
use Rattle.safe_machine.specs.Made.{Made}
use Rattle.channels.specs.ChannelHistory.{SentDatagram}
use Rattle.end_settings.specs.EndSettings.{EndSettings, rule_of}
use Rattle.stack_end.specs.Ends.{EndState}

-- these bytes on channels 1 to n, in order
abbrev pub on_channels : ℕ → List ℕ → List SentDatagram
on_channels zero octets = []
on_channels (suc n) octets = on_channels n octets ++ (suc n, octets) ∷ []

-- the bytes of a PDU, as the payload of its datagram
abbrev pub upper_of : CodeRule → Made → List ℕ
upper_of rule m = safe_text rule m.pdu

-- the datagrams of PDUs, the first of which has this index
abbrev pub sendings : EndSettings → ℕ → List Made → List SentDatagram
sendings s index [] = []
sendings s index (m ∷ ms) =
    on_channels s.channels (red_text index (upper_of (rule_of s) m)) ++ sendings s (index + 1) ms

-- the datagrams that an end sends when it is opened
abbrev pub sent_at_opening : EndState → List SentDatagram
sent_at_opening x = sendings x.settings 0 x.machine.made
