-- A whole capture, datagram by datagram.
use Rattle.std.specs.Prelude.{ℕ, ◌==◌, ◌&&◌, Bool, List, fold, length, slice_index_or, Option, Some, None, is_none, if◌then◌else◌}
use Rattle.safe_pdu.specs.declared.SafeFault.{SafeFault}
use Rattle.safe_pdu.specs.declared.SafeFault.TheVariants as fault
use Rattle.capture.specs.declared.datagram.DecodedDatagram.{DecodedDatagram}
use Rattle.capture.specs.declared.datagram.DecodedDatagram.TheVariants as heard
use Rattle.capture.specs.declared.line.Record.{Record}
use Rattle.capture.specs.declared.connections.Connection.{Connection}
use Rattle.capture.specs.declared.connections.TheConstants.{CONNECTIONS}
use Rattle.capture.specs.declared.datagram.Header.{Header}
use Rattle.capture.specs.declared.follower.Remark.{Remark}
use Rattle.capture.specs.declared.follower.Remark.TheVariants as remark
use Rattle.capture.specs.declared.follower.Totals.{Totals}
use Rattle.capture.specs.declared.window.Window.{Window}
use Rattle.capture.specs.Numbers.{limited_sum}
use Rattle.capture.specs.Connections.{count_damaged_datagram, forgotten_place, connection_place, new_connection, step, step_remarks}

-- What is remarkable in a datagram.
abbrev pub remark_of : List Connection → ℕ → Record → DecodedDatagram → Remark
remark_of cs line r (heard.Pdu seq h) = remark.Pdu seq h (step_remarks cs line r seq h)
remark_of cs line r (heard.NoSafe seq fault) = remark.NoSafe seq fault
remark_of cs line r (heard.NoRed fault) = remark.NoRed fault

-- The connections after a datagram; one that is not a PDU is counted on its channel.
abbrev pub connections_after : List Connection → ℕ → Record → DecodedDatagram → List Connection
connections_after cs line r (heard.Pdu seq h) = step cs line r seq h
connections_after cs line r (heard.NoSafe seq fault) =
    count_damaged_datagram cs r (Some (record { number = seq; line = line }))
connections_after cs line r (heard.NoRed fault) = count_damaged_datagram cs r None

-- How many datagrams were damaged, after this one.
abbrev pub damaged_count_after : ℕ → DecodedDatagram → ℕ
damaged_count_after damaged (heard.Pdu seq h) = damaged
damaged_count_after damaged (heard.NoSafe seq fault) = limited_sum damaged 1
damaged_count_after damaged (heard.NoRed fault) = limited_sum damaged 1

-- How many datagrams have another safety code, after one with this fault, as long as none has the right one. One that
-- is too short for the code counts; a wrong length says nothing of the code; any other fault is found behind a right
-- code.
abbrev pub miscoded_count_with : Option ℕ → SafeFault → Option ℕ
miscoded_count_with None why = None
miscoded_count_with (Some miscoded) fault.Code = Some (limited_sum miscoded 1)
miscoded_count_with (Some miscoded) fault.Short = Some (limited_sum miscoded 1)
miscoded_count_with (Some miscoded) fault.Length = Some miscoded
miscoded_count_with (Some miscoded) fault.BadType = None
miscoded_count_with (Some miscoded) fault.Body = None

-- How many datagrams have another safety code, after this one. One without redundancy PDU is not RaSTA's.
abbrev pub miscoded_count_after : Option ℕ → DecodedDatagram → Option ℕ
miscoded_count_after miscoded (heard.Pdu seq h) = None
miscoded_count_after miscoded (heard.NoSafe seq why) = miscoded_count_with miscoded why
miscoded_count_after miscoded (heard.NoRed why) = miscoded

-- The PDU needs a further connection and there is no room: one is forgotten.
abbrev pub forgets_connection : List Connection → Record → Header → Bool
forgets_connection cs r h = (length cs == CONNECTIONS) && is_none (connection_place h r cs)

-- How many connections were forgotten, after a PDU.
abbrev pub forgotten_count_with : ℕ → List Connection → Record → Header → ℕ
forgotten_count_with forgotten cs r h = if forgets_connection cs r h then limited_sum forgotten 1 else forgotten

-- How many connections were forgotten, after a datagram.
abbrev pub forgotten_count_after : ℕ → List Connection → Record → DecodedDatagram → ℕ
forgotten_count_after forgotten cs r (heard.Pdu seq h) = forgotten_count_with forgotten cs r h
forgotten_count_after forgotten cs r (heard.NoSafe seq fault) = forgotten
forgotten_count_after forgotten cs r (heard.NoRed fault) = forgotten

-- Sums of nothing.
abbrev pub no_totals : Totals
no_totals = record { heard = 0; missing = 0; late = 0; repeats = 0; differing = 0; stale = 0 }

-- The sums with the counts of one more window.
abbrev pub add_window_counts : Totals → Window → Totals
add_window_counts t w =
    record {
      heard = limited_sum t.heard w.heard;
      missing = limited_sum t.missing w.missing;
      late = limited_sum t.late w.late;
      repeats = limited_sum t.repeats w.repeats;
      differing = limited_sum t.differing w.differing;
      stale = limited_sum t.stale w.stale;
    }

-- The sums with both directions of one more connection.
abbrev pub add_connection_counts : Totals → Connection → Totals
add_connection_counts t c = add_window_counts (add_window_counts t c.from_low.together) c.from_high.together

-- The sums over the forgotten connections, after a PDU.
abbrev pub forgotten_totals_with : Totals → List Connection → Record → Header → Totals
forgotten_totals_with gone cs r h = if forgets_connection cs r h
    then add_connection_counts gone (slice_index_or cs (forgotten_place cs) (new_connection 0 0)) else gone

-- The sums over the forgotten connections, after a datagram.
abbrev pub forgotten_totals_after : Totals → List Connection → Record → DecodedDatagram → Totals
forgotten_totals_after gone cs r (heard.Pdu seq h) = forgotten_totals_with gone cs r h
forgotten_totals_after gone cs r (heard.NoSafe seq fault) = gone
forgotten_totals_after gone cs r (heard.NoRed fault) = gone

-- The sums over all connections; `gone` has those of the forgotten ones.
abbrev pub totals_of : Totals → List Connection → Totals
totals_of gone cs = fold add_connection_counts gone cs
