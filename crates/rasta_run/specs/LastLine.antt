-- What the last line of the log says of an end.
use Rattle.std.specs.Prelude.{Option}
use Rattle.end_settings.specs.declared.Side.{Side}
use Rattle.pdu_text.specs.declared.causes.Cause.{Cause}
use Rattle.pdu_text.specs.declared.last_lines.FinalState.{FinalState}
use Rattle.rasta_run.specs.Counters.{accepted_count}
use Rattle.rasta_run.specs.LogEvents.{departure_of}
use Rattle.rasta_run.specs.Totals.{received_count}
use Rattle.rasta_run.specs.declared.counts.RunCounts.{RunCounts}
use Rattle.stack_end.specs.EndValue.{EndValue, inside}

-- the state and phase of an end, how it came to be closed, the datagrams that came in all its openings, the PDUs
-- accepted, and why the last datagram was dropped
abbrev pub ending_of : {C A : Type 0} → Side → EndValue C A → RunCounts → Option Cause → FinalState
ending_of side v counted last =
    record {
      state = (inside v).upper.machine.connection;
      phase = (inside v).upper.session.phase;
      departure = departure_of side (inside v).upper.request (inside v).upper.departed;
      came = received_count counted.sums.channels;
      taken = accepted_count counted;
      last = last;
    }
