-- So many steps were made, in each of which the writer took something, and nothing was lost.
use Rattle.std.proofs.Common.{◌≤◌, length, take, drop}
use Rattle.std.specs.Io.KnownBytes.{Appends}
use Rattle.rasta_run.specs.Backlogs.{PassesManyTimes}
use Rattle.rasta_run.proofs.backlog.pass_all.Given as goal

abbrev pub invariant-writes : goal.invariant-writes
invariant-writes g l =
    record {
      goes : PassesManyTimes g.W.Write.contents g.G.Gate.asks l.stream l.counter
          (record { writer = l.initial.writer; octets = l.octets; gate = l.initial.gate })
          (record { writer = l.writer; octets = drop l.gone l.octets; gate = l.gate });
      whole : Appends (g.W.Write.contents l.initial.writer) (g.W.Write.contents l.writer) (take l.gone l.octets);
      bound : l.gone ≤ length l.octets;
    }
