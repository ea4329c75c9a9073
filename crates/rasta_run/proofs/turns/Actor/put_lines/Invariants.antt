-- As many lines were taken as there were iterations, and nothing else has changed.
use Rattle.std.proofs.Common.{◌≡◌, ◌≤◌, is_some}
use Rattle.rasta_run.specs.Actors.{OnlyPutsLines, with_input}
use Rattle.rasta_run.specs.InputLines.{input_of}
use Rattle.rasta_run.specs.TelegramPuts.{TakesLines}
use Rattle.rasta_run.proofs.turns.Actor.put_lines.Given as goal

abbrev pub invariant-lines : goal.invariant-lines
invariant-lines g l =
    record {
      time : l.self.end.time ≤ l.now;
      kept : OnlyPutsLines l.initial.self l.self;
      feed : (l.feed.reader ≡ l.initial.feed.reader) × (l.feed.ended ≡ l.initial.feed.ended);
      along :
          TakesLines (λ o. g.C.Channels.told o.inner) g.T.Application.refuses l.now (is_some l.initial.feed.ended)
          l.place (with_input l.initial.self l.initial.app (input_of l.initial.feed))
          (with_input l.self l.app (input_of l.feed));
    }
