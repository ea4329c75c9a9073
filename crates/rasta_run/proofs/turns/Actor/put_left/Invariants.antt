-- The end's time has not changed; the telegrams at first are those done with, one for each iteration, and those left.
use Rattle.std.proofs.Common.{◌≡◌, ◌≤◌, ◌++◌, List, length}
use Rattle.std.specs.List.{FoldsTo}
use Rattle.settings_file.specs.declared.values.PutEntry.{PutEntry}
use Rattle.rasta_run.specs.Actors.{OnlyPuts}
use Rattle.rasta_run.specs.TelegramPuts.{PutsTelegram}
use Rattle.rasta_run.proofs.turns.Actor.put_left.Given as goal

abbrev pub invariant-puts : goal.invariant-puts
invariant-puts g l =
    record {
      time : l.self.end.time ≤ l.now;
      kept : OnlyPuts l.initial.self l.self;
      along :
          (done : List PutEntry) × (length done ≡ l.counter) × (l.initial.self.left.now ≡ done ++ l.self.left.now)
          × FoldsTo (PutsTelegram (λ o. g.C.Channels.told o.inner) g.T.Application.refuses l.now)
          (l.initial.self.end, l.initial.self.put, l.initial.app, l.initial.self.refused_entries) done
          (l.self.end, l.self.put, l.app, l.self.refused_entries);
    }
