use Rattle.safe_machine.proofs.Words.{[], ◌∙◌}
use Rattle.safe_machine.proofs.code.Reach.{reached-legal, reached-room}
use Rattle.safe_machine.proofs.one.Kept.{own-legal}
use Rattle.safe_machine.proofs.one.TurnSteps.{opening_law_holds}
use Rattle.safe_machine.proofs.machine.Machine.reopen.Goals as goal

pub reopen-requires-clause-room : goal.reopen-requires-clause-room
reopen-requires-clause-room g c = reached-room c.self.inside.end c.self.invariant

pub reopen-requires-clause-body : goal.reopen-requires-clause-body
reopen-requires-clause-body g c =
    (own-legal c.self.inside.end.settings (reached-legal c.self.inside.end c.self.invariant)).window

pub invariant_of-self : goal.invariant_of-self
invariant_of-self g c =
    let settings = c.self.inside.end.settings in
    record {
      settings = settings;
      first = c.args.first_sn;
      began = c.args.now;
      moves = [];
      legal = reached-legal c.self.inside.end c.self.invariant;
      read = tt;
      stands = c.reopen.ensures.left ∙ (opening_law_holds settings c.args.first_sn c.args.now).stands;
    }
