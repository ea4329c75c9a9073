use Rattle.std.proofs.Common.{ap, refl, subst, ◌∙◌}
use Rattle.stack_end.specs.EndValue.{channels_of, inside}
use Rattle.stack_end.specs.Reopening.{reopening_turn}
use Rattle.end_for_callers.specs.Boxes.{clear_outgoing, DatagramQueue, Posted, OutboxValue, told_in}
use Rattle.end_for_callers.proofs.Deliveries.{folds-roomless, posted}
use Rattle.end_for_callers.proofs.station.Station.reopen.Goals as goal

pub returns-clause-does : goal.returns-clause-does
returns-clause-does c =
    let xs = (reopening_turn c.args.first_sn c.args.now (inside c.self.inside.end)).sent in
    let after = channels_of c.reopen.new.self in
    rw (← c.self.view_is)
    record {
      left = c.reopen.ensures.turns.left;
      called = c.reopen.ensures.time;
      datagrams = subst (λ (o : DatagramQueue). Posted o xs after.out) (c.clear.ensures
          ∙ ap (λ (p : OutboxValue). clear_outgoing p.out) c.channels.ensures.now)
          (posted c.clear.new.self.out xs after.out
          (folds-roomless xs (told_in c.clear.new.self) (told_in after) c.reopen.ensures.turns.sent));
      inbox = c.forget_loss.ensures;
      time = refl;
      reserve = refl;
      openings = rw (c.next-openings.ensures, c.statistics.ensures, c.departure.ensures) refl;
    }
