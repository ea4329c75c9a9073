use Rattle.std.proofs.Common.{rules, refl, length}
use Rattle.end_for_callers.proofs.Pieces.{push-keeps, push-view}
use Rattle.end_for_callers.proofs.queue.Queue.push.Goals as goal

pub invariant_of-self : goal.invariant_of-self
invariant_of-self g c =
    push-keeps c.self.inside.heads c.self.inside.octets (record { tag = c.args.tag; size = length c.args.piece.now })
    c.fill_from_slice-all.result c.args.piece.now
    c.try_push_back.new.self c.fill_from_slice-all.new.self
    (record {
      kept = c.self.invariant;
      head = rw c.unwrap.ensures at c.try_push_back.ensures.ok;
      piece = c.fill_from_slice-all.ensures.items;
      all = search rules;
      size = refl;
      place = search rules;
      room = search rules;
    })

pub returns-clause-pushed : goal.returns-clause-pushed
returns-clause-pushed g c =
    rw (← c.self.view_is)
    (push-view c.self.inside.heads c.self.inside.octets (record { tag = c.args.tag; size = length c.args.piece.now })
    c.fill_from_slice-all.result c.args.piece.now
    c.try_push_back.new.self c.fill_from_slice-all.new.self
    (record {
      kept = c.self.invariant;
      head = rw c.unwrap.ensures at c.try_push_back.ensures.ok;
      piece = c.fill_from_slice-all.ensures.items;
      all = search rules;
      size = refl;
      place = search rules;
      room = search rules;
    }))
