use Rattle.std.proofs.Common.{ap, arith}
use Rattle.end_for_callers.proofs.Shares.{spent-least}
use Rattle.end_for_callers.proofs.outbox.OutboxChannels.send.Goals as goal
use Rattle.end_for_callers.specs.Boxes.{sum_of_shares}

pub total-rest-requires : goal.total-rest-requires
total-rest-requires c =
    record {
      small = omega (
        arith,
        spent-least c.args.channel c.self.inside.shares,
        ap sum_of_shares c.spent_on-shares.ensures,
        c.self.invariant.0,
        c.places-places.ensures,
        c.places-places.type_inv,
      );
    }
