use Rattle.station_pair.proofs.OneSession.{agreed}
use Rattle.station_pair.proofs.Promises.{promises}
use Rattle.station_pair.proofs.Refusals.{refused}
use Rattle.station_pair.proofs.Sessions.{carried}
use Rattle.station_pair.proofs.StepsKeep.{follows}
use Rattle.station_pair.proofs.law.station_law.Goals as goal

pub returns : goal.returns
returns c =
    let turns = c.end_law.ensures.turns in
    let all = follows turns in
    let pair = c.pair_law.ensures in
    let any = promises all c.end_law.ensures.tells pair.headline pair.settled pair.fresh in
    let network = carried turns c.order_law.ensures.origin in
    record {
      follows = all;
      promises = any;
      network = network;
      session = agreed any network;
      instances = refused;
    }
