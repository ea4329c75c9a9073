use Rattle.safe_machine.proofs.two.Freshness.{fresh_law_holds, fresh_at_last_law_holds, unit_law_holds, loss_law_holds, joined_law_holds, one_more_law_holds}
use Rattle.safe_machine.proofs.order.OrderLaw.{order_law_holds, stays_law_holds}
use Rattle.safe_machine.proofs.one.Kept.{moves_law_holds, settings_law_holds, identified_law_holds, strangers_law_holds, waits_law_holds, connections_law_holds}
use Rattle.safe_machine.proofs.one.Kept.{texts_law_holds, requests_law_holds}
use Rattle.safe_machine.proofs.one.Carriers.{reached_law_holds}
use Rattle.safe_machine.proofs.code.Reach.{few_law_holds}
use Rattle.safe_machine.proofs.one.Runs.{ring_of-units}
use Rattle.safe_machine.proofs.code.Properties.{recent_law_holds}
use Rattle.safe_machine.proofs.one.Ahead.{made_law_holds}
use Rattle.safe_machine.proofs.one.TurnSteps.{octets_law_holds, opening_law_holds, tells_law_holds, turns_law_holds}
use Rattle.safe_machine.proofs.law.unit_law.Goals as goal

pub returns : goal.returns
returns c = record {
  beginnings = unit_law_holds;
  joined = joined_law_holds;
  nothing_lost = loss_law_holds;
  fresh = fresh_law_holds;
  fresh_at_last = fresh_at_last_law_holds;
  moves = moves_law_holds;
  settings = settings_law_holds;
  strangers = strangers_law_holds;
  waits = waits_law_holds;
  connections = connections_law_holds;
  requests = requests_law_holds;
  identified = identified_law_holds;
  reached = reached_law_holds;
  ring = ring_of-units;
  texts = texts_law_holds;
  few = few_law_holds;
  turns = turns_law_holds;
  made = made_law_holds;
  octets = octets_law_holds;
  recent = recent_law_holds;
  openings = opening_law_holds;
  tells = tells_law_holds;
  in_order = order_law_holds;
  stays = stays_law_holds;
  one_more = one_more_law_holds;
}
