use Rattle.red_layer.proofs.AcceptedParts.{arrival_law, parts_law}
use Rattle.red_layer.proofs.Order.{service_law}
use Rattle.red_layer.proofs.MaskingLaw.{masking_law, missing_law}
use Rattle.red_layer.proofs.Origins.{bounded_law, origin_law, one_more_law}
use Rattle.red_layer.proofs.law.order_law.Goals as goal

pub returns : goal.returns
returns c = record {
  arrivals = arrival_law;
  octets = parts_law;
  service = service_law;
  masking = masking_law;
  missing = missing_law;
  bounded = bounded_law;
  origin = origin_law;
  one_more = one_more_law;
}
