use Rattle.stack_engine.proofs.rows.Instances.{instances}
use Rattle.stack_engine.proofs.rows.LossInstances.{loss-instances}
use Rattle.stack_engine.proofs.rows.GenuineRow as genuine_row
use Rattle.stack_engine.proofs.rows.FaithfulRow as faithful_row
use Rattle.stack_engine.proofs.rows.FarRow as far_row
use Rattle.stack_engine.proofs.rows.RoughRow as rough_row
use Rattle.stack_engine.proofs.law.instance_law.Goals as goal

pub returns : goal.returns
returns c =
    record {
      instances = instances;
      loss = loss-instances;
      premises =
          record {
            genuine = (genuine_row.events, genuine_row.instance);
            rough = (rough_row.events, rough_row.instance);
            faithful = (faithful_row.events, faithful_row.instance);
            far = (far_row.events, far_row.instance);
          };
    }
