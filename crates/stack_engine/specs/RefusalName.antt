-- The printed name of each refusal of an event.
use Rattle.std.specs.Prelude.{codes, List, ℕ}
use Rattle.stack_engine.specs.declared.ApplyFault.{ApplyFault}
use Rattle.stack_engine.specs.declared.ApplyFault.TheVariants as refusal
use Rattle.pdi_session.specs.FaultNames.{init_fault_name, put_fault_name}

-- the name of the refusal; a refusal by the session has the name of its fault
abbrev pub refusal_name : ApplyFault → List ℕ
refusal_name refusal.Memory = codes "Memory"
refusal_name refusal.EndNotOpen = codes "EndNotOpen"
refusal_name refusal.BadConfig = codes "BadConfig"
refusal_name refusal.Clock = codes "Clock"
refusal_name (refusal.Put fault) = put_fault_name fault
refusal_name (refusal.Init fault) = init_fault_name fault
