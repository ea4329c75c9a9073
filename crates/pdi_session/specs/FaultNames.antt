-- The names of the refusals, for output.
use Rattle.std.specs.Prelude.{ℕ, List, codes}
use Rattle.pdi_session.specs.declared.PutFault.{PutFault}
use Rattle.pdi_session.specs.declared.PutFault.TheVariants as put_fault
use Rattle.pdi_session.specs.declared.InitFault.{InitFault}
use Rattle.pdi_session.specs.declared.InitFault.TheVariants as init_fault

-- the name of a refused put: that of its variant
abbrev pub put_fault_name : PutFault → List ℕ
put_fault_name put_fault.NotEstablished = codes "NotEstablished"
put_fault_name put_fault.Full = codes "Full"
put_fault_name put_fault.ReservedType = codes "ReservedType"
put_fault_name put_fault.TooLong = codes "TooLong"

-- the name of a refused end of the initialisation: that of its variant
abbrev pub init_fault_name : InitFault → List ℕ
init_fault_name init_fault.NotInitialising = codes "NotInitialising"
init_fault_name init_fault.Full = codes "Full"
