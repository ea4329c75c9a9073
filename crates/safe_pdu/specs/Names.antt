-- The numbers and names of the faults, and the names of the PDU types, as they are printed.
use Rattle.std.specs.Prelude.{ℕ, List, codes}
use Rattle.safe_pdu.specs.declared.Kind.{Kind}
use Rattle.safe_pdu.specs.declared.Kind.TheVariants.{ConnReq, ConnResp, RetrReq, RetrResp, DiscReq, Heartbeat, Data, RetrData}
use Rattle.safe_pdu.specs.declared.SafeFault.{SafeFault}
use Rattle.safe_pdu.specs.declared.SafeFault.TheVariants as safe

-- the number of a fault: its place among the faults, from 1
abbrev pub safe_number : SafeFault → ℕ
safe_number safe.Short = 1
safe_number safe.Length = 2
safe_number safe.Code = 3
safe_number safe.BadType = 4
safe_number safe.Body = 5

-- the printed name of a fault
abbrev pub safe_name : SafeFault → List ℕ
safe_name safe.Short = codes "Short"
safe_name safe.Length = codes "Length"
safe_name safe.Code = codes "Code"
safe_name safe.BadType = codes "Type"
safe_name safe.Body = codes "Body"

-- the printed name of a PDU type: the standard's name, abbreviated for a heartbeat
abbrev pub kind_name : Kind → List ℕ
kind_name ConnReq = codes "ConnReq"
kind_name ConnResp = codes "ConnResp"
kind_name RetrReq = codes "RetrReq"
kind_name RetrResp = codes "RetrResp"
kind_name DiscReq = codes "DiscReq"
kind_name Heartbeat = codes "HB"
kind_name Data = codes "Data"
kind_name RetrData = codes "RetrData"
