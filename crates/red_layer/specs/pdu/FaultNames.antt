-- The numbers and names of the faults, as they are printed.
use Rattle.std.specs.Prelude.{ℕ, List, codes}
use Rattle.red_layer.specs.declared.pdu.RedFault.{RedFault}
use Rattle.red_layer.specs.declared.pdu.RedFault.TheVariants as red

-- the number of a fault: its place among the faults, from 1
abbrev pub red_number : RedFault → ℕ
red_number red.Short = 1
red_number red.Length = 2
red_number red.Reserve = 3

-- the printed name of a fault
abbrev pub red_name : RedFault → List ℕ
red_name red.Short = codes "Short"
red_name red.Length = codes "Length"
red_name red.Reserve = codes "Reserve"
