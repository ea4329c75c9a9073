-- The numbers and names of a unit's faults, for output.
use Rattle.std.specs.Prelude.{ℕ, List, codes}
use Rattle.pdi_session.specs.declared.packing.PackFault.{PackFault}
use Rattle.pdi_session.specs.declared.packing.PackFault.TheVariants as unit

-- the number of a fault: its place in the list of faults, from 1
abbrev pub unit_number : PackFault → ℕ
unit_number unit.Empty = 1
unit_number unit.Length = 2
unit_number unit.TooMany = 3

-- the name of a fault: that of its variant
abbrev pub unit_name : PackFault → List ℕ
unit_name unit.Empty = codes "Empty"
unit_name unit.Length = codes "Length"
unit_name unit.TooMany = codes "TooMany"
