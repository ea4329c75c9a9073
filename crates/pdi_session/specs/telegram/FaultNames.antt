-- The numbers and names of a telegram's faults, for output.
use Rattle.std.specs.Prelude.{ℕ, List, codes}
use Rattle.pdi_session.specs.declared.telegram.TeleFault.{TeleFault}
use Rattle.pdi_session.specs.declared.telegram.TeleFault.TheVariants as telegram

-- the number of a fault: its place in the list of faults, from 1
abbrev pub telegram_number : TeleFault → ℕ
telegram_number telegram.Short = 1
telegram_number telegram.Long = 2
telegram_number telegram.Name = 3

-- the name of a fault: that of its variant
abbrev pub telegram_name : TeleFault → List ℕ
telegram_name telegram.Short = codes "Short"
telegram_name telegram.Long = codes "Long"
telegram_name telegram.Name = codes "Name"
