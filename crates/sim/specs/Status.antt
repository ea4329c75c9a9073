-- The end of a script's run.
use Rattle.std.specs.Prelude.{ℕ}
use Rattle.sim.specs.declared.fault.ScriptLineFault.{ScriptLineFault}
use Rattle.sim.specs.declared.fault.ScriptLineFault.TheVariants as line
use Rattle.sim.specs.declared.fault.ScriptFault.{ScriptFault}
use Rattle.sim.specs.declared.fault.ScriptFault.TheVariants as script
use Rattle.sim.specs.declared.fault.SimStatus.{SimStatus}
use Rattle.sim.specs.declared.fault.SimStatus.TheVariants.{Done, Refused, Failed}

-- The exit status of the program.
abbrev pub sim_code : SimStatus → ℕ
sim_code Done = 0
sim_code Refused = 1
sim_code Failed = 3

-- The end of a run that a fault stops.
abbrev pub sim_status_of : ScriptFault → SimStatus
sim_status_of (script.Unreadable n) = Refused
sim_status_of (script.NoSuchLabel n) = Refused
sim_status_of script.File = Refused
sim_status_of script.Memory = Refused
sim_status_of script.Output = Failed

-- The fault of a line, with the number of that line.
abbrev pub fault_at : ScriptLineFault → ℕ → ScriptFault
fault_at line.Unreadable n = script.Unreadable n
fault_at line.NoSuchLabel n = script.NoSuchLabel n
fault_at line.Memory n = script.Memory
fault_at line.Output n = script.Output
