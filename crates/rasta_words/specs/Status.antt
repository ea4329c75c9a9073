-- The exit status of the program.
use Rattle.std.specs.Prelude.{ℕ}
use Rattle.rasta_words.specs.declared.status.Status.{Status}
use Rattle.rasta_words.specs.declared.status.Status.TheVariants.{Done, Refused, WrongWords, Failed, Unexpected, Unfinished, Unread}
use Rattle.rasta_words.specs.declared.status.Fault.{Fault}
use Rattle.rasta_words.specs.declared.status.Fault.TheVariants as fault

-- the exit status for each way in which the program ends
abbrev pub status_code : Status → ℕ
status_code Done = 0
status_code Refused = 1
status_code WrongWords = 2
status_code Failed = 3
status_code Unexpected = 4
status_code Unfinished = 5
status_code Unread = 6

-- how the program ends with each fault
abbrev pub status_of : Fault → Status
status_of fault.Hex = Refused
status_of fault.File = Refused
status_of fault.Settings = Refused
status_of fault.Memory = Refused
status_of fault.Network = Failed
status_of fault.Clock = Failed
status_of fault.Output = Failed
