-- How the program ends for words that are not a command.
use Rattle.std.specs.Prelude.{◌≡◌, ◌≢◌, ◌⊎◌}
use Rattle.clap.specs.Values.{kind_of}
use Rattle.clap.specs.declared.error.kind.ErrorKind.TheVariants as kind
use Rattle.rasta_words.specs.declared.command_line.WordsFault.{WordsFault}
use Rattle.rasta_words.specs.declared.command_line.WordsFault.TheVariants.{Words, Rejected, NotText, Memory}
use Rattle.rasta_words.specs.declared.status.Status.{Status}
use Rattle.rasta_words.specs.declared.status.Status.TheVariants.{Done, Refused, WrongWords, Failed}

-- want of memory is refused; help and version are not a fault, but their output can fail; anything else is a wrong
-- command line
abbrev pub EndsWithStatus : WordsFault → Status → Type 0
EndsWithStatus (Words error) status =
    (kind_of error ≡ kind.OutOfMemory → status ≡ Refused)
    × (kind_of error ≢ kind.OutOfMemory → kind_of error ≢ kind.DisplayHelp → kind_of error ≢ kind.DisplayVersion
    → status ≡ WrongWords)
    × ((kind_of error ≡ kind.DisplayHelp) ⊎ (kind_of error ≡ kind.DisplayVersion) → (status ≡ Done) ⊎ (status ≡ Failed))
EndsWithStatus (Rejected rejection) status = status ≡ WrongWords
EndsWithStatus NotText status = status ≡ WrongWords
EndsWithStatus (Memory error) status = status ≡ Refused
