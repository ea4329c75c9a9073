-- What a run of the program has done.
use Rattle.std.specs.Prelude.{⊤, ℕ, true, List, Option, None, Some}
use Rattle.std.specs.Option.{option_copied}
use Rattle.clap.specs.Words.{Text}
use Rattle.rasta_words.specs.CommandLine.{AsksForRequest}
use Rattle.rasta_words.specs.declared.command_line.Request.{Request}
use Rattle.rasta_words.specs.declared.command_line.Request.TheVariants.{Check, Digest, Show, Sim, Follow, Net}
use Rattle.rasta_run.specs.CheckOutput.{HasCheckedSome, HasComparedSome}
use Rattle.rasta_run.specs.ShowOutput.{HasDigested, HasShown}

-- the file was checked, or compared with that of the peer
abbrev pub HasCheckedOr : (peer : Option Text) → Option (List ℕ) → Option (List ℕ) → Type 0
HasCheckedOr None old new = HasCheckedSome old new
HasCheckedOr (Some peer) old new = HasComparedSome

-- the request was done. No contract can name the files of a script or a capture, so for these and a run over sockets
-- this says only that the run has ended.
abbrev pub HasDone : Request → Option (List ℕ) → Option (List ℕ) → Type 0
HasDone (Digest hex) old new = HasDigested hex.now old new
HasDone (Show code iv hex) old new = HasShown code (option_copied iv) hex.now true old new
HasDone (Sim script) old new = ⊤
HasDone (Follow following) old new = ⊤
HasDone (Check file peer) old new = HasCheckedOr (option_copied peer) old new
HasDone (Net running) old new = ⊤

-- the words ask for a request, and it was done
abbrev pub IsRequestDone : List Text → Option (List ℕ) → Option (List ℕ) → Type 0
IsRequestDone words old new = (request : Request) × AsksForRequest words request × HasDone request old new
