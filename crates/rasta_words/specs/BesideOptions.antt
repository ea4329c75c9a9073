-- `--beside` of `follow`, the options that do not go with it, and all choices of `follow`.
use Rattle.std.specs.Prelude.{◌≡◌, ◌⊎◌, ◌&&◌, ⊤, Bool, true, false, List, codes, is_some, if◌then◌else◌, Option, None, Some}
use Rattle.std.specs.Option.{option_copied}
use Rattle.std.specs.Str.{bytes_eq}
use Rattle.clap.specs.Words.{Row, Text, first_of}
use Rattle.rasta_words.specs.Choices.{ArePortsChosen, IsAgeChosen, IsCodeChosen, IsRemarkChosen, is_flagged}
use Rattle.rasta_words.specs.Times.{HasTimes}
use Rattle.rasta_words.specs.declared.command_line.FollowRequest.{FollowRequest}
use Rattle.rasta_words.specs.declared.rejection.Rejection.{Rejection}
use Rattle.rasta_words.specs.declared.rejection.Rejection.TheVariants.{Value, NoLength, TwoLengths, EveryAlone, Missing, NotBeside, OneInput, Reversed}

-- an option with a value was given
abbrev pub is_given : Text → List Row → Bool
is_given name rows = is_some (first_of name rows)

-- the first option of times
abbrev pub time_of : List Row → Option Text
time_of rows =
    if is_given (codes "time") rows then Some (codes "time")
    else if is_given (codes "from") rows then Some (codes "from")
    else if is_given (codes "to") rows then Some (codes "to")
    else if is_given (codes "every") rows then Some (codes "every") else None

-- the first option with a value that says nothing of pairs
abbrev pub value_of : List Row → Option Text
value_of rows =
    if is_given (codes "code") rows then Some (codes "code")
    else if is_given (codes "iv") rows then Some (codes "iv")
    else if is_given (codes "only") rows then Some (codes "only")
    else if is_given (codes "t-max") rows then Some (codes "t-max") else time_of rows

-- the first option that says nothing of pairs
abbrev pub unpaired_of : List Row → Option Text
unpaired_of rows =
    if is_flagged (first_of (codes "messages") rows) then Some (codes "messages")
    else if is_flagged (first_of (codes "events") rows) then Some (codes "events")
    else if is_flagged (first_of (codes "choose") rows) then Some (codes "choose") else value_of rows

-- both recordings are standard input
abbrev pub is_one_input : Text → Text → Bool
is_one_input file beside = bytes_eq file (codes "-") && bytes_eq beside (codes "-")

-- a recording can stand beside a file: no option says nothing of pairs, and not both are standard input
abbrev pub IsPairable : List Row → Text → Option Text → Type 0
IsPairable rows file None = ⊤
IsPairable rows file (Some beside) = (unpaired_of rows ≡ None) × (is_one_input file beside ≡ false)

-- the recording is that of `--beside`; none without the option
abbrev pub IsBesideChosen : List Row → Text → Option Text → Type 0
IsBesideChosen rows file beside = (first_of (codes "beside") rows ≡ beside) × IsPairable rows file beside

-- the rejection names this option
abbrev pub NamesUnpaired : Option Text → Rejection → Type 0
NamesUnpaired found (NotBeside option) = found ≡ Some option.now
NamesUnpaired found (Value option value) = ⊥
NamesUnpaired found NoLength = ⊥
NamesUnpaired found TwoLengths = ⊥
NamesUnpaired found EveryAlone = ⊥
NamesUnpaired found OneInput = ⊥
NamesUnpaired found Reversed = ⊥
NamesUnpaired found Missing = ⊥

-- why a recording cannot stand beside a file
abbrev pub IsUnpairable : List Row → Text → Option Text → Rejection → Type 0
IsUnpairable rows file None r = ⊥
IsUnpairable rows file (Some beside) r =
    NamesUnpaired (unpaired_of rows) r ⊎ ((unpaired_of rows ≡ None) × (is_one_input file beside ≡ true)
    × (r ≡ OneInput))

abbrev pub IsBesideRejected : List Row → Text → Rejection → Type 0
IsBesideRejected rows file r = IsUnpairable rows file (first_of (codes "beside") rows) r

-- the choices of `follow` have the values of the entries that clap found
abbrev pub HasChoices : List Row → FollowRequest → Type 0
HasChoices rows f =
    IsCodeChosen (first_of (codes "code") rows) f.code × (first_of (codes "iv") rows ≡ option_copied f.iv)
    × (is_flagged (first_of (codes "messages") rows) ≡ f.messages)
    × IsRemarkChosen (first_of (codes "only") rows) f.only
    × IsAgeChosen (first_of (codes "t-max") rows) f.t_max × (first_of (codes "file") rows ≡ Some f.file.now)
    × ArePortsChosen (first_of (codes "ports") rows) f.ports × (is_flagged (first_of (codes "json") rows) ≡ f.json)
    × (is_flagged (first_of (codes "events") rows) ≡ f.events)
    × (is_flagged (first_of (codes "choose") rows) ≡ f.choose)
    × HasTimes rows f.times × IsBesideChosen rows f.file.now (option_copied f.beside)

-- no choices of `follow` have the values of these entries
abbrev pub HasNoChoices : List Row → Type 0
HasNoChoices rows = (f : FollowRequest) → ¬ HasChoices rows f
