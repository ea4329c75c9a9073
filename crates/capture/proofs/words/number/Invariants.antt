use Rattle.std.proofs.Common.{◌≡◌, ◌≤◌, take}
use Rattle.std.specs.Str.Parse.{digits_value}
use Rattle.capture.proofs.words.number.Given as goal

-- The number so far is the value of the digits so far.
abbrev pub invariant-loop-digit : goal.invariant-loop-digit
invariant-loop-digit l =
    record { so_far : l.number ≡ digits_value 10 (take l.digit-index l.word); within : l.number ≤ l.most }
