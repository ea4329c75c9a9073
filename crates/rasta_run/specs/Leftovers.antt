-- What a run until the end of input leaves undone.
use Rattle.std.specs.Prelude.{ℕ, ◌+◌, ◌-◌, ◌%◌, ◌^◌, ◌&&◌, Bool, true, false, nat_eq, List, [], ◌∷◌, codes, if◌then◌else◌}
use Rattle.std.specs.Fmt.{decimal}
use Rattle.std.specs.Int.{w16, to_be_bytes}
use Rattle.hex.specs.Hex.{encode_lower}
use Rattle.end_settings.specs.declared.Side.{Side}
use Rattle.pdu_text.specs.Lines.{join_pieces}
use Rattle.pdu_text.specs.Names.{side_name}
use Rattle.rasta_run.specs.declared.leftovers.Origin.{Origin}
use Rattle.rasta_run.specs.declared.leftovers.Origin.TheVariants.{Line, Entry}
use Rattle.rasta_run.specs.declared.leftovers.Leftovers.{Leftovers}
use Rattle.rasta_words.specs.declared.status.Status.{Status}
use Rattle.rasta_words.specs.declared.status.Status.TheVariants.{Done, Unexpected, Unfinished, Unread}

-- every line and every entry of `puts` was put, and everything put is confirmed
abbrev pub is_nothing : Leftovers → Bool
is_nothing u = nat_eq u.lines 0 && (nat_eq u.entries 0 && (nat_eq u.doubt 0 && nat_eq u.unsent 0))

-- the lines that were not put
unfoldable pub lines_text : ℕ → List ℕ
lines_text lines = join_pieces (codes ": not put: " ∷ decimal lines ∷ codes " lines of input, " ∷ [])

-- the entries of `puts` that were not put
unfoldable pub entries_text : ℕ → List ℕ
entries_text entries = join_pieces (decimal entries ∷ codes " entries of puts; " ∷ [])

-- the telegrams in doubt
unfoldable pub doubt_text : ℕ → List ℕ
doubt_text doubt = join_pieces (codes "in doubt: " ∷ decimal doubt ∷ codes " telegrams sent and not confirmed; " ∷ [])

-- the telegrams that were put and not sent
unfoldable pub unsent_text : ℕ → List ℕ
unsent_text unsent = join_pieces (codes "not sent: " ∷ decimal unsent ∷ codes "\n" ∷ [])

-- the line of what an end leaves undone
abbrev pub undone_line : Side → Leftovers → List ℕ
undone_line side u =
    join_pieces (side_name side ∷ lines_text u.lines ∷ entries_text u.entries ∷ doubt_text u.doubt ∷
    unsent_text u.unsent ∷ [])

-- what is printed of it: nothing, if nothing is left undone
abbrev pub printed_line : Side → Leftovers → List ℕ
printed_line side u = if is_nothing u then [] else undone_line side u

-- where a telegram comes from
unfoldable pub line_text : ℕ → List ℕ
line_text number = join_pieces (codes "line " ∷ decimal number ∷ codes ": " ∷ [])

-- the entry of `puts` with this number, from 1
unfoldable pub entry_text : ℕ → List ℕ
entry_text number = join_pieces (codes "puts entry " ∷ decimal number ∷ codes ": " ∷ [])

-- a line of input, or an entry of `puts`
abbrev pub origin_text : Origin → List ℕ
origin_text (Line number) = line_text number
origin_text (Entry number) = entry_text number

-- the line of a telegram that was refused: where it comes from, its message type, and the name of the fault
abbrev pub refused_line : Origin → ℕ → List ℕ → List ℕ
refused_line origin kind name =
    join_pieces (origin_text origin ∷ encode_lower (to_be_bytes w16 kind) ∷ codes " not put: " ∷ name ∷ codes "\n" ∷ [])

-- how a run ends: with status 6 if a line of standard output was not written, else with 5 if it left something undone,
-- else with 4 if an end is not in the expected state
abbrev pub run_status : (is_read is_finished is_met : Bool) → Status
run_status false is_finished is_met = Unread
run_status true false is_met = Unfinished
run_status true true true = Done
run_status true true false = Unexpected

-- how many telegrams put since the opening are in doubt, if `before` were put before it; numbers are modulo 2^64
abbrev pub doubt_of : (put before confirmed : ℕ) → ℕ
doubt_of put before confirmed = (put + (2 ^ 64 - before)) % 2 ^ 64 - confirmed
