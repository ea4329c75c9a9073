-- What a printer does with the telegrams that an application takes, and with those that were refused.
use Rattle.std.specs.Prelude.{◌≡◌, ℕ, ◌+◌, ◌%◌, ◌^◌, Bool, false, List, Option}
use Rattle.std.specs.Io.KnownBytes.{Appends}
use Rattle.pdi_session.specs.SessionStep.{Item}
use Rattle.end_settings.specs.declared.Side.{Side}
use Rattle.pdu_text.specs.Reports.{refusal_line, take_line}
use Rattle.rasta_run.specs.LineTimes.{StampsTake}
use Rattle.rasta_run.specs.declared.line_times.Stamp.{Stamp}

-- what is known of a printer
pub record PrinterState : Type 0 where
  pub side : Side  -- the end whose telegrams are printed
  pub stamp : Option Stamp  -- the time at the start of their lines, if they have one
  pub taken : ℕ  -- the number of telegrams, modulo 2^64
  pub failed : Bool  -- a line could not be written
  pub text : Option (List ℕ)  -- the content of standard output

-- a telegram is counted, and its line is appended to the output; if the output fails, or has failed, nothing is said of
-- it
abbrev pub PrintsTelegram : PrinterState → Item → PrinterState → Type 0
PrintsTelegram p item q =
    (q.side ≡ p.side) × (q.stamp ≡ p.stamp) × (q.taken ≡ (p.taken + 1) % 2 ^ 64)
    × (q.failed ≡ false → (p.failed ≡ false)
    × ((written : List ℕ) × StampsTake p.stamp (take_line p.side item.0 item.1) written
    × Appends p.text q.text written))

-- the line of a refusal with this name is appended to the output, and nothing else changes
abbrev pub PrintsRefusal : PrinterState → List ℕ → PrinterState → Type 0
PrintsRefusal p name q = (q.side ≡ p.side) × (q.stamp ≡ p.stamp) × (q.taken ≡ p.taken) × (q.failed ≡ p.failed)
    × Appends p.text q.text (refusal_line name)
