use Rattle.std.proofs.KnownBytes.{Appends-trans}
use Rattle.capture_text.specs.SummaryText.{date_text}
use Rattle.capture_text.proofs.summary.write_date.Goals as goal

pub returns : goal.returns
unfolding date_text
returns g c =
    Appends-trans _ _ _ _ _ (Appends-trans _ _ _ _ _ c.in_ok-write_text.ensures c.in_ok-write_utc.ensures)
    c.in_ok-write_text-2.ensures
