use Rattle.std.proofs.KnownBytes.{Appends-trans}
use Rattle.capture_text.specs.AdviceJson.{advices_json}
use Rattle.capture_text.proofs.advice_json.write_advices.Goals as goal

pub returns : goal.returns
unfolding advices_json
returns g c =
    Appends-trans _ _ _ _ _ (Appends-trans _ _ _ _ _ c.in_ok-write_text.ensures c.in_ok-write_list.ensures)
    c.in_ok-write_text-2.ensures
