use Rattle.std.proofs.Common.{◌∙◌, ap, Some, List, ℕ}
use Rattle.pdi_session.specs.telegram.Names.{IsName}
use Rattle.end_for_callers.proofs.Rows.{named_row}
use Rattle.end_for_callers.proofs.plain_text.spell_name.Goals as goal

pub returns : goal.returns
returns c =
    let is : IsName c.as_bytes.result.now = rw c.as_bytes.ensures.value c.as_str.ensures.well_formed in
    named_row c.as_bytes.result.now c.fill.new.row is c.fill.ensures
    ∙ ap (λ (name : List ℕ). Some name) (c.as_bytes.ensures.value ∙ c.as_str.ensures.characters ∙ c.name-name.ensures)
