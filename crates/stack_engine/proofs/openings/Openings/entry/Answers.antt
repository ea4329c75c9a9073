use Rattle.stack_engine.proofs.Words.{ap, None, option_map, Some, sym, ◌∙◌}
use Rattle.stack_engine.specs.Reports.{seen_entry}
use Rattle.stack_engine.proofs.code.Histories.{alone-entry}
use Rattle.stack_engine.proofs.openings.Openings.entry.Goals as goal

pub returns-in-Some : goal.returns-in-Some
returns-in-Some g c =
    alone-entry (Some c.in-Some.entry) _ (ap (option_map seen_entry) (sym c.in-Some.is) ∙ c.joined_entry.ensures)

pub returns-in-None : goal.returns-in-None
returns-in-None g c = alone-entry None _ (ap (option_map seen_entry) (sym c.in-None.is) ∙ c.joined_entry.ensures)
