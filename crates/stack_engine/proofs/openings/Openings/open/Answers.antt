use Rattle.std.proofs.Common.{ap, [], ◌++◌, ◌∙◌, ◌∷◌, sym}
use Rattle.stack_engine.proofs.code.Histories.{joins-opened, opened-side}
use Rattle.stack_engine.proofs.openings.Openings.open.Goals as goal

pub returns-in_default-replace-clause-joins : goal.returns-in_default-replace-clause-joins
returns-in_default-replace-clause-joins g c = λ xs h.
    joins-opened c.args.self.now (record { present = c.replace.new.self; before = c.try_reserve.new.self })
    c.in-Ok-open.opened xs h
    (sym c.replace.ensures.value ∙ c.in_default-replace.is) c.replace.ensures.after c.try_reserve.ensures.items
    c.in-Ok-open.ensures.joined

pub returns-in-Some-clause-does : goal.returns-in-Some-clause-does
returns-in-Some-clause-does g c = λ xs h.
    opened-side c.args.self.now (record { present = c.replace.new.self; before = c.push_reserved.new.self })
    c.in-Some.earlier c.in-Ok-open.opened c.of.result
    _ xs
    (sym c.replace.ensures.value ∙ c.in-Some.is) h c.replace.ensures.after
    (c.push_reserved.ensures.items ∙ ap (λ ps. ps ++ c.of.result ∷ []) c.try_reserve.ensures.items) c.of.ensures.stands
    c.in-Ok-open.ensures.stands
