use Rattle.end_settings.specs.ConfigValue.{settings_of, side_of}
use Rattle.std.proofs.Common.{arith, refl, rules, sym, ◌∙◌}
use Rattle.stack_engine.proofs.code.Histories.{opened-stands}
use Rattle.stack_engine.proofs.incarnation.Incarnation.open.Goals as goal

pub returns-in-Ok-open-clause-stands : goal.returns-in-Ok-open-clause-stands
returns-in-Ok-open-clause-stands g c =
    opened-stands (side_of c.args.side) (settings_of c.args.config) c.args.first_sn c.args.now c.reserve.new.self _
    (c.in-Ok.ensures.same ∙ c.new-keeper.ensures) (omega (arith, c.in-Ok.ensures.places, c.in-Ok.ensures.octets))
    (c.requires.few (sym c.is_fit.ensures ∙ search rules))
    c.in-Ok-open.ensures.stands c.in-Ok-open.ensures.sent c.new.ensures c.new-in-Ok-open.ensures refl
