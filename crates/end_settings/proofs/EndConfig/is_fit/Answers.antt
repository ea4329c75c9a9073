use Rattle.std.proofs.Common.{◌∙◌, arith, sym}
use Rattle.end_settings.specs.ConfigValue.{settings_of}
use Rattle.end_settings.proofs.Fitness.{addressed, checked, last-decides}
use Rattle.end_settings.proofs.EndConfig.is_fit.Goals as goal

pub returns : goal.returns
returns c =
    let s = c.args.self.now in
    c.has_versions.ensures
    ∙ last-decides _ _ _ _ _ (sym c.is_connection.ensures ∙ c.if-not-is_connection.false) (sym c.in_limits.ensures
    ∙ c.if-not-in_limits.false)
    (addressed (settings_of s).addressing (omega arith) s.name.well_formed s.peer_name.well_formed) (checked s.checksum)
