use Rattle.std.proofs.Common.{◌≡◌, IfOk, subst, codes}
use Rattle.clap.specs.Words.{App, app_of}
use Rattle.rasta_words.specs.Arguments.{with_flag}
use Rattle.rasta_words.proofs.run_command.with_length.Goals as goal

pub returns-clause-app : goal.returns-clause-app
returns-clause-app c =
    subst (λ (app : App). IfOk c.with_flag-2.result (λ made. app_of made ≡ with_flag app (codes "end-on-3")))
    (subst (λ (app : App). app_of c.in_ok-until.until ≡ with_flag app (codes "until-end")) c.in_ok-turned.ensures.app
    c.in_ok-until.ensures.app)
    c.with_flag-2.ensures.app
