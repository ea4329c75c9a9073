use Rattle.std.proofs.Common.{◌≡◌, IfOk, subst, codes}
use Rattle.clap.specs.Words.{App, app_of}
use Rattle.rasta_words.specs.Arguments.{with_flag, with_option}
use Rattle.rasta_words.proofs.follow_command.with_remarks.Goals as goal

pub returns-clause-app : goal.returns-clause-app
returns-clause-app c =
    let both = subst (λ (app : App). app_of c.in_ok-command-2.command ≡ with_option app (codes "t-max"))
    c.in_ok-command.ensures.app
    c.in_ok-command-2.ensures.app in
    subst (λ (app : App). IfOk c.with_flag.result (λ made. app_of made ≡ with_flag app (codes "messages"))) both
    c.with_flag.ensures.app
