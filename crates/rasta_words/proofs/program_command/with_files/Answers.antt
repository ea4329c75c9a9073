use Rattle.std.proofs.Common.{◌≡◌, IfOk, subst}
use Rattle.clap.specs.Words.{App, app_of}
use Rattle.rasta_words.specs.Arguments.{with_command}
use Rattle.rasta_words.specs.Choices.{follow_app}
use Rattle.rasta_words.specs.CommandLine.{md4_app, show_app, sim_app}
use Rattle.rasta_words.proofs.program_command.with_files.Goals as goal

-- each command is the one before it with one subcommand more
pub returns-clause-app : goal.returns-clause-app
returns-clause-app c =
    let first = subst (λ (sub : App). app_of c.in_ok-command.command ≡ with_command (app_of c.args.command) sub)
    c.in_ok-md4_command.ensures.app
    c.in_ok-command.ensures.app in
    let second = subst (λ (app : App). app_of c.in_ok-command-2.command ≡ with_command app show_app) first
    (subst (λ (sub : App). app_of c.in_ok-command-2.command ≡ with_command (app_of c.in_ok-command.command) sub)
    c.in_ok-show_command.ensures.app
    c.in_ok-command-2.ensures.app) in
    let third = subst (λ (app : App). app_of c.in_ok-command-3.command ≡ with_command app sim_app) second
    (subst (λ (sub : App). app_of c.in_ok-command-3.command ≡ with_command (app_of c.in_ok-command-2.command) sub)
    c.in_ok-sim_command.ensures.app
    c.in_ok-command-3.ensures.app) in
    subst (λ (app : App). IfOk c.with_command-4.result (λ made. app_of made ≡ with_command app follow_app)) third
    (subst (λ (sub : App). IfOk c.with_command-4.result
    (λ made. app_of made ≡ with_command (app_of c.in_ok-command-3.command) sub))
    c.in_ok-follow_command.ensures.app c.with_command-4.ensures.app)
