use Rattle.std.proofs.Common.{◌≡◌, Some, IfErr, IsErr, rules, sym, subst}
use Rattle.clap.specs.Words.{found_of, rows_of, subcommand_rows_of}
use Rattle.rasta_words.specs.CommandLine.{FindsNone}
use Rattle.rasta_words.specs.Rejections.{IsReason}
use Rattle.rasta_words.proofs.command_line.request_of.Goals as goal

pub returns-in-Some-clause-refused : goal.returns-in-Some-clause-refused
returns-in-Some-clause-refused c =
    let eq : subcommand_rows_of c.args.matches.now
    ≡ Some (c.in-Some.name.now, rows_of (found_of c.in-Some.entries.now)) = search rules in
    subst (λ found. IfErr c.request_by_name.result (IsReason found)) (sym eq) c.request_by_name.ensures.refused

pub returns-in-Some-clause-none : goal.returns-in-Some-clause-none
returns-in-Some-clause-none c =
    let eq : subcommand_rows_of c.args.matches.now
    ≡ Some (c.in-Some.name.now, rows_of (found_of c.in-Some.entries.now)) = search rules in
    subst (λ found. IsErr c.request_by_name.result → FindsNone found) (sym eq) (search rules)
