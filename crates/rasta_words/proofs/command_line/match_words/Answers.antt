use Rattle.std.proofs.Common.{◌≡◌, [], map, refl, subst, true}
use Rattle.clap.specs.Words.{App, HasKind, HasMatchesOf, fault_of, is_simple_and_free}
use Rattle.rasta_words.specs.Arguments.{with_command, with_flag, with_last, with_operand, with_option, with_required}
use Rattle.rasta_words.proofs.command_line.match_words.Goals as goal

pub returns-in-Ok-try_get_matches_from-clause-fits : goal.returns-in-Ok-try_get_matches_from-clause-fits
unfolding with_command with_flag with_last with_operand with_option with_required
returns-in-Ok-try_get_matches_from-clause-fits g c = λ _.
    subst (λ (app : App). is_simple_and_free app ≡ true → fault_of app (map g.S.AsStr.text c.args.words.now) ≡ [])
    c.in-Ok.ensures.app
    c.in-Ok-try_get_matches_from.ensures.kinds refl

pub returns-in-Err-try_get_matches_from-clause-refused : goal.returns-in-Err-try_get_matches_from-clause-refused
unfolding with_command with_flag with_last with_operand with_option with_required
returns-in-Err-try_get_matches_from-clause-refused g c =
    subst (λ (app : App). is_simple_and_free app ≡ true
    → HasKind (fault_of app (map g.S.AsStr.text c.args.words.now)) c.in-Err-try_get_matches_from.error)
    c.in-Ok.ensures.app c.in-Err-try_get_matches_from.ensures.kinds refl

pub returns-in-Ok-try_get_matches_from-clause-rows : goal.returns-in-Ok-try_get_matches_from-clause-rows
unfolding with_command with_flag with_last with_operand with_option with_required
returns-in-Ok-try_get_matches_from-clause-rows g c =
    (subst (λ (app : App). HasMatchesOf app (map g.S.AsStr.text c.args.words.now) c.in-Ok-try_get_matches_from.matches)
    c.in-Ok.ensures.app
    c.in-Ok-try_get_matches_from.ensures.matches refl).1
