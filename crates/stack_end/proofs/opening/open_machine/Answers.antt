use Rattle.stack_end.proofs.Words.{ap, datagrams, EndSettings, FoldsTo, FoldsTo-keeps, HasMade, kept_of, length, number_after, opening_turn, rule_of, rules, sendings}
use Rattle.stack_end.proofs.Words.{SendsOne, Settings, settings_of, side_of, subst, sym, ◌%◌, ◌^◌, ◌∙◌, ◌≡◌}
use Rattle.end_settings.specs.EndSettings.{connection_of}
use Rattle.end_settings.specs.declared.Side.TheVariants.{Interlocking}
use Rattle.safe_machine.proofs.one.TurnSteps.{opening_law_holds}
use Rattle.safe_machine.specs.Step.{new_state}
use Rattle.safe_machine.specs.View.{settings_of as machine_settings}
use Rattle.std.proofs.Common.{zero-add}
use Rattle.stack_end.proofs.CallParts.{datagrams-out}
use Rattle.stack_end.proofs.SentNumbers.{behind-wrap, datagrams-are}
use Rattle.stack_end.proofs.TurnOfCall.{opens-made}
use Rattle.stack_end.specs.Statistics.{no_made_counts, with_made}
use Rattle.stack_end.proofs.opening.open_machine.Goals as goal

pub returns-in-Ok-clause-stands : goal.returns-in-Ok-clause-stands
returns-in-Ok-clause-stands g c =
    let settings : EndSettings = settings_of c.args.config.now in
    let machine = machine_settings c.role-role.result c.machine.result in
    let is : machine ≡ connection_of (side_of c.args.side) settings = ap (λ r. machine_settings r c.machine.result)
    c.role-role.ensures
    ∙ c.machine.ensures c.args.side in
    c.in-Ok.ensures.left ∙ ((opening_law_holds machine c.args.first_sn c.args.now).stands
    ∙ ap (λ (q : Settings). kept_of (new_state q c.args.first_sn c.args.now)) is)

pub returns-in-Ok-clause-has_made : goal.returns-in-Ok-clause-has_made
returns-in-Ok-clause-has_made g c =
    let machine = machine_settings c.role-role.result c.machine.result in
    subst HasMade (sym c.in-Ok.ensures.left) (opens-made machine c.args.first_sn c.args.now)

pub returns-in-Ok-clause-sent : goal.returns-in-Ok-clause-sent
returns-in-Ok-clause-sent g c =
    let told = g.C.Channels.told in
    let settings : EndSettings = settings_of c.args.config.now in
    let is : machine_settings c.role-role.result c.machine.result ≡ connection_of (side_of c.args.side) settings =
    ap (λ r. machine_settings r c.machine.result) c.role-role.ensures ∙ c.machine.ensures c.args.side in
    let rule : c.machine.result.rule ≡ rule_of settings = ap (λ (s : Settings). s.rule) (c.machine.ensures Interlocking)
    in
    let machine = machine_settings c.role-role.result c.machine.result in
    let made = (opening_turn machine c.args.first_sn c.args.now).made in
    let out = datagrams-out (λ s. told s.channels.now) (λ s. s.numbers.now) (λ s. s.count) (λ s. s.made.now) _
    (λ s pdu t r. (r.3, r.4, r.5, r.6)) c.machine.result.rule made _ _
    c.in-Ok.ensures.made in
    let spelled =
    ap (λ r. datagrams r settings.channels c.args.numbers.now made) rule
    ∙ (ap (λ n. datagrams (rule_of settings) settings.channels n made) c.requires.first ∙ datagrams-are settings 0 made)
    in
    let first = subst (λ xs. FoldsTo SendsOne (told c.args.channels.now) xs (told c.open.new.out.channels.now)) spelled
    out.0 in
    let sent =
    subst (λ (q : Settings). FoldsTo SendsOne (told c.args.channels.now)
    (sendings settings 0 (new_state q c.args.first_sn c.args.now).made)
    (told c.open.new.out.channels.now)) is
    (subst (λ ms. FoldsTo SendsOne (told c.args.channels.now) (sendings settings 0 ms)
    (told c.open.new.out.channels.now))
    (sym (opening_law_holds machine c.args.first_sn c.args.now).made) first) in
    let same = FoldsTo-keeps (λ s. s.channels.ghost_name) _ (λ s x t h. h.0) _ _ _ c.in-Ok.ensures.made in
    search (rules, sent, same)

pub returns-in-Ok-clause-numbered : goal.returns-in-Ok-clause-numbered
returns-in-Ok-clause-numbered g c =
    let settings : EndSettings = settings_of c.args.config.now in
    let is : machine_settings c.role-role.result c.machine.result ≡ connection_of (side_of c.args.side) settings =
    ap (λ r. machine_settings r c.machine.result) c.role-role.ensures ∙ c.machine.ensures c.args.side in
    let machine = machine_settings c.role-role.result c.machine.result in
    let made = (opening_turn machine c.args.first_sn c.args.now).made in
    let out = datagrams-out (λ s. g.C.Channels.told s.channels.now) (λ s. s.numbers.now) (λ s. s.count)
    (λ s. s.made.now) _ (λ s pdu t r. (r.3, r.4, r.5, r.6)) c.machine.result.rule
    made _ _ c.in-Ok.ensures.made in
    let numbered =
    out.1
    ∙ (ap (λ n. number_after n made) c.requires.first
    ∙ (behind-wrap 0 made
    ∙ (ap (λ n. n % 2 ^ 32) (zero-add (length made))
    ∙ ap (λ ms. length ms % 2 ^ 32) (sym (opening_law_holds machine c.args.first_sn c.args.now).made)
    ∙ ap (λ (q : Settings). length (new_state q c.args.first_sn c.args.now).made % 2 ^ 32) is))) in
    let same = FoldsTo-keeps (λ s. s.numbers.ghost_name) _ (λ s x t h. h.1) _ _ _ c.in-Ok.ensures.made in
    search (rules, numbered, same)

pub returns-in-Ok-clause-made : goal.returns-in-Ok-clause-made
returns-in-Ok-clause-made g c =
    let settings : EndSettings = settings_of c.args.config.now in
    let is : machine_settings c.role-role.result c.machine.result ≡ connection_of (side_of c.args.side) settings =
    ap (λ r. machine_settings r c.machine.result) c.role-role.ensures ∙ c.machine.ensures c.args.side in
    let machine = machine_settings c.role-role.result c.machine.result in
    let made = (opening_turn machine c.args.first_sn c.args.now).made in
    let out = datagrams-out (λ s. g.C.Channels.told s.channels.now) (λ s. s.numbers.now) (λ s. s.count)
    (λ s. s.made.now) _
    (λ s pdu t r. (r.3, r.4, r.5, r.6)) c.machine.result.rule made _ _ c.in-Ok.ensures.made in
    let counted =
    out.2
    ∙ (ap (with_made made) c.requires.none
    ∙ (ap (λ ms. with_made ms no_made_counts) (sym (opening_law_holds machine c.args.first_sn c.args.now).made)
    ∙ ap (λ (q : Settings). with_made (new_state q c.args.first_sn c.args.now).made no_made_counts) is)) in
    let same = FoldsTo-keeps (λ s. s.made.ghost_name) _ (λ s x t h. h.2) _ _ _ c.in-Ok.ensures.made in
    search (rules, counted, same)
