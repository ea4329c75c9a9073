use Rattle.stack_end.specs.Datagrams.{sent_at_opening}
use Rattle.stack_end.specs.Ends.{opened_end}
use Rattle.stack_end.specs.EndValue.{channels_of}
use Rattle.std.proofs.Common.{arith, rules, subst, sym, true, ◌<◌, ◌^◌, ◌∙◌, ◌≡◌}
use Rattle.end_settings.specs.ConfigValue.{settings_of, side_of}
use Rattle.end_settings.specs.EndSettings.{are_fit}
use Rattle.stack_end.specs.EndValue.{inside}
use Rattle.end_for_callers.specs.Calls.{reserve_of}
use Rattle.end_for_callers.specs.Loads.{IsReady}
use Rattle.end_for_callers.proofs.StationBounds.{opened-ready}
use Rattle.end_for_callers.specs.Boxes.{DatagramQueue, Posted, told_in}
use Rattle.end_for_callers.proofs.Deliveries.{folds-roomless, posted}
use Rattle.end_for_callers.proofs.station.Station.open.Goals as goal

pub returns-in-Ok-clause-sent : goal.returns-in-Ok-clause-sent
returns-in-Ok-clause-sent c =
    let xs = sent_at_opening (opened_end c.args.side c.args.config.now c.args.first_sn c.args.now) in
    let after = channels_of c.in-Ok.end in
    subst (λ (o : DatagramQueue). Posted o xs after.out) c.in-Ok-Ok.ensures
    (posted c.in-Ok-Ok.outbox.out xs after.out
    (folds-roomless xs (told_in c.in-Ok-Ok.outbox) (told_in after) c.in-Ok.ensures.sent))

pub invariant_of-result : goal.invariant_of-result
invariant_of-result c =
    let settings = settings_of c.args.config.now in
    let fit : are_fit (side_of c.args.side) settings ≡ true = sym c.is_fit.ensures ∙ c.if-not-is_fit.false in
    let ready = opened-ready (side_of c.args.side) settings c.args.first_sn c.args.now (inside c.in-Ok.end) fit
    c.in-Ok.ensures.stands.both in
    let few : c.reserve_of-reserve.result < 2 ^ 32 = search rules in
    let same : reserve_of settings ≡ c.reserve_of-reserve.result = omega (arith, few, c.reserve_of-reserve.ensures) in
    (search rules, search rules, few, subst (λ n. IsReady n (inside c.in-Ok.end)) same ready)
