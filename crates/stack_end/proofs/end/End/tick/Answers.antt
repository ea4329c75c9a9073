use Rattle.stack_end.proofs.Words.{ap, can_pack, false, Inside, inside, inside_of, time_turn, subst, sym, TickRecent, ◌∙◌, ◌≡◌}
use Rattle.stack_end.specs.Statistics.{count_expired}
use Rattle.stack_end.specs.Turns.{tick_expires_deferral}
use Rattle.stack_end.proofs.Deliveries.{passes-empties, tick-recent}
use Rattle.stack_end.proofs.TurnOfCall.{layers-turn}
use Rattle.stack_end.proofs.end.End.tick.Goals as goal

pub returns-clause-turns : goal.returns-clause-turns
returns-clause-turns g c =
    layers-turn g.C.Channels.told g.T.Taker.takes (time_turn c.args.now) c.self.inside.layers c.tick-expired.new.self
    c.self.inside.time c.args.now c.self.inside.receptions c.count_expired.new.self c.args.self.now
    c.args.taker.now c.tick-expired.new.taker c.self.view_is c.tick-expired.ensures.does

pub returns-clause-packs : goal.returns-clause-packs
returns-clause-packs g c =
    subst (λ (i : Inside). can_pack i.upper ≡ false) (sym c.tick-expired.ensures.does.left)
    (passes-empties c.args.now (inside_of c.self.inside.layers) c.self.invariant.some)

pub returns-clause-recent : goal.returns-clause-recent
returns-clause-recent g c =
    subst (λ v. TickRecent g.T.Taker.takes c.args.now (inside v) c.args.taker.now c.tick-expired.new.taker)
    c.self.view_is
    (tick-recent g.T.Taker.takes c.args.now (inside_of c.self.inside.layers) c.args.taker.now c.tick-expired.new.taker
    c.tick-expired.ensures.does.taken)

pub returns-clause-received : goal.returns-clause-received
returns-clause-received g c =
    subst (λ v. c.count_expired.new.self ≡ count_expired (tick_expires_deferral c.args.now (inside v)) v.receptions)
    c.self.view_is
    (c.count_expired.ensures ∙ ap (λ q. count_expired q c.self.inside.receptions) c.tick-expired.ensures.expired)
