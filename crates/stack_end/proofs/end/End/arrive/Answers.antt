use Rattle.stack_end.proofs.Words.{arrival_turn, can_pack, DatagramRecent, false, HasProcessed, Inside, inside, inside_of, subst, sym, TakesPart}
use Rattle.stack_end.proofs.Words.{◌≡◌}
use Rattle.stack_end.proofs.Deliveries.{arrives-empties, datagram-recent, has-heard, takes-part}
use Rattle.stack_end.proofs.TurnOfCall.{layers-turn}
use Rattle.stack_end.proofs.end.End.arrive.Goals as goal

pub returns-clause-turns : goal.returns-clause-turns
returns-clause-turns g c =
    layers-turn g.C.Channels.told g.T.Taker.takes (arrival_turn c.args.now c.args.octets.now) c.self.inside.layers
    c.arrive-event.new.self c.self.inside.time c.args.now c.self.inside.receptions c.count_datagram.new.self
    c.args.self.now c.args.taker.now c.arrive-event.new.taker c.self.view_is c.arrive-event.ensures.does

pub returns-clause-packs : goal.returns-clause-packs
returns-clause-packs g c =
    subst (λ (i : Inside). can_pack i.upper ≡ false) (sym c.arrive-event.ensures.does.left)
    (arrives-empties c.args.now c.args.octets.now (inside_of c.self.inside.layers) c.self.invariant.some)

pub returns-clause-recent : goal.returns-clause-recent
returns-clause-recent g c =
    subst (λ v. DatagramRecent g.T.Taker.takes c.args.now c.args.octets.now (inside v) c.args.taker.now
    c.arrive-event.new.taker) c.self.view_is
    (datagram-recent g.T.Taker.takes c.args.now c.args.octets.now (inside_of c.self.inside.layers) c.args.taker.now
    c.arrive-event.new.taker
    c.arrive-event.ensures.does.taken)

pub returns-clause-hears : goal.returns-clause-hears
returns-clause-hears g c =
    subst (λ v. HasProcessed c.args.now c.args.octets.now (inside v) (inside_of c.arrive-event.new.self)) c.self.view_is
    (has-heard c.args.now c.args.octets.now (inside_of c.self.inside.layers) (inside_of c.arrive-event.new.self)
    c.arrive-event.ensures.does.left)

pub returns-clause-passes : goal.returns-clause-passes
returns-clause-passes g c =
    subst (λ v. TakesPart g.T.Taker.takes c.args.now c.args.octets.now (inside v) c.args.taker.now
    c.arrive-event.new.taker) c.self.view_is
    (takes-part g.T.Taker.takes c.args.now c.args.octets.now (inside_of c.self.inside.layers) c.args.taker.now
    c.arrive-event.new.taker c.arrive-event.ensures.does.taken)
