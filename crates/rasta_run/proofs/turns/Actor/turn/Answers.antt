use Rattle.std.proofs.Common.{ap}
use Rattle.rasta_run.specs.Actors.{course_of}
use Rattle.rasta_run.proofs.PutLemmas.{hears-and-puts}
use Rattle.rasta_run.proofs.turns.Actor.turn.Goals as goal

pub returns-clause-turn : goal.returns-clause-turn
returns-clause-turn g c =
    hears-and-puts (λ o. g.C.Channels.told o.inner) g.T.Taker.takes g.T.Application.has_lost g.T.Application.refuses _ _ _
    (course_of c.args.self.now c.args.app.now) (course_of c.hear.new.self c.hear.new.app) _
    c.in_ok-hear.ensures.heard
    (ap (λ a. a.side) c.hear.ensures.kept)
    c.in_ok-put_now.ensures.puts
