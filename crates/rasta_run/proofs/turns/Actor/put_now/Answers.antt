use Rattle.std.proofs.Common.{ap}
use Rattle.rasta_run.specs.Actors.{course_of}
use Rattle.rasta_run.proofs.PutLemmas.{puts-now}
use Rattle.rasta_run.proofs.turns.Actor.put_now.Goals as goal

pub returns-clause-puts : goal.returns-clause-puts
returns-clause-puts g c =
    puts-now (λ o. g.C.Channels.told o.inner) g.T.Application.refuses _ _ _ _
    (course_of c.put_left_if.new.self c.put_left_if.new.app) _ _ _
    c.may_put_list-puts.ensures c.in_ok-put_left_if.ensures.puts
    (ap (λ a. a.side) c.put_left_if.ensures.kept)
    c.may_complete-ends.ensures
    c.in_ok-end_initialising_if.ensures.ends (ap (λ a. a.left.now) c.end_initialising_if.ensures.kept)
    (ap (λ a. a.put) c.end_initialising_if.ensures.kept)
    (ap (λ a. a.refused_entries) c.end_initialising_if.ensures.kept)
    (ap (λ a. a.deaf_turns) c.end_initialising_if.ensures.kept)
    (ap (λ a. a.was_closed) c.end_initialising_if.ensures.kept)
