use Rattle.stack_engine.proofs.Words.{ap, drop, has_part, KeeperValue, List, ℕ, ◌∙◌}
use Rattle.stack_engine.proofs.code.Histories.{has-part-made}
use Rattle.stack_engine.proofs.incarnation.Incarnation.has_made.Goals as goal

pub returns : goal.returns
returns g c = λ x h.
    c.has_part.ensures ∙ (ap (λ (k : KeeperValue). has_part c.args.part.now (drop c.args.dead k.datagrams))
    c.channels_seen.ensures
    ∙ (ap (λ (ds : List (List ℕ)). has_part c.args.part.now (drop c.args.dead ds)) h.kept
    ∙ has-part-made x.settings 0 c.args.part.now c.args.dead
    x.machine.made))
