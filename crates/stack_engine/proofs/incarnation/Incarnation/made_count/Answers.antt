use Rattle.stack_engine.proofs.Words.{ap, KeeperValue, length, List, ℕ, ◌∙◌}
use Rattle.stack_engine.proofs.code.Histories.{datagrams-length}
use Rattle.stack_engine.proofs.incarnation.Incarnation.made_count.Goals as goal

pub returns : goal.returns
returns g c = λ x h.
    c.len.ensures ∙ (ap (λ (k : KeeperValue). length k.datagrams) c.channels_seen.ensures
    ∙ (ap (λ (ds : List (List ℕ)). length ds) h.kept ∙ datagrams-length x.settings 0 x.machine.made))
