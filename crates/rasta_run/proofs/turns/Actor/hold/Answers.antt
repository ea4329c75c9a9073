use Rattle.std.proofs.Common.{ap, sym, ◌∙◌}
use Rattle.rasta_run.proofs.PutLemmas.{holds}
use Rattle.rasta_run.proofs.turns.Actor.hold.Goals as goal

pub returns-clause-held : goal.returns-clause-held
returns-clause-held g c =
    holds (λ o. g.C.Channels.told o.inner) g.T.Taker.takes g.T.Application.has_lost _ _ _ _ _ _ _
    (ap (λ a. a.end) c.note_turn.ensures.kept)
    c.tick.ensures.turns
    (ap (λ a. a.end) c.note_loss.ensures.kept ∙ ap (λ a. a.end) c.log_events.ensures)
    (sym c.has_failed.ensures ∙ c.if-has_failed.false)
