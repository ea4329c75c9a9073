use Rattle.std.proofs.Common.{ap, ◌∙◌, refl}
use Rattle.rasta_run.specs.Actors.{course_of}
use Rattle.rasta_run.specs.Turns.{deaf_after}
use Rattle.stack_end.specs.EndValue.{inside}
use Rattle.stack_end.specs.Turns.{is_over}
use Rattle.rasta_run.proofs.PutLemmas.{hears}
use Rattle.rasta_run.proofs.turns.Actor.hear.Goals as goal

pub returns-clause-heard : goal.returns-clause-heard
returns-clause-heard g c =
    hears (λ o. g.C.Channels.told o.inner) g.T.Taker.takes g.T.Application.has_lost _
    (course_of c.args.self.now c.args.app.now) (course_of c.note_loss.new.self c.poll_end.new.app)
    c.in_ok-works.works _ c.poll_end.new.self.end c.poll_end.new.app
    (ap (λ a. a.end) c.note_turn.ensures.kept)
    c.in_ok-works.ensures.heard
    c.in_ok-works.ensures.taken
    (ap (λ a. a.end) c.note_loss.ensures.kept ∙ ap (λ a. a.end) c.note_reception.ensures.kept
    ∙ ap (λ a. a.end) c.log_events.ensures)
    refl
    (ap (λ a. a.left.now) c.note_loss.ensures.kept ∙ ap (λ a. a.left.now) c.note_reception.ensures.kept
    ∙ ap (λ a. a.left.now) c.log_events.ensures ∙ ap (λ a. a.left.now) c.poll_end.ensures.kept
    ∙ ap (λ a. a.left.now) c.note_turn.ensures.kept)
    (ap (λ a. a.put) c.note_loss.ensures.kept ∙ ap (λ a. a.put) c.note_reception.ensures.kept
    ∙ ap (λ a. a.put) c.log_events.ensures ∙ ap (λ a. a.put) c.poll_end.ensures.kept
    ∙ ap (λ a. a.put) c.note_turn.ensures.kept)
    (ap (λ a. a.refused_entries) c.note_loss.ensures.kept ∙ ap (λ a. a.refused_entries) c.note_reception.ensures.kept
    ∙ ap (λ a. a.refused_entries) c.log_events.ensures ∙ ap (λ a. a.refused_entries) c.poll_end.ensures.kept
    ∙ ap (λ a. a.refused_entries) c.note_turn.ensures.kept)
    (ap (λ a. a.deaf_turns) c.note_loss.ensures.kept ∙ ap (λ a. a.deaf_turns) c.note_reception.ensures.kept
    ∙ ap (λ a. deaf_after c.in_ok-works.works a.deaf_turns) c.log_events.ensures
    ∙ ap (λ a. deaf_after c.in_ok-works.works a.deaf_turns) c.poll_end.ensures.kept
    ∙ ap (λ a. deaf_after c.in_ok-works.works a.deaf_turns) c.note_turn.ensures.kept)
    (ap (λ a. a.was_closed) c.note_loss.ensures.kept ∙ ap (λ a. is_over (inside a.end)) c.note_reception.ensures.kept
    ∙ ap (λ a. is_over (inside a.end)) c.log_events.ensures)
