-- How a history grows.
use Rattle.std.proofs.Common.{◌≡◌, ℕ, List, ◌++◌, sym, ap, ◌∙◌, append_assoc}
use Rattle.std.proofs.lemmas.List.{map-append}
use Rattle.pdi_session.specs.telegram.TeleText.{tele_text}
use Rattle.pdi_session.specs.SessionStep.{Event, SessionState, added_by, after, texts}
use Rattle.pdi_session.specs.Histories.{History, StandsFor, add_event}

-- a session that fits a history before an event fits the extended one after it
pub stands_on : (e : Event) (s t : SessionState) (old new : List (List ℕ)) (h : History) → t ≡ after e s
    → new ≡ old ++ texts (added_by e s) → StandsFor s old h → StandsFor t new (add_event e h)
stands_on e s t old new h left added stands =
    record {
      state = ap (after e) stands.state ∙ sym left;
      gone = stands.gone;
      queue =
          map-append tele_text h.queue (added_by e h.state) ∙ ap (λ xs. xs ++ texts (added_by e h.state)) stands.queue
          ∙ append_assoc stands.gone old (texts (added_by e h.state))
          ∙ ap (λ x. stands.gone ++ (old ++ texts (added_by e x))) stands.state
          ∙ ap (λ xs. stands.gone ++ xs) (sym added);
    }
