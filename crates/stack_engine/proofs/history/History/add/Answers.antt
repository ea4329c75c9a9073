use Rattle.stack_engine.proofs.Words.{[], ap, Action, doing_of, EndConfig, Entry, event_of, events_in, length, List, side_of, sym, ℕ, ◌++◌, ◌∙◌, ◌∷◌, ◌≡◌}
use Rattle.stack_engine.specs.Histories.{HistoryValue}
use Rattle.std.proofs.Common.{rules, vec_len}
use Rattle.stack_engine.proofs.code.Histories.{opening-added}
use Rattle.stack_engine.proofs.history.History.add.Goals as goal
use Rattle.stack_engine.specs.declared.history.Deed.TheVariants as deed

pub returns-in-Open : goal.returns-in-Open
returns-in-Open g c =
    let configs : List EndConfig = c.self.inside.configs.items in
    let entries : List (Entry × List ℕ) = c.self.inside.entries.texts in
    let e = c.args.event.now in
    let size : vec_len c.self.inside.configs ≡ length configs = search rules in
    record {
      added =
          ap (λ (cs : List EndConfig). events_in cs c.add.new.self.texts) c.push_reserved.ensures.items
          ∙ (ap (λ (ts : List (Entry × List ℕ)). events_in (configs ++ c.in-Open.config ∷ []) ts) c.add.ensures.added
          ∙ (opening-added configs c.in-Open.config entries _ [] c.in-Open.first_sn c.self.invariant
          (ap (λ n. deed.Open n c.in-Open.first_sn) (c.len.ensures ∙ size))
          ∙ (ap (λ (d : Action). events_in configs entries ++ doing_of (side_of e.side) e.time d ∷ [])
          (sym c.in-Open.is)
          ∙ ap (λ (h : HistoryValue). h.events ++ event_of e ∷ []) c.self.view_is)));
    }
