use Rattle.std.proofs.Common.{◌≡◌, ◌+◌, ◌≤◌, ℕ, List, drop, map}
use Rattle.std.specs.Borrow.{Bor}
use Rattle.pdi_session.specs.TelegramCounts.{items_in}
use Rattle.pdi_session.proofs.counts.items_in.Given as goal

-- the count so far and that of the others make up the total
abbrev pub invariant-loop-message : goal.invariant-loop-message
invariant-loop-message l =
    record {
      counted :
          l.count + items_in (map (λ (m : Bor (List ℕ)). m.now) (drop l.message-index l.messages))
          ≡ items_in (map (λ (m : Bor (List ℕ)). m.now) l.messages);
      few : l.count ≤ l.message-index;
    }
