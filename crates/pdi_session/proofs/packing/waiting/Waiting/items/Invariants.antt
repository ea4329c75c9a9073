use Rattle.std.proofs.Common.{◌≡◌, ◌+◌, ◌≤◌, drop, take}
use Rattle.pdi_session.specs.TelegramCounts.{items_in}
use Rattle.pdi_session.specs.packing.Ring.{messages_of_places}
use Rattle.pdi_session.proofs.packing.waiting.Waiting.items.Given as goal

-- the count so far and that of the others make up the total
abbrev pub invariant-loop-place : goal.invariant-loop-place
invariant-loop-place g l =
    record {
      counted :
          l.items + items_in (drop l.place (messages_of_places (take l.self-inside.count l.self-inside.places.items)))
          ≡ items_in (messages_of_places (take l.self-inside.count l.self-inside.places.items));
      few : l.items ≤ l.place;
    }
