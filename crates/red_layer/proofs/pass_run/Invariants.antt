use Rattle.std.proofs.Common.{◌≡◌, ◌≤◌, ◌+◌, ◌-◌, ◌^◌, length}
use Rattle.std.specs.List.{FoldsTo}
use Rattle.red_layer.specs.FiniteMap.{Rises}
use Rattle.red_layer.specs.Parts.{map_parts, IsBelow}
use Rattle.red_layer.specs.Redundancy.{run_from, after_run}
use Rattle.red_layer.proofs.pass_run.Given as goal

abbrev pub invariant-loop-part : goal.invariant-loop-part
invariant-loop-part g l =
    let passes = g.U.Upward.passes in
    record {
      in_range : l.next ≤ 2 ^ 32;
      rises : Rises l.next l.waiting.waiting;
      below : IsBelow (2 ^ 32) l.waiting.waiting;
      room : l.waiting.room ≡ l.fn.waiting.room;
      passed : (end : _) → FoldsTo passes l.up (run_from l.next (map_parts (λ part. part.items) l.waiting.waiting)) end
          → FoldsTo passes l.fn.up (run_from l.from (map_parts (λ part. part.items) l.fn.waiting.waiting)) end;
      ready : g.U.Upward.ready l.up l.next;
      rest : after_run l.next (map_parts (λ part. part.items) l.waiting.waiting)
          ≡ after_run l.from (map_parts (λ part. part.items) l.fn.waiting.waiting);
      count : l.next + length (run_from l.next (map_parts (λ part. part.items) l.waiting.waiting))
          ≡ l.from + length (run_from l.from (map_parts (λ part. part.items) l.fn.waiting.waiting));
    }

abbrev pub decreases-loop-part : goal.decreases-loop-part
decreases-loop-part g l = 2 ^ 32 - l.next
