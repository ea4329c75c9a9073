use Rattle.std.proofs.Common.{◌≡◌, ◌+◌, length, Some, refl, sym, ap, ◌∙◌, subst, arith}
use Rattle.std.specs.List.{FoldsTo}
use Rattle.red_layer.specs.FiniteMap.{part_under, Rises}
use Rattle.red_layer.proofs.pass_run.Goals as goal
use Rattle.red_layer.proofs.FiniteMap.{Rises-first, Rises-none, take_out-none}
use Rattle.red_layer.proofs.Runs.{IsBelow-take_out, run_from-first, after_run-first, run_from-none, after_run-none, Rises-map_parts}

pub loop-part-preserved : goal.loop-part-preserved
loop-part-preserved g c =
    let found : part_under c.loop-part.next c.loop-part.waiting.waiting
    ≡ Some c.in-Some.part = sym c.in-Some.ensures.part in
    let rises = c.loop-part.invariant.rises in
    let run = run_from-first (λ part. part.items) c.loop-part.next c.loop-part.waiting.waiting c.in-Some.part rises
    found in
    let rest = after_run-first (λ part. part.items) c.loop-part.next c.loop-part.waiting.waiting c.in-Some.part rises
    found in
    record {
      in_range = omega (arith, c.in-Some.ensures.in_range refl);
      rises = rw c.take_number.ensures.rest (Rises-first _ _ _ rises found);
      below = rw c.take_number.ensures.rest (IsBelow-take_out _ _ _ c.loop-part.invariant.below);
      room = rw c.take_number.ensures.rest c.loop-part.invariant.room;
      passed =
          rw c.take_number.ensures.rest (λ end h. c.loop-part.invariant.passed end
          (subst (λ ps. FoldsTo g.U.Upward.passes c.loop-part.up ps end) (sym run)
          (c.up.new.self, rw (← c.as_slice.ensures.value) c.up.ensures.passed, h)));
      ready = c.up.ensures.ready;
      rest = rw c.take_number.ensures.rest (sym rest ∙ c.loop-part.invariant.rest);
      count = rw c.take_number.ensures.rest (omega (arith, ap length run, c.loop-part.invariant.count));
    }

pub returns-clause-passed : goal.returns-clause-passed
returns-clause-passed g c =
    let above : Rises (c.loop-part.next + 1) c.loop-part.waiting.waiting = Rises-none _ _ c.loop-part.invariant.rises
    (sym c.in_default.ensures.part) in
    let none = run_from-none c.loop-part.next _ (Rises-map_parts (λ part. part.items) _ _ above) in
    c.loop-part.invariant.passed _ (subst (λ ps. FoldsTo g.U.Upward.passes c.loop-part.up ps c.loop-part.up)
    (sym none) refl)

pub returns-clause-rest : goal.returns-clause-rest
returns-clause-rest g c =
    let above : Rises (c.loop-part.next + 1) c.loop-part.waiting.waiting = Rises-none _ _ c.loop-part.invariant.rises
    (sym c.in_default.ensures.part) in
    rw (
      c.take_number.ensures.rest,
      take_out-none c.loop-part.next c.loop-part.waiting.waiting
          (sym c.in_default.ensures.part),
    )
    (sym (after_run-none c.loop-part.next _ (Rises-map_parts (λ part. part.items) _ _ above))
    ∙ c.loop-part.invariant.rest)

pub returns-clause-next : goal.returns-clause-next
returns-clause-next g c =
    let above : Rises (c.loop-part.next + 1) c.loop-part.waiting.waiting = Rises-none _ _ c.loop-part.invariant.rises
    (sym c.in_default.ensures.part) in
    omega (
      arith,
      ap length (run_from-none c.loop-part.next _ (Rises-map_parts (λ part. part.items) _ _ above)),
      c.loop-part.invariant.count,
    )

pub returns-clause-rises : goal.returns-clause-rises
returns-clause-rises g c =
    rw (
      c.take_number.ensures.rest,
      take_out-none c.loop-part.next c.loop-part.waiting.waiting
          (sym c.in_default.ensures.part),
    )
    (Rises-none _ _ c.loop-part.invariant.rises (sym c.in_default.ensures.part))

pub returns-clause-below : goal.returns-clause-below
returns-clause-below g c =
    rw (
      c.take_number.ensures.rest,
      take_out-none c.loop-part.next c.loop-part.waiting.waiting
          (sym c.in_default.ensures.part),
    ) c.loop-part.invariant.below
