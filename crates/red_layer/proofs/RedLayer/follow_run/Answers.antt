use Rattle.std.proofs.Common.{length, ap, arith, sym, subst, ◌∙◌}
use Rattle.red_layer.specs.FiniteMap.{Rises}
use Rattle.red_layer.specs.Parts.{map_parts}
use Rattle.red_layer.proofs.Views.{Rises-unmap, length-after_run, length-map_parts}
use Rattle.red_layer.proofs.RedLayer.follow_run.Goals as goal

pub pass_run-self-inside-requires-clause-rises : goal.pass_run-self-inside-requires-clause-rises
pass_run-self-inside-requires-clause-rises g c =
    Rises-unmap (λ part. part.items) c.args.from c.self.inside.waiting.waiting
    (subst (λ r. Rises c.args.from r.waiting) (sym c.self.view_is) c.requires.rises)

pub invariant_of-self : goal.invariant_of-self
invariant_of-self g c = record {
  rises = c.pass_run-self-inside.ensures.rises;
  below = c.pass_run-self-inside.ensures.below;
  bounded = omega (
    arith,
    c.self.invariant.bounded,
    length-map_parts (λ part. part.items) c.self.inside.waiting.waiting,
    length-map_parts (λ part. part.items) c.pass_run-self-inside.new.waiting.waiting,
    ap length c.pass_run-self-inside.ensures.rest,
    length-after_run c.args.from (map_parts (λ part. part.items) c.self.inside.waiting.waiting),
  );
  expected_in_range = c.pass_run-self-inside.ensures.in_range;
  since_in_range = c.requires.now;
  t_seq_in_range = c.self.invariant.t_seq_in_range;
  q_in_range = c.self.invariant.q_in_range;
  room_is = c.pass_run-self-inside.ensures.room ∙ c.self.invariant.room_is;
}
