use Rattle.std.proofs.Common.{◌≡◌, ◌∙◌, [], ap, length, sym}
use Rattle.std.proofs.lemmas.List.{nil_from_length}
use Rattle.red_layer.specs.Redundancy.{Receiver}
use Rattle.red_layer.proofs.Views.{length-map_parts}
use Rattle.red_layer.proofs.RedLayer.expect.Goals as goal

-- no part is deferred in the table
pub invariant_of-self : goal.invariant_of-self
invariant_of-self g c =
    let none : c.self.inside.waiting.waiting ≡ [] =
    nil_from_length _ (sym (length-map_parts (λ part. part.items) c.self.inside.waiting.waiting)
    ∙ ap (λ (r : Receiver). length r.waiting) (c.self.view_is) ∙ ap length c.requires.empty) in
    record {
      rises = rw none tt;
      below = c.self.invariant.below;
      bounded = c.self.invariant.bounded;
      expected_in_range = c.requires.in_range;
      since_in_range = c.self.invariant.since_in_range;
      t_seq_in_range = c.self.invariant.t_seq_in_range;
      q_in_range = c.self.invariant.q_in_range;
      room_is = c.self.invariant.room_is;
    }
