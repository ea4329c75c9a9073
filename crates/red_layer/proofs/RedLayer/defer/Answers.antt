use Rattle.std.proofs.Common.{◌≡◌, ◌≢◌, length, false, not, ap, arith, sym, ◌∙◌, refl, ⊎_elim, inl}
use Rattle.std.proofs.lemmas.Bool.{false≢true}
use Rattle.std.specs.Option.{is_none}
use Rattle.red_layer.specs.Parts.{is_nil}
use Rattle.red_layer.proofs.Views.{map_parts-put_in, IsBelow-put_in, is_nil-least}
use Rattle.red_layer.proofs.EarlyParts.{deferred-again, deferred-full, deferred-wait, one_more}
use Rattle.red_layer.proofs.RedLayer.defer.Goals as goal
use Rattle.red_layer.proofs.FiniteMap.{Rises-put_in, length-put_in}

pub returns-then-has-clause-event : goal.returns-then-has-clause-event
returns-then-has-clause-event g c =
    sym (ap (λ s. s.event) (deferred-again (λ part. part.items) c.self.inside.waiting.waiting c.args.now
    (c.args.seq, c.args.upper.now) c.args.self.now (ap (λ r. r.waiting) (sym c.self.view_is))
    (sym c.if-has.ensures)))

pub returns-then-has-clause-left : goal.returns-then-has-clause-left
returns-then-has-clause-left g c =
    sym (ap (λ s. s.left) (deferred-again (λ part. part.items) c.self.inside.waiting.waiting c.args.now
    (c.args.seq, c.args.upper.now) c.args.self.now (ap (λ r. r.waiting) (sym c.self.view_is))
    (sym c.if-has.ensures)))

pub returns-in-Err-clause-event : goal.returns-in-Err-clause-event
returns-in-Err-clause-event g c =
    let full : length c.self.inside.waiting.waiting ≡ c.args.self.now.q =
    ⊎_elim (λ all. all ∙ c.self.invariant.room_is ∙ ap (λ r. r.q) c.self.view_is)
    (λ there. absurd (false≢true (c.if-has.ensures ∙ there))) (c.in-Err.ensures.variant.0 refl) in
    sym (ap (λ s. s.event) (deferred-full (λ part. part.items) c.self.inside.waiting.waiting c.args.now
    (c.args.seq, c.args.upper.now) c.args.self.now (ap (λ r. r.waiting) (sym c.self.view_is)) (sym c.if-has.ensures)
    full))

pub returns-in-Err-clause-left : goal.returns-in-Err-clause-left
returns-in-Err-clause-left g c =
    let full : length c.self.inside.waiting.waiting ≡ c.args.self.now.q =
    ⊎_elim (λ all. all ∙ c.self.invariant.room_is ∙ ap (λ r. r.q) c.self.view_is)
    (λ there. absurd (false≢true (c.if-has.ensures ∙ there))) (c.in-Err.ensures.variant.0 refl) in
    rw c.in-Err.ensures.err (c.self.view_is ∙ sym
    (ap (λ s. s.left) (deferred-full (λ part. part.items) c.self.inside.waiting.waiting c.args.now
    (c.args.seq, c.args.upper.now) c.args.self.now (ap (λ r. r.waiting) (sym c.self.view_is))
    (sym c.if-has.ensures) full)))

pub invariant_of-self-else-empty : goal.invariant_of-self-else-empty
invariant_of-self-else-empty g c =
    rw c.in-Ok.ensures.ok (record {
      rises = Rises-put_in _ c.args.seq c.copy_of.result c.self.inside.waiting.waiting
          (omega (arith, c.requires.ahead, ap (λ r. r.expected) c.self.view_is)) (sym c.if-has.ensures)
          c.self.invariant.rises;
      below = IsBelow-put_in _ c.args.seq c.copy_of.result c.self.inside.waiting.waiting c.ranges.seq.fits
          c.self.invariant.below;
      bounded = let apart : length c.self.inside.waiting.waiting ≢ c.self.inside.waiting.room =
          λ full. false≢true (c.in-Ok.ensures.variant.1 (inl full)) in
          omega (
            arith,
            length-put_in c.args.seq c.copy_of.result c.self.inside.waiting.waiting,
            c.self.invariant.bounded,
            c.self.invariant.room_is,
            apart,
          );
      expected_in_range = c.self.invariant.expected_in_range;
      since_in_range = c.self.invariant.since_in_range;
      t_seq_in_range = c.self.invariant.t_seq_in_range;
      q_in_range = c.self.invariant.q_in_range;
      room_is = c.self.invariant.room_is;
    })

pub returns-else-empty-clause-event : goal.returns-else-empty-clause-event
returns-else-empty-clause-event g c =
    let room : length c.self.inside.waiting.waiting ≢ c.args.self.now.q =
    λ full. false≢true (c.in-Ok.ensures.variant.1
    (inl (full ∙ ap (λ r. r.q) (sym c.self.view_is) ∙ sym c.self.invariant.room_is))) in
    sym (ap (λ s. s.event) (deferred-wait (λ part. part.items) c.self.inside.waiting.waiting c.args.now
    (c.args.seq, c.args.upper.now) c.args.self.now (ap (λ r. r.waiting) (sym c.self.view_is)) (sym c.if-has.ensures)
    room))

pub returns-else-empty-clause-left : goal.returns-else-empty-clause-left
returns-else-empty-clause-left g c =
    let room : length c.self.inside.waiting.waiting ≢ c.args.self.now.q =
    λ full. false≢true (c.in-Ok.ensures.variant.1
    (inl (full ∙ ap (λ r. r.q) (sym c.self.view_is) ∙ sym c.self.invariant.room_is))) in
    let some : is_nil c.args.self.now.waiting ≡ false =
    ap (λ r. is_nil r.waiting) (sym c.self.view_is)
    ∙ sym (is_nil-least (λ part. part.items) c.self.inside.waiting.waiting) ∙ ap is_none (sym c.least.ensures)
    ∙ ap not c.is_none-empty.ensures ∙ ap (λ b. not (not b)) c.if-empty.false in
    rw (c.in-Ok.ensures.ok, map_parts-put_in, c.copy_of.ensures)
    (one_more c.args.now c.args.seq c.args.upper.now _ c.args.self.now c.self.view_is some
    ∙ sym (ap (λ s. s.left) (deferred-wait (λ part. part.items) c.self.inside.waiting.waiting c.args.now
    (c.args.seq, c.args.upper.now) c.args.self.now (ap (λ r. r.waiting) (sym c.self.view_is)) (sym c.if-has.ensures)
    room)))
