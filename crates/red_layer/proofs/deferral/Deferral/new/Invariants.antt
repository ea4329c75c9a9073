use Rattle.std.proofs.Common.{◌≡◌, vec_len, None}
use Rattle.std.proofs.Math.ListN.{replicate}
use Rattle.red_layer.proofs.deferral.Deferral.new.Given as goal

abbrev pub invariant-loop : goal.invariant-loop
invariant-loop g l = record {
  empty : l.places.items ≡ replicate (vec_len l.places) None;
  so_many : vec_len l.places ≡ l.counter;
}
