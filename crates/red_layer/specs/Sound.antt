-- The invariant of a receiving half.
use Rattle.std.specs.Prelude.{◌≡◌, ℕ, ◌+◌, ◌^◌, ◌≤◌, List, length}
use Rattle.red_layer.specs.FiniteMap.{Rises}
use Rattle.red_layer.specs.Parts.{IsBelow}
use Rattle.octets.specs.declared.limits.TheConstants.{Q_MAX, T_SEQ_MAX, TIME_MAX}

-- deferred numbers are above the expected one and below 2^32, at most q are deferred, and all settings and times are in
-- range
pub record IsSound {T : Type 0} (q room t_seq expected since : ℕ) (waiting : List (ℕ × T)) : Type 0 where
  pub rises : Rises (expected + 1) waiting
  pub below : IsBelow (2 ^ 32) waiting
  pub bounded : length waiting ≤ q
  pub expected_in_range : expected ≤ 2 ^ 32
  pub since_in_range : since ≤ TIME_MAX
  pub t_seq_in_range : t_seq ≤ T_SEQ_MAX
  pub q_in_range : q ≤ Q_MAX
  pub room_is : room ≡ q
