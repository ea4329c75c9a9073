-- Whether a receiving half has accepted anything since it was opened.
use Rattle.std.specs.Prelude.{Bool, not, ◌||◌, nat_lt}
use Rattle.red_layer.specs.Parts.{is_nil}
use Rattle.red_layer.specs.Redundancy.{Receiver}

-- number 0 is no longer expected, or a part is deferred, so that it may be expected no longer once t_seq has passed
abbrev pub has_begun : Receiver → Bool
has_begun r = nat_lt 0 r.expected || not (is_nil r.waiting)
