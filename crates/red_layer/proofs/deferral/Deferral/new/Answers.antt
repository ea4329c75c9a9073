use Rattle.std.proofs.Common.{◌≡◌, ap, arith, refl, vec_len}
use Rattle.red_layer.proofs.deferral.Deferral.new.Goals as goal
use Rattle.red_layer.proofs.Entries.{entries-replicate}

pub invariant_of-result : goal.invariant_of-result
invariant_of-result g c = rw (c.loop.invariant.empty, entries-replicate) (tt, refl)

pub returns : goal.returns
returns g c =
    let all : vec_len c.loop.places ≡ c.args.q = omega arith in
    rw (c.loop.invariant.empty, entries-replicate) (ap (λ n. record { room = n; waiting = _ }) all)
