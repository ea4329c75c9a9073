use Rattle.std.proofs.Common.{◌≡◌, rules, length, vec_len, refl, sym, arith}
use Rattle.std.proofs.lemmas.Option.{slice_get_past, slice_get_read}
use Rattle.stack_engine.proofs.openings.Openings.earlier.Goals as goal

pub returns-then-place-len : goal.returns-then-place-len
returns-then-place-len g c =
    let before = c.args.self.now.before.items in
    let size : vec_len c.args.self.now.before ≡ length before = search rules in
    sym (slice_get_read before (length before) c.args.place c.index.result.now refl
    (omega (arith, c.if-place-len.true, c.len.ensures, size)) c.index.ensures)

pub returns : goal.returns
returns g c =
    let before = c.args.self.now.before.items in
    let size : vec_len c.args.self.now.before ≡ length before = search rules in
    sym (slice_get_past before c.args.place (omega (arith, c.if-place-len.false, c.len.ensures, size)))
