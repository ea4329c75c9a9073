use Rattle.std.proofs.Common.{◌≡◌, ◌∙◌, sym, ap, drop}
use Rattle.std.proofs.lemmas.Bool.{eqb-true}
use Rattle.std.proofs.lemmas.List.{take_rest}
use Rattle.byteorder.specs.Endian.{little_number}
use Rattle.pdi_session.proofs.KnownLemmas.{eight_alike}
use Rattle.pdi_session.proofs.telegram.known.has_eight.Goals as goal

pub returns : goal.returns
returns c = λ same.
    let one : c.read_u64.result ≡ little_number 8 (drop c.args.place c.args.one.now) =
    c.read_u64.ensures ∙ ap (little_number 8) (take_rest c.args.one.now c.args.place) in
    let other : c.read_u64-2.result ≡ little_number 8 (drop c.args.place c.args.other.now) =
    c.read_u64-2.ensures ∙ ap (little_number 8) (take_rest c.args.other.now c.args.place) in
    eight_alike c.args.one.now c.args.other.now c.args.place c.type_inv.one c.type_inv.other c.requires.one
    c.requires.other
    (sym one ∙ eqb-true c.read_u64.result c.read_u64-2.result same ∙ other)
