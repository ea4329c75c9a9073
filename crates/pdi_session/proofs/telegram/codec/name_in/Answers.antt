use Rattle.std.proofs.Common.{ℕ, List, ◌==◌, ◌∙◌, ap, take, not, arith}
use Rattle.std.proofs.lemmas.List.Sums.{count_by-le-length}
use Rattle.std.specs.Result.{result_ok}
use Rattle.octets.specs.declared.limits.TheConstants.{FILLING}
use Rattle.pdi_session.specs.telegram.Names.{name_read}
use Rattle.pdi_session.proofs.CountLemmas.{front_seen}
use Rattle.pdi_session.proofs.telegram.codec.name_in.Goals as goal

pub split_at-requires : goal.split_at-requires
split_at-requires c =
    omega (arith, c.characters_in.ensures, count_by-le-length (λ (octet : ℕ). not (octet == FILLING)) c.args.field.now)

pub returns : goal.returns
returns c =
    c.of_octets.ensures
    ∙ ap (λ (octets : List ℕ). result_ok (name_read octets)) (c.split_at.ensures.front
    ∙ ap (λ (n : ℕ). take n c.args.field.now) c.characters_in.ensures)
    ∙ front_seen c.args.field.now c.requires
