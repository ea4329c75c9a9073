use Rattle.std.proofs.Common.{◌≡◌, ◌∙◌, rules, sym}
use Rattle.pdi_session.specs.packing.Places.{seen_of, unit_seen}
use Rattle.pdi_session.proofs.UnitLemmas.{answer_fault, answer_found, answer_only, unit_none, unit_some}
use Rattle.pdi_session.proofs.packing.unit.unpack.Goals as goal

pub returns-then-is_empty-clause-exact : goal.returns-then-is_empty-clause-exact
returns-then-is_empty-clause-exact c = sym (unit_none c.args.octets.now (search rules))

pub returns-clause-exact : goal.returns-clause-exact
returns-clause-exact c = c.messages_in.ensures ∙ sym (unit_some c.args.octets.now (search rules))

pub returns-clause-found : goal.returns-clause-found
returns-clause-found c =
    let seen : seen_of c.messages_in.result ≡ unit_seen c.args.octets.now = c.messages_in.ensures
    ∙ sym (unit_some c.args.octets.now (search rules)) in
    answer_found c.messages_in.result c.args.octets.now c.type_inv.octets seen

pub returns-clause-only : goal.returns-clause-only
returns-clause-only c = λ ms text.
    let seen : seen_of c.messages_in.result ≡ unit_seen c.args.octets.now = c.messages_in.ensures
    ∙ sym (unit_some c.args.octets.now (search rules)) in
    answer_only c.messages_in.result c.args.octets.now ms seen text

pub returns-clause-fault : goal.returns-clause-fault
returns-clause-fault c =
    let seen : seen_of c.messages_in.result ≡ unit_seen c.args.octets.now = c.messages_in.ensures
    ∙ sym (unit_some c.args.octets.now (search rules)) in
    answer_fault c.messages_in.result c.args.octets.now c.type_inv.octets seen
