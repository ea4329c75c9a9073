use Rattle.std.proofs.Common.{inl, inr, arith, rules}
use Rattle.pdi_session.specs.telegram.Places.{IsSized, receiver_field, sender_field}
use Rattle.pdi_session.proofs.NameLemmas.{holds_none, seen_spelled}
use Rattle.pdi_session.proofs.TeleLemmas.{tele_only, tele_spelled, text_reads}
use Rattle.pdi_session.proofs.telegram.codec.decode.Goals as goal

pub returns-in_default-clause-only : goal.returns-in_default-clause-only
returns-in_default-clause-only c = λ t text.
    let reads = text_reads t c.args.octets.now text in
    holds_none (sender_field c.args.octets.now) c.in_default.ensures t.sender text.sender reads.sender

pub returns-in_default-clause-fault : goal.returns-in_default-clause-fault
returns-in_default-clause-fault c =
    let sized : IsSized c.args.octets.now = (omega arith, omega arith) in
    (sized, inl (holds_none (sender_field c.args.octets.now) c.in_default.ensures))

pub returns-in_default-name_in-clause-only : goal.returns-in_default-name_in-clause-only
returns-in_default-name_in-clause-only c = λ t text.
    let reads = text_reads t c.args.octets.now text in
    holds_none (receiver_field c.args.octets.now) c.in_default-name_in.ensures t.receiver text.receiver reads.receiver

pub returns-in_default-name_in-clause-fault : goal.returns-in_default-name_in-clause-fault
returns-in_default-name_in-clause-fault c =
    let sized : IsSized c.args.octets.now = (omega arith, omega arith) in
    (sized, inr (holds_none (receiver_field c.args.octets.now) c.in_default-name_in.ensures))

pub returns-clause-found : goal.returns-clause-found
returns-clause-found c =
    let sized : IsSized c.args.octets.now = (omega arith, omega arith) in
    let sender = seen_spelled (sender_field c.args.octets.now) c.in-Some.sender.characters.now (search rules)
    c.in-Some.ensures in
    let receiver = seen_spelled (receiver_field c.args.octets.now) c.in-Some-name_in.receiver.characters.now
    (search rules) c.in-Some-name_in.ensures in
    tele_spelled _ c.args.octets.now c.type_inv.octets sized
    (
    record {
      protocol = search rules;
      kind = c.u16_at-kind.ensures;
      sender = sender.spelled;
      receiver = receiver.spelled;
      payload = c.split_at.ensures.back;
    }
    )
    sender.is receiver.is

pub returns-clause-only : goal.returns-clause-only
returns-clause-only c = λ t text.
    tele_only _ t c.args.octets.now text (search rules) c.u16_at-kind.ensures c.in-Some.ensures
    c.in-Some-name_in.ensures c.split_at.ensures.back
