use Rattle.std.proofs.Common.{◌≡◌, ◌==◌, ◌<◌, ◌-◌, ◌∙◌, ◌++◌, ◌∷◌, [], Bor, ap, arith, false, length, List, map, rules, sym, true, ℕ}
use Rattle.std.proofs.lemmas.Bool.{eqb-false, eqb-true}
use Rattle.std.proofs.lemmas.List.{map-append}
use Rattle.octets.specs.declared.limits.TheConstants.{UNIT_MESSAGES}
use Rattle.pdi_session.specs.packing.Places.{first_message}
use Rattle.pdi_session.specs.packing.UnitText.{messages_of}
use Rattle.pdi_session.proofs.UnitLemmas.{nothing_read, read_all, read_broken, read_full, read_more}
use Rattle.pdi_session.proofs.packing.unit.messages_in.Goals as goal

pub loop-rest-init : goal.loop-rest-init
loop-rest-init c = rw c.new-messages.ensures (nothing_read UNIT_MESSAGES c.args.octets.now, omega arith)

pub returns-then-is_full : goal.returns-then-is_full
returns-then-is_full c =
    let some : (length c.loop-rest.rest.now == 0) ≡ false = search rules in
    let none : UNIT_MESSAGES - length c.loop-rest.messages.items ≡ 0 =
    omega (arith, eqb-true (length c.loop-rest.messages.items) UNIT_MESSAGES (sym c.if-is_full.ensures.value))
    in
    sym (read_full (UNIT_MESSAGES - length c.loop-rest.messages.items) (messages_of c.loop-rest.messages)
    c.loop-rest.rest.now none some)
    ∙ c.loop-rest.invariant.0

pub returns-in_default : goal.returns-in_default
returns-in_default c =
    let some : (length c.loop-rest.rest.now == 0) ≡ false = search rules in
    let left : 0 < UNIT_MESSAGES - length c.loop-rest.messages.items =
    omega (
      arith,
      eqb-false (length c.loop-rest.messages.items) UNIT_MESSAGES (sym c.if-is_full.ensures.value),
      c.loop-rest.invariant.1,
    )
    in
    sym (read_broken (UNIT_MESSAGES - length c.loop-rest.messages.items) (messages_of c.loop-rest.messages)
    c.loop-rest.rest.now left some c.in_default.ensures.none)
    ∙ c.loop-rest.invariant.0

pub loop-rest-preserved : goal.loop-rest-preserved
loop-rest-preserved c =
    let some : (length c.loop-rest.rest.now == 0) ≡ false = search rules in
    let left : 0 < UNIT_MESSAGES - length c.loop-rest.messages.items =
    omega (
      arith,
      eqb-false (length c.loop-rest.messages.items) UNIT_MESSAGES (sym c.if-is_full.ensures.value),
      c.loop-rest.invariant.1,
    )
    in
    let pushed : messages_of c.push.new.self ≡ messages_of c.loop-rest.messages ++ first_message c.loop-rest.rest.now ∷
    [] =
    ap (map (λ (m : Bor (List ℕ)). m.now)) c.push.ensures.items
    ∙ map-append (λ (m : Bor (List ℕ)). m.now) c.loop-rest.messages.items (c.in-Some.message ∷ [])
    ∙ ap (λ (m : List ℕ). messages_of c.loop-rest.messages ++ m ∷ []) c.in-Some.ensures.message
    in
    let less : UNIT_MESSAGES - length c.push.new.self.items
    ≡ UNIT_MESSAGES - length c.loop-rest.messages.items - 1 = omega (arith, c.push.ensures.len) in (
      rw (pushed, less, c.in-Some.ensures.behind)
          (sym (read_more (UNIT_MESSAGES - length c.loop-rest.messages.items) (messages_of c.loop-rest.messages)
          c.loop-rest.rest.now left some c.in-Some.ensures.none)
          ∙ c.loop-rest.invariant.0),
      omega (arith, left, c.push.ensures.len),
    )

pub returns : goal.returns
returns c =
    let none : (length c.loop-rest.rest.now == 0) ≡ true = search rules in
    sym (read_all (UNIT_MESSAGES - length c.loop-rest.messages.items) (messages_of c.loop-rest.messages)
    c.loop-rest.rest.now none)
    ∙ c.loop-rest.invariant.0
