use Rattle.std.proofs.Common.{rules, ◌≡◌, ◌∙◌, ap, length, refl, sym, ◌++◌, List, ℕ, [], take}
use Rattle.pdi_session.specs.telegram.Names.{fill_name}
use Rattle.pdi_session.proofs.KnownLemmas.{made_behind, made_front, pair_made, written}
use Rattle.pdi_session.proofs.telegram.known.KnownPair.new.Goals as goal

pub invariant_of-result : goal.invariant_of-result
invariant_of-result c =
    let one = c.as_str.result.now in
    let other = c.as_str-2.result.now in
    let long : length c.put_name-2.new.buffer ≡ 40 = search rules in
    record {
      well_formed =
          pair_made c.put_name-2.new.buffer one other c.as_str.ensures.well_formed c.as_str-2.ensures.well_formed long
          (written c.put_name-2.new.buffer c.put_name.new.buffer [] one other c.as_str.ensures.well_formed
          long
          (c.put_name.ensures.front ∙ ap fill_name (sym c.as_str.ensures.characters)) refl
          (c.put_name-2.ensures.front ∙ ap (λ (name : List ℕ). take 20 c.put_name.new.buffer ++ fill_name name)
          (sym c.as_str-2.ensures.characters)));
    }

pub returns-clause-sender : goal.returns-clause-sender
returns-clause-sender c =
    let one = c.as_str.result.now in
    let other = c.as_str-2.result.now in
    let long : length c.put_name-2.new.buffer ≡ 40 = search rules in
    made_front c.put_name-2.new.buffer one other
    (written c.put_name-2.new.buffer c.put_name.new.buffer [] one other c.as_str.ensures.well_formed
    long
    (c.put_name.ensures.front ∙ ap fill_name (sym c.as_str.ensures.characters)) refl
    (c.put_name-2.ensures.front ∙ ap (λ (name : List ℕ). take 20 c.put_name.new.buffer ++ fill_name name)
    (sym c.as_str-2.ensures.characters)))
    ∙ c.as_str.ensures.characters

pub returns-clause-receiver : goal.returns-clause-receiver
returns-clause-receiver c =
    let one = c.as_str.result.now in
    let other = c.as_str-2.result.now in
    let long : length c.put_name-2.new.buffer ≡ 40 = search rules in
    made_behind c.put_name-2.new.buffer one other
    (written c.put_name-2.new.buffer c.put_name.new.buffer [] one other c.as_str.ensures.well_formed
    long
    (c.put_name.ensures.front ∙ ap fill_name (sym c.as_str.ensures.characters)) refl
    (c.put_name-2.ensures.front ∙ ap (λ (name : List ℕ). take 20 c.put_name.new.buffer ++ fill_name name)
    (sym c.as_str-2.ensures.characters)))
    ∙ c.as_str-2.ensures.characters
