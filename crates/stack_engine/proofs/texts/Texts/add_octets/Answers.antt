use Rattle.std.proofs.Common.{ap, is_ok, length, List, rules, ℕ, ◌++◌, ◌∙◌, ◌≡◌}
use Rattle.std.specs.Prelude.{if◌then◌else◌}
use Rattle.stack_engine.proofs.code.Histories.{texts-add}
use Rattle.stack_engine.proofs.texts.Texts.add_octets.Goals as goal

pub returns-clause-added : goal.returns-clause-added
returns-clause-added g c =
    let o : List ℕ = c.self.inside.octets.items in
    let was : c.extend_from_slice.new.self.items ≡ o ++ c.args.text.now =
    c.extend_from_slice.ensures.items ∙ ap (λ r. if is_ok r then o ++ c.args.text.now else o) c.unwrap.ensures in
    let from : c.len-from.result ≡ length o = search rules in
    let after : c.len-to.result ≡ length c.extend_from_slice.new.self.items = search rules in
    rw (c.push_reserved.ensures.items, was, ← c.self.view_is)
    (texts-add o c.args.text.now c.self.inside.kept.items _ c.self.invariant from (after
    ∙ ap (λ (xs : List ℕ). length xs) was))
