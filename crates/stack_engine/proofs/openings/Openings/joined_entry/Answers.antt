use Rattle.std.proofs.Common.{ap, length, rules, sym, vec_len, ◌∙◌, ◌≡◌}
use Rattle.std.specs.Prelude.{option_map, slice_get}
use Rattle.stack_engine.specs.Reports.{incarnations_of, joined_entry}
use Rattle.stack_engine.proofs.code.Histories.{at-present, not-present}
use Rattle.stack_engine.proofs.openings.Openings.joined_entry.Goals as goal

pub returns-then-place-len : goal.returns-then-place-len
returns-then-place-len g c =
    let before = c.args.self.now.before.items in
    let size : vec_len c.args.self.now.before ≡ length before = search rules in
    c.present_entry.ensures
    ∙ ap (option_map joined_entry) (sym (ap (slice_get (incarnations_of c.args.self.now)) (c.if-place-len.true
    ∙ (c.len.ensures ∙ size))
    ∙ at-present before c.args.self.now.present))

pub returns : goal.returns
returns g c =
    let before = c.args.self.now.before.items in
    let size : vec_len c.args.self.now.before ≡ length before = search rules in
    c.earlier_entry.ensures
    ∙ ap (option_map joined_entry) (sym (not-present before c.args.self.now.present c.args.place
    (λ e. c.if-place-len.false (e ∙ sym (c.len.ensures ∙ size)))))
