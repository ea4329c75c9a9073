use Rattle.rasta_run.specs.Counts.{field_text}
use Rattle.rasta_run.proofs.Fields.{texts_end, texts_left}
use Rattle.rasta_run.proofs.counts_text.write_fields.Goals as goal

pub loop-name-preserved : goal.loop-name-preserved
loop-name-preserved g c = λ end behind.
    c.loop-name.invariant end
    (texts_left _ (λ f. field_text c.args.form f.0.now f.1) _ _ _ _ _ end c.loop-name-test.true
    c.in_ok-write_field.ensures behind)

pub returns : goal.returns
returns g c =
    c.loop-name.invariant _ (texts_end _ (λ f. field_text c.args.form f.0.now f.1) c.loop-name.name-index
    c.args.fields.now _ c.loop-name-test.false)
