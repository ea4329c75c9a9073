use Rattle.std.proofs.Common.{rules, inr, sym, refl}
use Rattle.rasta_words.proofs.follow_times.chosen_times.Goals as goal

pub returns-then-is_reversed-clause-refused : goal.returns-then-is_reversed-clause-refused
returns-then-is_reversed-clause-refused c =
    inr (inr (inr (inr (
      record {
        form = c.in_ok-form.form;
        span = record { from = c.in_ok-from.from; to = c.in_ok-to.to };
        every = c.in_ok-every.every;
      },
      search rules,
      sym c.if-is_reversed.ensures,
      refl,
    ))))
