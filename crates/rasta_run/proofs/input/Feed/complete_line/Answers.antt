use Rattle.std.proofs.Common.{ap, append_assoc, rules, ◌∙◌, ◌++◌}
use Rattle.rasta_run.proofs.input.Feed.complete_line.Goals as goal

pub octets-preserved : goal.octets-preserved
octets-preserved g c =
    record {
      added = (
        c.octets.invariant.added.0 ++ c.read_octet.ensures.added.0,
        c.read_octet.ensures.added.1 ∙ ap (λ l. l ++ c.read_octet.ensures.added.0) c.octets.invariant.added.1
            ∙ append_assoc c.args.self.now.lines.octets.items c.octets.invariant.added.0 c.read_octet.ensures.added.0,
      );
      kept = search rules;
    }
