use Rattle.std.proofs.Common.{arith, ◌∙◌}
use Rattle.capture_text.proofs.LinePrefix.{keep_front}
use Rattle.capture_text.proofs.line_reader.keep.Goals as goal

pub returns-clause-kept : goal.returns-clause-kept
returns-clause-kept g c =
    c.in_ok-extend_from_slice.ensures.items ∙ keep_front c.args.line.now.items c.args.part.now _
    (omega (arith, c.args.line.now.ok.0, c.requires))
    (omega (arith, c.args.line.now.ok.0, c.len.ensures, c.min-size.ensures))
