use Rattle.std.proofs.Common.{◌≡◌, ◌≢◌, [], ◌++◌, sym, ap, ◌∙◌, true≢false, rules}
use Rattle.std.proofs.lemmas.List.Elements.{All-append, All-nil}
use Rattle.std.specs.Io.BufRead.{take_through}
use Rattle.std.proofs.KnownBytes.{Consumes-trans, Consumes-nil}
use Rattle.std.proofs.BufReadLemmas.{Consumes_through}
use Rattle.capture_text.specs.Lines.{cut_line}
use Rattle.capture_text.proofs.LinePrefix.{cut_more, if_some}
use Rattle.capture_text.proofs.line_reader.take_line.Goals as goal

pub loop-init : goal.loop-init
loop-init g c = (search rules, [], search rules, All-nil (λ x. x ≢ 10), Consumes-nil _)

pub loop-preserved : goal.loop-preserved
loop-preserved g c =
    let (short, done, kept, none, read) = c.loop.invariant in
    let (part, kept', stops, read', none', ends, end) = c.in_ok-is_done.ensures.taken in (
      c.in_ok-is_done.ensures.fits,
      done ++ part,
      kept' ∙ ap (λ l. cut_line (l ++ part)) kept ∙ cut_more done part,
      All-append (λ x. x ≢ 10) done part none (none' (λ e. true≢false (sym e ∙ c.if-is_done.false))),
      Consumes-trans _ _ _ _ _ read read',
    )

pub returns-then-is_done : goal.returns-then-is_done
returns-then-is_done g c =
    let (short, done, kept, none, read) = c.loop.invariant in
    let (part, kept', stops, read', none', ends, end) = c.in_ok-is_done.ensures.taken in
    let all = Consumes_through 10 _ _ _ done part read none read' stops (ends c.if-is_done.true) (end c.if-is_done.true)
    in
    let whole = kept' ∙ ap (λ l. cut_line (l ++ part)) kept ∙ cut_more done part in
    record {
      kept = if_some (g.R.Read.remaining c.args.reader.now) (λ xs. done ++ part ≡ take_through 10 xs) _ (λ xs e. whole
          ∙ ap cut_line e) all.0;
      rest = all.1;
      fits = c.in_ok-is_done.ensures.fits;
    }
