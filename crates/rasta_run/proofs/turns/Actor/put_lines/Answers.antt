use Rattle.std.proofs.Common.{arith, inl, inr, refl, rules, sym, ◌∙◌}
use Rattle.rasta_run.specs.Actors.{with_input}
use Rattle.rasta_run.specs.InputLines.{input_of}
use Rattle.rasta_run.proofs.PutLemmas.{line-as, line-more, when-ready}
use Rattle.rasta_run.proofs.turns.Actor.put_lines.Goals as goal

pub returns-then-not-branch-clause-puts : goal.returns-then-not-branch-clause-puts
returns-then-not-branch-clause-puts g c =
    when-ready (λ o. g.C.Channels.told o.inner) g.T.Application.refuses _ _ _ _ _ _
    (sym c.may_put_lines-is_ready.ensures ∙ c.if-not-is_ready.false) (
      c.lines.place,
      with_input c.lines.self c.lines.app (input_of c.lines.feed),
      c.lines.invariant.along,
      inr (
        refl,
        line-as (λ o. g.C.Channels.told o.inner) g.T.Application.refuses _ _ _
            (with_input c.lines.self c.lines.app (input_of c.lines.feed)) _ _
            (with_input c.put_line.new.self c.put_line.new.app (input_of c.put_line.new.feed))
            c.lines.invariant.feed.1 c.if-not-branch.true
            c.in_ok-put_line.ensures.takes,
      ),
    )

pub lines-preserved : goal.lines-preserved
lines-preserved g c =
    record {
      time = c.put_line.ensures.time;
      kept = search rules;
      feed =
          (c.put_line.ensures.feed.0 ∙ c.lines.invariant.feed.0, c.put_line.ensures.feed.1 ∙ c.lines.invariant.feed.1);
      along =
          line-more (λ o. g.C.Channels.told o.inner) g.T.Application.refuses _ _ _ _
          (with_input c.lines.self c.lines.app (input_of c.lines.feed))
          (with_input c.put_line.new.self c.put_line.new.app (input_of c.put_line.new.feed))
          c.lines.invariant.along
          (line-as (λ o. g.C.Channels.told o.inner) g.T.Application.refuses _ _ _
          (with_input c.lines.self c.lines.app (input_of c.lines.feed)) _ _
          (with_input c.put_line.new.self c.put_line.new.app (input_of c.put_line.new.feed))
          c.lines.invariant.feed.1 c.if-not-branch.false
          c.in_ok-put_line.ensures.takes);
    }

pub returns-clause-puts : goal.returns-clause-puts
returns-clause-puts g c =
    when-ready (λ o. g.C.Channels.told o.inner) g.T.Application.refuses _ _ _ _ _ _
    (sym c.may_put_lines-is_ready.ensures ∙ c.if-not-is_ready.false) (
      c.lines.place,
      with_input c.lines.self c.lines.app (input_of c.lines.feed),
      c.lines.invariant.along,
      inl (omega arith, refl, refl),
    )
