use Rattle.stack_engine.proofs.Words.{[], arith, bytes_eq, drop, List, sym, ℕ, ◌∙◌}
use Rattle.octets.specs.declared.limits.TheConstants.{RED_HEADER}
use Rattle.stack_engine.proofs.code.Histories.{found-here, none-later}
use Rattle.stack_engine.proofs.keeper.Keeper.finds_part.Goals as goal

pub returns-then-is_part : goal.returns-then-is_part
returns-then-is_part g c =
    sym (found-here (λ (d : List ℕ). bytes_eq c.args.part.now (drop RED_HEADER d)) c.args.dead _
    c.args.self.now.datagrams [] (omega arith)
    (omega (arith, c.loop-place.invariant.0)) (sym c.is_part.ensures ∙ c.if-is_part.true))

pub returns : goal.returns
returns g c =
    sym (none-later (λ (d : List ℕ). bytes_eq c.args.part.now (drop RED_HEADER d)) _ c.args.dead
    c.args.self.now.datagrams (omega arith)
    c.loop-place.invariant.1)
