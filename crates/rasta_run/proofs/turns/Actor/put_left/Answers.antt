use Rattle.std.proofs.Common.{[], ap, refl, rules, sym, ◌∙◌}
use Rattle.rasta_run.specs.TelegramPuts.{refusals_after}
use Rattle.rasta_run.proofs.PutLemmas.{full-offer, one-more, stops}
use Rattle.rasta_run.proofs.turns.Actor.put_left.Goals as goal

pub puts-init : goal.puts-init
puts-init g c = record { time = search rules; kept = search rules; along = ([], refl, refl, refl) }

pub returns-then-is_full-clause-puts : goal.returns-then-is_full-clause-puts
returns-then-is_full-clause-puts g c =
    let along = c.puts.invariant.along in
    let full =
    full-offer (λ o. g.C.Channels.told o.inner) g.T.Application.refuses c.args.now
    (c.puts.self.end, c.puts.self.put, c.puts.app) c.in-Some.put.now
    c.in_ok-offered.offered
    (c.put_one.new.self.end, c.put_one.new.self.put, c.put_one.new.app) c.in_ok-offered.ensures.offers
    (sym c.is_full-is_full.ensures ∙ c.if-is_full.true) in
    stops (λ o. g.C.Channels.told o.inner) g.T.Application.refuses _ _ _ _ _ _ _ _ _ _ _ _ _ _ _ along.0 along.2 along.3
    c.in-Some.ensures.cases.0 full.0
    (ap (λ a. a.left.now) c.put_one.ensures.kept) full.1 full.2 full.3
    (ap (λ a. a.refused_entries) c.put_one.ensures.kept)

pub puts-preserved : goal.puts-preserved
puts-preserved g c =
    record {
      time = c.put_one.ensures.time;
      kept = search rules;
      along =
          one-more _ _ _ _ _ _ _ _ _ c.puts.invariant.along c.in-Some.ensures.cases.0 (
            c.in_ok-offered.offered,
            sym c.is_full-is_full.ensures ∙ c.if-is_full.false,
            c.in_ok-offered.ensures.offers,
            c.refusals_after-self.ensures ∙ ap (λ a. refusals_after c.in_ok-offered.offered a.refused_entries)
                c.put_one.ensures.kept,
          );
    }
