use Rattle.stack_end.proofs.Words.{fields_of, FoldsTo-keeps, refl, rules}
use Rattle.stack_end.proofs.CallParts.{parts-went}
use Rattle.stack_end.proofs.upper.UpperLayers.pass_time.Goals as goal

pub returns-clause-does : goal.returns-clause-does
returns-clause-does g c =
    let passed = c.tick.ensures.passed in
    let went =
    parts-went g.T.Taker.takes (λ s. g.C.Channels.told s.upper.now.channels) (λ s. fields_of s.upper.now)
    (λ s. s.taker.now) (λ s. s.now) _
    (λ s p u r. (r.2, r.4)) c.args.now _ _ _ passed refl in
    let upper = FoldsTo-keeps (λ s. s.upper.ghost_name) _ (λ s p u r. r.0) _ _ _ passed in
    let taker = FoldsTo-keeps (λ s. s.taker.ghost_name) _ (λ s p u r. r.1) _ _ _ passed in
    search (rules, went, upper, taker)

pub returns-clause-reach : goal.returns-clause-reach
returns-clause-reach g c =
    let upper = FoldsTo-keeps (λ s. s.upper.ghost_name) _ (λ s p u r. r.0) _ _ _ c.tick.ensures.passed in
    let ready = c.tick.ensures.ready.0 in
    search (rules, ready, upper)

pub returns-clause-few : goal.returns-clause-few
returns-clause-few g c =
    let upper = FoldsTo-keeps (λ s. s.upper.ghost_name) _ (λ s p u r. r.0) _ _ _ c.tick.ensures.passed in
    let ready = c.tick.ensures.ready.1 in
    search (rules, ready, upper)

pub returns-clause-same : goal.returns-clause-same
returns-clause-same g c =
    let upper = FoldsTo-keeps (λ s. s.upper.ghost_name) _ (λ s p u r. r.0) _ _ _ c.tick.ensures.passed in
    let max = FoldsTo-keeps (λ s. s.upper.now.max) _ (λ s p u r. r.3) _ _ _ c.tick.ensures.passed in
    search (rules, max, upper)
