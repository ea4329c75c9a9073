use Rattle.stack_engine.proofs.Words.{by_cond, Call, call_of, call_refusal, Clock, EndState, Incarnation, IncarnationRepresents, is_untimely, IsOfSession, latest}
use Rattle.stack_engine.proofs.Words.{List, MatchResult, NamesRefusal, None, Option, PresentRepresents, Result, session_refusal, Some, subst, time_of, [], ◌∷◌, ◌≡◌}
use Rattle.stack_engine.specs.declared.ApplyFault.{ApplyFault}
use Rattle.stack_engine.proofs.code.Histories.{call-time}
use Rattle.stack_engine.proofs.openings.Openings.call.Goals as goal

-- if no time refuses it, the result of the present incarnation is that of the side
called : {A R : Type 0} (o : Option (Incarnation A)) (i : Incarnation A) (r : Result R ApplyFault) (c : Call)
    (xs : List EndState) → o ≡ Some i
    → PresentRepresents o xs → IsOfSession (call_refusal c (latest xs))
    → ((x : EndState) → IncarnationRepresents i x
    → MatchResult r (λ _. session_refusal c x ≡ None) (λ f. NamesRefusal f (session_refusal c x)))
    → MatchResult r (λ _. call_refusal c (latest xs) ≡ None) (λ f. NamesRefusal f (call_refusal c (latest xs)))
called None i r c xs e stands ok one = absurd cc
called (Some j) i r c [] e stands ok one = absurd stands
called (Some j) i r c (x ∷ before) e stands ok one =
    let same : j ≡ i = cc in
    by_cond (λ q. IsOfSession q → MatchResult r (λ _. q ≡ None) (λ f. NamesRefusal f q))
    (is_untimely x.time (time_of c)) (Some Clock) (session_refusal c x)
    (λ late bad. absurd bad) (λ on good. one x (subst (λ k. IncarnationRepresents k x) same stands)) ok

pub returns-clause-refusal : goal.returns-clause-refusal
returns-clause-refusal g c = λ xs h.
    let d = call_of c.args.call.now c.args.now in
    called c.args.self.now.present c.in-Some.present c.call.result d xs c.in-Some.is h.present
    (c.in_ok-admits_call.ensures.refusal xs d h (call-time c.args.call.now c.args.now))
    (λ x k. c.call.ensures.refusal x (c.reserve_for.ensures.stands x k))
