use Rattle.stack_engine.proofs.Words.{ends_at, side_of}
use Rattle.stack_engine.proofs.code.Histories.{admits-call, admits-opening}
use Rattle.stack_engine.proofs.sides.Sides.admits.Goals as goal

pub returns-in-Open-clause-refusal : goal.returns-in-Open-clause-refusal
returns-in-Open-clause-refusal g c = λ w h.
    admits-opening c.args.event.now c.in-Open.config c.in-Open.first_sn _ w c.in-Open.is
    (c.admits_opening.ensures.refusal (ends_at (side_of c.args.event.now.side) w) (c.openings-openings.ensures w h))

pub returns-in-Call-clause-refusal : goal.returns-in-Call-clause-refusal
returns-in-Call-clause-refusal g c = λ w h.
    admits-call c.args.event.now c.in-Call.field-0 _ w c.in-Call.is
    (λ d time. c.admits_call.ensures.refusal (ends_at (side_of c.args.event.now.side) w) d
    (c.openings-openings.ensures w h) time)
