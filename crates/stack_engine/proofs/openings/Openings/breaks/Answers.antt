use Rattle.stack_engine.proofs.Words.{latest, sym, ◌∙◌}
use Rattle.stack_engine.proofs.code.Histories.{breaks-none, breaks-part}
use Rattle.stack_engine.proofs.openings.Openings.breaks.Goals as goal

pub returns-in-Ok : goal.returns-in-Ok
returns-in-Ok g c = λ xs ys h k.
    c.breaks_by.ensures xs ys h k
    ∙ breaks-part (latest xs) (latest ys) c.args.dead c.args.datagram.now (c.in-Ok.pdu.seq, c.in-Ok.pdu.upper.now)
    (sym c.in-Ok.ensures.exact)

pub returns-in-Err : goal.returns-in-Err
returns-in-Err g c = λ xs ys h k.
    breaks-none (latest xs) (latest ys) c.args.dead c.args.datagram.now c.in-Err.field-0 (sym c.in-Err.ensures.exact)
