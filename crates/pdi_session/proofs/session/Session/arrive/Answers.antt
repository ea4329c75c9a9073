use Rattle.pdi_session.specs.telegram.Tele.{tele_of}
use Rattle.pdi_session.proofs.one.TableLemmas.{few_judged}
use Rattle.pdi_session.proofs.session.Session.arrive.Goals as goal

pub returns-in-Goes-clause-few : goal.returns-in-Goes-clause-few
returns-in-Goes-clause-few g c =
    rw (c.carry_out.ensures.left, c.carry_out.ensures.added, c.agree.ensures, c.judge-verdict.ensures)
    (few_judged c.args.self.now (tele_of c.args.telegram.now) c.args.waiting.now)
