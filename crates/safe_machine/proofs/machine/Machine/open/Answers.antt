use Rattle.safe_machine.proofs.Words.{refl, sym, ◌∙◌, [], false≢true, settings_of}
use Rattle.safe_machine.proofs.one.Kept.{own-legal}
use Rattle.safe_machine.proofs.one.TurnSteps.{opening_law_holds}
use Rattle.safe_machine.proofs.machine.Machine.open.Goals as goal

pub returns-then-not-is_legal-clause-bad_config : goal.returns-then-not-is_legal-clause-bad_config
returns-then-not-is_legal-clause-bad_config g c = (λ _. sym c.if-not-is_legal.ensures, λ _. refl)

pub begin-end-requires-clause-body : goal.begin-end-requires-clause-body
begin-end-requires-clause-body g c =
    (own-legal (settings_of c.args.role c.args.config) (sym c.if-not-is_legal.ensures)).window

pub invariant_of-result : goal.invariant_of-result
invariant_of-result g c =
    record {
      settings = settings_of c.args.role c.args.config;
      first = c.args.first_sn;
      began = c.args.now;
      moves = [];
      legal = sym c.if-not-is_legal.ensures;
      read = tt;
      stands =
          c.begin-end.ensures.left ∙ (opening_law_holds (settings_of c.args.role c.args.config) c.args.first_sn
          c.args.now).stands;
    }

pub returns-in-Ok-clause-bad_config : goal.returns-in-Ok-clause-bad_config
returns-in-Ok-clause-bad_config g c = (λ e. cc, λ e. absurd (false≢true (sym e ∙ sym c.if-not-is_legal.ensures)))

pub returns-in-Err-clause-bad_config : goal.returns-in-Err-clause-bad_config
returns-in-Err-clause-bad_config g c = (λ e. cc, λ e. absurd (false≢true (sym e ∙ sym c.if-not-is_legal.ensures)))
