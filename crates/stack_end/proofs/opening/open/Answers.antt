use Rattle.stack_end.proofs.Words.{arith, Bool, EndSettings, false, length, refl, rules, settings_of, side_of, sym, true, true≢false, UNIT_MESSAGES, ◌&&◌, ◌∙◌, ◌≡◌, ◌≤◌}
use Rattle.end_settings.specs.EndSettings.{are_fit, has_versions, in_limits, is_addressing}
use Rattle.pdi_session.specs.declared.TheConstants.{CHECKSUM_MAX}
use Rattle.safe_machine.specs.Settings.{is_legal}
use Rattle.safe_machine.specs.World.{Side}
use Rattle.std.specs.Prelude.{nat_le}
use Rattle.std.proofs.lemmas.Bool.Decides.{nat_tests}
use Rattle.stack_end.proofs.opening.open.Goals as goal

last : (a b : Bool) → (a && b) ≡ true → b ≡ true
last true b h = h
last false b h = absurd (true≢false (sym h))

fit-versions : (side : Side) (s : EndSettings) → are_fit side s ≡ true → has_versions side s ≡ true
fit-versions side s h =
    let d = has_versions side s in
    let c = nat_le (length s.checksum) CHECKSUM_MAX && d in
    let b = is_addressing s.addressing && c in
    last (nat_le (length s.checksum) CHECKSUM_MAX) d
    (last (is_addressing s.addressing) c (last (in_limits s) b (last (is_legal s.connection) (in_limits s && b) h)))

pub session-requires : goal.session-requires
session-requires g c =
    let fit : are_fit (side_of c.args.side) (settings_of c.args.config) ≡ true = sym c.is_fit.ensures
    ∙ c.if-not-is_fit.false in
    fit-versions (side_of c.args.side) (settings_of c.args.config) fit

pub returns-clause-kept : goal.returns-clause-kept
returns-clause-kept g c =
    let fit : are_fit (side_of c.args.side) (settings_of c.args.config) ≡ true = sym c.is_fit.ensures
    ∙ c.if-not-is_fit.false in
    let some : 1 ≤ c.args.config.n_maxpacket = grind (arith, nat_tests) in
    let most : c.args.config.n_maxpacket ≤ UNIT_MESSAGES = grind (arith, nat_tests) in
    record { reach = search rules; few = search rules; some = some; most = most }

pub returns-clause-stands : goal.returns-clause-stands
returns-clause-stands g c =
    record {
      red = search rules;
      upper =
          record {
            machine = c.in-Ok-open_machine.ensures.stands;
            has_made = c.in-Ok-open_machine.ensures.has_made;
            speaks = search rules;
            request = refl;
            numbers = c.in-Ok-open_machine.ensures.numbered;
            count = refl;
            max = refl;
            accepted = refl;
            made = c.in-Ok-open_machine.ensures.made;
            rule = search rules;
            t_max = search rules;
          };
    }
