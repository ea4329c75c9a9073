use Rattle.safe_machine.proofs.Words.{◌≡◌, ◌<◌, ◌≤◌, ◌∙◌, length, ap, arith, subst, true, in_turn, View, WINDOW_MAX}
use Rattle.safe_machine.proofs.code.Reach.{reached-sound, reached-window}
use Rattle.safe_machine.proofs.one.Runs.{turn-live}
use Rattle.safe_machine.proofs.machine.Machine.bounds.Goals as goal

pub returns-clause-confirmed : goal.returns-clause-confirmed
returns-clause-confirmed g c turn =
    let end = c.self.inside.end in
    let now_turn : in_turn end.connection ≡ true = ap (λ (v : View). in_turn v.connection) c.self.view_is ∙ turn in
    subst (λ (v : View). v.confirmed < v.made) c.self.view_is
    ((reached-sound end c.self.invariant).live (turn-live end.connection now_turn))

pub returns-clause-window : goal.returns-clause-window
returns-clause-window g c =
    omega (
      arith,
      ap (λ (v : View). length v.ring) c.self.view_is,
      ap (λ (v : View). v.window) c.self.view_is,
      reached-window c.self.inside.end c.self.invariant,
    )

pub returns-clause-room : goal.returns-clause-room
returns-clause-room g c = subst (λ (v : View). v.window ≤ WINDOW_MAX) c.self.view_is
    (reached-sound c.self.inside.end c.self.invariant).window
