use Rattle.safe_machine.proofs.Words.{◌≡◌, ◌∙◌, Bool, ap, arith, length, sym, true, if◌then◌else◌, nat_lt, ltb-true, and_parts, Sends, send_unit_turn, still, View}
use Rattle.safe_machine.proofs.Words.{in_turn}
use Rattle.safe_machine.proofs.code.Reach.{reached-sound, reached-turn}
use Rattle.safe_machine.proofs.endpoint.MachineState.send.Goals as goal

pub send_unit-requires-clause-few : goal.send_unit-requires-clause-few
send_unit-requires-clause-few g c = omega (arith, (reached-sound c.args.self.now c.requires.reached).few)

pub send_unit-requires-clause-room : goal.send_unit-requires-clause-room
send_unit-requires-clause-room g c =
    let v : View = c.args.self.now in
    let k = reached-sound v c.requires.reached in
    let room_left : nat_lt (length v.ring) v.window
    ≡ true = (and_parts (in_turn v.connection) (nat_lt (length v.ring) v.window) c.requires.open).1 in
    omega (arith, ltb-true (length v.ring) v.window room_left, k.window, k.room)

pub send_unit-requires-clause-above : goal.send_unit-requires-clause-above
send_unit-requires-clause-above g c = (reached-sound c.args.self.now c.requires.reached).below

pub returns-clause-reached : goal.returns-clause-reached
returns-clause-reached g c =
    let v : View = c.args.self.now in
    let unit = c.args.unit.now in
    let goes = ap (λ (b : Bool). (if b then send_unit_turn unit c.args.now v else still v).left) (sym c.requires.open)
    in
    reached-turn (Sends unit c.args.now) v c.send_unit.new.self c.requires.reached c.requires.size
    (c.send_unit.ensures.left ∙ goes)
