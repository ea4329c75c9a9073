use Rattle.stack_end.proofs.Words.{ap, drop, fields_of, turn_then, List, machine_turn, pack_turn, refl, still, sym, ℕ}
use Rattle.safe_machine.specs.Turns.{send_turn as machine_send_turn}
use Rattle.stack_end.proofs.CallParts.{alone-as, alone-left, alone-then, machine-went}
use Rattle.stack_end.proofs.Deliveries.{can-pack, once-packs}
use Rattle.stack_end.proofs.upper.UpperLayers.pack_one.Goals as goal

pub returns-clause-does : goal.returns-clause-does
returns-clause-does g c =
    let v = fields_of c.args.self.now in
    let unit = c.pack_into.new.unit.items in
    let packed = c.pack_into.ensures.packed c.if-not-pack_into.false in
    let t = machine_send_turn unit c.args.now v.machine in
    let one = machine-went (λ s. g.C.Channels.told s.channels.now) (λ s. s.numbers.now) (λ s. s.count) (λ s. s.made.now)
    _ (λ s pdu t r. (r.3, r.4, r.5, r.6)) t v _ _ _
    c.send-sent.ensures.left refl refl refl c.send-sent.ensures.made in
    let two = alone-then (machine_turn t v) (λ w. still (record w { waiting = drop v.max v.waiting })) _ _ _ _ _ one
    (alone-left _ _ _
    (ap (λ ws. record v {
      waiting = ws;
      numbers = c.send-sent.new.out.numbers.now;
      machine = c.send-sent.new.self;
      made = c.send-sent.new.out.made.now;
    }) c.pack_into.ensures.left))
    in
    let turn = λ (o : List ℕ). turn_then (machine_turn (machine_send_turn o c.args.now v.machine) v)
    (λ w. still (record w { waiting = drop v.max v.waiting })) in
    let spelled = alone-as (turn unit) (pack_turn c.args.now v) _ _ _ (ap turn packed.spelled) two in
    once-packs c.args.now v _ _ _ (can-pack v v.max unit (sym c.if-not-may_send.ensures) packed) spelled
