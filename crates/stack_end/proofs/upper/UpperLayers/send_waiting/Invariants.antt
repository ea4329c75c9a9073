use Rattle.stack_end.proofs.Words.{Fields, fields_of, turn_then, if◌then◌else◌, KeepsBounds, length, send_turn, Turn, UNIT_MESSAGES, CarriesOutAlone, ◌+◌, ◌≡◌, ◌≤◌}
use Rattle.stack_end.proofs.upper.UpperLayers.send_waiting.Given as goal

abbrev pub invariant-loop-packs : goal.invariant-loop-packs
invariant-loop-packs g l =
    let v = fields_of l.initial.self in
    record {
      some : 1 ≤ l.self.max;
      most : l.self.max ≤ UNIT_MESSAGES;
      keeps : KeepsBounds 0 l.initial.self l.self;
      along :
          (t : Turn Fields) × CarriesOutAlone t (g.C.Channels.told l.initial.self.channels) (fields_of l.self)
          (g.C.Channels.told l.self.channels)
          × (send_turn l.now v ≡ (if l.packs then turn_then t (send_turn l.now) else t));
    }

abbrev pub decreases-loop-packs : goal.decreases-loop-packs
decreases-loop-packs g l = length l.self.waiting + (if l.packs then 1 else 0)
