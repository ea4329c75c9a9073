use Rattle.std.proofs.Common.{◌≡◌, ◌++◌, ◌+◌, ◌-◌, ◌*◌, ◌≤◌, drop, length, take}
use Rattle.pdi_session.specs.packing.UnitText.{unit_text}
use Rattle.pdi_session.proofs.packing.waiting.pack_into.Given as goal

-- what is written and what is still to be taken stay the same together
abbrev pub invariant-loop-taken : goal.invariant-loop-taken
invariant-loop-taken g l =
    record {
      room : length l.unit.items ≤ l._taken * 402;
      some : l.count ≤ l._taken + length l.waiting;
      written : l.unit.items ++ unit_text (take (l.count - l._taken) l.waiting)
          ≡ unit_text (take l.count l.initial.waiting);
      rest : drop (l.count - l._taken) l.waiting ≡ drop l.count l.initial.waiting;
    }
