use Rattle.std.proofs.Common.{◌≡◌, ◌-◌, ◌≤◌, length}
use Rattle.octets.specs.declared.limits.TheConstants.{UNIT_MESSAGES}
use Rattle.pdi_session.specs.packing.Places.{after, pieces_seen}
use Rattle.pdi_session.specs.packing.UnitText.{messages_of}
use Rattle.pdi_session.proofs.packing.unit.messages_in.Given as goal

-- what was read and what is still to be read make up the unit
abbrev pub invariant-loop-rest : goal.invariant-loop-rest
invariant-loop-rest l =
    (after (messages_of l.messages) (pieces_seen (UNIT_MESSAGES - length l.messages.items) l.rest)
    ≡ pieces_seen UNIT_MESSAGES l.octets)
    × (length l.messages.items ≤ UNIT_MESSAGES)

abbrev pub decreases-loop-rest : goal.decreases-loop-rest
decreases-loop-rest l = length l.rest
