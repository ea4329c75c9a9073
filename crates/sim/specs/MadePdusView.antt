-- The PDUs of one end as they are kept in memory.
use Rattle.sim.specs.MadePdus.{MadePdu}
use Rattle.sim.specs.declared.made_pdus.Pdu.{Pdu}

-- A PDU as the contracts see it.
abbrev pub pdu_seen : {A : Type 0} → Pdu A → MadePdu
pdu_seen p = record { datagram = p.datagram.items; is_named = p.is_named }
