-- The states of a connection, grouped by what an end does in them.
use Rattle.std.specs.Prelude.{Bool, true, false}
use Rattle.safe_machine.specs.declared.ConnectionState.{ConnectionState}
use Rattle.safe_machine.specs.declared.ConnectionState.TheVariants.{Closed, Down, Up, RetrReq as Requesting, RetrRun}

-- The connection is over.
abbrev pub is_closed : ConnectionState → Bool
is_closed Closed = true
is_closed _ = false

-- A connection is established or requested: the end has made a PDU, its deadlines run, and it sends a DiscReq when it
-- leaves.
abbrev pub is_live : ConnectionState → Bool
is_live Closed = false
is_live Down = false
is_live _ = true

-- The connection is established, and heartbeats are due.
abbrev pub is_connected : ConnectionState → Bool
is_connected Up = true
is_connected Requesting = true
is_connected RetrRun = true
is_connected _ = false

-- Units are sent, and taken in their order.
abbrev pub in_turn : ConnectionState → Bool
in_turn Up = true
in_turn RetrRun = true
in_turn _ = false
