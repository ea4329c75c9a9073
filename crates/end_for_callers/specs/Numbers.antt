-- The limits of a call, as numbers.
use Rattle.std.specs.Prelude.{◌≡◌}
use Rattle.end_for_callers.specs.declared.TheConstants.{CALL_TELEGRAMS, PART_PDUS}
use Rattle.end_for_callers.specs.declared.plain.TheConstants.{PLAIN_SETTINGS_SIZE}

-- A call releases at most nine parts, the one that arrives and the eight of the longest deferral queue, with three
-- telegrams each. A part causes at most five PDUs besides those retransmitted. Plain settings have 164 bytes, as in the
-- header for C.
abbrev pub NumbersAre : Type 0
NumbersAre = (CALL_TELEGRAMS ≡ 27) × (PART_PDUS ≡ 5) × (PLAIN_SETTINGS_SIZE ≡ 164)
