-- The codes of the exported functions as numbers, as in the header for C. A code below 0 is a refusal.
use Rattle.std.specs.Prelude.{◌≡◌, ℤ, pos, negsuc}
use Rattle.bekwidas.specs.declared.codes.TheConstants.{ALREADY_OPEN, BAD_SETTINGS, FULL, LOST, NOTHING, NOT_ESTABLISHED, NOT_INITIALISING, NOT_OPEN, NO_MEMORY, OK, RESERVED_KIND, ROOMS, SEND_FIRST, SETTINGS_SIZE, TAKE_FIRST, TIME, TOO_LONG, TOO_SMALL, UNSENT, UNWISE}

-- the codes of calls that were done
abbrev pub DoneAre : Type 0
DoneAre = (OK ≡ pos 0) × (NOTHING ≡ pos 1) × (UNSENT ≡ pos 2) × (UNWISE ≡ pos 3)

-- the codes of refusals; -n is negsuc (n - 1)
abbrev pub RefusalsAre : Type 0
RefusalsAre =
    (NOT_OPEN ≡ negsuc 2) × (ALREADY_OPEN ≡ negsuc 3) × (SETTINGS_SIZE ≡ negsuc 4) × (BAD_SETTINGS ≡ negsuc 5)
    × (ROOMS ≡ negsuc 6)
    × (NO_MEMORY ≡ negsuc 7) × (TIME ≡ negsuc 8) × (TAKE_FIRST ≡ negsuc 9) × (SEND_FIRST ≡ negsuc 10)
    × (LOST ≡ negsuc 11)
    × (TOO_SMALL ≡ negsuc 12) × (NOT_ESTABLISHED ≡ negsuc 13) × (FULL ≡ negsuc 14) × (RESERVED_KIND ≡ negsuc 15)
    × (TOO_LONG ≡ negsuc 16)
    × (NOT_INITIALISING ≡ negsuc 17)
