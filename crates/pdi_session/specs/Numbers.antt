-- The values of the constants of the session.
use Rattle.std.specs.Prelude.{◌≡◌, ℕ}
use Rattle.pdi_session.specs.declared.TheConstants.{CHECKSUM_MAX, DIFFERENT, EQUAL, INITIALISATION_COMPLETED, INITIALISATION_REQUEST, START_INITIALISATION, VERSIONS_MAX, VERSION_ANSWER, VERSION_CHECK}

-- the five message types of the establishment, in decimal
abbrev pub KindsAre : Type 0
KindsAre =
    (VERSION_CHECK ≡ 36) × (VERSION_ANSWER ≡ 37) × (INITIALISATION_REQUEST ≡ 33) × (START_INITIALISATION ≡ 34)
    × (INITIALISATION_COMPLETED ≡ 35)

-- the two results of a version check, the most versions of a field element, and the greatest checksum: that of a
-- complete MD4 digest, 16 bytes
abbrev pub SizesAre : Type 0
SizesAre = (DIFFERENT ≡ 1) × (EQUAL ≡ 2) × (VERSIONS_MAX ≡ 4) × (CHECKSUM_MAX ≡ 16)
