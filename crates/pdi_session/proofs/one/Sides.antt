-- The settings that a session holds.
use Rattle.std.proofs.Common.{◌≤◌, length, arith}
use Rattle.pdi_session.specs.declared.TheConstants.{CHECKSUM_MAX}
use Rattle.pdi_session.specs.declared.OwnSide.{OwnSide}
use Rattle.pdi_session.specs.declared.OwnSide.TheVariants as side
use Rattle.pdi_session.specs.Settings.{IsSide, checksum_of, role_of}

pub side_checksum : (s : OwnSide) → IsSide s → length (checksum_of (role_of s)) ≤ CHECKSUM_MAX
side_checksum (side.Interlocking version) is = omega arith
side_checksum (side.Field versions checksum) is = is.1
