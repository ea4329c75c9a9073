-- The lists among the settings, without their place in memory.
use Rattle.std.specs.Prelude.{ℕ, List, take}
use Rattle.end_settings.specs.declared.lists.Versions.{Versions}
use Rattle.end_settings.specs.declared.lists.Checksum.{Checksum}

-- the versions of a list of versions
abbrev pub versions_in : Versions → List ℕ
versions_in v = take v.count v.octets

-- the bytes of a checksum
abbrev pub checksum_in : Checksum → List ℕ
checksum_in c = take c.count c.octets
