-- The settings of a session (SCI session layer; the rules are the profile's, docs/protocol.md).
use Rattle.std.specs.Prelude.{◌==◌, ◌<◌, ◌≤◌, ℕ, Bool, true, ◌&&◌, not, nat_le, IsTrue, List, [], ◌∷◌, length, ⊤}
use Rattle.std.specs.List.{list_any}
use Rattle.pdi_session.specs.declared.TheConstants.{CHECKSUM_MAX, VERSIONS_MAX}
use Rattle.pdi_session.specs.declared.Parties.{Parties}
use Rattle.pdi_session.specs.declared.OwnSide.{OwnSide}
use Rattle.pdi_session.specs.declared.OwnSide.TheVariants as side
use Rattle.pdi_session.specs.telegram.Names.{IsName}
use Rattle.pdi_session.specs.telegram.Tele.{owned_characters}

-- what every telegram of a session has: the protocol type and the characters of both names
pub record Addressing : Type 0 where
  -- the protocol type
  pub protocol : ℕ
  -- the name of this end
  pub own : List ℕ
  -- the name of the peer
  pub peer : List ℕ

-- which end it is: an interlocking with its version, or a field element with its versions and its checksum
pub data Role : Type 0 where
  Interlocking : (version : ℕ) → Role
  Field : (versions checksum : List ℕ) → Role

-- no two versions are equal
abbrev pub are_different : List ℕ → Bool
are_different [] = true
are_different (version ∷ versions) = not (list_any (λ other. other == version) versions) && are_different versions

-- one to four versions, no two of them equal
abbrev pub are_versions : List ℕ → Bool
are_versions versions = nat_le 1 (length versions) && nat_le (length versions) VERSIONS_MAX && are_different versions

-- the same as a statement
abbrev pub AreVersions : List ℕ → Type 0
AreVersions versions = IsTrue (are_versions versions)

-- the version that a field element names in reply to one that it does not have
abbrev pub first_version : List ℕ → ℕ
first_version [] = 0
first_version (version ∷ versions) = version

-- the checksum in a field element's reply; an interlocking has an empty one
abbrev pub checksum_of : Role → List ℕ
checksum_of (Interlocking version) = []
checksum_of (Field versions checksum) = checksum

-- settings are in range
pub record AreSettings (addressing : Addressing) (role : Role) : Type 0 where
  -- the protocol type fits one byte
  pub protocol : addressing.protocol < 256
  -- the own name is valid
  pub own : IsName addressing.own
  -- the peer's name is valid
  pub peer : IsName addressing.peer
  -- the checksum has at most 16 bytes
  pub checksum : length (checksum_of role) ≤ CHECKSUM_MAX

-- the settings as values, without their places in memory
abbrev pub addressing_of : Parties → Addressing
addressing_of p = record { protocol = p.protocol; own = owned_characters p.own; peer = owned_characters p.peer }

-- the side as a value, without its place in memory
abbrev pub role_of : OwnSide → Role
role_of (side.Interlocking version) = Interlocking version
role_of (side.Field versions checksum) = Field versions.items checksum.items

-- a field element's versions are valid, and its checksum has at most 16 bytes
abbrev pub IsSide : OwnSide → Type 0
IsSide (side.Interlocking version) = ⊤
IsSide (side.Field versions checksum) = AreVersions versions.items × (length checksum.items ≤ CHECKSUM_MAX)
