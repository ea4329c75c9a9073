-- The settings that an end is opened with: those of all its layers.
use Rattle.std.specs.Prelude.{ℕ, Bool, true, false, ◌&&◌, ◌==◌, nat_lt, nat_le, List, length}
use Rattle.std.specs.List.{list_all}
use Rattle.octets.specs.declared.limits.TheConstants.{NAME_LENGTH, UNIT_MESSAGES, CHANNELS_MAX, Q_MAX, T_SEQ_LOWEST, T_SEQ_MAX}
use Rattle.safe_pdu.specs.declared.CodeRule.{CodeRule}
use Rattle.safe_machine.specs.Settings.{Settings, is_legal}
use Rattle.safe_machine.specs.World.{Side, as_role}
use Rattle.safe_machine.specs.World.Side.{Il, Fe}
use Rattle.pdi_session.specs.telegram.Names.{is_character}
use Rattle.pdi_session.specs.declared.TheConstants.{CHECKSUM_MAX}
use Rattle.pdi_session.specs.Settings.{Addressing, Role, Interlocking, Field, first_version, are_versions}

-- the settings of an end
pub record EndSettings : Type 0 where
  -- of the safety machine, whose role is that of the end
  pub connection : Settings
  -- protocol type and names of the session
  pub addressing : Addressing
  -- PDI versions: one at an interlocking, one to four at a field element
  pub versions : List ℕ
  -- the checksum that a field element sends
  pub checksum : List ℕ
  -- the number of channels
  pub channels : ℕ
  -- how many messages are packed into one unit
  pub n_maxpacket : ℕ
  -- how many parts are deferred
  pub q : ℕ
  -- how long parts are deferred, in milliseconds
  pub t_seq : ℕ

-- the settings of the safety code
abbrev pub rule_of : EndSettings → CodeRule
rule_of s = s.connection.rule

-- the settings of the safety machine, in the role of the side
abbrev pub connection_of : Side → EndSettings → Settings
connection_of Il s = as_role true s.connection
connection_of Fe s = as_role false s.connection

-- the settings of the session: the version of an interlocking, or the versions and the checksum of a field element
abbrev pub session_of : Side → EndSettings → Role
session_of Il s = Interlocking (first_version s.versions)
session_of Fe s = Field s.versions s.checksum

-- a name: 1 to 20 permitted characters
abbrev pub is_name : List ℕ → Bool
is_name text = nat_lt 0 (length text) && (nat_le (length text) NAME_LENGTH && list_all is_character text)

-- a protocol type of one byte, and two names
abbrev pub is_addressing : Addressing → Bool
is_addressing a = nat_lt a.protocol 256 && (is_name a.own && is_name a.peer)

-- an interlocking has exactly one version, a field element one to four different ones
abbrev pub has_versions : Side → EndSettings → Bool
has_versions Il s = length s.versions == 1
has_versions Fe s = are_versions s.versions

-- the numbers of the other layers are in their ranges
abbrev pub in_limits : EndSettings → Bool
in_limits s =
    (nat_le 1 s.channels && nat_le s.channels CHANNELS_MAX)
    && ((nat_le 1 s.n_maxpacket && nat_le s.n_maxpacket UNIT_MESSAGES)
    && ((nat_le 1 s.q && nat_le s.q Q_MAX) && (nat_le T_SEQ_LOWEST s.t_seq && nat_le s.t_seq T_SEQ_MAX)))

-- an end can be opened with these settings; all others are BadConfig
abbrev pub are_fit : Side → EndSettings → Bool
are_fit side s =
    is_legal s.connection && (in_limits s && (is_addressing s.addressing
    && (nat_le (length s.checksum) CHECKSUM_MAX && has_versions side s)))
