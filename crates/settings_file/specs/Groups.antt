-- The groups of settings.
use Rattle.std.specs.Prelude.{ℕ, ◌-◌, List, Option, Some, None, Result, Ok, Err}
use Rattle.toml.specs.Data.{Data}
use Rattle.settings_file.specs.declared.keys.Key.{Key}
use Rattle.settings_file.specs.declared.keys.Key.TheVariants as key
use Rattle.settings_file.specs.declared.keys.KeyFault.{KeyFault}
use Rattle.settings_file.specs.declared.values.Limits.{Limits}
use Rattle.settings_file.specs.Keys.{◌>>=◌}
use Rattle.std.specs.Prelude.{◌==◌, if◌then◌else◌}
use Rattle.pdi_session.specs.telegram.Tele.{owned_characters}
use Rattle.end_settings.specs.declared.Side.{Side}
use Rattle.settings_file.specs.declared.keys.ExpectedValue.TheVariants as expected
use Rattle.settings_file.specs.declared.values.PutEntry.{PutEntry}
use Rattle.settings_file.specs.declared.values.Identity.{Identity}
use Rattle.settings_file.specs.declared.values.Beginning.{Beginning}
use Rattle.octets.specs.declared.limits.TheConstants.{MWA_MAX, PDU_LIMIT_HIGHEST, PDU_LIMIT_LOWEST, Q_MAX, T_H_LOWEST, T_MAX_HIGHEST, T_MAX_LOWEST, T_SEQ_LOWEST, T_SEQ_MAX, UNIT_MESSAGES, WINDOW_MAX}
use Rattle.end_settings.specs.Lists.{versions_in, checksum_in}
use Rattle.settings_file.specs.Readers.{first_number_at, number_at, wrong_at, name_at, code_at, checksum_at, initial_value_at, versions_at}

-- the number at the key of a limit, with its range and default; that of `t_h` is below `t_max`
abbrev pub limit_at : Data → ℕ → Key → Result ℕ KeyFault
limit_at d t_max key.NSendmax = number_at d key.NSendmax 1 WINDOW_MAX (Some 20)
limit_at d t_max key.NMaxpacket = number_at d key.NMaxpacket 1 UNIT_MESSAGES (Some 3)
limit_at d t_max key.Deferral = number_at d key.Deferral 1 Q_MAX (Some 4)
limit_at d t_max key.TMax = number_at d key.TMax T_MAX_LOWEST T_MAX_HIGHEST (Some 1800)
limit_at d t_max key.THeartbeat = number_at d key.THeartbeat T_H_LOWEST (t_max - 1) (Some 300)
limit_at d t_max key.TSeq = number_at d key.TSeq T_SEQ_LOWEST T_SEQ_MAX (Some 50)
limit_at d t_max key.Mwa = number_at d key.Mwa 1 MWA_MAX (Some 10)
limit_at d t_max k = number_at d k PDU_LIMIT_LOWEST PDU_LIMIT_HIGHEST (Some PDU_LIMIT_HIGHEST)

-- the limits in a table, or the first fault
abbrev pub limits_of : Data → Result Limits KeyFault
limits_of d = do
  n_sendmax ← limit_at d 0 key.NSendmax
  n_maxpacket ← limit_at d 0 key.NMaxpacket
  deferral ← limit_at d 0 key.Deferral
  t_max ← limit_at d 0 key.TMax
  t_heartbeat ← limit_at d t_max key.THeartbeat
  t_seq ← limit_at d t_max key.TSeq
  mwa ← limit_at d t_max key.Mwa
  pdu_limit ← limit_at d t_max key.PduLimit
  Ok (record {
    n_sendmax = n_sendmax;
    n_maxpacket = n_maxpacket;
    deferral = deferral;
    t_max = t_max;
    t_heartbeat = t_heartbeat;
    t_seq = t_seq;
    mwa = mwa;
    pdu_limit = pdu_limit;
  })

-- an end and its peer, as plain values
pub record IdentitySeen : Type 0 where
  pub id : ℕ
  pub peer_id : ℕ
  pub name : List ℕ
  pub peer_name : List ℕ
  pub protocol : ℕ

-- an identity as plain values
abbrev pub identity_seen : Identity → IdentitySeen
identity_seen i = record {
  id = i.id;
  peer_id = i.peer_id;
  name = owned_characters i.name;
  peer_name = owned_characters i.peer_name;
  protocol = i.protocol;
}

-- the peer's identifier, if it differs from the end's own
abbrev pub other_than : Data → ℕ → ℕ → Result ℕ KeyFault
other_than d id peer = if peer == id then Err (wrong_at d key.PeerId expected.AnotherId) else Ok peer

-- the identity in a table, or the first fault
abbrev pub identity_of : Data → Result IdentitySeen KeyFault
identity_of d = do
  id ← number_at d key.Id 0 4294967295 None
  peer ← number_at d key.PeerId 0 4294967295 None
  peer_id ← other_than d id peer
  name ← name_at d key.Name
  peer_name ← name_at d key.PeerName
  protocol ← number_at d key.Protocol 0 255 (Some 1)
  Ok (record { id = id; peer_id = peer_id; name = name; peer_name = peer_name; protocol = protocol })

-- the values that an end uses to connect, as plain values
pub record BeginningSeen : Type 0 where
  pub versions : List ℕ
  pub code : ℕ
  pub checksum : List ℕ
  pub initial_value : List ℕ
  -- none if it is drawn at random
  pub first_sn : Option ℕ

-- these values of the type `Beginning`
abbrev pub beginning_seen : Beginning → BeginningSeen
beginning_seen b = record {
  versions = versions_in b.versions;
  code = b.code;
  checksum = checksum_in b.checksum;
  initial_value = b.initial_value;
  first_sn = b.first_sn;
}

-- these values in a table, or the first fault
abbrev pub beginning_of : Side → Data → Result BeginningSeen KeyFault
beginning_of e d = do
  versions ← versions_at e d
  code ← code_at d key.Code
  checksum ← checksum_at d key.Checksum
  initial_value ← initial_value_at d key.InitialValue
  first_sn ← first_number_at d key.FirstSn
  Ok (record {
    versions = versions;
    code = code;
    checksum = checksum;
    initial_value = initial_value;
    first_sn = first_sn;
  })

-- a telegram as message type and payload
abbrev pub put_seen : PutEntry → ℕ × List ℕ
put_seen p = (p.kind, p.payload.items)
