-- Whether the settings of an interlocking and of its field element fit together.
use Rattle.std.specs.Prelude.{ℕ, Bool, List, [], ◌∷◌, nat_eq, nat_lt, bytes_eq}
use lib.Pointwise.{pointwise}
use Rattle.safe_pdu.specs.SafeText.{code_octets}
use Rattle.std.specs.List.{list_all, list_any}
use Rattle.end_settings.specs.EndSettings.{EndSettings}
use Rattle.rasta_run.specs.declared.matching.Match.{Match}
use Rattle.rasta_run.specs.declared.matching.Match.TheVariants.{Id, PeerId, Name, PeerName, Protocol, Version, Code, InitialValue, Heartbeat, PeerHeartbeat}

-- two names are equal
abbrev pub are_equal : (name other : List ℕ) → Bool
are_equal name other = bytes_eq name other

-- all of these versions are among those
abbrev pub are_known : (versions known : List ℕ) → Bool
are_known versions known = list_all (λ version. list_any (λ each. nat_eq each version) known) versions

-- the settings of an interlocking and a field element fit in this
abbrev pub holds : Match → (il fe : EndSettings) → Bool
holds Id il fe = nat_eq il.connection.own fe.connection.peer
holds PeerId il fe = nat_eq il.connection.peer fe.connection.own
holds Name il fe = are_equal il.addressing.own fe.addressing.peer
holds PeerName il fe = are_equal il.addressing.peer fe.addressing.own
holds Protocol il fe = nat_eq il.addressing.protocol fe.addressing.protocol
holds Version il fe = are_known il.versions fe.versions
holds Code il fe = nat_eq (code_octets il.connection.rule.length) (code_octets fe.connection.rule.length)
holds InitialValue il fe = pointwise nat_eq il.connection.rule.initial_value fe.connection.rule.initial_value
holds Heartbeat il fe = nat_lt il.connection.t_h fe.connection.t_max
holds PeerHeartbeat il fe = nat_lt fe.connection.t_h il.connection.t_max

-- the settings of an interlocking and a field element fit together
abbrev pub are_matching : (il fe : EndSettings) → Bool
are_matching il fe = list_all (λ each. holds each il fe)
    (Id ∷ PeerId ∷ Name ∷ PeerName ∷ Protocol ∷ Version ∷ Code ∷ InitialValue ∷ Heartbeat ∷ PeerHeartbeat ∷ [])
