-- One channel over UDP: what a send and a reception do with its socket.
use Rattle.std.specs.Prelude.{◌≡◌, ◌≢◌, ℕ, ◌==◌, None, Result, Ok, Err, List, [], ◌∷◌, length, take, if◌then◌else◌}
use Rattle.std.specs.declared.io.Error.{Error}
use Rattle.std.specs.IoError.{error_kind, raw_os_error}
use Rattle.std.specs.declared.io.ErrorKind.TheVariants.{WouldBlock}
use Rattle.std.specs.declared.net.socket_addr.SocketAddr.{SocketAddr}
use Rattle.udp_channels.specs.Sockets.{ChannelState, new_channel}
use Rattle.udp_channels.specs.declared.sockets.CallFault.{CallFault}
use Rattle.udp_channels.specs.declared.sockets.Reception.{Reception}
use Rattle.udp_channels.specs.declared.sockets.Reception.TheVariants.{Came, Nothing, Refused}
use Rattle.udp_channels.specs.declared.paths.Addresses.{Addresses}

-- a path: its socket, and its addresses
pub record Path (T : Type 0) : Type 0 where
  pub socket : T
  pub addresses : Addresses

-- the fault of a call with this error: the system's number for it, if it has one
abbrev pub fault_of : Error → CallFault
fault_of error = record { error = raw_os_error error }

-- a send of a datagram of this size succeeds if the system took all of it
abbrev pub whole_send_result : Result ℕ Error → ℕ → Result (Unit {0}) CallFault
whole_send_result (Ok size) whole = if size == whole then Ok tt else Err (record { error = None })
whole_send_result (Err why) whole = Err (fault_of why)

-- a send on a path
pub record SendsToPeer {T : Type 0} (sends_to : T → List ℕ → SocketAddr → Result ℕ Error → T
    → Type 0) (path : Path T) (datagram : List ℕ) (sent : Result (Unit {0}) CallFault) (left : Path T) : Type 0 where
  -- what the system gave for it
  pub given : Result ℕ Error
  -- its socket makes one call, with the datagram and the peer's address
  pub call : sends_to path.socket datagram path.addresses.peer given left.socket
  -- it succeeds if and only if the system takes the whole datagram, and its fault is that of the system's error
  pub whole : sent ≡ whole_send_result given (length datagram)
  -- the addresses stay
  pub addresses : left.addresses ≡ path.addresses

-- the bytes that the system gave
abbrev pub given_octets : Result (ℕ × SocketAddr) Error → List ℕ → List ℕ
given_octets (Ok (size, sender)) buffer = take size buffer
given_octets (Err why) buffer = []

-- a datagram of any sender came; nothing came if the call would have waited; any other error is a refusal, with that
-- error
abbrev pub IsReception : Result (ℕ × SocketAddr) Error → Reception → Type 0
IsReception (Ok (size, sender)) reception = reception ≡ Came size
IsReception (Err why) reception = (error_kind why ≡ WouldBlock → reception ≡ Nothing)
    × (error_kind why ≢ WouldBlock → reception ≡ Refused (fault_of why))

-- a reception on a path
pub record ReceivesFromAny {T : Type 0} (gives : T → ℕ → Result (ℕ × SocketAddr) Error → List ℕ → T
    → Type 0) (path : Path T) (room : ℕ) (reception : Reception) (octets : List ℕ) (left : Path T) : Type 0 where
  -- what the system gave
  pub given : Result (ℕ × SocketAddr) Error
  -- its socket makes one call, with the whole buffer
  pub call : gives path.socket room given octets left.socket
  -- what came is what the system gave
  pub came : IsReception given reception
  -- the addresses stay
  pub addresses : left.addresses ≡ path.addresses

-- the channels of these addresses, in order: each has a socket that was bound at the own address, and nothing has
-- failed
abbrev pub AreBound : {T : Type 0} → (T → SocketAddr → Type 0) → List Addresses → List (ChannelState (Path T)) → Type 0
AreBound is_bound [] channels = channels ≡ []
AreBound {T} is_bound (a ∷ addresses) channels =
    (path : Path T) × (rest : List (ChannelState (Path T))) × (channels ≡ new_channel path ∷ rest)
    × (path.addresses ≡ a) × is_bound path.socket a.own × AreBound is_bound addresses rest
