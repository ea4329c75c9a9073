-- Channels over UDP: the addresses that they are opened with, and why they are not opened.
use Rattle.std.specs.Prelude.{◌≡◌, ℕ, ◌+◌, ◌⊎◌, Bool, if◌then◌else◌, List, [], ◌∷◌}
use Rattle.std.specs.Net.Grammar.{IsSocketText}
use Rattle.std.specs.declared.net.socket_addr.SocketAddr.{SocketAddr}
use Rattle.udp_channels.specs.declared.paths.Addresses.{Addresses}
use Rattle.udp_channels.specs.declared.udp.Refusal.{Refusal}
use Rattle.udp_channels.specs.declared.udp.UdpFault.{UdpFault}
use Rattle.udp_channels.specs.declared.udp.UdpFault.TheVariants.{Lists, Memory, Address, Bind, Wait}

-- the texts of a channel's own address and of its peer's spell these addresses
abbrev pub SpellsAddresses : (own peer : List ℕ) → Addresses → Type 0
SpellsAddresses own peer a = IsSocketText own a.own × IsSocketText peer a.peer

-- the texts of each channel spell its addresses, in order
abbrev pub AreSpelled : (own peer : List (List ℕ)) → List Addresses → Type 0
AreSpelled [] [] all = all ≡ []
AreSpelled (x ∷ own) (y ∷ peer) all =
    (a : Addresses) × (rest : List Addresses) × (all ≡ a ∷ rest) × SpellsAddresses x y a × AreSpelled own peer rest
AreSpelled [] (y ∷ peer) all = ⊥
AreSpelled (x ∷ own) [] all = ⊥

-- why the addresses of one channel are not read: one of its texts is not an address
abbrev pub IsUnreadAt : ℕ → (own peer : List ℕ) → UdpFault → Type 0
IsUnreadAt channel own peer why =
    (is_own : Bool) × (why ≡ Address (record { channel = channel; is_own = is_own }))
    × ((a : SocketAddr) → ¬ IsSocketText (if is_own then own else peer) a)

-- why a list of addresses, whose first is that of this channel, is not read: no memory, or a text of the first channel
-- that has one that is not an address
abbrev pub IsUnread : ℕ → (own peer : List (List ℕ)) → UdpFault → Type 0
IsUnread channel (x ∷ own) (y ∷ peer) why =
    (why ≡ Memory) ⊎ (IsUnreadAt channel x y why ⊎ (((a : Addresses) × SpellsAddresses x y a)
    × IsUnread (channel + 1) own peer why))
IsUnread channel [] peer why = ⊥
IsUnread channel (x ∷ own) [] why = ⊥

-- the system refuses the socket of this channel
abbrev pub IsRefusedAt : ℕ → UdpFault → Type 0
IsRefusedAt channel why = (refusal : Refusal) × (why ≡ Bind refusal) × (refusal.channel ≡ channel)

-- why sockets at these addresses, the first of the channel of this number, are not bound: no memory, or the system
-- refuses the socket of one
abbrev pub IsUnbound : ℕ → List Addresses → UdpFault → Type 0
IsUnbound channel [] why = ⊥
IsUnbound channel (a ∷ addresses) why =
    (why ≡ Memory) ⊎ (IsRefusedAt channel why ⊎ IsUnbound (channel + 1) addresses why)

-- why channels are not opened between paired lists: no memory, a text that is not an address, or, if all are addresses,
-- a refused socket
abbrev pub IsRefusal : (own peer : List (List ℕ)) → UdpFault → Type 0
IsRefusal own peer why =
    (why ≡ Memory) ⊎ (IsUnread 1 own peer why ⊎ ((all : List Addresses) × AreSpelled own peer all
    × IsUnbound 1 all why))
