-- How one more channel extends the channels that were bound.
use Rattle.std.proofs.Common.{◌≡◌, List, [], ◌∷◌, ◌++◌, Result, Ok, Err, IfOk, refl}
use Rattle.std.proofs.lemmas.List.{append_assoc}
use Rattle.std.specs.declared.net.socket_addr.SocketAddr.{SocketAddr}
use Rattle.udp_channels.specs.Paths.{AreBound, Path}
use Rattle.udp_channels.specs.Sockets.{ChannelState, new_channel}
use Rattle.udp_channels.specs.declared.paths.Addresses.{Addresses}

-- a fact of success follows from another one
pub if-ok : {A E : Type 0} {P Q : Type 0} (result : Result A E) → (P → Q) → IfOk result (λ _. P) → IfOk result (λ _. Q)
if-ok (Ok x) f p = f p
if-ok (Err e) f p = p

-- a channel before those that were bound
pub binds : {T : Type 0} (is_bound : T → SocketAddr → Type 0) (path : Path T) (a : Addresses)
    (addresses all : List Addresses)
    (x : ChannelState (Path T)) (old mid new : List (ChannelState (Path T)))
    → all ≡ a ∷ addresses → x ≡ new_channel path → path.addresses ≡ a → is_bound path.socket a.own → mid ≡ old ++ x ∷ []
    → (made : List (ChannelState (Path T))) × (new ≡ mid ++ made) × AreBound is_bound addresses made
    → (made : List (ChannelState (Path T))) × (new ≡ old ++ made) × AreBound is_bound all made
binds is_bound path a addresses all x old mid new is_all is_new own bound is_mid (made, is_made, others) =
    rw is_all (
      x ∷ made,
      rw (is_made, is_mid) (append_assoc old (x ∷ []) made),
      (path, made, rw is_new refl, own, bound, others),
    )
