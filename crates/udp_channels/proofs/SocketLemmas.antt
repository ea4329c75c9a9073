-- How one more channel extends what asking several channels does, and what a send does to one of them.
use Rattle.std.proofs.Common.{◌≡◌, ℕ, ◌+◌, ◌-◌, ◌≤◌, ◌<◌, ◌⊎◌, inl, inr, Bool, true, false, List, [], ◌∷◌, ◌++◌, Option, Some, None, Result, Ok, Err, is_ok, length, take, drop, slice_set, slice_index_or, refl, sym, subst, rules, arith}
use Rattle.std.proofs.lemmas.List.{drop_at, take_at}
use Rattle.std.proofs.lemmas.Option.{slice_get-get_or}
use Rattle.channels.specs.ChannelHistory.{Answer, answers_of}
use Rattle.channels.specs.declared.ChannelFault.{ChannelFault}
use Rattle.udp_channels.specs.Sockets.{AsksChannels, AsksAround, AsksLaterChannels, ChannelState, IsAsked, IsSent, SendsOn, or_none, unless_failed}
use Rattle.udp_channels.specs.declared.sockets.CallFault.{CallFault}
use Rattle.udp_channels.specs.declared.sockets.Reception.{Reception}
use Rattle.udp_channels.specs.declared.sockets.Reception.TheVariants.{Came, Nothing, Refused}

-- a channel that gives a datagram is the last one that is asked
pub asks-came : {S : Type 0} {receives : S → ℕ → Reception → List ℕ → S
    → Type 0} {room size : ℕ} (channel : ℕ) {octets : List ℕ}
    {asked left : ChannelState S} {others before : List (ChannelState S)}
    → before ≡ asked ∷ others → IsAsked receives room (Came size) octets asked left
    → AsksChannels receives room channel (Some (channel, octets) ∷ []) before (left ∷ others)
asks-came channel is asked = rw is (_, _, refl, inl (_, _, asked, refl, refl))

-- after a channel that refuses the others are asked
pub asks-refused : {S : Type 0} {receives : S → ℕ → Reception → List ℕ → S → Type 0} {room same : ℕ} (channel : ℕ)
    (answers : List Answer)
    {why : CallFault} {asked left : ChannelState S} {others before : List (ChannelState S)}
    (rest : List (ChannelState S))
    → before ≡ asked ∷ others → same ≡ room → IsAsked receives room (Refused why) [] asked left
    → AsksChannels receives same (channel + 1) answers others rest
    → AsksChannels receives room channel answers before (left ∷ rest)
asks-refused {receives = receives} channel answers {others = others} rest is equal asked later =
    rw is (
      _,
      _,
      refl,
      inr (inr (
        _,
        asked,
        subst (λ n. AsksChannels receives n (channel + 1) answers others rest) equal
            later,
      )),
    )

-- after a channel that has nothing the others are asked, and their failure is no failure
pub asks-nothing : {S : Type 0} {receives : S → ℕ → Reception → List ℕ → S → Type 0} {room same : ℕ} (channel : ℕ)
    (result joined : Result (Option (ℕ × ℕ)) ChannelFault) (buffer : List ℕ)
    {asked left : ChannelState S} {others before : List (ChannelState S)} (rest : List (ChannelState S))
    → joined ≡ unless_failed result → before ≡ asked ∷ others → same ≡ room
    → IsAsked receives room Nothing [] asked left
    → AsksChannels receives same (channel + 1) (answers_of result buffer) others rest
    → AsksChannels receives room channel (answers_of joined buffer) before (left ∷ rest)
asks-nothing {receives = receives} channel (Ok None) joined buffer {others = others} rest joins is equal asked later =
    rw (joins, is) (
      _,
      _,
      refl,
      inr (inl (
        None ∷ [],
        asked,
        subst (λ n. AsksChannels receives n (channel + 1) (None ∷ []) others rest) equal later,
        refl,
      )),
    )
asks-nothing {receives = receives} channel (Ok (Some (number, size))) joined buffer {others = others} rest joins is
    equal asked later =
    rw (joins, is) (
      _,
      _,
      refl,
      inr (inl (
        answers_of (Ok (Some (number, size))) buffer,
        asked,
        subst (λ n. AsksChannels receives n (channel + 1) (answers_of (Ok (Some (number, size))) buffer) others rest)
            equal later,
        refl,
      )),
    )
asks-nothing {receives = receives} channel (Err why) joined buffer {others = others} rest joins is equal asked later =
    rw (joins, is) (
      _,
      _,
      refl,
      inr (inl (
        [],
        asked,
        subst (λ n. AsksChannels receives n (channel + 1) [] others rest)
            equal later,
        refl,
      )),
    )

-- a failure of all others is no failure if one channel has nothing
answers-or-none : (result joined : Result (Option (ℕ × ℕ)) ChannelFault) (buffer : List ℕ)
    → joined ≡ unless_failed result
    → answers_of joined buffer ≡ or_none (answers_of result buffer)
answers-or-none (Ok None) joined buffer joins = rw joins refl
answers-or-none (Ok (Some (number, size))) joined buffer joins = rw joins refl
answers-or-none (Err why) joined buffer joins = rw joins refl

-- the later channels are asked, and then the earlier ones
pub asks-around : {S : Type 0} {receives : S → ℕ → Reception → List ℕ → S → Type 0} {room : ℕ} (last : ℕ)
    (first answers : List Answer)
    (before front back earlier later : List (ChannelState S)) → length earlier ≡ last → front ≡ take last before
    → back ≡ drop last before
    → AsksChannels receives room (last + 1) first back later
    → AsksLaterChannels receives room first answers front earlier
    → AsksAround receives room last answers before (earlier ++ later)
asks-around {receives = receives} {room = room} last first answers before front back earlier later size is_front is_back
    asked others = (
      first,
      subst (λ xs. AsksChannels receives room (last + 1) first (drop last before) xs)
          (sym (drop_at earlier later last size))
          (subst (λ xs. AsksChannels receives room (last + 1) first xs later) is_back asked),
      subst (λ xs. AsksLaterChannels receives room first answers (take last before) xs)
          (sym (take_at earlier later last size))
          (subst (λ xs. AsksLaterChannels receives room first answers xs earlier) is_front others),
    )

-- the same, if the later ones did not all fail
pub asks-on : {S : Type 0} {receives : S → ℕ → Reception → List ℕ → S → Type 0} {room : ℕ} (last : ℕ)
    (found given : Option (ℕ × ℕ)) (buffer : List ℕ)
    (answers : List Answer) (before front back earlier later : List (ChannelState S)) → length earlier ≡ last
    → front ≡ take last before
    → back ≡ drop last before → given ≡ found
    → AsksChannels receives room (last + 1) (answers_of (Ok given) buffer) back later
    → AsksLaterChannels receives room (answers_of (Ok found) buffer) answers front earlier
    → AsksAround receives room last answers before (earlier ++ later)
asks-on {receives = receives} {room = room} last found given buffer answers before front back earlier later size
    is_front is_back same asked others =
    asks-around last (answers_of (Ok found) buffer) answers before front back earlier later size is_front is_back
    (subst (λ o. AsksChannels receives room (last + 1) (answers_of (Ok o) buffer) back later) same asked) others

-- after the later channels had nothing, the earlier ones are asked
pub then-joined : {S : Type 0} (receives : S → ℕ → Reception → List ℕ → S → Type 0) {room same : ℕ}
    (result joined : Result (Option (ℕ × ℕ)) ChannelFault) (buffer : List ℕ) (front earlier : List (ChannelState S))
    → joined ≡ unless_failed result
    → same ≡ room → AsksChannels receives same 1 (answers_of result buffer) front earlier
    → AsksLaterChannels receives room (None ∷ []) (answers_of joined buffer) front earlier
then-joined receives result joined buffer front earlier joins equal asked = (
  answers_of result buffer,
  subst (λ n. AsksChannels receives n 1 (answers_of result buffer) front earlier) equal
      asked,
  answers-or-none result joined buffer joins,
)

-- after the later channels all refused, the earlier ones are asked
pub then-asked : {S : Type 0} (receives : S → ℕ → Reception → List ℕ → S
    → Type 0) {room same : ℕ} (answers : List Answer)
    (front earlier : List (ChannelState S)) → same ≡ room → AsksChannels receives same 1 answers front earlier
    → AsksLaterChannels receives room [] answers front earlier
then-asked receives answers front earlier equal asked =
    subst (λ n. AsksChannels receives n 1 answers front earlier) equal asked

-- one send of a channel of the list, which it leaves in its place
pub sends-on : {S : Type 0} {sends : S → List ℕ → Result (Unit {0}) CallFault → S
    → Type 0} {channel : ℕ} {datagram : List ℕ} {given : Result (Unit {0}) CallFault} {went : Bool}
    (before : List (ChannelState S)) (d : ChannelState S) {left : ChannelState S}
    → (channel ≡ 0 → ⊥) → channel ≤ length before → went ≡ is_ok given
    → IsSent sends datagram given (slice_index_or before (channel - 1) d) left
    → SendsOn sends channel datagram went before (slice_set before (channel - 1) left)
sends-on {channel = channel} before d positive within went sent =
    record {
      own = λ _. (_, _, _, slice_get-get_or before (channel - 1) d (omega (arith, positive, within)), sent, went, refl);
      none = search (rules, positive, within);
    }
