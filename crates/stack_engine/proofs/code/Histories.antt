-- What the functions of the crate rely on: what is kept of a pair represents it, event by event.
use Rattle.stack_engine.proofs.Words.{[], part_received, add-one, AllByRecursion, ap, append-nil, append_assoc, ApplyFault, AreTyped, AreWithin, arith, AtArrivals}
use Rattle.stack_engine.proofs.Words.{AtOpened, EarlierRepresent, Bool, LayersRepresent, breaks_at, breaks_by, breaks_with, BreaksLaw, Call, call, call_of, call_refusal}
use Rattle.stack_engine.proofs.Words.{Calls, channels_of, code_octets, CodeCall, CodeEvent, datagrams_of, Deed, deed_event, Deliver, drop, drop-append-le}
use Rattle.stack_engine.proofs.Words.{drop-append_seam, EndConfig, ends_at, ends_of, EndSettings, EndRepresents, EndState, EndTakesTurn, EndTakesTurnAlone, EndValue, Entry}
use Rattle.stack_engine.proofs.Words.{entry_of, Err, Event, event_of, events_in, events_of, false, false≢true, Fe, fe_entry, FewAt, FewFirst, FewMore}
use Rattle.stack_engine.proofs.Words.{FewMoreLaw, FoldsTo, get_or, GrowsBy, apply_event, has_made, has_part, HasRoom, if◌then◌else◌, Il, il_entry, inc_refusal}
use Rattle.stack_engine.proofs.Words.{Incarnation, incarnations_of, IncarnationRepresents, IncarnationTakesTurn, Inside, inside, is_live, is_memory, is_none, is_shut, IsGenuine}
use Rattle.stack_engine.proofs.Words.{IsOfSession, IsPlaced, IsSmallItem, IsSmallPdu, IsTyped, Item, joined_entry, joined_of, JoinedEnd, joins_in, joins_of}
use Rattle.stack_engine.proofs.Words.{joins_with, KeeperValue, Kept, latest, latest_maker, length, length-append, length-drop, length-map, length-reverse}
use Rattle.stack_engine.proofs.Words.{length-take, List, list_any, live_in, Made, map, map-append, MatchResult, most_pdus, most_taken, NamesRefusal, nat_tests}
use Rattle.stack_engine.proofs.Words.{new_end, None, not, Ok, on_channels, on_first, Open, open_refusal, Openings, Option, option_map, Part, present}
use Rattle.stack_engine.proofs.Words.{present_list, PresentRepresents, puts_in, RunsTo, RunsToFault, RED_PDU_MAX, red_seen, RedFault, refl, Refusal, refusal, rest_of}
use Rattle.stack_engine.proofs.Words.{Result, reverse, reverse-append, reverse-reverse, rule_of, run, SentDatagram, sendings, SendsOne, sent_at_opening}
use Rattle.stack_engine.proofs.Words.{session_refusal, settings_of, Shelf, Side, side_of, Sides, SidesTakeEvent, SidesRepresent, SideRepresents, slice_get, slice_get-map}
use Rattle.stack_engine.proofs.Words.{slice_range, Some, start, subst, suc, sure_items, sure_room, sym, take, take-append-le, take-length, take-suc, TakesItem}
use Rattle.stack_engine.proofs.Words.{texts_in, time_of, ChannelHistory, told_of, true, Turn, turn, LeadsByTurn, World, zero, zero-add, ℕ, ◌&&◌, ◌++◌, ◌+◌, ◌-◌, ◌<◌, ◌==◌}
use Rattle.stack_engine.proofs.Words.{◌||◌, ◌↔◌, ◌∙◌, ◌∷◌, ◌≡◌, ◌≢◌, ◌≤◌}
use Rattle.channels.specs.ChannelHistory.{Sends}
use Rattle.red_layer.specs.Redundancy.{decoded}
use Rattle.stack_engine.specs.Pairs.{accepted_events as accepted_of}
use Rattle.stack_engine.specs.Reports.{Entry as ReportEntry, seen_entry}
use Rattle.stack_engine.specs.declared.report.Entry.{Entry as CodeEntry}
use Rattle.stack_engine.proofs.Words.{Past, past_of, PastRepresents}
use Rattle.stack_engine.specs.TextPlaces.{AreWithin as AreInside}
use Rattle.stack_engine.proofs.one.Sent.{all-append, all-parts, call-put, put_in_by}
use Rattle.stack_engine.specs.declared.ApplyFault.TheVariants as code
use Rattle.stack_engine.specs.declared.event.Call.TheVariants as call
use Rattle.stack_engine.specs.declared.event.Action.TheVariants as doing
use Rattle.stack_engine.specs.declared.history.Deed.TheVariants as deed

by-seen : (x : EndState) (peer : Option EndState) (dead : ℕ) (r : Result Part RedFault)
    → ((not (is_shut x) && breaks_by x peer dead r) ≡ false)
    ↔ AllByRecursion (λ (p : Part). IsGenuine peer dead x p.1) (part_received r)
by-seen x peer dead r = grind (arith, nat_tests)

at : (x peer : Option EndState) (dead channel : ℕ) (octets : List ℕ) (now : ℕ) → (breaks_at x peer dead octets ≡ false)
    ↔ AtOpened (AtArrivals (IsGenuine peer dead) (Deliver channel octets now)) x
at x peer dead channel octets now = grind (arith, nat_tests, by-seen)

pub breaks : BreaksLaw
breaks Il channel octets now w = at (present Il w) (present Fe w) w.dead_fe channel octets now
breaks Fe channel octets now w = at (present Fe w) (present Il w) w.dead_il channel octets now

range-more : (o more : List ℕ) (from to : ℕ) → from ≤ to → to ≤ length o
    → slice_range (o ++ more) from to ≡ slice_range o from to
range-more o more from to up within = grind (arith, length-drop from o, drop-append-le, take-append-le)

texts-more : {T : Type 0} (o more : List ℕ) (ks : List (Kept T)) → AreInside o ks
    → texts_in (o ++ more) ks ≡ texts_in o ks
texts-more o more [] h = refl
texts-more o more (k ∷ ks) h = grind (arith, range-more, h.0.0, h.0.1, texts-more o more ks h.1)

range-seam : (o more : List ℕ) → slice_range (o ++ more) (length o) (length (o ++ more)) ≡ more
range-seam o more = grind (arith, length-append o more, drop-append_seam o more, take-length more)

-- a text added after the others, in the bytes after theirs
pub texts-add : {T : Type 0} (o more : List ℕ) (ks : List (Kept T)) (k : Kept T) → AreInside o ks → k.from ≡ length o
    → k.to ≡ length (o ++ more)
    → texts_in (o ++ more) (ks ++ k ∷ []) ≡ texts_in o ks ++ (k.head, more) ∷ []
texts-add o more ks k h from to = grind (arith, map-append, texts-more, range-seam)

or-right : (a b : Bool) → (a || b) ≡ false → b ≡ false
or-right a b h = grind (arith, nat_tests)

or-true : (a : Bool) → (a || true) ≡ true
or-true a = grind (arith, nat_tests)

-- what is not found after one place is not found after a later one
pub none-later : {A : Type 0} (P : A → Bool) (a b : ℕ) (xs : List A) → a ≤ b → list_any P (drop a xs) ≡ false
    → list_any P (drop b xs) ≡ false
none-later P zero zero xs le h = h
none-later P (suc a) zero xs le h = absurd (omega arith)
none-later P zero (suc b) [] le h = h
none-later P (suc a) (suc b) [] le h = h
none-later P zero (suc b) (x ∷ xs) le h = none-later P zero b xs (omega arith) (or-right (P x) (list_any P xs) h)
none-later P (suc a) (suc b) (x ∷ xs) le h = none-later P a b xs (omega arith) h

-- the element at a place is found from before it
pub found-here : {A : Type 0} (P : A → Bool) (a n : ℕ) (xs : List A) (d : A) → a ≤ n → n < length xs
    → P (get_or xs n d) ≡ true → list_any P (drop a xs) ≡ true
found-here P a n [] d le lt h = absurd (omega arith)
found-here P zero zero (x ∷ xs) d le lt h = ap (λ b. b || list_any P xs) h
found-here P zero (suc n) (x ∷ xs) d le lt h =
    ap (λ b. P x || b) (found-here P zero n xs d (omega arith) (omega arith) h) ∙ or-true (P x)
found-here P (suc a) zero (x ∷ xs) d le lt h = absurd (omega arith)
found-here P (suc a) (suc n) (x ∷ xs) d le lt h = found-here P a n xs d (omega arith) (omega arith) h

-- all small telegrams for which there is room are kept
pub takes-all : (is : List Item) (s t : Shelf ℕ) → FoldsTo TakesItem s is t → AllByRecursion IsSmallItem is
    → length is ≤ sure_items s → t.texts ≡ s.texts ++ is
takes-all [] s t h small room = ap (λ (u : Shelf ℕ). u.texts) (sym h) ∙ sym (append-nil s.texts)
takes-all (i ∷ is) s t (u, one, rest) small room =
    grind (arith, one small.0 (omega arith), takes-all is u t rest small.1, append_assoc)

-- a sending on channel 1
abbrev IsFirst : SentDatagram → Type 0
IsFirst x = x.0 ≡ 1

abbrev firsts : List SentDatagram → List SentDatagram
firsts [] = []
firsts (x ∷ xs) = if x.0 == 1 then x ∷ firsts xs else firsts xs

abbrev IsShort : SentDatagram → Type 0
IsShort x = length x.1 ≤ RED_PDU_MAX

among : (xs : List SentDatagram) (x : SentDatagram) (ys : List SentDatagram)
    → AllByRecursion IsFirst ((xs ++ x ∷ []) ++ ys) → IsFirst x
among [] x ys h = h.0
among (y ∷ xs) x ys h = among xs x ys h.1

one-step : (b : Bool) → (if b then 1 else 0) ≤ 1
one-step b = grind (arith, nat_tests)

no-step : (b : Bool) → b ≡ false → (if b then 1 else 0) ≤ 0
no-step b h = grind (arith, nat_tests)

other-channel : (n : ℕ) → (n == 1) ≡ false → (1 == n) ≡ false
other-channel n h = grind (arith, nat_tests)

gains-one : (x : SentDatagram) (xs : List SentDatagram) (t j : ChannelHistory) (a b : List SentDatagram) (went : Bool)
    (c : Bool) → (x.0 == 1) ≡ c → Sends went t x j → t.sent ≡ Some a
    → AllByRecursion IsFirst b → IsShort x → length (if c then x ∷ firsts xs else firsts xs) ≤ t.room 1
    → ((before : List SentDatagram) → j.sent ≡ Some before → length (firsts xs) ≤ j.room 1 → b ≡ before ++ firsts xs)
    → b ≡ a ++ (if c then x ∷ firsts xs else firsts xs)
gains-one x xs t j a b true true is s before first short room ih =
    let left : t.room 1 ≤ j.room 1 + (if 1 == x.0 then 1 else 0) = s.left 1 in
    ih (a ++ x ∷ []) (s.sent ∙ ap (option_map (λ ys. ys ++ x ∷ [])) before) (omega (arith, left, one-step (1 == x.0)))
    ∙ append_assoc a (x ∷ []) (firsts xs)
gains-one x xs t j a b false true is s before first short room ih = grind (arith, nat_tests, s.sure)
gains-one x xs t j a b true false is s before first short room ih =
    let left : t.room 1 ≤ j.room 1 + (if 1 == x.0 then 1 else 0) = s.left 1 in
    let none = no-step (1 == x.0) (other-channel x.0 is) in
    let e : b ≡ (a ++ x ∷ []) ++ firsts xs = ih (a ++ x ∷ []) (s.sent ∙ ap (option_map (λ ys. ys ++ x ∷ [])) before)
    (omega (arith, left, none)) in
    let on-one : x.0 ≡ 1 = among a x (firsts xs) (subst (AllByRecursion IsFirst) e first) in
    absurd (false≢true (sym is ∙ ap (λ n. n == 1) on-one))
gains-one x xs t j a b false false is s before first short room ih =
    grind (arith, nat_tests, s.left 1, s.sent, ih, append-nil)

-- If the list afterwards holds only sends on channel 1, and there is room for these, it gained exactly them.
gains : (xs : List SentDatagram) (t u : ChannelHistory) (a b : List SentDatagram) → FoldsTo SendsOne t xs u
    → t.sent ≡ Some a → u.sent ≡ Some b → AllByRecursion IsFirst b
    → AllByRecursion IsShort xs → length (firsts xs) ≤ t.room 1 → b ≡ a ++ firsts xs
gains [] t u a b h before after first short room = grind (arith, append-nil)
gains (x ∷ xs) t u a b (j, one, rest) before after first short room =
    gains-one x xs t j a b one.0 (x.0 == 1) refl one.1 before first short.0 room
    (λ c sent left. gains xs j u c b rest sent after first short.1 left)

-- of the copies of a datagram the one on channel 1
firsts-append : (xs ys : List SentDatagram) → firsts (xs ++ ys) ≡ firsts xs ++ firsts ys
firsts-append [] ys = refl
firsts-append (x ∷ xs) ys = grind (arith, firsts-append xs ys)

firsts-on : (n : ℕ) (octets : List ℕ) → 1 ≤ n → firsts (on_channels n octets) ≡ (1, octets) ∷ []
firsts-on zero octets h = absurd (omega arith)
firsts-on (suc zero) octets h = refl
firsts-on (suc (suc n)) octets h = grind (arith, nat_tests, firsts-append, firsts-on (suc n) octets)

firsts-sendings : (s : EndSettings) (index : ℕ) (ms : List Made) → 1 ≤ s.channels
    → firsts (sendings s index ms) ≡ map on_first (datagrams_of s index ms)
firsts-sendings s index [] h = refl
firsts-sendings s index (m ∷ ms) h = grind (arith, firsts-append, firsts-on, firsts-sendings s (index + 1) ms h)

-- a datagram is not longer than its part with the header
short-on : (n : ℕ) (octets : List ℕ) → length octets ≤ RED_PDU_MAX → AllByRecursion IsShort (on_channels n octets)
short-on zero octets h = tt
short-on (suc n) octets h =
    all-append IsShort (on_channels n octets) ((suc n, octets) ∷ []) (short-on n octets h) (h, tt)

short-sendings : (s : EndSettings) (index : ℕ) (ms : List Made) → AllByRecursion (IsSmallPdu s) ms
    → AllByRecursion IsShort (sendings s index ms)
short-sendings s index [] h = tt
short-sendings s index (m ∷ ms) h =
    grind (arith, nat_tests, all-append, short-on, h.0, h.1, short-sendings s (index + 1) ms h.1)

firsts-only : (ds : List (List ℕ)) → AllByRecursion IsFirst (map on_first ds)
firsts-only [] = tt
firsts-only (d ∷ ds) = (refl, firsts-only ds)

octets-of : (ds : List (List ℕ)) → map (λ (x : SentDatagram). x.1) (map on_first ds) ≡ ds
octets-of [] = refl
octets-of (d ∷ ds) = ap (λ es. d ∷ es) (octets-of ds)

pub datagrams-length : (s : EndSettings) (index : ℕ) (ms : List Made) → length (datagrams_of s index ms) ≡ length ms
datagrams-length s index [] = refl
datagrams-length s index (m ∷ ms) = ap suc (datagrams-length s (index + 1) ms)

-- A keeper with room for all of them keeps each PDU sent.
pub keeps-all : (s : EndSettings) (index : ℕ) (ms : List Made) (k l : KeeperValue)
    → FoldsTo SendsOne (told_of k) (sendings s index ms) (told_of l)
    → 1 ≤ s.channels → AllByRecursion (IsSmallPdu s) ms → length ms ≤ sure_room k
    → l.datagrams ≡ k.datagrams ++ datagrams_of s index ms
keeps-all s index ms k l h channels small room =
    let few : length (firsts (sendings s index ms)) ≤ sure_room k = omega (
      arith,
      ap (λ (zs : List SentDatagram). length zs) (firsts-sendings s index ms channels),
      length-map (datagrams_of s index ms) on_first,
      datagrams-length s index ms,
    ) in
    let e : map on_first l.datagrams ≡ map on_first k.datagrams ++ firsts (sendings s index ms) =
    gains (sendings s index ms) (told_of k) (told_of l) (map on_first k.datagrams) (map on_first l.datagrams) h refl
    refl (firsts-only l.datagrams)
    (short-sendings s index ms small) few in
    let f : map on_first l.datagrams ≡ map on_first (k.datagrams ++ datagrams_of s index ms) =
    e ∙ ap (λ zs. map on_first k.datagrams ++ zs) (firsts-sendings s index ms channels)
    ∙ sym (map-append on_first k.datagrams (datagrams_of s index ms)) in
    sym (octets-of l.datagrams) ∙ ap (map (λ (x : SentDatagram). x.1)) f
    ∙ octets-of (k.datagrams ++ datagrams_of s index ms)

pub datagrams-append : (s : EndSettings) (index : ℕ) (ms ns : List Made)
    → datagrams_of s index (ms ++ ns) ≡ datagrams_of s index ms ++ datagrams_of s
    (index + length ms) ns
datagrams-append s index [] ns = let e : index ≡ index + 0 = omega arith in ap (λ (i : ℕ). datagrams_of s i ns) e
datagrams-append s index (m ∷ ms) ns = grind (arith, datagrams-append s (index + 1) ms ns)

-- a datagram has these bytes after its header if its PDU has them
pub has-part-made : (s : EndSettings) (index : ℕ) (octets : List ℕ) (dead : ℕ) (ms : List Made)
    → has_part octets (drop dead (datagrams_of s index ms))
    ≡ has_made (rule_of s) octets (drop dead ms)
has-part-made s index octets zero [] = refl
has-part-made s index octets zero (m ∷ ms) = grind (arith, has-part-made s (index + 1) octets zero ms)
has-part-made s index octets (suc dead) [] = refl
has-part-made s index octets (suc dead) (m ∷ ms) = has-part-made s (index + 1) octets dead ms

-- the PDUs of a call were kept
kept-more : {A : Type 0} (i j : Incarnation A) (x y : EndState) (t : Turn Inside)
    → most_pdus ≤ sure_room (channels_of i.end) → IncarnationRepresents i x → FewMore x y
    → GrowsBy t x y → FoldsTo SendsOne (told_of (channels_of i.end)) t.sent (told_of (channels_of j.end))
    → (channels_of j.end).datagrams ≡ datagrams_of y.settings 0 y.machine.made
kept-more i j x y t room h few grew sent =
    let s = x.settings in
    let more = grew.more in
    let start = length x.machine.made in
    let texts : AllByRecursion (IsSmallPdu s) y.machine.made = subst
    (λ (q : EndSettings). AllByRecursion (IsSmallPdu q) y.machine.made) grew.settings
    few.small_pdus in
    let small : AllByRecursion (IsSmallPdu s)
    more =
    (all-parts (IsSmallPdu s) x.machine.made more (subst (AllByRecursion (IsSmallPdu s)) grew.made texts)).1 in
    let count : length more ≤ most_pdus = omega (
      arith,
      few.pdus,
      ap (λ (ms : List Made). length ms) grew.made,
      length-append x.machine.made more,
    ) in
    let out = subst (λ xs. FoldsTo SendsOne (told_of (channels_of i.end)) xs (told_of (channels_of j.end))) grew.sent
    sent in
    let gained = keeps-all s start more (channels_of i.end) (channels_of j.end) out few.channels small
    (omega (arith, count, room)) in
    gained ∙ (ap (λ (ds : List (List ℕ)). ds ++ datagrams_of s start more) h.kept
    ∙ (ap (λ (n : ℕ). datagrams_of s 0 x.machine.made ++ datagrams_of s n more) (sym (zero-add start))
    ∙ (sym (datagrams-append s 0 x.machine.made more)
    ∙ (ap (datagrams_of s 0) (sym grew.made)
    ∙ ap (λ (q : EndSettings). datagrams_of q 0 y.machine.made) (sym grew.settings)))))

-- a call in which nothing is delivered
pub alone-turns : {A : Type 0} (c : Call) (v w : EndValue KeeperValue A) (taken : Shelf ℕ)
    → EndTakesTurnAlone told_of (turn c) v w
    → EndTakesTurn told_of TakesItem (turn c) v taken w taken
alone-turns c v w taken h = grind (arith, nat_tests, h.left, h.none, h.sent)

-- the end refuses what its state does
pub refusal-is : {A : Type 0} (c : Call) (i : Incarnation A) (x : EndState) → IncarnationRepresents i x
    → inc_refusal c i ≡ session_refusal c x
refusal-is c i x h = grind (arith, nat_tests)

map-none : {X Y : Type 0} (f : X → Y) (o : Option X) → option_map f o ≡ None → o ≡ None
map-none f o h = grind (arith, nat_tests)

-- what an accepted call puts in
put-in : (c : Call) (x : EndState) → session_refusal c x ≡ None → puts_in c ≡ put_in_by c x
put-in c x h = grind (arith, nat_tests, map-none)

pub turned-stands : {A : Type 0} (c : Call) (i j : Incarnation A) (x : EndState) → HasRoom i
    → IncarnationTakesTurn c i j → inc_refusal c i ≡ None
    → LeadsByTurn (turn c (inside i.end)) x (call c x) → IncarnationRepresents i x → FewMore x (call c x)
    → IncarnationRepresents j (call c x)
turned-stands c i j x room t part_received turned h few =
    let y = call c x in
    let grew = turned.grew in
    let more = (turn c (inside i.end)).taken in
    let small : AllByRecursion IsSmallItem more = (all-parts IsSmallItem x.session.history.taken more
    (subst (AllByRecursion IsSmallItem) grew.taken few.small_items)).1 in
    let count : length more ≤ most_taken = omega (
      arith,
      few.takes,
      ap (λ (is : List Item). length is) grew.taken,
      length-append x.session.history.taken more,
    )
    in
    record {
      end = record { both = subst (λ (v : Inside). LayersRepresent v y) (sym t.end.left) turned.stands; time = t.time };
      config = ap settings_of t.config ∙ (h.config ∙ sym grew.settings);
      kept = kept-more i j x y (turn c (inside i.end)) room.0 h few grew t.end.sent;
      put =
          t.put
          ∙ (ap (λ (is : List Item). is ++ puts_in c) h.put
          ∙ (ap (λ (is : List Item). x.session.history.put ++ is)
          (put-in c x (sym (refusal-is c i x h) ∙ part_received)) ∙ sym (call-put c x)));
      taken = takes-all more i.taken j.taken t.end.taken small (omega (arith, count, room.1))
          ∙ (ap (λ (is : List Item). is ++ more) h.taken ∙ sym grew.taken);
    }

-- when it is opened
pub opened-stands : {A : Type 0} (side : Side) (s : EndSettings) (first now : ℕ) (k : KeeperValue) (i : Incarnation A)
    → k.datagrams ≡ [] → most_pdus ≤ sure_room k
    → FewFirst (new_end side s first now)
    → EndRepresents told_of i.end (new_end side s first now)
    → FoldsTo SendsOne (told_of k) (sent_at_opening (new_end side s first now))
    (told_of (channels_of i.end))
    → i.put.texts ≡ [] → i.taken.texts ≡ [] → settings_of i.config ≡ s
    → IncarnationRepresents i (new_end side s first now)
opened-stands side s first now k i none room few stands sent put taken config =
    grind (arith, nat_tests, keeps-all, few.channels, few.pdus, few.small_pdus, few.takes)

pub joins-opened : {A : Type 0} (o p : Openings A) (opened : Incarnation A) (xs : List EndState) → SideRepresents o xs
    → o.present ≡ None → p.present ≡ Some opened
    → p.before.items ≡ o.before.items → opened.joined ≡ None
    → joins_of p ≡ None ∷ joins_of o
joins-opened {A} o p opened xs h old new before none =
    ap (λ (q : Option (Incarnation A)). joins_with q (map joined_of (reverse p.before.items))) new
    ∙ (ap (λ (j : Option ℕ). j ∷ map joined_of (reverse p.before.items)) none
    ∙ ap (λ (js : List (Option ℕ)). None ∷ js)
    (ap (λ is. map joined_of (reverse is)) before
    ∙ (ap (map joined_of) (no-before o.present (reverse o.before.items) xs old h.present h.before)
    ∙ sym (ap (λ (q : Option (Incarnation A)). joins_with q (map joined_of (reverse o.before.items))) old))))
  where
    none-stands : (is : List (Past A)) → EarlierRepresent is [] → is ≡ []
    none-stands [] h = refl
    none-stands (i ∷ is) h = absurd h

    no-before : (q : Option (Incarnation A)) (is : List (Past A)) (xs : List EndState) → q ≡ None
        → PresentRepresents q xs → EarlierRepresent is (rest_of xs)
        → is ≡ []
    no-before None is [] e h k = none-stands is k
    no-before None is (x ∷ xs) e h k = absurd h
    no-before (Some i) is xs e h k = cc e

-- what is tested before memory is allocated
present-latest : (side : Side) (w : World) → present side w ≡ latest (ends_at side w)
present-latest side w = grind (arith, nat_tests)

pub call-time : (c : CodeCall) (now : ℕ) → time_of (call_of c now) ≡ now
call-time c now = grind (arith, nat_tests)

abbrev pub Admits : Result (Unit {0}) ApplyFault → Option Refusal → Type 0
Admits r why = MatchResult r (λ _. IsOfSession why) (λ fault. NamesRefusal fault why)

fits-opening : (r : Result (Unit {0}) ApplyFault) (why : Option Refusal)
    → MatchResult r (λ _. why ≡ None) (λ fault. NamesRefusal fault why) → Admits r why
fits-opening (Ok u) why h = subst IsOfSession (sym h) tt
fits-opening (Err fault) why h = h

pub admits-opening : (e : CodeEvent) (config : EndConfig) (first : ℕ) (r : Result (Unit {0}) ApplyFault) (w : World)
    → e.doing ≡ doing.Open config first
    → MatchResult r (λ _. open_refusal (side_of e.side) (settings_of config) e.time
    (latest (ends_at (side_of e.side) w)) ≡ None)
    (λ fault. NamesRefusal fault (open_refusal (side_of e.side) (settings_of config) e.time
    (latest (ends_at (side_of e.side) w))))
    → Admits r (refusal (event_of e) w)
admits-opening e config first r w is h = grind (arith, nat_tests, fits-opening, present-latest)

pub admits-call : (e : CodeEvent) (c : CodeCall) (r : Result (Unit {0}) ApplyFault) (w : World) → e.doing ≡ doing.Call c
    → ((d : Call) → time_of d ≡ e.time → Admits r (call_refusal d (latest (ends_at (side_of e.side) w))))
    → Admits r (refusal (event_of e) w)
admits-call e c r w is h = grind (arith, nat_tests, call-time, present-latest)

get-front : {X : Type 0} (xs ys : List X) (i : ℕ) → i < length xs → slice_get (xs ++ ys) i ≡ slice_get xs i
get-front [] ys i lt = absurd (omega arith)
get-front (x ∷ xs) ys zero lt = refl
get-front (x ∷ xs) ys (suc i) lt = get-front xs ys i (omega arith)

get-seam : {X : Type 0} (xs : List X) (y : X) → slice_get (xs ++ y ∷ []) (length xs) ≡ Some y
get-seam [] y = refl
get-seam (x ∷ xs) y = get-seam xs y

deed-kept : (cs more : List EndConfig) (side : Side) (now : ℕ) (d : Deed) (octets : List ℕ) → IsPlaced (length cs) d
    → deed_event (cs ++ more) side now d octets
    ≡ deed_event cs side now d octets
deed-kept cs more side now d octets h = grind (arith, nat_tests, get-front)

events-kept : (cs more : List EndConfig) (es : List (Entry × List ℕ)) → AreWithin (length cs) es
    → events_in (cs ++ more) es ≡ events_in cs es
events-kept cs more [] h = refl
events-kept cs more (e ∷ es) h =
    grind (arith, deed-kept cs more (side_of e.0.side) e.0.time e.0.doing e.1 h.0, events-kept cs more es h.1)

pub opening-added : (cs : List EndConfig) (c : EndConfig) (es : List (Entry × List ℕ)) (e : Entry) (octets : List ℕ)
    (first : ℕ) → AreWithin (length cs) es
    → e.doing ≡ deed.Open (length cs) first
    → events_in (cs ++ c ∷ []) (es ++ (e, octets) ∷ []) ≡ events_in cs es ++ Open (side_of e.side) (settings_of c) first
    e.time ∷ []
opening-added cs c es e octets first h is = grind (arith, map-append, events-kept, get-seam)

pub run-push : (es : List Event) (e : Event) (w : World) → run (es ++ e ∷ []) w ≡ apply_event (run es w) e
run-push [] e w = refl
run-push (d ∷ es) e w = run-push es e (apply_event w d)

few-at : FewMoreLaw → (es : List Event) → AreTyped es → (e : Event) → IsTyped e → FewAt e (run es start)
few-at law es typed (Open side s first now) t = tt
few-at law es typed (Calls side c) t = law es typed side c t

pub grown-stands : {A : Type 0} (s t : Sides A) (es : List Event) (e : Event) → FewMoreLaw → AreTyped es → IsTyped e
    → refusal e (run es start) ≡ None
    → SidesTakeEvent e s t
    → SidesRepresent s (run es start) → SidesRepresent t (run (es ++ e ∷ []) start)
grown-stands s t es e few typed is none does h = grind (arith, nat_tests, few-at, run-push)

pub typed-push : (es : List Event) (e : Event) → AreTyped es → IsTyped e → AreTyped (es ++ e ∷ [])
typed-push es e h t = all-append IsTyped es (e ∷ []) h (t, tt)

run-append : (es fs : List Event) (w : World) → run (es ++ fs) w ≡ run fs (run es w)
run-append [] fs w = refl
run-append (e ∷ es) fs w = run-append es fs (apply_event w e)

-- refused events change nothing
run-accepted : (es : List Event) (w : World) → run (accepted_of es w) w ≡ run es w
run-accepted [] w = refl
run-accepted (e ∷ es) w = grind (arith, run-accepted es (apply_event w e))

accepted-append : (es fs : List Event) (w : World)
    → accepted_of (es ++ fs) w ≡ accepted_of es w ++ accepted_of fs (run es w)
accepted-append [] fs w = refl
accepted-append (e ∷ es) fs w = grind (arith, accepted-append es fs (apply_event w e))

-- if a history has come by events
ran-world : (old es mid : List Event) → RunsTo old es mid → run mid start ≡ run es (run old start)
ran-world old es mid h = grind (arith, nat_tests, run-accepted, run-append)

-- one event more
ran-more : (old es mid : List Event) (e : Event) → RunsTo old es mid → (b : Bool)
    → is_none (refusal e (run mid start)) ≡ b
    → RunsTo old (es ++ e ∷ []) (mid ++ (if b then e ∷ [] else []))
ran-more old es mid e h b is =
    let w : World = run old start in
    let at : is_none (refusal e (run es w)) ≡ b = ap (λ (v : World). is_none (refusal e v))
    (sym (ran-world old es mid h)) ∙ is in
    let last : accepted_of (e ∷ []) (run es w)
    ≡ (if b then e ∷ [] else []) = ap (λ (c : Bool). if c then e ∷ [] else []) at in
    ap (λ (ds : List Event). ds ++ (if b then e ∷ [] else [])) h
    ∙ (append_assoc old (accepted_of es w) (if b then e ∷ [] else [])
    ∙ (ap (λ (ds : List Event). old ++ (accepted_of es w ++ ds)) (sym last)
    ∙ ap (λ (ds : List Event). old ++ ds) (sym (accepted-append es (e ∷ []) w))))

-- the events up to a place, and the one there
events-more : (items : List CodeEvent) (i : ℕ) (x : CodeEvent) → i < length items → x ≡ get_or items i x
    → take (suc i) (events_of items)
    ≡ take i (events_of items) ++ event_of x ∷ []
events-more [] i x lt is = absurd (omega arith)
events-more (y ∷ items) zero x lt is = ap (λ z. event_of z ∷ []) (sym is)
events-more (y ∷ items) (suc i) x lt is =
    ap (λ (es : List Event). event_of y ∷ es) (events-more items i x (omega arith) is)

pub ran-accepted : (old mid new : List Event) (items : List CodeEvent) (i : ℕ) (x : CodeEvent) → i < length items
    → x ≡ get_or items i x
    → RunsTo old (take i (events_of items)) mid
    → refusal (event_of x) (run mid start) ≡ None → new ≡ mid ++ event_of x ∷ []
    → RunsTo old (take (i + 1) (events_of items)) new
ran-accepted old mid new items i x lt is h none e =
    rw (add-one, events-more items i x lt is)
    (e ∙ ran-more old (take i (events_of items)) mid (event_of x) h true (ap (λ (r : Option Refusal). is_none r) none))

pub ran-refused : (old mid new : List Event) (items : List CodeEvent) (i : ℕ) (x : CodeEvent) (fault : ApplyFault)
    → i < length items → x ≡ get_or items i x
    → RunsTo old (take i (events_of items)) mid
    → is_memory fault ≡ false → NamesRefusal fault (refusal (event_of x) (run mid start)) → new ≡ mid
    → RunsTo old (take (i + 1) (events_of items)) new
ran-refused old mid new items i x fault lt is h other why e =
    rw (add-one, events-more items i x lt is)
    (e ∙ (sym (append-nil mid) ∙ ran-more old (take i (events_of items)) mid (event_of x) h false
    (named fault (refusal (event_of x) (run mid start)) other why)))
  where
    named : (fault : ApplyFault) (r : Option Refusal) → is_memory fault ≡ false → NamesRefusal fault r
        → is_none r ≡ false
    named code.Memory r other why = cc
    named _ r other why = ap (λ (q : Option Refusal). is_none q) why

-- the events are those up to a place, the one there, and the rest
events-split : (items : List CodeEvent) (i : ℕ) (x : CodeEvent) → i < length items → x ≡ get_or items i x
    → (rest : List Event) × (events_of items ≡ take i (events_of items) ++ event_of x ∷ rest)
events-split [] i x lt is = absurd (omega arith)
events-split (y ∷ items) zero x lt is = (events_of items, ap (λ z. event_of z ∷ events_of items) (sym is))
events-split (y ∷ items) (suc i) x lt is = grind (arith, nat_tests, events-split items i x (omega arith) is)

pub ran-before : (old mid new : List Event) (items : List CodeEvent) (i : ℕ) (x : CodeEvent) (fault : ApplyFault)
    → i < length items → x ≡ get_or items i x
    → RunsTo old (take i (events_of items)) mid
    → is_memory fault ≡ true → NamesRefusal fault (refusal (event_of x) (run mid start)) → new ≡ mid
    → RunsToFault old (events_of items) new
ran-before old mid new items i x fault lt is h memory why e =
    let split = events-split items i x lt is in (
      take i (events_of items),
      event_of x,
      split.0,
      split.1,
      e ∙ h,
      subst (λ (es : List Event). IsOfSession (refusal (event_of x) (run es start))) (sym e)
          (untested fault (refusal (event_of x) (run mid start)) memory why),
    )
  where
    untested : (fault : ApplyFault) (r : Option Refusal) → is_memory fault ≡ true → NamesRefusal fault r → IsOfSession r
    untested code.Memory r memory why = why
    untested _ r memory why = cc

-- the latest first
abbrev pub latest_first : {A : Type 0} → Openings A → List (Past A)
latest_first o = present_list o.present ++ reverse o.before.items

turned : {A : Type 0} (p : Option (Incarnation A)) (before : List (Past A))
    → reverse (present_list p ++ reverse before) ≡ before ++ present_list p
turned p before = grind (arith, nat_tests, reverse-append, reverse-reverse)

-- without its end an incarnation is kept as an earlier one
pub past-stands : {A : Type 0} (i : Incarnation A) (x : EndState) → IncarnationRepresents i x
    → PastRepresents (past_of i) x
past-stands i x h = record { kept = h.kept; put = h.put; taken = h.taken }

all-stand : {A : Type 0} (p : Option (Incarnation A)) (before : List (Past A)) (xs : List EndState)
    → PresentRepresents p xs
    → EarlierRepresent before (rest_of xs) → EarlierRepresent (present_list p ++ before) xs
all-stand None before [] h k = k
all-stand None before (x ∷ xs) h k = absurd h
all-stand (Some i) before [] h k = absurd h
all-stand (Some i) before (x ∷ xs) h k = (past-stands i x h, k)

map-reverse : {X Y : Type 0} (f : X → Y) (xs : List X) → map f (reverse xs) ≡ reverse (map f xs)
map-reverse f [] = refl
map-reverse f (x ∷ xs) =
    ap (map f) (reverse-append (x ∷ []) xs)
    ∙ (map-append f (reverse xs) (x ∷ [])
    ∙ (ap (λ ys. ys ++ f x ∷ []) (map-reverse f xs) ∙ sym (reverse-append (f x ∷ []) (map f xs))))

il-entries : {A : Type 0} (is : List (Past A)) (xs : List EndState) → EarlierRepresent is xs
    → map il_entry xs ≡ map (entry_of None) is
il-entries [] [] h = refl
il-entries [] (x ∷ xs) h = absurd h
il-entries (i ∷ is) [] h = absurd h
il-entries (i ∷ is) (x ∷ xs) h = grind (arith, h.0.put, h.0.taken, il-entries is xs h.1)

pub il-report : {A : Type 0} (o : Openings A) (xs : List EndState) → SideRepresents o xs
    → reverse (map il_entry xs) ≡ map (entry_of None) (incarnations_of o)
il-report o xs h =
    grind (
      arith,
      il-entries (latest_first o) xs (all-stand o.present (reverse o.before.items) xs h.present h.before),
      map-reverse,
      turned,
    )

fe-entries : {A : Type 0} (is : List (Past A)) (fs : List JoinedEnd) → EarlierRepresent is (ends_of fs)
    → map joined_of is ≡ joins_in fs
    → map fe_entry fs ≡ map joined_entry is
fe-entries [] [] h j = refl
fe-entries [] (f ∷ fs) h j = absurd h
fe-entries (i ∷ is) [] h j = absurd h
fe-entries (i ∷ is) (f ∷ fs) h j = grind (arith, h.0.put, h.0.taken, fe-entries is fs h.1)

none-before : {A : Type 0} (before : List (Past A)) → EarlierRepresent before [] → before ≡ []
none-before [] h = refl
none-before (i ∷ is) h = absurd h

joins-all : {A : Type 0} (p : Option (Incarnation A)) (before : List (Past A)) (fs : List JoinedEnd)
    → PresentRepresents p (ends_of fs)
    → EarlierRepresent before (rest_of (ends_of fs))
    → joins_with p (map joined_of before) ≡ joins_in fs → map joined_of (present_list p ++ before) ≡ joins_in fs
joins-all p before fs h k l = grind (arith, nat_tests, none-before)

pub fe-report : {A : Type 0} (o : Openings A) (fs : List JoinedEnd) → SideRepresents o (ends_of fs)
    → joins_of o ≡ joins_in fs
    → reverse (map fe_entry fs) ≡ map joined_entry (incarnations_of o)
fe-report o fs h j =
    let before = reverse o.before.items in
    ap reverse (fe-entries (latest_first o) fs (all-stand o.present before (ends_of fs) h.present h.before)
    (joins-all o.present before fs h.present h.before j))
    ∙ (sym (map-reverse joined_entry (latest_first o)) ∙ ap (map joined_entry) (turned o.present o.before.items))

-- how many there are, and one of them
pub count-by : {A : Type 0} (f : Past A → ReportEntry) (o : Openings A) (es : List ReportEntry)
    → es ≡ map f (incarnations_of o)
    → length (incarnations_of o) ≡ length es
count-by f o es e = sym (ap (λ (ds : List ReportEntry). length ds) e ∙ length-map (incarnations_of o) f)

pub entry-by : {A : Type 0} (f : Past A → ReportEntry) (o : Openings A) (es : List ReportEntry) (place : ℕ)
    → es ≡ map f (incarnations_of o)
    → option_map f (slice_get (incarnations_of o) place) ≡ slice_get es place
entry-by f o es place e =
    sym (ap (λ (ds : List ReportEntry). slice_get ds place) e ∙ slice_get-map f (incarnations_of o) place)

-- a place that is not the present one's is that of an earlier one, or of none
pub not-present : {A : Type 0} (xs : List (Past A)) (p : Option (Incarnation A)) (n : ℕ) → n ≢ length xs
    → slice_get (xs ++ present_list p) n
    ≡ slice_get xs n
not-present [] None n h = refl
not-present [] (Some i) zero h = absurd (h refl)
not-present [] (Some i) (suc n) h = refl
not-present (x ∷ xs) p zero h = refl
not-present (x ∷ xs) p (suc n) h = not-present xs p n (λ e. h (ap suc e))

-- the place after the earlier ones is the present one's
pub at-present : {A : Type 0} (xs : List (Past A)) (p : Option (Incarnation A))
    → slice_get (xs ++ present_list p) (length xs) ≡ option_map past_of p
at-present [] None = refl
at-present [] (Some i) = refl
at-present (x ∷ xs) p = at-present xs p

-- the entry as one that is joined to no other
abbrev pub unjoined : ReportEntry → ReportEntry
unjoined e = record { put = e.put; taken = e.taken; joined = None }

pub alone-entry : {A : Type 0} (r : Option (CodeEntry A)) (q : Option (Past A))
    → option_map seen_entry r ≡ option_map joined_entry q
    → option_map unjoined (option_map seen_entry r) ≡ option_map (entry_of None) q
alone-entry r None h = ap (option_map unjoined) h
alone-entry r (Some p) h = ap (option_map unjoined) h

-- the end that was present becomes the latest of the earlier ones
pub opened-side : {A : Type 0} (o p : Openings A) (i opened : Incarnation A) (past : Past A) (x : EndState)
    (xs : List EndState) → o.present ≡ Some i
    → SideRepresents o xs → p.present ≡ Some opened → p.before.items ≡ o.before.items ++ past ∷ []
    → ((y : EndState) → IncarnationRepresents i y → PastRepresents past y)
    → IncarnationRepresents opened x → SideRepresents p (x ∷ xs)
opened-side o p i opened past x [] e h now before keeps one = absurd (subst (λ q. PresentRepresents q []) e h.present)
opened-side o p i opened past x (y ∷ ys) e h now before keeps one = record {
  present = subst (λ q. PresentRepresents q (x ∷ y ∷ ys)) (sym now) one;
  before = subst (λ ps. EarlierRepresent (reverse ps) (y ∷ ys)) (sym before)
      (subst (λ ps. EarlierRepresent ps (y ∷ ys)) (sym (reverse-append o.before.items (past ∷ [])))
      (keeps y (subst (λ q. PresentRepresents q (y ∷ ys)) e h.present), h.before));
}

-- the search goes on among the first `number` incarnations
abbrev pub IsLeft : {A : Type 0} → List ℕ → List (Past A) → ℕ → Type 0
IsLeft octets incs number =
    (xs : List EndState) → EarlierRepresent (reverse incs) xs → (ys : List EndState)
    × EarlierRepresent (reverse (take number incs)) ys
    × (latest_maker octets xs ≡ latest_maker octets ys)

one-back : {X : Type 0} (xs : List X) (n : ℕ) (x : X) → n < length xs → x ≡ get_or xs n x
    → reverse (take (suc n) xs) ≡ x ∷ reverse (take n xs)
one-back xs n x lt is = ap reverse (take-suc xs n x lt ∙ ap (λ y. take n xs ++ y ∷ []) (sym is))
    ∙ reverse-append (take n xs) (x ∷ [])

stand-length : {A : Type 0} (is : List (Past A)) (xs : List EndState) → EarlierRepresent is xs → length is ≡ length xs
stand-length [] [] h = refl
stand-length [] (x ∷ xs) h = absurd h
stand-length (i ∷ is) [] h = absurd h
stand-length (i ∷ is) (x ∷ xs) h = ap suc (stand-length is xs h.1)

abbrev pub MadeBy : {A : Type 0} → Bool → List ℕ → Past A → Type 0
MadeBy made octets p = (x : EndState) → PastRepresents p x → has_made (rule_of x.settings) octets x.machine.made ≡ made

-- the same of the present incarnation
abbrev pub MadeNow : {A : Type 0} → Bool → List ℕ → Incarnation A → Type 0
MadeNow made octets i =
    (x : EndState) → IncarnationRepresents i x → has_made (rule_of x.settings) octets x.machine.made ≡ made

pub all-left : {A : Type 0} (octets : List ℕ) (incs : List (Past A)) (n : ℕ) → take n incs ≡ incs → IsLeft octets incs n
all-left octets incs n all = λ xs h. (xs, subst (λ is. EarlierRepresent (reverse is) xs) (sym all) h, refl)

pub go-back : {A : Type 0} (octets : List ℕ) (incs : List (Past A)) (n : ℕ) (i : Past A) → n < length incs
    → i ≡ get_or incs n i
    → MadeBy false octets i → IsLeft octets incs (suc n) → IsLeft octets incs n
go-back {A} octets incs n i lt is made left = λ xs h. behind xs (left xs h)
  where
    behind : (xs : List EndState) → ((ys : List EndState) × EarlierRepresent (reverse (take (suc n) incs)) ys
        × (latest_maker octets xs ≡ latest_maker octets ys))
        → ((ys : List EndState) × EarlierRepresent (reverse (take n incs)) ys
        × (latest_maker octets xs ≡ latest_maker octets ys))
    behind xs (ys, stands, same) = split ys (subst (λ is. EarlierRepresent is ys) (one-back incs n i lt is) stands) same
      where
        split : (ys : List EndState) → EarlierRepresent (i ∷ reverse (take n incs)) ys
            → latest_maker octets xs ≡ latest_maker octets ys
            → ((zs : List EndState) × EarlierRepresent (reverse (take n incs)) zs
            × (latest_maker octets xs ≡ latest_maker octets zs))
        split [] h same = absurd h
        split (y ∷ ys) h same =
            (ys, h.1, same ∙ ap (λ (b : Bool). if b then Some (length ys + 1) else latest_maker octets ys) (made y h.0))

pub found : {A : Type 0} (octets : List ℕ) (incs : List (Past A)) (n : ℕ) (i : Past A) → n < length incs
    → i ≡ get_or incs n i
    → MadeBy true octets i → IsLeft octets incs (suc n)
    → (xs : List EndState) → EarlierRepresent (reverse incs) xs → latest_maker octets xs ≡ Some (suc n)
found {A} octets incs n i lt is made left xs h = behind (left xs h)
  where
    count : length (reverse (take n incs)) ≡ n
    count = omega (arith, length-reverse (take n incs), length-take n incs, lt)

    behind : ((ys : List EndState) × EarlierRepresent (reverse (take (suc n) incs)) ys
        × (latest_maker octets xs ≡ latest_maker octets ys))
        → latest_maker octets xs ≡ Some (suc n)
    behind (ys, stands, same) = split ys (subst (λ is. EarlierRepresent is ys) (one-back incs n i lt is) stands) same
      where
        split : (ys : List EndState) → EarlierRepresent (i ∷ reverse (take n incs)) ys
            → latest_maker octets xs ≡ latest_maker octets ys
            → latest_maker octets xs ≡ Some (suc n)
        split [] h same = absurd h
        split (y ∷ ys) h same =
            let number : length ys + 1 ≡ suc n = omega (arith, stand-length (reverse (take n incs)) ys h.1, count) in
            same ∙ (ap (λ (b : Bool). if b then Some (length ys + 1) else latest_maker octets ys) (made y h.0)
            ∙ ap Some number)

pub none-left : {A : Type 0} (octets : List ℕ) (incs : List (Past A)) → IsLeft octets incs 0 → (xs : List EndState)
    → EarlierRepresent (reverse incs) xs
    → latest_maker octets xs ≡ None
none-left {A} octets incs left xs h = behind (left xs h)
  where
    go : (ys : List EndState) → EarlierRepresent {A = A} [] ys → latest_maker octets xs ≡ latest_maker octets ys
        → latest_maker octets xs ≡ None
    go [] stands same = same
    go (y ∷ ys) stands same = absurd stands

    behind : ((ys : List EndState) × EarlierRepresent {A = A} [] ys × (latest_maker octets xs ≡ latest_maker octets ys))
        → latest_maker octets xs ≡ None
    behind (ys, stands, same) = go ys stands same

-- the present incarnation made it, or not
pub present-made : {A : Type 0} (o : Openings A) (i : Incarnation A) (octets : List ℕ) (xs : List EndState)
    → o.present ≡ Some i → MadeNow true octets i
    → SideRepresents o xs
    → Some (length o.before.items + 1) ≡ latest_maker octets xs
present-made o i octets xs h k l = grind (arith, nat_tests, length-reverse, stand-length)

pub present-not : {A : Type 0} (o : Openings A) (i : Incarnation A) (octets : List ℕ) (r : Option ℕ)
    → o.present ≡ Some i → MadeNow false octets i
    → ((ys : List EndState) → EarlierRepresent (reverse o.before.items) ys → r ≡ latest_maker octets ys)
    → (xs : List EndState) → SideRepresents o xs
    → r ≡ latest_maker octets xs
present-not o i octets r h k l xs q = grind (arith, nat_tests)

live-same : (x : EndState) (peer : Option EndState) (dead : ℕ) (part : List ℕ)
    → live_in (code_octets (rule_of x.settings).length) peer dead part
    ≡ is_live x peer dead part
live-same x peer dead part = grind (arith, nat_tests)

pub breaks-part : (x peer : Option EndState) (dead : ℕ) (datagram : List ℕ) (p : Part) → red_seen datagram ≡ Ok p
    → breaks_with x peer dead p.1 ≡ breaks_at x peer dead datagram
unfolding decoded
breaks-part x peer dead datagram p h = grind (arith, nat_tests, live-same)

pub breaks-none : (x peer : Option EndState) (dead : ℕ) (datagram : List ℕ) (fault : RedFault)
    → red_seen datagram ≡ Err fault
    → false ≡ breaks_at x peer dead datagram
unfolding decoded
breaks-none x peer dead datagram fault h = grind (arith, nat_tests)
