-- Over a network that carries what the programs give it, every event is genuine.
use Rattle.std.proofs.Common.{◌≡◌, ℕ, suc, zero, ◌+◌, ◌==◌, Bool, true, false, Some, Ok, Err, List, [], ◌∷◌, ◌++◌, length, refl, sym, ap, ◌∙◌, subst, arith, inl, inr}
use Rattle.std.proofs.lemmas.Bool.Decides.{nat_tests}
use Rattle.std.proofs.lemmas.Slice.Eq.{bytes_eq-Decides}
use Rattle.std.specs.List.{AllByRecursion, FoldsTo}
use Rattle.std.specs.Prelude.{if◌then◌else◌, nat_lt, option_map}
use Rattle.std.specs.Str.{bytes_eq}
use Rattle.octets.specs.declared.limits.TheConstants.{RED_HEADER, RED_PDU_MAX}
use Rattle.channels.specs.ChannelHistory.{SentDatagram, SendsOne, ChannelHistory}
use Rattle.red_layer.specs.Laws.{OriginLaw}
use Rattle.red_layer.specs.Parts.{Part}
use Rattle.red_layer.specs.Redundancy.{Datagram, Input, Tick as RedTick, after, decoded, parts_passed}
use Rattle.red_layer.specs.Service.{AreAmong, IsAmong, part_received as accepted_parts, arrivals_of}
use Rattle.red_layer.specs.declared.pdu.RedFault.TheVariants.{Short, Length, Reserve}
use Rattle.red_layer.specs.pdu.RedText.{length_field, red_text, reserve_field, seq_field}
use Rattle.safe_pdu.specs.declared.CodeRule.{CodeRule}
use Rattle.safe_pdu.specs.SafeText.{code_octets}
use Rattle.safe_machine.specs.Made.{Made}
use Rattle.safe_machine.specs.Octets.{arrive_octets}
use Rattle.end_settings.specs.EndSettings.{EndSettings, rule_of}
use Rattle.stack_end.specs.Datagrams.{on_channels, sendings, upper_of}
use Rattle.stack_end.specs.Dialogue.{judge_units}
use Rattle.stack_end.proofs.Effects.{answered, goes_on, handed_up}
use Rattle.stack_end.specs.Ends.{Call, EndState, is_shut}
use Rattle.stack_end.specs.Steps.{call, guard_step, part_step, step, tick_step, with_input}
use Rattle.stack_end.specs.Turns.{finish_turn, queue_turn}
use Rattle.stack_end.specs.Ends.Call.{Close, Put, InitDone, Tick, Deliver}
use Rattle.stack_engine.specs.Pairs.{has_made}
use Rattle.stack_engine.specs.Premise.{AtParts, GenuineCall, IsGenuine, is_live}
use Rattle.stack_engine.proofs.one.Sent.{AnyPart, Goes, all-append, any-parts, keep-goes_on, keep-closed, keep-guarded, keep-packed, keep-part, keep-ticked, leaves-same}

-- the peer made a PDU of the bytes of the part
abbrev pub Known : EndState → Part → Type 0
Known peer p = has_made (rule_of peer.settings) p.1 peer.machine.made ≡ true

abbrev pub AlikeCode : EndSettings → EndSettings → Type 0
AlikeCode s t = code_octets (rule_of s).length ≡ code_octets (rule_of t).length

one-among : (K : Part → Type 0) (p : Part) (qs : List Part) → IsAmong p qs → AllByRecursion K qs → K p
one-among K p [] h k = absurd h
one-among K p (q ∷ qs) (inl e) k = subst K (sym e) k.0
one-among K p (q ∷ qs) (inr h) k = one-among K p qs h k.1

all-among : (K : Part → Type 0) (ps qs : List Part) → AreAmong ps qs → AllByRecursion K qs → AllByRecursion K ps
all-among K [] qs h k = tt
all-among K (p ∷ ps) qs h k = (one-among K p qs h.0 k, all-among K ps qs h.1 k)

-- An end with these settings, all of whose parts that wait are known.
abbrev Near : EndSettings → (Part → Type 0) → EndState → Type 0
Near s K y = (y.settings ≡ s) × AllByRecursion K y.red.waiting

near-goes : (s : EndSettings) (K : Part → Type 0) (now : ℕ) → Goes now AnyPart (Near s K)
near-goes s K now =
    record {
      ends = λ y shut h. h;
      hears = λ octets y q h.
          let t = arrive_octets octets now y.machine in
          let same = leaves-same now (judge_units (handed_up y t) y.session).leaving (answered octets y t) in
          (same.0 ∙ h.0, subst (λ r. AllByRecursion K r.waiting) (sym same.3) h.1);
      sends = λ y may some h. h;
    }

near-input : OriginLaw → (s : EndSettings) (K : Part → Type 0) (i : Input) (y : EndState)
    → AllByRecursion K (arrivals_of i) → Near s K y
    → Near s K (with_input i y) × AllByRecursion K (parts_passed i y.red)
near-input origin s K i y came h =
    let all = all-append K y.red.waiting (arrivals_of i) h.1 came in
    let from = origin i y.red in (
      (h.0, all-among K (after i y.red).waiting (y.red.waiting ++ arrivals_of i) from.1 all),
      all-among K (parts_passed i y.red) (y.red.waiting ++ arrivals_of i) from.0 all,
    )

live : (peer : EndState) (s : EndSettings) (y : EndState) (p : Part) → AlikeCode s peer.settings → y.settings ≡ s
    → Known peer p
    → is_live y (Some peer) 0 p.1 ≡ true
live peer s y p code set known = grind (arith, nat_tests)

parts-genuine : (peer : EndState) (s : EndSettings) (now : ℕ) (ps : List Part) (y : EndState)
    → AlikeCode s peer.settings → Near s (Known peer) y
    → AllByRecursion (Known peer) ps → AtParts (IsGenuine (Some peer) 0) now ps y
parts-genuine peer s now [] y code h all = tt
parts-genuine peer s now (p ∷ ps) y code h all =
    let next = keep-part now AnyPart (Near s (Known peer)) (near-goes s (Known peer) now) p.1 y tt h in
    (λ _ _. live peer s y p code h.0 all.0, parts-genuine peer s now ps (part_step now p.1 y) code next all.1)

-- what a call brings is known
abbrev pub Comes : (Part → Type 0) → Call → Type 0
Comes K (Deliver channel octets now) = AllByRecursion K (arrivals_of (Datagram octets now))
Comes K _ = Unit {0}

arrivals-genuine : (peer : EndState) (x : EndState) (ps : List Part) → AlikeCode x.settings peer.settings
    → AllByRecursion (Known peer) ps
    → AllByRecursion (λ (p : Part). IsGenuine (Some peer) 0 x p.1) ps
arrivals-genuine peer x [] code all = tt
arrivals-genuine peer x (p ∷ ps) code all =
    (λ _ _. live peer x.settings x p code refl all.0, arrivals-genuine peer x ps code all.1)

pub genuine-call : OriginLaw → (peer : EndState) (c : Call) (x : EndState) → AlikeCode x.settings peer.settings
    → AllByRecursion (Known peer) x.red.waiting
    → Comes (Known peer) c → GenuineCall (Some peer) 0 c x
genuine-call origin peer (Close now) x code all comes = (tt, tt)
genuine-call origin peer (Put kind payload now) x code all comes = (tt, tt)
genuine-call origin peer (InitDone now) x code all comes = (tt, tt)
genuine-call origin peer (Tick now) x code all comes =
    let K = Known peer in
    let y = tick_step now x in
    let near = keep-ticked now AnyPart (Near x.settings K) (near-goes x.settings K now) x (refl, all) in
    let came = near-input origin x.settings K (RedTick now) y tt near in (
      tt,
      λ _ _. parts-genuine peer x.settings now (parts_passed (RedTick now) y.red) (with_input (RedTick now) y) code
          came.0 came.1,
    )
genuine-call origin peer (Deliver channel octets now) x code all comes =
    let K = Known peer in
    let i = Datagram octets now in
    let y = guard_step now x in
    let near = keep-guarded now AnyPart (Near x.settings K) (near-goes x.settings K now) x (refl, all) in
    let came = near-input origin x.settings K i y comes near in (
      arrivals-genuine peer x (arrivals_of i) code comes,
      λ _ _. parts-genuine peer x.settings now (parts_passed i y.red) (with_input i y) code came.0 came.1,
    )

by-shut : (P : EndState → Type 0) (b : Bool) (x y : EndState) → P x → P y → P (if b then x else y)
by-shut P true x y h k = h
by-shut P false x y h k = k

-- and so is what waits after it
pub near-call : OriginLaw → (s : EndSettings) (K : Part → Type 0) (c : Call) (x : EndState) → Comes K c → Near s K x
    → Near s K (call c x)
near-call origin s K (Close now) x comes h =
    keep-closed now AnyPart (Near s K) (near-goes s K now) x h
near-call origin s K (Put kind payload now) x comes h =
    let y : EndState = step (queue_turn kind payload) x in
    keep-packed now AnyPart (Near s K) (near-goes s K now) (length y.session.waiting) y h
near-call origin s K (InitDone now) x comes h =
    let y : EndState = step finish_turn x in
    keep-packed now AnyPart (Near s K) (near-goes s K now) (length y.session.waiting) y h
near-call origin s K (Tick now) x comes h =
    let i = RedTick now in
    let y = tick_step now x in
    let near = keep-ticked now AnyPart (Near s K) (near-goes s K now) x h in
    by-shut (Near s K) (is_shut x) x (goes_on now i y) h
    (keep-goes_on now AnyPart (Near s K) (near-goes s K now) i y
    (λ _. any-parts now (parts_passed i y.red) (with_input i y))
    (near-input origin s K i y tt near).0 near)
near-call origin s K (Deliver channel octets now) x comes h =
    let i = Datagram octets now in
    let y = guard_step now x in
    let near = keep-guarded now AnyPart (Near s K) (near-goes s K now) x h in
    by-shut (Near s K) (is_shut x) x (goes_on now i y) h
    (keep-goes_on now AnyPart (Near s K) (near-goes s K now) i y
    (λ _. any-parts now (parts_passed i y.red) (with_input i y))
    (near-input origin s K i y comes near).0 near)

-- A PDU that was made stays made.
pub made-more : (rule : CodeRule) (octets : List ℕ) (ms ns : List Made) → has_made rule octets ms ≡ true
    → has_made rule octets (ms ++ ns) ≡ true
made-more rule octets [] ns h = absurd (false-true h)
  where
    false-true : false ≡ true → ⊥
    false-true e = cc e
made-more rule octets (m ∷ ms) ns h = grind (arith, nat_tests, made-more rule octets ms ns)

-- Each datagram that was sent brings a part that the end made, or no part.
abbrev pub Brings : (Part → Type 0) → List ℕ → Type 0
Brings K octets = AllByRecursion K (accepted_parts (decoded octets))

text-brings : (K : Part → Type 0) (index : ℕ) (upper : List ℕ) → ((n : ℕ) → K (n, upper))
    → Brings K (red_text index upper)
unfolding decoded
text-brings K index upper h =
    let octets = red_text index upper in
    by-tests (nat_lt (length octets) RED_HEADER) (nat_lt RED_PDU_MAX (length octets))
    (length_field octets == length octets) (reserve_field octets == 0)
    (seq_field octets)
  where
    by-tests : (a b c d : Bool) (n : ℕ) → AllByRecursion K (accepted_parts
        (if a then Err Short else if b then Err Length else if c then (if d then Ok (n, upper) else Err Reserve)
        else Err Length))
    by-tests true b c d n = tt
    by-tests false true c d n = tt
    by-tests false false false d n = tt
    by-tests false false true false n = tt
    by-tests false false true true n = (h n, tt)

on-brings : (K : Part → Type 0) (n : ℕ) (octets : List ℕ) → Brings K octets
    → AllByRecursion (λ (x : SentDatagram). Brings K x.1) (on_channels n octets)
on-brings K zero octets h = tt
on-brings K (suc n) octets h = all-append (λ (x : SentDatagram). Brings K x.1) (on_channels n octets)
    ((suc n, octets) ∷ []) (on-brings K n octets h) (h, tt)

-- PDUs of which all are among those that were made
pub sendings-bring : (s : EndSettings) (K : Part → Type 0) (index : ℕ) (ms : List Made)
    → ((n : ℕ) (octets : List ℕ) → has_made (rule_of s) octets ms ≡ true → K (n, octets))
    → AllByRecursion (λ (x : SentDatagram). Brings K x.1) (sendings s index ms)
sendings-bring s K index [] h = tt
sendings-bring s K index (m ∷ ms) h =
    let upper = upper_of (rule_of s) m in
    let here : has_made (rule_of s) upper (m ∷ ms) ≡ true = ap (λ b. if b then true else has_made (rule_of s) upper ms)
    ((bytes_eq-Decides upper upper).1 refl) in
    all-append (λ (x : SentDatagram). Brings K x.1) (on_channels s.channels (red_text index upper))
    (sendings s (index + 1) ms)
    (on-brings K s.channels (red_text index upper) (text-brings K index upper (λ n. h n upper here)))
    (sendings-bring s K (index + 1) ms (λ n octets among.
    h n octets (or-later (bytes_eq octets upper) (has_made (rule_of s) octets ms) among)))
  where
    or-later : (b c : Bool) → c ≡ true → (if b then true else c) ≡ true
    or-later true c e = refl
    or-later false c e = e

-- what was returned was sent
pub folds-all : (Q : SentDatagram → Type 0) (a b : ChannelHistory) (front back : List SentDatagram)
    (xs : List SentDatagram) → FoldsTo SendsOne a xs b → a.sent ≡ Some front → b.sent ≡ Some back
    → AllByRecursion Q front → AllByRecursion Q xs → AllByRecursion Q back
folds-all Q a b front back [] h before later all new =
    subst (AllByRecursion Q) (some-is front back (sym before ∙ (ap (λ (t : ChannelHistory). t.sent) h ∙ later))) all
  where
    some-is : (x y : List SentDatagram) → Some x ≡ Some y → x ≡ y
    some-is x y e = cc
folds-all Q a b front back (x ∷ xs) (m, one, rest) before later all new =
    folds-all Q m b (front ++ (if one.0 then x ∷ [] else [])) back xs rest
    (one.1.sent ∙ ap (option_map (λ ys. ys ++ (if one.0 then x ∷ [] else []))) before) later
    (all-append Q front (if one.0 then x ∷ [] else []) all (added one.0)) new.1
  where
    added : (b : Bool) → AllByRecursion Q (if b then x ∷ [] else [])
    added true = (new.0, tt)
    added false = tt
