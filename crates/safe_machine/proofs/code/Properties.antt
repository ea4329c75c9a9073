-- What the functions rely on: the decision of a branch, the timeout check before it, units that are sent again, and the
-- properties of an arrival.
use Rattle.safe_machine.proofs.Words.{◌≡◌, ℕ, ◌-◌, ◌<◌, List, [], length, refl, sym, ap, subst, ◌∙◌, ltb-true, leb-true, Pdu, IsBody, Down, Reason, Detail}
use Rattle.safe_machine.proofs.Words.{Decision, decide, Takes, View, Turn, arrival_turn, goes_on, guard_turn, handed_by, handed_units, leave_turn, response_turn, still, Allows, Passes}
use Rattle.safe_machine.proofs.Words.{overdue, append-nil, Option, Some, None, ◌+◌, ◌≤◌, ◌∷◌, ◌++◌, arith, IfSome, get_or, nat_lt, slice_get, nat_tests}
use Rattle.safe_machine.proofs.Words.{map-append, take_more, All-filter, slice_get-get_or, FoldsTo, FoldsTo-append, Numbered, above, octets_of, CodeRule}
use Rattle.safe_machine.proofs.Words.{Heartbeat, RetrData, RetrResp, Settings, Out, count_pdu, reply_turn, resend_turn, sending_turn, text_of, texts, AllUnits, take, ◌≢◌}
use Rattle.safe_machine.proofs.Words.{Result, Ok, Err, if◌then◌else◌, SafeFault, Up, is_carrier_kind, State, new_state, cts_step, make_moves, IsReached, both_confirmed}
use Rattle.safe_machine.proofs.Words.{decision_turn, move_past, take_unit_turn, kept_of, move_of, octets_units, units_of_move, safe_seen, HandsIf, IsNextData, IsRecent, rules}
use Rattle.safe_machine.proofs.one.DecisionCounts.{Fits, Tested}
use Rattle.safe_machine.specs.Turns.{next_made}
use Rattle.safe_machine.proofs.one.Runs.{octets_of-append}

-- What a decision allows its branch to rely on, and how the timeout check before it affects an arrival.
passes-from : (v : View) (p : Pdu) (now : ℕ) → Tested v p now → Passes v p now
passes-from v p now t = (ltb-true _ (v.made - v.confirmed) t.cs, leb-true _ (now - v.confirmed_at) t.cts)

pub allowed : (v : View) (p : Pdu) (now : ℕ) (d : Decision) → IsBody p.kind p.body → (v.connection ≡ Down → v.ring ≡ [])
    → Fits v p now d → Allows v p now d
allowed v p now d body down h = grind (arith, passes-from, ltb-true)

-- The timeout check, and what is delivered, by what is overdue.
abbrev left_by : ℕ → View → Option (Reason × Detail) → Turn
left_by now v None = still v
left_by now v (Some (reason, detail)) = leave_turn reason detail now v

abbrev handed_behind : List (List ℕ) → Option (Reason × Detail) → List (List ℕ)
handed_behind units None = units
handed_behind units (Some (reason, detail)) = []

guards-is : (now : ℕ) (v : View) (o : Option (Reason × Detail)) → overdue now v ≡ o → guard_turn now v ≡ left_by now v o
guards-is now v o e = grind arith

hands-is : (p : Pdu) (now : ℕ) (v : View) (o : Option (Reason × Detail)) → overdue now v ≡ o
    → handed_units p now v ≡ handed_behind (handed_by (decide v p now) p) o
hands-is p now v o e = grind arith

-- An end that its timeout check closes ignores the arrival.
pub arrives-left : (p : Pdu) (now : ℕ) (v : View) (reason : Reason) (detail : Detail)
    → Some (reason, detail) ≡ overdue now v
    → arrival_turn p now v ≡ leave_turn reason detail now v
arrives-left p now v reason detail e =
    let t = leave_turn reason detail now v in
    ap (λ q. goes_on q (response_turn p now)) (guards-is now v (Some (reason, detail)) (sym e))
    ∙ ap (λ ms. record { left = t.left; made = ms }) (append-nil t.made)

pub arrives-goes : (p : Pdu) (now : ℕ) (v : View) → None ≡ overdue now v → arrival_turn p now v ≡ response_turn p now v
arrives-goes p now v e = ap (λ q. goes_on q (response_turn p now)) (guards-is now v None (sym e))

pub hands-left : (p : Pdu) (now : ℕ) (v : View) (reason : Reason) (detail : Detail)
    → Some (reason, detail) ≡ overdue now v → handed_units p now v ≡ []
hands-left p now v reason detail e = hands-is p now v (Some (reason, detail)) (sym e)

pub hands-goes : (p : Pdu) (now : ℕ) (v : View) → None ≡ overdue now v
    → handed_units p now v ≡ handed_by (decide v p now) p
hands-goes p now v e = hands-is p now v None (sym e)

-- Units that are sent again, one by one, and what a confirmation leaves of them.
resends-append : (a b : List (List ℕ)) (now : ℕ) (v : View)
    → resend_turn (a ++ b) now v ≡ goes_on (resend_turn a now v) (resend_turn b now)
resends-append [] b now v = refl
resends-append (u ∷ a) b now v =
    ap (λ (t : Turn). record { left = t.left; made = next_made v RetrData u now ∷ t.made })
    (resends-append a b now (count_pdu now v))

-- Every part of what is kept that a PDU made leaves unchanged.
resends-keeps : {X : Type 0} (part : View → X) → ((now : ℕ) (v : View) → part (count_pdu now v) ≡ part v)
    → (us : List (List ℕ)) (now : ℕ) (v : View)
    → part (resend_turn us now v).left ≡ part v
resends-keeps part one [] now v = refl
resends-keeps part one (u ∷ us) now v = resends-keeps part one us now (count_pdu now v) ∙ one now v

no_unit : Numbered
no_unit = record { number = 0; octets = [] }

-- One more unit is sent again.
pub resends-more : {O : Type 0} (makes : O → List ℕ → O → Type 0) (first m n : View) (a b d : O) (now place : ℕ)
    → place < length first.ring →
    m ≡ (resend_turn (octets_of (take place first.ring)) now first).left →
    Out makes first.settings.rule a (resend_turn (octets_of (take place first.ring)) now first) b → n ≡ count_pdu now m
    →
    IfSome (slice_get m.ring place) (λ u. makes b (text_of m.settings.rule (next_made m RetrData u.octets now)) d) →
    (n ≡ (resend_turn (octets_of (take (place + 1) first.ring)) now first).left) × Out makes first.settings.rule a
    (resend_turn (octets_of (take (place + 1) first.ring)) now first) d
resends-more makes first m n a b d now place inside left out counts after =
    let ring = first.ring in
    let rule = first.settings.rule in
    let us = octets_of (take place ring) in
    let t = resend_turn us now first in
    let u : Numbered = get_or ring place no_unit in
    let held : m.ring ≡ ring = ap (λ (v : View). v.ring) left
    ∙ resends-keeps (λ (v : View). v.ring) (λ now v. refl) us now first in
    let same : m.settings ≡ first.settings = ap (λ (v : View). v.settings) left
    ∙ resends-keeps (λ (v : View). v.settings) (λ now v. refl) us now first in
    let there : slice_get m.ring place ≡ Some u = ap (λ r. slice_get r place) held
    ∙ slice_get-get_or ring place no_unit inside in
    let split : octets_of (take (place + 1) ring) ≡ us ++ u.octets ∷ [] =
    ap octets_of (take_more ring place no_unit inside) ∙ octets_of-append (take place ring) (u ∷ []) in
    let more : resend_turn (octets_of (take (place + 1) ring)) now first
    ≡ goes_on t (sending_turn RetrData u.octets now) =
    ap (λ xs. resend_turn xs now first) split ∙ resends-append us (u.octets ∷ []) now first in
    let here : makes b (text_of m.settings.rule (next_made m RetrData u.octets now)) d =
    subst (λ o. IfSome o (λ (w : Numbered). makes b (text_of m.settings.rule (next_made m RetrData w.octets now)) d))
    there after in
    let at : makes b (text_of rule (next_made t.left RetrData u.octets now)) d =
    subst (λ (v : View). makes b (text_of rule (next_made v RetrData u.octets now)) d) left
    (subst (λ (x : Settings). makes b (text_of x.rule (next_made m RetrData u.octets now)) d) same here) in
    let one = next_made t.left RetrData u.octets now in
    subst (λ (q : Turn). (n ≡ q.left) × Out makes rule a q d) (sym more) (
      counts ∙ ap (count_pdu now) left,
      subst (λ xs. FoldsTo makes a xs d) (sym (map-append (text_of rule) t.made (one ∷ [])))
          (FoldsTo-append makes (texts rule t.made) (texts rule (one ∷ [])) a b d out (d, at, refl)),
    )

-- One turn, and then another.
pub out-then : {O : Type 0} (makes : O → List ℕ → O → Type 0) (rule : CodeRule) (t : Turn) (next : View
    → Turn) (a b c : O) → Out makes rule a t b
    → Out makes rule b (next t.left) c → Out makes rule a (goes_on t next) c
out-then makes rule t next a b c h k =
    let more = (next t.left).made in
    subst (λ xs. FoldsTo makes a xs c) (sym (map-append (text_of rule) t.made more))
    (FoldsTo-append makes (texts rule t.made) (texts rule more) a b c h k)

pub replies-settings : (now : ℕ) (v : View) → (reply_turn now v).left.settings ≡ v.settings
replies-settings now v =
    resends-keeps (λ (v : View). v.settings) (λ now v. refl) (octets_of v.ring) now (count_pdu now v)

-- An answer: the RetrResp, each unit, and the heartbeat.
pub replies-out : {O : Type 0} (makes : O → List ℕ → O → Type 0) (now : ℕ) (v : View) (a b c d : O)
    → makes a (text_of v.settings.rule (next_made v RetrResp [] now)) b →
    Out makes v.settings.rule b (resend_turn (octets_of v.ring) now (count_pdu now v)) c →
    (let u = (resend_turn (octets_of v.ring) now (count_pdu now v)).left in
    makes c (text_of u.settings.rule (next_made u Heartbeat [] now)) d)
    → Out makes v.settings.rule a (reply_turn now v) d
replies-out makes now v a b c d first again last =
    let t = resend_turn (octets_of v.ring) now (count_pdu now v) in
    let beaten = subst (λ (x : Settings). makes c (text_of x.rule (next_made t.left Heartbeat [] now)) d)
    (replies-settings now v) last in
    (b, first, out-then makes v.settings.rule t (sending_turn Heartbeat [] now) b c d again (d, beaten, refl))

-- Confirming keeps the bounds of the units.
pub short-above : (number : ℕ) (us : List Numbered) → length (above number us) ≤ length us
short-above number [] = omega arith
short-above number (u ∷ us) = grind (arith, nat_tests, short-above number us)

pub sized-above : (number : ℕ) (us : List Numbered) → AllUnits us → AllUnits (above number us)
sized-above number us h =
    All-filter (λ (u : Numbered). nat_lt number u.number) (λ (u : Numbered). IsBody RetrData u.octets) us h

-- The properties of an arrival, from its turn.

recent-hands : (p : Pdu) (now : ℕ) (v : View) → handed_units p now v ≢ []
    → now < v.confirmed_at + cts_step v p + v.settings.t_max
recent-hands p now v = search rules

pub hands-recent : {U : Type 0} (takes : U → List ℕ → U → Type 0) (a b : U) (p : Pdu) (now : ℕ) (v : View) →
    FoldsTo takes a (handed_units p now v) b
    → HandsIf takes a b (now < v.confirmed_at + cts_step v p + v.settings.t_max)
hands-recent takes a b p now v h = (handed_units p now v, h, recent-hands p now v)

-- The same for bytes.
read-recent : (read : Result Pdu SafeFault) (now : ℕ) (v : View) → units_of_move (move_of read now) v ≢ []
    → IsRecent read now v
read-recent read now v some = grind (arith, recent-hands)

pub recent_law_holds : (octets : List ℕ) (now : ℕ) (v : View) → octets_units octets now v ≢ []
    → IsRecent (safe_seen v.settings.rule octets) now v
recent_law_holds octets now v some = read-recent (safe_seen v.settings.rule octets) now v some

-- The peer's next Data, in Up.
unit-connection : (p : Pdu) (now : ℕ) (v : View) → (take_unit_turn p now v).left.connection ≡ v.connection
unit-connection p now v = grind arith

next-decided : (read : Result Pdu SafeFault) (p : Pdu) (now : ℕ) (s : State) → IsNextData read p now (kept_of s)
    → decide (kept_of s) p now ≡ Takes Up
next-decided read p now s h = grind arith

-- Only this unit is delivered, and the end stays in Up, for every machine.
pub reached-passes : (read : Result Pdu SafeFault) (p : Pdu) (now : ℕ) (v : View) → IsReached v
    → IsNextData read p now v →
    (handed_units p now v ≡ p.body ∷ []) × ((arrival_turn p now v).left.connection ≡ Up)
reached-passes read p now v r h =
    let t = make_moves r.moves (new_state r.settings r.first r.began) in
    let takes : decide v p now ≡ Takes Up =
    ap (λ (x : View). decide x p now) r.stands ∙ next-decided read p now t (subst (IsNextData read p now) r.stands h) in
    let one : handed_by (Takes Up) p ≡ p.body ∷ [] = ap (λ k. if is_carrier_kind k then p.body ∷ [] else []) h.kind in (
      hands-goes p now v (sym h.holds) ∙ (ap (λ d. handed_by d p) takes ∙ one),
      ap (λ (q : Turn). q.left.connection) (arrives-goes p now v (sym h.holds)
          ∙ ap (λ d. decision_turn p now d v) takes)
          ∙ unit-connection p now (record (move_past p 0 (both_confirmed p v)) { connection = Up }),
    )

-- Bytes decode as at most one PDU.
pub one-read : (read : Result Pdu SafeFault) (p q : Pdu) → Ok p ≡ read → read ≡ Ok q → p ≡ q
one-read read p q e f = let g = e ∙ f in cc

pub none-read : (read : Result Pdu SafeFault) (fault : SafeFault) (p : Pdu) → Err fault ≡ read → read ≡ Ok p → ⊥
none-read read fault p e f = let g = e ∙ f in cc
