-- One session over a network that carries what the programs give it: what arrives at an end was made by the other, call
-- by call.
use Rattle.std.proofs.Common.{◌≡◌, ℕ, true, None, Ok, Err, List, [], ◌∷◌, ◌++◌, refl, sym, ap, ◌∙◌, subst, inl, inr}
use Rattle.std.specs.List.{AllByRecursion}
use Rattle.channels.specs.ChannelHistory.{SentDatagram}
use Rattle.red_layer.specs.Laws.{OriginLaw}
use Rattle.red_layer.specs.Parts.{Part}
use Rattle.safe_pdu.specs.SafeText.{code_octets}
use Rattle.safe_machine.specs.World.Side.{Il, Fe}
use Rattle.end_settings.specs.ConfigValue.{settings_of}
use Rattle.end_settings.specs.EndSettings.{EndSettings, rule_of}
use Rattle.end_settings.specs.declared.Side.TheVariants.{Interlocking, FieldElement}
use Rattle.stack_end.specs.Datagrams.{sendings}
use Rattle.stack_end.specs.Ends.{Call, EndState, opened_end}
use Rattle.stack_end.specs.Steps.{call}
use Rattle.stack_end.specs.Ends.Call.{Close, Put, InitDone, Tick, Deliver}
use Rattle.stack_end.specs.EndValue.{inside}
use Rattle.stack_end.specs.TurnLaws.{LeadsByTurn, TurnsLaw}
use Rattle.stack_end.specs.Turns.{Inside, Turn, turn}
use Rattle.end_for_callers.specs.Boxes.{told_of}
use Rattle.end_for_callers.specs.Calls.{StationValue, outbox_of}
use Rattle.end_for_callers.specs.declared.Outcome.{Outcome}
use Rattle.stack_engine.specs.Incarnations.{puts_in}
use Rattle.stack_engine.specs.Pairs.{JoinedEnd, World, change_world, has_made, unless_refused, start, with_joined}
use Rattle.stack_engine.specs.Pairs.Event.{Open, Calls}
use Rattle.stack_engine.specs.Premise.{Genuine}
use Rattle.stack_engine.proofs.one.Sent.{all-map, all-parts}
use Rattle.station_pair.proofs.Genuine.{AlikeCode, Brings, Comes, Known, folds-all, genuine-call, made-more, near-call, sendings-bring}
use Rattle.station_pair.proofs.StepsKeep.{call-accepted, call-stands, list-opened, opened-stands, pulled-stands, refused-stands, taken-stands}
use Rattle.station_pair.specs.Network.{AllCarried, ArrivesCarried, IsGiven, NetworkLaw}
use Rattle.station_pair.specs.Stands.{HeldStands, all_sent, nothing_sent}
use Rattle.end_for_callers.specs.CallResults.{IsAccepted}
use Rattle.station_pair.specs.Steps.{AreSteps, Called, Held, Opens, Programs, Pulls, Step, Takes, after_call, events_of, popped_items, new_held}

-- what was given at a station brings parts that its end made
given-brings : (h : Held) (y : EndState) (octets : List ℕ) → HeldStands h y → IsGiven octets h.pulled
    → Brings (Known y) octets
given-brings h y octets stands given =
    let Q = λ (x : SentDatagram). Brings (Known y) x.1 in
    let waiting = (outbox_of h.station).queue.waiting in
    let all = folds-all Q (told_of nothing_sent) (told_of (all_sent h)) [] (h.pulled ++ waiting)
    (sendings y.settings 0 y.machine.made) stands.sent.each refl refl
    tt (sendings-bring y.settings (Known y) 0 y.machine.made (λ n texts made. made)) in
    pick h.pulled given (all-parts Q h.pulled waiting all).0
  where
    pick : (xs : List SentDatagram) → IsGiven octets xs → AllByRecursion (λ (x : SentDatagram). Brings (Known y) x.1) xs
        → Brings (Known y) octets
    pick [] among all = absurd among
    pick (x ∷ xs) (inl e) all = subst (Brings (Known y)) (sym e) all.0
    pick (x ∷ xs) (inr among) all = pick xs among all.1

comes : (c : Call) (k : Held) (y : EndState) → HeldStands k y → ArrivesCarried c (k ∷ []) → Comes (Known y) c
comes (Deliver channel octets now) k y stands given = given-brings k y octets stands given
comes (Close now) k y stands given = tt
comes (Put kind payload now) k y stands given = tt
comes (InitDone now) k y stands given = tt
comes (Tick now) k y stands given = tt

known-more : (t : Turn Inside) (y z : EndState) (ps : List Part) → LeadsByTurn t y z → AllByRecursion (Known y) ps
    → AllByRecursion (Known z) ps
known-more t y z ps turned all =
    all-map (Known y) (Known z) (λ p known.
    subst (λ s. has_made (rule_of s) p.1 z.machine.made ≡ true) (sym turned.grew.settings)
    (subst (λ ms. has_made (rule_of y.settings) p.1 ms ≡ true) (sym turned.grew.made)
    (made-more (rule_of y.settings) p.1 y.machine.made turned.grew.more known)))
    ps all

-- Two stations represent two ends, and what waits in the redundancy layer of each was made by the other.
record Both (h k : Held) (x y : EndState) : Type 0 where
  one : HeldStands h x
  two : HeldStands k y
  code : AlikeCode x.settings y.settings
  one_waits : AllByRecursion (Known y) x.red.waiting
  two_waits : AllByRecursion (Known x) y.red.waiting

swap : (h k : Held) (x y : EndState) → Both h k x y → Both k h y x
swap h k x y b =
    record { one = b.two; two = b.one; code = sym b.code; one_waits = b.two_waits; two_waits = b.one_waits }

both-called : TurnsLaw → OriginLaw → (c : Call) (o : Outcome) (h k : Held) (t : StationValue) (x y : EndState)
    → Both h k x y
    → IsAccepted c o h.station t → ArrivesCarried c (k ∷ []) → Both (after_call t (puts_in c) [] [] h) k (call c x) y
both-called turns origin c o h k t x y b step given =
    let turned = turns c (inside h.station.end) x b.one.end.both in
    record {
      one = call-stands turns c o h t x b.one step;
      two = b.two;
      code = ap (λ (s : EndSettings). code_octets (rule_of s).length) turned.grew.settings ∙ b.code;
      one_waits = (near-call origin x.settings (Known y) c x (comes c k y b.two given) (refl, b.one_waits)).1;
      two_waits = known-more (turn c (inside h.station.end)) x (call c x) y.red.waiting turned b.two_waits;
    }

-- what changes nothing of an end
both-kept : (h l k : Held) (x y : EndState) → (HeldStands h x → HeldStands l x) → Both h k x y → Both l k x y
both-kept h l k x y keep b =
    record { one = keep b.one; two = b.two; code = b.code; one_waits = b.one_waits; two_waits = b.two_waits }

abbrev pair : Held → Held → Programs
pair h k = record { ils = h ∷ []; fes = k ∷ [] }

abbrev world : EndState → JoinedEnd → World
world x f = record { ils = x ∷ []; fes = f ∷ []; dead_il = 0; dead_fe = 0 }

all-genuine : TurnsLaw → OriginLaw → (steps : List Step) (h k : Held) (x : EndState) (f : JoinedEnd) → Both h k x f.end
    → AreSteps steps (pair h k)
    → AllCarried steps (pair h k) → Genuine (events_of steps) (world x f)
all-genuine turns origin [] h k x f b are carried = tt
all-genuine turns origin (Opens side config first_sn rooms now (Ok s) ∷ steps) h k x f b are carried = absurd carried.0
all-genuine turns origin (Opens Interlocking config first_sn rooms now (Err why) ∷ steps) h k x f b are carried =
    all-genuine turns origin steps h k x f b are.1 carried.1
all-genuine turns origin (Opens FieldElement config first_sn rooms now (Err why) ∷ steps) h k x f b are carried =
    all-genuine turns origin steps h k x f b are.1 carried.1
all-genuine turns origin (Called Interlocking c (Ok o) t ∷ steps) h k x f b are carried =
    let next = both-called turns origin c o h k t x f.end b are.0 carried.0 in
    let none = call-accepted c h x b.one are.0.accepted in
    let more = all-genuine turns origin steps (after_call t (puts_in c) [] [] h) k (call c x) f next are.1 carried.1 in (
      λ _. genuine-call origin f.end c x b.code b.one_waits (comes c k f.end b.two carried.0),
      subst (Genuine (events_of steps)) (sym (ap
          (λ r. unless_refused r (world x f) (change_world (Calls Il c) (world x f))) none)) more,
    )
all-genuine turns origin (Called FieldElement c (Ok o) t ∷ steps) h k x f b are carried =
    let a = swap h k x f.end b in
    let next = both-called turns origin c o k h t f.end x a are.0 carried.0 in
    let none = call-accepted c k f.end b.two are.0.accepted in
    let g = with_joined (x ∷ []) f (call c f.end) in
    let more = all-genuine turns origin steps h (after_call t (puts_in c) [] [] k) x g
    (swap (after_call t (puts_in c) [] [] k) h (call c f.end) x next) are.1
    carried.1 in (
      λ _. genuine-call origin x c f.end a.code a.one_waits (comes c h x b.one carried.0),
      subst (Genuine (events_of steps)) (sym (ap
          (λ r. unless_refused r (world x f) (change_world (Calls Fe c) (world x f))) none)) more,
    )
all-genuine turns origin (Called Interlocking c (Err why) t ∷ steps) h k x f b are carried =
    let l = after_call t [] [] [] h in
    all-genuine turns origin steps l k x f (both-kept h l k x f.end (refused-stands h t x are.0.1) b) are.1 carried.1
all-genuine turns origin (Called FieldElement c (Err why) t ∷ steps) h k x f b are carried =
    let l = after_call t [] [] [] k in
    let a = both-kept k l h f.end x (refused-stands k t f.end are.0.1) (swap h k x f.end b) in
    all-genuine turns origin steps h l x f (swap l h f.end x a) are.1 carried.1
all-genuine turns origin (Takes Interlocking buffer answer left t ∷ steps) h k x f b are carried =
    let l = after_call t [] (popped_items answer left) [] h in
    all-genuine turns origin steps l k x f (both-kept h l k x f.end (taken-stands buffer answer left h t x are.0) b)
    are.1 carried.1
all-genuine turns origin (Takes FieldElement buffer answer left t ∷ steps) h k x f b are carried =
    let l = after_call t [] (popped_items answer left) [] k in
    let a = both-kept k l h f.end x (taken-stands buffer answer left k t f.end are.0) (swap h k x f.end b) in
    all-genuine turns origin steps h l x f (swap l h f.end x a) are.1 carried.1
all-genuine turns origin (Pulls Interlocking buffer answer left t ∷ steps) h k x f b are carried =
    let l = after_call t [] [] (popped_items answer left) h in
    all-genuine turns origin steps l k x f (both-kept h l k x f.end (pulled-stands buffer answer left h t x are.0) b)
    are.1 carried.1
all-genuine turns origin (Pulls FieldElement buffer answer left t ∷ steps) h k x f b are carried =
    let l = after_call t [] [] (popped_items answer left) k in
    let a = both-kept k l h f.end x (pulled-stands buffer answer left k t f.end are.0) (swap h k x f.end b) in
    all-genuine turns origin steps h l x f (swap l h f.end x a) are.1 carried.1

pub carried : TurnsLaw → OriginLaw → NetworkLaw
carried turns origin fe il steps are code all =
    let f = opened_end FieldElement fe.config fe.first_sn fe.now in
    let x = opened_end Interlocking il.config il.first_sn il.now in
    let k = new_held fe.station in
    let h = new_held il.station in
    let b : Both h k x f =
    record {
      one = opened-stands Interlocking il.config il.first_sn il.rooms il.now il.station are.1.0;
      two = opened-stands FieldElement fe.config fe.first_sn fe.rooms fe.now fe.station are.0;
      code = sym code;
      one_waits = tt;
      two_waits = tt;
    } in
    let w1 = change_world (Open Fe (settings_of fe.config) fe.first_sn fe.now) start in
    let first = list-opened FieldElement fe.config fe.first_sn fe.rooms fe.now fe.station [] [] tt are.0 tt in
    let second = list-opened Interlocking il.config il.first_sn il.rooms il.now il.station [] [] tt are.1.0 tt in
    let rest = all-genuine turns origin steps h k x (record { end = f; joined = None }) b are.1.1 all in
    let e2 = Open Il (settings_of il.config) il.first_sn il.now in
    let after_two = subst (Genuine (events_of steps))
    (sym (ap (λ r. unless_refused r w1 (change_world e2 w1)) second.0)) rest in (
      λ _. tt,
      subst (Genuine (e2 ∷ events_of steps)) (sym (ap (λ r. unless_refused r start w1) first.0)) (λ _. tt, after_two),
    )
