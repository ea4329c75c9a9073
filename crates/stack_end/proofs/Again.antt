-- An end that is opened again: no call changes its settings, so that each layer is as newly opened.
use Rattle.stack_end.proofs.Words.{[], ap, Arrives, Bool, ClosedByUser, Closes, Completes, Datagram, datagrams, Dialogue, EndSettings, Err, Event, false}
use Rattle.stack_end.proofs.Words.{if◌then◌else◌, Input, judge_messages, judge_read, judge_units, judge_unpacked, Judgement, Leaving, length, List, process_event, None, number_after}
use Rattle.stack_end.proofs.Words.{Ok, opening_turn, Option, Part, parts_passed, Puts, Receiver, red_after, RedTick, refl, Result, bring_up, rule_of, sendings, session_in, Settings, Some, subst}
use Rattle.stack_end.proofs.Words.{can_pack, suc, sym, Tele, tele_seen, TeleFault, true, unit_seen, unit_text, unless_leaving, Unspecified, View, zero, ℕ, ◌%◌, ◌^◌, ◌∙◌, ◌∷◌, ◌≡◌, PackFault, take, comes_up}
use Rattle.pdi_session.specs.SessionStep.{new_session as session_opened, SessionState}
use Rattle.red_layer.specs.FiniteMap.{has_number}
use Rattle.red_layer.specs.Redundancy.{after_release, arrival, decoded, defer, follow, step_decoded as red_heard, is_due, least_waiting, new_receiver as red_opened, ReceiverStep}
use Rattle.red_layer.specs.declared.pdu.RedFault.{RedFault}
use Rattle.octets.specs.declared.limits.TheConstants.{REACH}
use Rattle.safe_machine.specs.TurnLaws.{HasMade}
use Rattle.std.specs.Prelude.{nat_lt, ◌==◌, ◌+◌, ◌*◌}
use Rattle.safe_machine.proofs.one.SameSettings.{settings_law_holds}
use Rattle.safe_machine.proofs.one.TurnSteps.{opened-cases, opening_law_holds}
use Rattle.safe_machine.specs.Moves.{Move, move}
use Rattle.safe_machine.specs.Moves.Move.{Guards, Leaves, Sends, Ticks}
use Rattle.safe_machine.specs.Octets.{arrive_octets, move_of as heard_move, seen_by}
use Rattle.safe_machine.specs.Step.{new_state}
use Rattle.safe_machine.specs.View.{kept_of}
use Rattle.safe_machine.specs.World.{Side}
use Rattle.safe_machine.specs.World.Side.{Il, Fe}
use Rattle.end_settings.specs.EndSettings.{connection_of, session_of}
use Rattle.stack_end.proofs.SentNumbers.{behind-wrap, datagrams-are}
use Rattle.stack_end.proofs.TurnOfCall.{opens-made}
use Rattle.stack_end.proofs.Effects.{answered, handed_up, heard, leaves, moved, settle, with_machine, with_session}
use Rattle.stack_end.proofs.TurnSteps.{closed-is, finished-is, guarded-is, packed-is, part-is, queued-is, ticked-is}
use Rattle.stack_end.specs.Ends.{Call, Close, Deliver, EndState, InitDone, is_shut, new_end, Put, Tick}
use Rattle.stack_end.specs.Steps.{by_steps, call, guard_step, kept_of as fields_kept, part_step, parts_step, input_step, step, tick_step, whole_way, with_input}
use Rattle.stack_end.specs.Turns.{call_by, finish_turn, input_and_send_by, pack_turn, pack_by, queue_turn, send_by}
use Rattle.stack_end.specs.Reopening.{after_calls, AgainLaw}
use Rattle.stack_end.specs.Statistics.{no_made_counts, with_made}
use Rattle.std.proofs.Common.{zero-add}

-- the settings of a session
record Same (d e : Dialogue) : Type 0 where
  addressing : (session_in e).addressing ≡ (session_in d).addressing
  role : (session_in e).role ≡ (session_in d).role

same : (d : Dialogue) → Same d d
same d = record { addressing = refl; role = refl }

same-then : (d e f : Dialogue) → Same d e → Same e f → Same d f
same-then d e f h k = record { addressing = k.addressing ∙ h.addressing; role = k.role ∙ h.role }

same-meets : (e : Event) (d : Dialogue) → Same d (process_event e d)
same-meets e d = record { addressing = refl; role = refl }

same-read : (r : Result Tele TeleFault) (d : Dialogue) → Same d (judge_read r d).left
same-read (Ok t) d = same-meets (Arrives t) d
same-read (Err fault) d = same d

same-unless : (o : Option Leaving) (d : Dialogue) (a b : Judgement) → Same d b.left → Same d a.left
    → Same d (unless_leaving o a b).left
same-unless None d a b k h = k
same-unless (Some why) d a b k h = h

same-messages : (ms : List (List ℕ)) (d : Dialogue) → Same d (judge_messages ms d).left
same-messages [] d = same d
same-messages (m ∷ ms) d =
    let first = judge_read (tele_seen m) d in
    let one = same-read (tele_seen m) d in
    same-unless first.leaving d first (judge_messages ms first.left)
    (same-then d first.left (judge_messages ms first.left).left one (same-messages ms first.left)) one

same-unpacked : (r : Result (List (List ℕ)) PackFault) (d : Dialogue) → Same d (judge_unpacked r d).left
same-unpacked (Ok ms) d = same-messages ms d
same-unpacked (Err fault) d = same d

same-units : (us : List (List ℕ)) (d : Dialogue) → Same d (judge_units us d).left
same-units [] d = same d
same-units (u ∷ us) d =
    let first = judge_unpacked (unit_seen u) d in
    let one = same-unpacked (unit_seen u) d in
    same-unless first.leaving d first (judge_units us first.left)
    (same-then d first.left (judge_units us first.left).left one (same-units us first.left)) one

same-rises : (up : Bool) (d : Dialogue) → Same d (bring_up up d)
same-rises true d = same-meets Event.Up d
same-rises false d = same d

-- the settings of the redundancy layer
record Still (r p : Receiver) : Type 0 where
  q : p.q ≡ r.q
  t_seq : p.t_seq ≡ r.t_seq

still : (r : Receiver) → Still r r
still r = record { q = refl; t_seq = refl }

still-then : (r q p : Receiver) → Still r q → Still q p → Still r p
still-then r q p h k = record { q = k.q ∙ h.q; t_seq = k.t_seq ∙ h.t_seq }

still-if : (b : Bool) (r q p : Receiver) → Still r q → Still r p → Still r (if b then q else p)
still-if true r q p h k = h
still-if false r q p h k = k

steps-if : (b : Bool) (r : Receiver) (s t : ReceiverStep) → Still r s.left → Still r t.left
    → Still r (if b then s else t).left
steps-if true r s t h k = h
steps-if false r s t h k = k

still-follow : (now n : ℕ) (r : Receiver) → Still r (follow now n r)
still-follow now n r = record { q = refl; t_seq = refl }

still-release : (now : ℕ) (r : Receiver) → Still r (after_release now r)
still-release now r = still-if (is_due now r) r _ _ (still-follow now (least_waiting r.waiting) r) (still r)

still-deferred : (now : ℕ) (p : Part) (r : Receiver) → Still r (defer now p r).left
still-deferred now p r =
    steps-if (has_number p.0 r.waiting) r _ _ (still r)
    (steps-if (length r.waiting == r.q) r _ _ (still r) (record { q = refl; t_seq = refl }))

still-arrival : (now : ℕ) (p : Part) (r : Receiver) → Still r (arrival now p r).left
still-arrival now p r =
    steps-if (nat_lt p.0 r.expected) r _ _ (still r)
    (steps-if (p.0 == r.expected) r _ _ (still-follow now (p.0 + 1) r)
    (steps-if (nat_lt (r.expected + REACH * r.q) p.0) r _ _ (still r) (still-deferred now p r)))

still-heard : (now : ℕ) (d : Result Part RedFault) (r : Receiver) → Still r (red_heard now d r).left
still-heard now (Ok p) r = still-arrival now p r
still-heard now (Err fault) r = still r

still-after : (i : Input) (r : Receiver) → Still r (red_after i r)
still-after (Datagram octets now) r =
    still-then r (after_release now r) _ (still-release now r) (still-heard now (decoded octets) (after_release now r))
still-after (RedTick now) r = still-release now r

-- the settings of an end
record Kept (x y : EndState) : Type 0 where
  settings : y.settings ≡ x.settings
  red : Still x.red y.red
  machine : y.machine.settings ≡ x.machine.settings
  session : Same x.session y.session

kept : (x : EndState) → Kept x x
kept x = record { settings = refl; red = still x.red; machine = refl; session = same x.session }

kept-then : (x y z : EndState) → Kept x y → Kept y z → Kept x z
kept-then x y z h k =
    record {
      settings = k.settings ∙ h.settings;
      red = still-then x.red y.red z.red h.red k.red;
      machine = k.machine ∙ h.machine;
      session = same-then x.session y.session z.session h.session k.session;
    }

kept-if : (b : Bool) (x y z : EndState) → Kept x y → Kept x z → Kept x (if b then y else z)
kept-if true x y z h k = h
kept-if false x y z h k = k

kept-machine : (m : Move) (x : EndState) → Kept x (with_machine (move m x.machine) x)
kept-machine m x =
    record { settings = refl; red = still x.red; machine = settings_law_holds m x.machine; session = same x.session }

kept-meets : (e : Event) (x : EndState) → Kept x (with_session (process_event e x.session) x)
kept-meets e x = record { settings = refl; red = still x.red; machine = refl; session = same-meets e x.session }

kept-settle : (x : EndState) → Kept x (settle x)
kept-settle x = kept-if (is_shut x) x _ _ (kept-meets Closes x) (kept x)

kept-moved : (m : Move) (x : EndState) → Kept x (moved m x)
kept-moved m x =
    let y = with_machine (move m x.machine) x in
    kept-then x y (settle y) (kept-machine m x) (kept-settle y)

kept-leaves : (now : ℕ) (o : Option Leaving) (x : EndState) → Kept x (leaves now o x)
kept-leaves now None x = kept x
kept-leaves now (Some why) x = kept-machine (Leaves why.0 why.1 now) x

kept-answered : (now : ℕ) (octets : List ℕ) (x : EndState)
    → Kept x (answered octets x (arrive_octets octets now x.machine))
kept-answered now octets x =
    let s = arrive_octets octets now x.machine in
    let d = (judge_units (handed_up x s) x.session).left in
    record {
      settings = refl;
      red = still x.red;
      machine = settings_law_holds (heard_move (seen_by x.machine octets) now) x.machine;
      session = same-then x.session d _ (same-units (handed_up x s) x.session)
          (same-rises (comes_up x.machine.connection s.connection) d);
    }

kept-part : (now : ℕ) (octets : List ℕ) (x : EndState) → Kept x (part_step now octets x)
kept-part now octets x =
    let s = arrive_octets octets now x.machine in
    let y = answered octets x s in
    let z = heard now octets x in
    let left = kept-then x y z (kept-answered now octets x)
    (kept-leaves now (judge_units (handed_up x s) x.session).leaving y) in
    subst (Kept x) (sym (part-is now octets x)) (kept-then x z (settle z) left (kept-settle z))

kept-parts : (now : ℕ) (ps : List Part) (x : EndState) → Kept x (parts_step now ps x)
kept-parts now [] x = kept x
kept-parts now (p ∷ ps) x =
    let y = part_step now p.1 x in
    kept-then x y (parts_step now ps y) (kept-part now p.1 x) (kept-parts now ps y)

kept-receives : (now : ℕ) (i : Input) (x : EndState) → Kept x (input_step now i x)
kept-receives now i x =
    let y = with_input i x in
    let red : Kept x y = record { settings = refl; red = still-after i x.red; machine = refl; session = same x.session }
    in
    kept-then x y (input_step now i x) red (kept-parts now (parts_passed i x.red) y)

kept-packed : (now : ℕ) (x : EndState) → Kept x (step (pack_turn now) x)
kept-packed now x =
    subst (Kept x) (sym (packed-is now x))
    (record {
      settings = refl;
      red = still x.red;
      machine = settings_law_holds (Sends (unit_text (take x.settings.n_maxpacket x.session.waiting)) now) x.machine;
      session = record { addressing = refl; role = refl };
    })

kept-packs : (n now : ℕ) (x : EndState) → Kept x (pack_by by_steps n now x)
kept-packs zero now x = kept x
kept-packs (suc n) now x =
    let y = step (pack_turn now) x in
    let more = kept-then x y (pack_by by_steps n now y) (kept-packed now x) (kept-packs n now y) in
    kept-if (can_pack (fields_kept x)) x _ _ more (kept x)

kept-sends : (now : ℕ) (x : EndState) → Kept x (send_by by_steps now x)
kept-sends now x = kept-packs (length x.session.waiting) now x

kept-goes_on : (now : ℕ) (i : Input) (x : EndState) → Kept x (input_and_send_by whole_way now i x)
kept-goes_on now i x =
    let y = input_step now i x in
    kept-if (is_shut x) x _ _ (kept x) (kept-then x y (send_by by_steps now y) (kept-receives now i x)
    (kept-sends now y))

-- what follows the timers of the machine
kept-first : (now : ℕ) (i : Input) (m : Move) (x y : EndState) → y ≡ moved m x
    → Kept x (if is_shut x then x else input_and_send_by whole_way now i y)
kept-first now i m x y is =
    kept-if (is_shut x) x _ _ (kept x) (kept-then x y (input_and_send_by whole_way now i y)
    (subst (Kept x) (sym is) (kept-moved m x)) (kept-goes_on now i y))

kept-did : (c : Call) (x : EndState) → Kept x (call_by whole_way c x)
kept-did (Close now) x = subst (Kept x) (sym (closed-is now x)) (kept-moved (Leaves ClosedByUser Unspecified now) x)
kept-did (Put kind payload now) x =
    let y = step (queue_turn kind payload) x in
    let queued = subst (Kept x) (sym (queued-is kind payload x))
    (kept-meets (Puts kind payload (length x.session.waiting)) x) in
    kept-then x y (send_by by_steps now y) queued (kept-sends now y)
kept-did (InitDone now) x =
    let y = step finish_turn x in
    kept-then x y (send_by by_steps now y) (subst (Kept x) (sym (finished-is x))
    (kept-meets (Completes (length x.session.waiting)) x)) (kept-sends now y)
kept-did (Tick now) x = kept-first now (RedTick now) (Ticks now) x (tick_step now x) (ticked-is now x)
kept-did (Deliver channel octets now) x =
    kept-first now (Datagram octets now) (Guards now) x (guard_step now x) (guarded-is now x)

kept-call : (c : Call) (x : EndState) → Kept x (call c x)
kept-call c x =
    let k = kept-did c x in
    record { settings = k.settings; red = k.red; machine = k.machine; session = k.session }

kept-calls : (cs : List Call) (x : EndState) → Kept x (after_calls cs x)
kept-calls [] x = kept x
kept-calls (c ∷ cs) x =
    let y = call c x in
    kept-then x y (after_calls cs y) (kept-call c x) (kept-calls cs y)

-- an opening
opened-settings : (settings : Settings) (first now : ℕ) → (new_state settings first now).settings ≡ settings
opened-settings settings first now =
    opened-cases (λ t. t.settings ≡ settings) settings first now (λ _. refl) (λ _. refl)

rule-same : (side : Side) (s : EndSettings) → (connection_of side s).rule ≡ rule_of s
rule-same Il s = refl
rule-same Fe s = refl

-- the machine of an end that opens again
record Machine (side : Side) (s : EndSettings) (first now : ℕ) (m : Settings) (n : ℕ) : Type 0 where
  stands : (opening_turn m first now).left ≡ kept_of (new_state (connection_of side s) first now)
  has_made : HasMade (opening_turn m first now).left
  numbers : number_after 0 (opening_turn m first now).made
      ≡ length (new_state (connection_of side s) first now).made % 2 ^ 32
  made : with_made (opening_turn m first now).made no_made_counts
      ≡ with_made (new_state (connection_of side s) first now).made no_made_counts
  sent : datagrams m.rule n 0 (opening_turn m first now).made
      ≡ sendings s 0 (new_state (connection_of side s) first now).made

machine-new : (side : Side) (s : EndSettings) (first now : ℕ)
    → Machine side s first now (connection_of side s) s.channels
machine-new side s first now =
    let m = connection_of side s in
    let law = opening_law_holds m first now in
    let made = (opening_turn m first now).made in
    record {
      stands = law.stands;
      has_made = opens-made m first now;
      numbers = behind-wrap 0 made
          ∙ (ap (λ n. n % 2 ^ 32) (zero-add (length made)) ∙ ap (λ ms. length ms % 2 ^ 32) (sym law.made));
      made = ap (λ ms. with_made ms no_made_counts) (sym law.made);
      sent = ap (λ r. datagrams r s.channels 0 made) (rule-same side s)
          ∙ (datagrams-are s 0 made ∙ ap (λ ms. sendings s 0 ms) (sym law.made));
    }

pub again-holds : AgainLaw
again-holds side s first began calls v h next now =
    let old = new_end side s first began in
    let x = after_calls calls old in
    let k = kept-calls calls old in
    let settings : v.upper.machine.settings ≡ connection_of side s =
    ap (λ (m : View). m.settings) h.upper.machine ∙ (k.machine ∙ opened-settings (connection_of side s) first began) in
    let count : v.upper.count ≡ s.channels = h.upper.count ∙ ap (λ (e : EndSettings). e.channels) k.settings in
    let machine = subst (λ (m : Settings). Machine side s next now m v.upper.count) (sym settings)
    (subst (λ (n : ℕ). Machine side s next now (connection_of side s) n) (sym count) (machine-new side s next now)) in
    let addressing : v.upper.session.addressing
    ≡ s.addressing = ap (λ (q : SessionState). q.addressing) h.upper.speaks.state ∙ k.session.addressing in
    let role : v.upper.session.role ≡ session_of side s = ap (λ (q : SessionState). q.role) h.upper.speaks.state
    ∙ k.session.role in
    let q : v.red.q ≡ s.q = ap (λ (r : Receiver). r.q) h.red ∙ k.red.q in
    let t_seq : v.red.t_seq ≡ s.t_seq = ap (λ (r : Receiver). r.t_seq) h.red ∙ k.red.t_seq in
    record {
      stands = record {
        red = ap (λ n. red_opened n v.red.t_seq) q ∙ ap (λ n. red_opened s.q n) t_seq;
        upper = record {
          machine = machine.stands;
          has_made = machine.has_made;
          speaks = record {
            state = ap (λ a. session_opened a v.upper.session.role) addressing
                ∙ ap (λ r. session_opened s.addressing r) role;
            waits = refl;
          };
          request = refl;
          numbers = machine.numbers;
          count = count;
          max = h.upper.max ∙ ap (λ (e : EndSettings). e.n_maxpacket) k.settings;
          accepted = refl;
          made = machine.made;
          rule = ap (λ (m : Settings). m.rule) (opened-settings (connection_of side s) next now) ∙ rule-same side s;
          t_max =
              h.upper.t_max
              ∙ ap (λ (m : Settings). m.t_max)
              (k.machine ∙ opened-settings (connection_of side s) first began
              ∙ sym (opened-settings (connection_of side s) next now));
        };
      };
      sent = machine.sent;
    }
