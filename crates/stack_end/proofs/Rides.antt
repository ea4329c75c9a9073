-- Two dialogues that differ only in what was taken before go on alike.
use Rattle.stack_end.proofs.Words.{[], added_by, after, ap, append_assoc, Arrives, Bool}
use Rattle.stack_end.proofs.Words.{Dialogue, end_of}
use Rattle.stack_end.proofs.Words.{Err, Event, false, if_ended}
use Rattle.stack_end.proofs.Words.{Item, judge_messages}
use Rattle.stack_end.proofs.Words.{judge_read, judge_units, judge_unpacked, Judgement, judge_telegram, Leaving, List}
use Rattle.stack_end.proofs.Words.{process_event, None, Ok}
use Rattle.stack_end.proofs.Words.{Option, PackFault}
use Rattle.stack_end.proofs.Words.{refl, Result, bring_up, session_in}
use Rattle.stack_end.proofs.Words.{Some, RepresentsDialogue, subst, sym, taken_by, Tele, tele_seen, TeleFault, texts, true}
use Rattle.stack_end.proofs.Words.{unit_seen, unless_leaving, ℕ, ◌++◌, ◌+◌, ◌∙◌, ◌∷◌, ◌≡◌}
use Rattle.std.specs.Prelude.{◌-◌}

pub record Rides (before : List Item) (d e : Dialogue) : Type 0 where
  pub speaks : RepresentsDialogue (session_in d) d.waiting e
  pub taken : e.history.taken ≡ before ++ d.history.taken

pub record RidesJudged (before : List Item) (j k : Judgement) : Type 0 where
  pub left : Rides before j.left k.left
  pub leaving : j.leaving ≡ k.leaving

pub rides-meets : (event : Event) (before : List Item) (d e : Dialogue) → Rides before d e
    → Rides before (process_event event d) (process_event event e)
rides-meets event before d e h =
    record {
      speaks =
          record {
            state = ap (after event) h.speaks.state;
            waits = ap (λ ws. ws ++ texts (added_by event (session_in d))) h.speaks.waits
                ∙ ap (λ s. e.waiting ++ texts (added_by event s)) h.speaks.state;
          };
      taken =
          ap (λ xs. xs ++ taken_by event (session_in e)) h.taken
          ∙ (append_assoc before d.history.taken (taken_by event (session_in e))
          ∙ ap (λ s. before ++ (d.history.taken ++ taken_by event s)) (sym h.speaks.state));
    }

pub rides-rises : (a b : Bool) (before : List Item) (d e : Dialogue) → a ≡ b → Rides before d e
    → Rides before (bring_up a d) (bring_up b e)
rides-rises a b before d e same h = subst (λ q. Rides before (bring_up a d) (bring_up q e)) same (both a)
  where
    both : (a : Bool) → Rides before (bring_up a d) (bring_up a e)
    both true = rides-meets Event.Up before d e h
    both false = h

rides-read : (before : List Item) (r : Result Tele TeleFault) (d e : Dialogue) → Rides before d e
    → RidesJudged before (judge_read r d) (judge_read r e)
rides-read before (Ok t) d e h =
    record {
      left = rides-meets (Arrives t) before d e h;
      leaving = ap (λ s. if_ended (end_of (judge_telegram s t))) h.speaks.state;
    }
rides-read before (Err fault) d e h = record { left = h; leaving = refl }

rides-unless : (before : List Item) (a b : Option Leaving) (first rest first_too rest_too : Judgement) → a ≡ b
    → RidesJudged before first first_too
    → RidesJudged before rest rest_too
    → RidesJudged before (unless_leaving a first rest) (unless_leaving b first_too rest_too)
rides-unless before a b first rest first_too rest_too same h k =
    subst (λ q. RidesJudged before (unless_leaving a first rest) (unless_leaving q first_too rest_too)) same (both a)
  where
    both : (a : Option Leaving) → RidesJudged before (unless_leaving a first rest) (unless_leaving a first_too rest_too)
    both None = k
    both (Some why) = h

rides-messages : (before : List Item) (ms : List (List ℕ)) (d e : Dialogue) → Rides before d e
    → RidesJudged before (judge_messages ms d) (judge_messages ms e)
rides-messages before [] d e h = record { left = h; leaving = refl }
rides-messages before (m ∷ ms) d e h =
    let first = rides-read before (tele_seen m) d e h in
    let j = judge_read (tele_seen m) d in
    let k = judge_read (tele_seen m) e in
    rides-unless before j.leaving k.leaving j (judge_messages ms j.left) k (judge_messages ms k.left) first.leaving
    first
    (rides-messages before ms j.left k.left first.left)

rides-unpacked : (before : List Item) (r : Result (List (List ℕ)) PackFault) (d e : Dialogue) → Rides before d e
    → RidesJudged before (judge_unpacked r d) (judge_unpacked r e)
rides-unpacked before (Ok ms) d e h = rides-messages before ms d e h
rides-unpacked before (Err fault) d e h = record { left = h; leaving = refl }

pub rides-units : (before : List Item) (us : List (List ℕ)) (d e : Dialogue) → Rides before d e
    → RidesJudged before (judge_units us d) (judge_units us e)
rides-units before [] d e h = record { left = h; leaving = refl }
rides-units before (u ∷ us) d e h =
    let first = rides-unpacked before (unit_seen u) d e h in
    let j = judge_unpacked (unit_seen u) d in
    let k = judge_unpacked (unit_seen u) e in
    rides-unless before j.leaving k.leaving j (judge_units us j.left) k (judge_units us k.left) first.leaving first
    (rides-units before us j.left k.left first.left)
