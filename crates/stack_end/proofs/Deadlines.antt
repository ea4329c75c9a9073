-- Before the first deadline a tick does nothing, and at a deadline something is due.
use Rattle.stack_end.proofs.Words.{[], ap, append-nil, arith, Bool}
use Rattle.stack_end.proofs.Words.{false}
use Rattle.stack_end.proofs.Words.{inl, inr, is_nil, IsBefore, IsReachedAt}
use Rattle.stack_end.proofs.Words.{kept_of}
use Rattle.stack_end.proofs.Words.{None}
use Rattle.stack_end.proofs.Words.{Option, parts_passed, Receiver}
use Rattle.stack_end.proofs.Words.{red_after, RedTick, refl}
use Rattle.stack_end.proofs.Words.{Some, sym, tick_turn, true}
use Rattle.stack_end.proofs.Words.{View, ℕ, ◌++◌, ◌+◌, ◌∙◌, ◌≡◌}
use Rattle.stack_end.proofs.Words.{◌≢◌, ◌≤◌, ◌⊎◌}
use Rattle.red_layer.specs.Redundancy.{deadline_of, is_due}
use Rattle.safe_machine.proofs.one.TurnSteps.{turns_law_holds as machine_turns}
use Rattle.safe_machine.specs.Moves.Move.{Ticks}
use Rattle.safe_machine.specs.State.{State}
use Rattle.safe_machine.specs.Step.{tick}
use Rattle.safe_machine.specs.Turns.{still, Turn}
use Rattle.safe_machine.specs.View.{StandsFor}
use Rattle.stack_end.specs.Deadlines.{earliest}
use Rattle.std.proofs.lemmas.Bool.{le-leb, leb-false, leb-true}
use Rattle.std.specs.Prelude.{nat_le, ◌-◌}

-- two histories of which the same is kept, and that made and took the same
same-state : (s t : State) → kept_of t ≡ kept_of s → t.made ≡ s.made → t.taken ≡ s.taken → t ≡ s
same-state s t kept made taken = λ i.
    record {
      settings = (kept i).settings;
      first = (kept i).first;
      connection = (kept i).connection;
      made = made i;
      taken = taken i;
      since = (kept i).since;
      expected = (kept i).expected;
      last_sn = (kept i).last_sn;
      last_ts = (kept i).last_ts;
      confirmed = (kept i).confirmed;
      confirmed_at = (kept i).confirmed_at;
      answered = (kept i).answered;
      window = (kept i).window;
    }

-- a tick changes a history if and only if it changes what is kept of it
pub quiet-tick : (now : ℕ) (v : View) (s : State) → StandsFor v s → tick_turn now v ≡ still v → tick now s ≡ s
quiet-tick now v s h quiet =
    let one = machine_turns (Ticks now) v s tt h in
    same-state s (tick now s) (sym one.stands ∙ (ap (λ (t : Turn). t.left) quiet ∙ h))
    (one.made ∙ (ap (λ (t : Turn). s.made ++ t.made) quiet ∙ append-nil s.made))
    (one.taken ∙ append-nil s.taken)

pub fallen-tick : (now : ℕ) (v : View) (s : State) → StandsFor v s → (tick_turn now v).left ≢ v → tick now s ≢ s
fallen-tick now v s h changes same = changes ((machine_turns (Ticks now) v s tt h).stands ∙ (ap kept_of same ∙ sym h))

pub before-both : (now : ℕ) (a b : Option ℕ) → IsBefore now (earliest a b) → IsBefore now a × IsBefore now b
before-both now None b h = (tt, h)
before-both now (Some a) None h = (h, tt)
before-both now (Some a) (Some b) h = (omega arith, omega arith)

pub at-either : (now : ℕ) (a b : Option ℕ) → IsReachedAt now (earliest a b) → IsReachedAt now a ⊎ IsReachedAt now b
at-either now None b h = inr h
at-either now (Some a) None h = inl h
at-either now (Some a) (Some b) h = at-min (nat_le a b) refl
  where
    at-min : (t : Bool) → nat_le a b ≡ t → (a ≤ now) ⊎ (b ≤ now)
    at-min true e = inl (let k = leb-true a b e in omega (arith, h, k))
    at-min false e = inr (let k = leb-false a b e in omega (arith, h, k))

undue : (nil late : Bool) (now : ℕ) (r : Receiver) → is_nil r.waiting ≡ nil → nat_le (r.since + r.t_seq) now ≡ late
    → IsBefore now (deadline_of r)
    → is_due now r ≡ false
undue true late now r n l h = rw n refl
undue false true now r n l h = let k = rw n at h in let m =
    leb-true (r.since + r.t_seq) now l in absurd (omega (arith, k, m))
undue false false now r n l h = rw (n, l) refl

pub red-before : (now : ℕ) (r : Receiver) → IsBefore now (deadline_of r) → (red_after (RedTick now) r ≡ r)
    × (parts_passed (RedTick now) r ≡ [])
red-before now r h =
    let e = undue (is_nil r.waiting) (nat_le (r.since + r.t_seq) now) now r refl refl h in
    (rw e refl, rw e refl)

pub red-at : (now : ℕ) (r : Receiver) (nil : Bool) → is_nil r.waiting ≡ nil → IsReachedAt now (deadline_of r)
    → is_due now r ≡ true
red-at now r true n h = absurd (rw n at h)
red-at now r false n h = let k = rw n at h in rw (n, le-leb (r.since + r.t_seq) now k) refl
