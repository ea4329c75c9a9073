-- Datagrams of an interlocking that was never opened: the field element sets up a session with them and takes a
-- command, and nobody made it.
use Rattle.stack_engine.proofs.Words.{[], after_block, after_round, ahead, AllFresh, ap, AtOpened, AtParts, Bool, Calls, Datagram, decoded, Deliver, digest}
use Rattle.stack_engine.proofs.Words.{EndState, Event, false, Fe, four_steps, FreshCall, FreshEvent, apply_event, Il, InitDone, is_nil, is_none, is_shut}
use Rattle.stack_engine.proofs.Words.{length, List, Made, made_of, None, not, Open, Option, Part, part_step, parts_passed, pieces_seen, present, refl, refusal}
use Rattle.stack_engine.proofs.Words.{run, sn_of, Some, start, subst, taken_at, TakesFresh, tele_seen, true, unit_seen, with_input, World, ℕ, ◌&&◌, ◌++◌, ◌==◌}
use Rattle.stack_engine.proofs.Words.{◌∷◌, ◌≡◌}
use Rattle.stack_engine.proofs.Words.{guard_step}
use Rattle.stack_engine.proofs.one.Sent.{and-parts, came}
use Rattle.stack_engine.proofs.rows.Drops.{differ, none-found}
use Rattle.stack_engine.proofs.rows.GenuineRow.{i0b, i1b, i2b, i3b, i4b}
use Rattle.stack_engine.proofs.rows.RowSettings.{fe_of}
use Rattle.stack_engine.proofs.two.PairPromises.{nil-is, not-true}

-- something is taken at the first part, as a test that is computed
abbrev takes_first : ℕ → List Part → EndState → Bool
takes_first now [] x = false
takes_first now (p ∷ ps) x = not (length (taken_at (part_step now p.1 x)) == length (taken_at x))

abbrev takes_at : ℕ → List ℕ → Option EndState → Bool
takes_at now octets None = false
takes_at now octets (Some x) =
    let y = guard_step now x in
    not (is_shut x) && (not (is_shut y) && takes_first now (parts_passed (Datagram octets now) y.red)
    (with_input (Datagram octets now) y))

-- and no interlocking made anything
abbrev takes_unmade : Event → World → Bool
takes_unmade (Calls Fe (Deliver channel octets now)) w =
    is_none (refusal (Calls Fe (Deliver channel octets now)) w)
    && (is_nil (made_of (present Il w)) && takes_at now octets (present Fe w))
takes_unmade _ w = false

not-so : false ≡ true → ⊥
not-so e = cc

none-is : {X : Type 0} (x : Option X) → is_none x ≡ true → x ≡ None
none-is None h = refl
none-is (Some x) h = absurd (not-so h)

first-unmade : (now : ℕ) (ps : List Part) (x : EndState) → takes_first now ps x ≡ true
    → AtParts (TakesFresh now []) now ps x → ⊥
first-unmade now [] x h fresh = not-so h
first-unmade now (p ∷ ps) x h fresh =
    let came = fresh.0 (λ e. differ (length (taken_at (part_step now p.1 x))) (length (taken_at x)) h (ap length e)) in
    none-found came.2.index came.2.carrier came.2.rest came.2.at

call-unmade : (now channel : ℕ) (octets : List ℕ) (x : Option EndState) → takes_at now octets x ≡ true
    → AtOpened (FreshCall [] (Deliver channel octets now)) x
    → ⊥
call-unmade now channel octets None h fresh = not-so h
call-unmade now channel octets (Some x) h fresh =
    let y = guard_step now x in
    let one = and-parts _ _ h in
    let two = and-parts _ _ one.1 in
    first-unmade now (parts_passed (Datagram octets now) y.red) (with_input (Datagram octets now) y) two.1
    (fresh (not-true (is_shut x) one.0) (not-true (is_shut y) two.0))

event-unmade : (e : Event) (w : World) → takes_unmade e w ≡ true → (refusal e w ≡ None → FreshEvent e w) → ⊥
event-unmade (Calls Fe (Deliver channel octets now)) w h fresh =
    let one = and-parts _ _ h in
    let two = and-parts _ _ one.1 in
    call-unmade now channel octets (present Fe w) two.1
    (subst (λ (made : List Made). AtOpened (FreshCall made (Deliver channel octets now)) (present Fe w))
    (nil-is (made_of (present Il w)) two.0)
    (fresh (none-is (refusal (Calls Fe (Deliver channel octets now)) w) one.0)))
event-unmade _ w h fresh = not-so h

abbrev forged : List Event
forged =
    Open Fe (fe_of 20 10) 700 5060 ∷ Calls Fe (Deliver 1 i0b 5060) ∷ Calls Fe (Deliver 1 i1b 5060) ∷
    Calls Fe (Deliver 1 i2b 5060) ∷
    Calls Fe (Deliver 1 i3b 5060) ∷ Calls Fe (InitDone 5060) ∷ []

abbrev last : Event
last = Calls Fe (Deliver 1 i4b 5060)

-- the last event is accepted, and what it takes came from nobody
taken-last : takes_unmade last (run forged start) ≡ true
unfolding sn_of ahead four_steps after_round after_block digest pieces_seen unit_seen tele_seen decoded
taken-last = refl

fresh-at : (before : List Event) (e : Event) (w : World) → AllFresh (before ++ e ∷ []) w
    → refusal e (run before w) ≡ None → FreshEvent e (run before w)
fresh-at [] e w h = h.0
fresh-at (b ∷ before) e w h = fresh-at before e (apply_event w b) h.1

pub taken-from-nobody : (es : List Event) × (AllFresh es start → ⊥)
taken-from-nobody =
    (forged ++ last ∷ [], λ h. event-unmade last (run forged start) taken-last (fresh-at forged last start h))
