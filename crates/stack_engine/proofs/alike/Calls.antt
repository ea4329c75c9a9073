-- What is said of each part that goes up in a call is said of each place there.
use Rattle.stack_engine.proofs.Words.{[], ap, AtCall, AtInput, AtParts, Call, EndState, false, Input, is_shut, List, Part}
use Rattle.stack_engine.proofs.Words.{part_step, parts_step, parts_passed, refl, slice_get, Some, subst, suc, sym, take, time_of, with_input, zero, ℕ, ◌∙◌, ◌∷◌, ◌≡◌}
use Rattle.stack_engine.proofs.Words.{Close, Deliver, InitDone, Put, Tick, Datagram, RedTick}
use Rattle.std.proofs.lemmas.Option.{none-some, same_Some}
use Rattle.stack_engine.specs.CallsByPlace.{GoesUp, guard_end, input_of}
use Rattle.stack_engine.proofs.alike.Closed.{closed-shut, shut-closed}

parts-each : (P : EndState → List ℕ → Type 0) (now : ℕ) (ps : List Part) (x : EndState) → AtParts P now ps x
    → (k : ℕ) (p : Part) → slice_get ps k ≡ Some p → P (parts_step now (take k ps) x) p.1
parts-each P now [] x h k p e = absurd (none-some p e)
parts-each P now (q ∷ ps) x h zero p e = subst (λ (o : Part). P x o.1) (same_Some q p e) h.0
parts-each P now (q ∷ ps) x h (suc k) p e = parts-each P now ps (part_step now q.1 x) h.1 k p e

each-parts : (P : EndState → List ℕ → Type 0) (now : ℕ) (ps : List Part) (x : EndState)
    → ((k : ℕ) (p : Part) → slice_get ps k ≡ Some p → P (parts_step now (take k ps) x) p.1) → AtParts P now ps x
each-parts P now [] x h = tt
each-parts P now (q ∷ ps) x h = (h zero q refl, each-parts P now ps (part_step now q.1 x) (λ k p e. h (suc k) p e))

-- at the parts of an input
abbrev EachUp : (EndState → List ℕ → Type 0) → Call → EndState → Type 0
EachUp P c x = (k : ℕ) (p : Part) (y : EndState) → GoesUp c x k p y → P y p.1

input-each : (P : EndState → List ℕ → Type 0) (c : Call) (x : EndState) (i : Input) → input_of c ≡ Some i
    → (is_shut x ≡ false → AtInput P (time_of c) i (guard_end c x)) → EachUp P c x
input-each P c x i e h k p y u =
    let same : u.input ≡ i = same_Some u.input i (sym u.brings ∙ e) in
    let at =
    parts-each P (time_of c) (parts_passed i (guard_end c x).red) (with_input i (guard_end c x))
    (h (closed-shut x.machine.connection u.lives) (closed-shut (guard_end c x).machine.connection u.goes_on)) k p
    (ap (λ j. slice_get (parts_passed j (guard_end c x).red) k) (sym same) ∙ u.part) in
    subst (λ z. P z p.1)
    (ap (λ j. parts_step (time_of c) (take k (parts_passed j (guard_end c x).red)) (with_input j (guard_end c x)))
    (sym same) ∙ u.meanwhile) at

each-input : (P : EndState → List ℕ → Type 0) (c : Call) (x : EndState) (i : Input) → input_of c ≡ Some i → EachUp P c x
    → is_shut x ≡ false → AtInput P (time_of c) i (guard_end c x)
each-input P c x i e h lives goes =
    each-parts P (time_of c) (parts_passed i (guard_end c x).red) (with_input i (guard_end c x))
    (λ k p is.
    h k p (parts_step (time_of c) (take k (parts_passed i (guard_end c x).red)) (with_input i (guard_end c x)))
    (record {
      lives = shut-closed x.machine.connection lives;
      goes_on = shut-closed (guard_end c x).machine.connection goes;
      input = i;
      brings = e;
      part = is;
      meanwhile = refl;
    }))

pub call-each : (P : EndState → List ℕ → Type 0) (c : Call) (x : EndState) → AtCall P c x → EachUp P c x
call-each P (Tick now) x h = input-each P (Tick now) x (RedTick now) refl h
call-each P (Deliver channel octets now) x h = input-each P (Deliver channel octets now) x (Datagram octets now) refl h
call-each P (Close now) x h = λ k p y u. absurd (none-some u.input u.brings)
call-each P (Put kind payload now) x h = λ k p y u. absurd (none-some u.input u.brings)
call-each P (InitDone now) x h = λ k p y u. absurd (none-some u.input u.brings)

pub each-call : (P : EndState → List ℕ → Type 0) (c : Call) (x : EndState) → EachUp P c x → AtCall P c x
each-call P (Tick now) x h = each-input P (Tick now) x (RedTick now) refl h
each-call P (Deliver channel octets now) x h = each-input P (Deliver channel octets now) x (Datagram octets now) refl h
each-call P (Close now) x h = tt
each-call P (Put kind payload now) x h = tt
each-call P (InitDone now) x h = tt
