-- The queue of a session over every list of events.
use Rattle.std.proofs.Common.{◌≡◌, ◌≢◌, ℕ, true, cond, List, [], ◌∷◌, ◌++◌, refl, sym, ap, ◌∙◌, subst, ⊎_elim, inl, inr}
use Rattle.std.specs.Prelude.{is_none}
use Rattle.std.specs.List.{AllByRecursion}
use Rattle.std.proofs.lemmas.Bool.{false≢true}
use Rattle.std.proofs.lemmas.List.{append-nil}
use Rattle.pdi_session.specs.telegram.Tele.{Tele}
use Rattle.pdi_session.specs.declared.Phase.{Phase}
use Rattle.pdi_session.specs.declared.Phase.TheVariants.{Idle, Checking, Requesting, AwaitCheck, AwaitRequest, Refused, Initialising, Established, Ended}
use Rattle.pdi_session.specs.Settings.{Interlocking, Field}
use Rattle.pdi_session.specs.Tables.{may_put}
use Rattle.pdi_session.specs.SessionStep.{Event, Up, Arrives, Puts, InitDone, Closes, SessionState, item_of, phase_after, put_refusal}
use Rattle.pdi_session.specs.Histories.{History, new_history, add_event, add_events, put_by}
use Rattle.pdi_session.specs.Laws.{FieldLaw, InterlockingLaw, IsFieldQueue, IsInterlockingQueue, IsItem, is_established, items_of, was_established}
use Rattle.pdi_session.proofs.one.ItemLists.{PutIsQueue, along, put_grows}
use Rattle.pdi_session.proofs.one.Shapes.{FeAt, FePast, IlAt, IlPast, base, fe_past, il_past}
use Rattle.pdi_session.proofs.one.IlSteps.{by_bool, il_may_put, il_step, put_open}
use Rattle.pdi_session.proofs.one.FeSteps.{fe_step}

pub was-append : (xs ys : List Phase) → was_established xs ≡ true → was_established (xs ++ ys) ≡ true
was-append [] ys h = absurd (false≢true h)
was-append (x ∷ xs) ys h =
    by_bool (λ b. cond b true (was_established xs) ≡ true → cond b true (was_established (xs ++ ys)) ≡ true)
    (is_established x) (λ _ _. refl) (λ _ rest. was-append xs ys rest) h

pub was-last : (xs : List Phase) → was_established (xs ++ Established ∷ []) ≡ true
was-last [] = refl
was-last (x ∷ xs) = by_bool (λ b. cond b true (was_established (xs ++ Established ∷ [])) ≡ true) (is_established x)
    (λ _. refl) (λ _. was-last xs)

pub established_is : (phase : Phase) → is_established phase ≡ true → phase ≡ Established
established_is Idle is = absurd (false≢true is)
established_is Checking is = absurd (false≢true is)
established_is Requesting is = absurd (false≢true is)
established_is AwaitCheck is = absurd (false≢true is)
established_is AwaitRequest is = absurd (false≢true is)
established_is Refused is = absurd (false≢true is)
established_is Initialising is = absurd (false≢true is)
established_is Established is = refl
established_is Ended is = absurd (false≢true is)

-- facts that an interlocking's history keeps
pub record IlWell (version : ℕ) (h : History) : Type 0 where
  pub role : h.state.role ≡ Interlocking version
  pub at : IlAt version (base h.state) h.state.phase h.queue h.judged
  pub now : is_established h.state.phase ≡ true → was_established h.phases ≡ true
  pub some : h.put ≢ [] → was_established h.phases ≡ true
  pub items : PutIsQueue h

put_was : (version : ℕ) (e : Event) (h : History) → IlWell version h → h.put ++ put_by e h.state ≢ []
    → was_established h.phases ≡ true
put_was version Up h well some = well.some (λ none. some (append-nil h.put ∙ none))
put_was version (Arrives t) h well some = well.some (λ none. some (append-nil h.put ∙ none))
put_was version (Puts kind payload waits) h well some =
    by_bool (λ b. h.put ++ cond b ((kind, payload) ∷ []) [] ≢ [] → was_established h.phases ≡ true)
    (is_none (put_refusal h.state kind payload waits))
    (λ none _.
    let may = put_open h.state kind payload waits none in
    let is : h.state.phase ≡ Established = il_may_put version h.state.phase
    (ap (λ r. may_put r h.state.phase) (sym well.role) ∙ may.0) in
    well.now (ap is_established is))
    (λ _ more. well.some (λ none. more (append-nil h.put ∙ none))) some
put_was version (InitDone waits) h well some = well.some (λ none. some (append-nil h.put ∙ none))
put_was version Closes h well some = well.some (λ none. some (append-nil h.put ∙ none))

pub il_grows : (version : ℕ) (e : Event) (h : History) → IlWell version h → IlWell version (add_event e h)
il_grows version e h well =
    record {
      role = well.role;
      at = il_step version e h.state h.queue h.judged well.role well.at;
      now = λ is. subst (λ p. was_established (h.phases ++ p ∷ []) ≡ true)
          (sym (established_is (phase_after e h.state) is)) (was-last h.phases);
      some = λ more. was-append h.phases (phase_after e h.state ∷ []) (put_was version e h well more);
      items = put_grows e h well.items;
    }

-- commands without items are an empty list
no_items : (s : SessionState) (ts : List Tele) → AllByRecursion (IsItem s) ts → items_of ts ≡ [] → ts ≡ []
no_items s [] each none = refl
no_items s (t ∷ ts) each none = let some : item_of t ∷ items_of ts ≡ [] = rw each.0.0 at none in cc

il_queue : (version : ℕ) (h : History) → IlWell version h → IlPast version (base h.state) h.queue h.judged
    → IsInterlockingQueue version h
il_queue version h well past =
    ⊎_elim inl
    (λ rest. inr (⊎_elim inl (λ asked. inr (
      asked.commands,
      asked.is,
      asked.each,
      λ some. well.some (λ none. some (no_items (base h.state) asked.commands asked.each (sym (ap items_of asked.is)
          ∙ well.items ∙ none))),
    )) rest)) past

pub interlocking_law : InterlockingLaw
interlocking_law addressing version es =
    let well : IlWell version (add_events es (new_history addressing (Interlocking version))) =
    along (IlWell version) (il_grows version) es (new_history addressing (Interlocking version))
    (record {
      role = refl;
      at = (refl, refl);
      now = λ is. absurd (false≢true is);
      some = λ more. absurd (more refl);
      items = refl;
    })
    in
    let h : History = add_events es (new_history addressing (Interlocking version)) in
    il_queue version h well (il_past version (base h.state) h.state.phase h.queue h.judged well.at)

-- facts that a field element's history keeps
pub record FeWell (versions checksum : List ℕ) (h : History) : Type 0 where
  pub role : h.state.role ≡ Field versions checksum
  pub at : FeAt (base h.state) h.state.phase h.queue h.judged
  pub items : PutIsQueue h

pub fe_grows : (versions checksum : List ℕ) (e : Event) (h : History) → FeWell versions checksum h
    → FeWell versions checksum (add_event e h)
fe_grows versions checksum e h well =
    record {
      role = well.role;
      at = fe_step versions checksum e h.state h.queue h.judged well.role well.at;
      items = put_grows e h well.items;
    }

fe_queue : (h : History) → FePast (base h.state) h.queue h.judged → IsFieldQueue h
fe_queue h past =
    ⊎_elim inl
    (λ some. inr (⊎_elim (λ refuses. inl (refuses.version, refuses.is))
    (λ rest. inr (⊎_elim (λ accepts. inl (accepts.version, accepts.is))
    (λ starts. inr (starts.version, starts.status, starts.is, starts.each, starts.most)) rest)) some)) past

pub field_law : FieldLaw
field_law addressing versions checksum es =
    let well : FeWell versions checksum (add_events es (new_history addressing (Field versions checksum))) =
    along (FeWell versions checksum) (fe_grows versions checksum) es (new_history addressing (Field versions checksum))
    (record { role = refl; at = (refl, refl); items = refl })
    in
    let h : History = add_events es (new_history addressing (Field versions checksum)) in
    fe_queue h (fe_past (base h.state) h.state.phase h.queue h.judged well.at)
