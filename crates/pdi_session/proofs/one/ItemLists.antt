-- The telegrams taken, put and added over every list of events.
use Rattle.std.proofs.Common.{◌≡◌, Bool, true, false, cond, List, [], ◌∷◌, ◌++◌, Option, Some, None, refl, sym, ap, ◌∙◌, subst, append_assoc}
use Rattle.std.specs.Prelude.{is_none}
use Rattle.std.proofs.lemmas.Bool.{false≢true, true≢false}
use Rattle.std.proofs.lemmas.List.{append-nil}
use Rattle.octets.specs.Lists.{IsBeginning}
use Rattle.pdi_session.specs.telegram.Tele.{Tele}
use Rattle.pdi_session.specs.declared.Phase.{Phase}
use Rattle.pdi_session.specs.declared.Phase.TheVariants.{Idle, Checking, Requesting, AwaitCheck, AwaitRequest, Refused, Initialising, Established, Ended}
use Rattle.pdi_session.specs.declared.SessionDetail.{SessionDetail}
use Rattle.pdi_session.specs.declared.SessionDetail.TheVariants as detail
use Rattle.pdi_session.specs.declared.Form.{Form}
use Rattle.pdi_session.specs.declared.PutFault.{PutFault}
use Rattle.pdi_session.specs.declared.Verdict.{Verdict}
use Rattle.pdi_session.specs.declared.Verdict.TheVariants.{Ends}
use Rattle.pdi_session.specs.Settings.{Addressing, Role, Interlocking, Field}
use Rattle.pdi_session.specs.Telegrams.{form_of, is_addressed, is_reserved, telegram}
use Rattle.pdi_session.specs.Tables.{at_up, is_initialising, may_put, table}
use Rattle.pdi_session.specs.SessionStep.{Event, Up, Arrives, Puts, InitDone, Closes, Item, SessionState, added_by, item_of, judge_telegram, phase_after, phase_by, put_refusal, taken_as, taken_by}
use Rattle.pdi_session.specs.Histories.{History, new_history, add_event, add_events, handed_by, is_ended, put_by}
use Rattle.pdi_session.specs.Laws.{AreReserved, QueueLaw, TakenLaw, items_of}
use Rattle.pdi_session.proofs.one.TableLemmas.{by_cond}
use Rattle.pdi_session.proofs.one.Rows.{reserved_of, item_of_form}
use Rattle.pdi_session.proofs.one.RowLaws.{Outcome, Closed, Went, Answered, Took, outcome, own_law, put_law}

pub items-append : (xs ys : List Tele) → items_of (xs ++ ys) ≡ items_of xs ++ items_of ys
items-append [] ys = refl
items-append (x ∷ xs) ys =
    let rest : items_of (xs ++ ys) ≡ items_of xs ++ items_of ys = items-append xs ys in
    by_cond (λ out. cond (is_reserved x.kind) (items_of (xs ++ ys)) (item_of x ∷ items_of (xs ++ ys))
    ≡ out ++ items_of ys) (is_reserved x.kind) _ _
    (λ is. rw is rest) (λ is. rw is (ap (λ zs. item_of x ∷ zs) rest))

reserved-none : (xs : List Tele) → AreReserved xs → items_of xs ≡ []
reserved-none [] all = refl
reserved-none (x ∷ xs) all = rw all.0 (reserved-none xs all.1)

-- an event adds the item that it puts, or telegrams of the establishment
items-added : (e : Event) (s : SessionState) → items_of (added_by e s) ≡ put_by e s
items-added Up s = reserved-none (added_by Up s) (own_law s).0
items-added (Arrives t) s = reserved-none (added_by (Arrives t) s) ((own_law s).2 t)
items-added (Puts kind payload waits) s = one (put_refusal s kind payload waits) refl
  where
    one : (r : Option PutFault) → put_refusal s kind payload waits ≡ r
        → items_of (cond (is_none r) (telegram s.addressing kind payload ∷ []) [])
        ≡ cond (is_none r) ((kind, payload) ∷ []) []
    one None e = rw (put_law s kind payload waits e).0 refl
    one (Some fault) e = refl
items-added (InitDone waits) s = reserved-none (added_by (InitDone waits) s) ((own_law s).1 waits)
items-added Closes s = refl

abbrev pub PutIsQueue : History → Type 0
PutIsQueue h = items_of h.queue ≡ h.put

pub put_grows : (e : Event) (h : History) → PutIsQueue h → PutIsQueue (add_event e h)
put_grows e h is = items-append h.queue (added_by e h.state) ∙ ap (λ xs. xs ++ items_of (added_by e h.state)) is
    ∙ ap (λ xs. h.put ++ xs) (items-added e h.state)

-- a fact that each event keeps holds after a list of events
pub along : (P : History → Type 0) → ((e : Event) (h : History) → P h → P (add_event e h))
    → (es : List Event) (h : History) → P h → P (add_events es h)
along P step [] h p = p
along P step (e ∷ es) h p = along P step es (add_event e h) (step e h p)

pub queue_law : QueueLaw
queue_law addressing role es = along PutIsQueue put_grows es (new_history addressing role) refl

-- what is taken is a prefix of what was judged, and all of it while the session is not over
pub record Taken (h : History) : Type 0 where
  pub front : IsBeginning h.taken (items_of h.judged)
  pub whole : is_ended h.state.phase ≡ false → h.taken ≡ items_of h.judged

-- what a telegram adds to both lists, by the decision on it
taken_whole : (t : Tele) (verdict : Verdict) → Outcome t verdict → (phase : Phase)
    → is_ended (phase_by phase verdict) ≡ false → taken_as t verdict ≡ items_of (t ∷ [])
taken_whole t verdict (Closed why e) phase on = absurd (true≢false (sym (ap (λ v. is_ended (phase_by phase v)) e) ∙ on))
taken_whole t verdict (Went n f next e) phase on = ap (taken_as t) e ∙ sym (rw (reserved_of t.kind t.payload n f) refl)
taken_whole t verdict (Answered n f next answer e) phase on =
    ap (taken_as t) e ∙ sym (rw (reserved_of t.kind t.payload n f) refl)
taken_whole t verdict (Took f e) phase on = ap (taken_as t) e ∙ sym (rw (item_of_form t.kind t.payload f) refl)

begins_by : (t : Tele) (verdict : Verdict) → Outcome t verdict → IsBeginning (taken_as t verdict) (items_of (t ∷ []))
begins_by t verdict (Closed why e) = (items_of (t ∷ []), ap (λ v. taken_as t v ++ items_of (t ∷ [])) e)
begins_by t verdict (Went n f next e) = ([], rw e (sym (rw (reserved_of t.kind t.payload n f) refl)))
begins_by t verdict (Answered n f next answer e) = ([], rw e (sym (rw (reserved_of t.kind t.payload n f) refl)))
begins_by t verdict (Took f e) = ([], rw e (sym (rw (item_of_form t.kind t.payload f) refl)))

-- a session that is over takes nothing more, and stays so
pub is_over : (phase : Phase) → is_ended phase ≡ true → phase ≡ Ended
is_over Idle is = absurd (false≢true is)
is_over Checking is = absurd (false≢true is)
is_over Requesting is = absurd (false≢true is)
is_over AwaitCheck is = absurd (false≢true is)
is_over AwaitRequest is = absurd (false≢true is)
is_over Refused is = absurd (false≢true is)
is_over Initialising is = absurd (false≢true is)
is_over Established is = absurd (false≢true is)
is_over Ended is = refl

table_over : (role : Role) (form : Form) → table role Ended form ≡ Ends detail.OutOfOrder
table_over (Interlocking version) form = refl
table_over (Field versions checksum) form = refl

pub judged_over : (s : SessionState) (t : Tele) → s.phase ≡ Ended → (why : SessionDetail)
    × (judge_telegram s t ≡ Ends why)
judged_over s t over =
    by_cond (λ v. (why : SessionDetail) × (v ≡ Ends why)) (is_addressed s.addressing t) _ _
    (λ _. (
      detail.OutOfOrder,
      ap (λ p. table s.role p (form_of t.kind t.payload)) over
          ∙ table_over s.role (form_of t.kind t.payload),
    ))
    (λ _. (detail.NotOfThisPair, refl))

up_over : (role : Role) → phase_by Ended (at_up role Ended) ≡ Ended
up_over (Interlocking version) = refl
up_over (Field versions checksum) = refl

init_over : (role : Role) → is_initialising role Ended ≡ false
init_over (Interlocking version) = refl
init_over (Field versions checksum) = refl

put_over : (role : Role) → may_put role Ended ≡ false
put_over (Interlocking version) = refl
put_over (Field versions checksum) = refl

pub phase_over : (e : Event) (s : SessionState) → s.phase ≡ Ended → phase_after e s ≡ Ended
phase_over Up s over = ap (λ p. phase_by p (at_up s.role p)) over ∙ up_over s.role
phase_over (Arrives t) s over = let end = judged_over s t over in ap (phase_by s.phase) end.1
phase_over (Puts kind payload waits) s over = over
phase_over (InitDone waits) s over = rw (over, init_over s.role) refl
phase_over Closes s over = refl

pub on_before : (e : Event) (s : SessionState) → is_ended (phase_after e s) ≡ false → is_ended s.phase ≡ false
on_before e s on = by (is_ended s.phase) refl
  where
    by : (b : Bool) → is_ended s.phase ≡ b → is_ended s.phase ≡ false
    by false is = is
    by true is = absurd (true≢false (sym (ap is_ended (phase_over e s (is_over s.phase is))) ∙ on))

begins_more : (a b c : List Item) → IsBeginning a b → IsBeginning (a ++ []) (b ++ c)
begins_more a b c front = (
  front.0 ++ c,
  ap (λ xs. xs ++ (front.0 ++ c)) (append-nil a) ∙ sym (append_assoc a front.0 c)
      ∙ ap (λ xs. xs ++ c) front.1,
)

begins_after : (a b c d : List Item) → a ≡ b → IsBeginning c d → IsBeginning (a ++ c) (b ++ d)
begins_after a b c d same front =
    (front.0, append_assoc a c front.0 ∙ ap (λ xs. a ++ xs) front.1 ∙ ap (λ xs. xs ++ d) same)

taken_front : (t : Tele) (h : History) → Taken h → (b : Bool) → is_ended h.state.phase ≡ b
    → IsBeginning (h.taken ++ taken_as t (judge_telegram h.state t)) (items_of h.judged ++ items_of (t ∷ []))
taken_front t h taken false on = begins_after h.taken (items_of h.judged) _ _ (taken.whole on)
    (begins_by t (judge_telegram h.state t) (outcome h.state t))
taken_front t h taken true over =
    let end = judged_over h.state t (is_over h.state.phase over) in
    rw end.1 (begins_more h.taken (items_of h.judged) (items_of (t ∷ [])) taken.front)

-- an event without a telegram
still : (e : Event) (h : History) → taken_by e h.state ≡ [] → handed_by e ≡ [] → Taken h → Taken (add_event e h)
still e h none silent taken =
    record {
      front = (
        taken.front.0,
        rw (none, silent) (ap (λ xs. xs ++ taken.front.0) (append-nil h.taken) ∙ taken.front.1
            ∙ ap items_of (sym (append-nil h.judged))),
      );
      whole = λ on. rw (none, silent) (append-nil h.taken ∙ taken.whole (on_before e h.state on)
          ∙ ap items_of (sym (append-nil h.judged)));
    }

pub taken_grows : (e : Event) (h : History) → Taken h → Taken (add_event e h)
taken_grows Up h taken = still Up h refl refl taken
taken_grows (Arrives t) h taken =
    record {
      front = subst (IsBeginning (h.taken ++ taken_as t (judge_telegram h.state t)))
          (sym (items-append h.judged (t ∷ []))) (taken_front t h taken (is_ended h.state.phase) refl);
      whole = λ on.
          ap (λ xs. xs ++ taken_as t (judge_telegram h.state t)) (taken.whole (on_before (Arrives t) h.state on))
          ∙ ap (λ xs. items_of h.judged ++ xs) (taken_whole t (judge_telegram h.state t) (outcome h.state t)
          h.state.phase on) ∙ sym (items-append h.judged (t ∷ []));
    }
taken_grows (Puts kind payload waits) h taken = still (Puts kind payload waits) h refl refl taken
taken_grows (InitDone waits) h taken = still (InitDone waits) h refl refl taken
taken_grows Closes h taken = still Closes h refl refl taken

-- the commands or status of a prefix are a prefix of the commands or status
pub items_begin : (xs ys : List Tele) → IsBeginning xs ys → IsBeginning (items_of xs) (items_of ys)
items_begin xs ys b = (items_of b.0, sym (items-append xs b.0) ∙ ap items_of b.1)

pub begins_through : (a b c : List Item) → IsBeginning a b → IsBeginning b c → IsBeginning a c
begins_through a b c f g = (f.0 ++ g.0, sym (append_assoc a f.0 g.0) ∙ ap (λ xs. xs ++ g.0) f.1 ∙ g.1)

pub taken_begun : (addressing : Addressing) (role : Role) → Taken (new_history addressing role)
taken_begun addressing role = record { front = ([], refl); whole = λ _. refl }

pub taken_law : TakenLaw
taken_law addressing role es =
    let end = along Taken taken_grows es (new_history addressing role) (taken_begun addressing role) in
    (end.front, end.whole)
