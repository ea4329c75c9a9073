-- What an end holds, by open units, is what is unconfirmed and what waits.
use Rattle.stack_engine.proofs.Words.{[], ap, append-nil, append_assoc, arith, Bool, by_test, cond, drop, EndState, false, found_messages, found_telegram}
use Rattle.stack_engine.proofs.Words.{items_of, items_unconfirmed, items_waiting, List, Made, messages_in, nat_lt, nat_tests, not, Ok, Err, refl, Result, suc, sym}
use Rattle.stack_engine.proofs.Words.{telegrams_in, Tele, TeleFault, true, tele_seen, unconfirmed, unit_seen, zero, ℕ, ◌&&◌, ◌++◌, ◌+◌, ◌<◌, ◌∙◌, ◌∷◌, ◌≡◌, ◌≤◌, ◌||◌}
use Rattle.stack_engine.proofs.Words.{is_reserved, item_of, list_any, PackFault}
use Rattle.std.specs.List.{flat_map}
use Rattle.safe_pdu.specs.declared.Kind.{Kind}
use Rattle.safe_pdu.specs.declared.Kind.TheVariants.{RetrResp, Data, RetrData}
use Rattle.safe_machine.specs.Made.{after_pdu, run_after, run_of}
use Rattle.stack_engine.specs.OpenUnits.{begins_again, has_unit, held_items, is_open, item_read, items_among, messages_read, open_from, open_units}

-- a run is kept if no retransmission begins in what follows
abbrev answers : List Made → Bool
answers ms = list_any (λ (l : Made). begins_again l.pdu.kind) ms

abbrev kept : Bool → List (List ℕ) → List (List ℕ)
kept true run = []
kept false run = run

-- what one PDU adds to what follows it
abbrev one_open : Kind → List ℕ → Bool → List (List ℕ)
one_open kind body later = cond (has_unit kind && not later) (body ∷ []) []

kept-step : (kind : Kind) (body : List ℕ) (run rest : List (List ℕ)) (later : Bool)
    → kept later (after_pdu kind body run) ++ rest ≡ kept (begins_again kind || later) run
    ++ (one_open kind body later ++ rest)
kept-step Data body run rest true = refl
kept-step Data body run rest false = append_assoc run (body ∷ []) rest
kept-step RetrData body run rest true = refl
kept-step RetrData body run rest false = append_assoc run (body ∷ []) rest
kept-step RetrResp body run rest true = refl
kept-step RetrResp body run rest false = refl
kept-step _ body run rest true = refl
kept-step _ body run rest false = refl

open-here : (c i : ℕ) (m : Made) (ms : List Made) → c < i
    → cond (is_open c i m ms) (m.pdu.body ∷ []) [] ≡ one_open m.pdu.kind m.pdu.body (answers ms)
open-here c i m ms le =
    ap (λ b. cond (has_unit m.pdu.kind && (b && not (answers ms))) (m.pdu.body ∷ []) []) (is-below c i le)
  where
    is-below : (a b : ℕ) → a < b → nat_lt a b ≡ true
    is-below a b h = grind (arith, nat_tests)

run-open : (c i : ℕ) (run : List (List ℕ)) (ms : List Made) → c < i
    → run_after run ms ≡ kept (answers ms) run ++ open_from c i ms
run-open c i run [] le = sym (append-nil run)
run-open c i run (m ∷ ms) le =
    run-open c (i + 1) (after_pdu m.pdu.kind m.pdu.body run) ms (omega (arith, le))
    ∙ kept-step m.pdu.kind m.pdu.body run (open_from c (i + 1) ms) (answers ms)
    ∙ ap (λ here. kept (answers (m ∷ ms)) run ++ (here ++ open_from c (i + 1) ms)) (sym (open-here c i m ms le))

nothing-open : (kind : Kind) (body : List ℕ) (later : Bool)
    → cond (has_unit kind && (false && not later)) (body ∷ []) [] ≡ []
nothing-open kind body later =
    by_test (λ b. cond (b && (false && not later)) (body ∷ []) [] ≡ []) (has_unit kind) (λ e. refl) (λ e. refl)

shut-here : (c i : ℕ) (m : Made) (ms : List Made) → i ≤ c → cond (is_open c i m ms) (m.pdu.body ∷ []) [] ≡ []
shut-here c i m ms le =
    ap (λ b. cond (has_unit m.pdu.kind && (b && not (answers ms))) (m.pdu.body ∷ []) []) (not-below i c le)
    ∙ nothing-open m.pdu.kind m.pdu.body (answers ms)
  where
    not-below : (a b : ℕ) → a ≤ b → nat_lt b a ≡ false
    not-below a b h = grind (arith, nat_tests)

kept-none : (b : Bool) (rest : List (List ℕ)) → kept b [] ++ rest ≡ rest
kept-none true rest = refl
kept-none false rest = refl

drop-open : (k c i : ℕ) (ms : List Made) → i + k ≡ c + 1 → open_from c i ms ≡ run_of (drop k ms)
drop-open zero c i ms e = sym (run-open c i [] ms (omega (arith, e)) ∙ kept-none (answers ms) (open_from c i ms))
drop-open (suc k) c i [] e = refl
drop-open (suc k) c i (m ∷ ms) e =
    ap (λ here. here ++ open_from c (i + 1) ms) (shut-here c i m ms (omega (arith, e)))
    ∙ drop-open k c (i + 1) ms (omega (arith, e))

pub open-unconfirmed : (x : EndState) → open_units x ≡ unconfirmed x.machine
open-unconfirmed x = drop-open (x.machine.confirmed + 1) x.machine.confirmed 0 x.machine.made (omega arith)

-- units and messages are read alike
read-alike : (r : Result (List (List ℕ)) PackFault) → messages_read r ≡ found_messages r
read-alike (Ok ms) = refl
read-alike (Err fault) = refl

messages-alike : (us : List (List ℕ)) → flat_map (λ u. messages_read (unit_seen u)) us ≡ messages_in us
messages-alike [] = refl
messages-alike (u ∷ us) = ap (λ ms. ms ++ flat_map (λ v. messages_read (unit_seen v)) us) (read-alike (unit_seen u))
    ∙ ap (λ ms. found_messages (unit_seen u) ++ ms) (messages-alike us)

item-alike : (r : Result Tele TeleFault) (ts : List Tele)
    → items_of (found_telegram r ++ ts) ≡ item_read r ++ items_of ts
item-alike (Ok t) ts =
    by_test (λ b. cond b (items_of ts) (item_of t ∷ items_of ts) ≡ cond b [] (item_of t ∷ []) ++ items_of ts)
    (is_reserved t.kind) (λ e. refl) (λ e. refl)
item-alike (Err fault) ts = refl

pub items-alike : (ms : List (List ℕ)) → items_among ms ≡ items_of (telegrams_in ms)
items-alike [] = refl
items-alike (m ∷ ms) = ap (λ rest. item_read (tele_seen m) ++ rest) (items-alike ms)
    ∙ sym (item-alike (tele_seen m) (telegrams_in ms))

among-append : (xs ys : List (List ℕ)) → items_among (xs ++ ys) ≡ items_among xs ++ items_among ys
among-append [] ys = refl
among-append (x ∷ xs) ys = ap (λ rest. item_read (tele_seen x) ++ rest) (among-append xs ys)
    ∙ sym (append_assoc (item_read (tele_seen x)) (items_among xs) (items_among ys))

pub held-is : (x : EndState) → held_items x ≡ items_unconfirmed x ++ items_waiting x
held-is x =
    among-append (flat_map (λ u. messages_read (unit_seen u)) (open_units x)) x.session.waiting
    ∙ ap (λ us. items_among (flat_map (λ u. messages_read (unit_seen u)) us) ++ items_among x.session.waiting)
    (open-unconfirmed x)
    ∙ ap (λ ms. items_among ms ++ items_among x.session.waiting) (messages-alike (unconfirmed x.machine))
    ∙ ap (λ is. is ++ items_among x.session.waiting) (items-alike (messages_in (unconfirmed x.machine)))
    ∙ ap (λ is. items_unconfirmed x ++ is) (items-alike x.session.waiting)
