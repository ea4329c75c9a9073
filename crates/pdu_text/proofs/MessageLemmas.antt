-- The lines of messages, in order.
use Rattle.std.proofs.Common.{◌≡◌, ◌+◌, ◌<◌, ◌≤◌, ◌∙◌, ◌&&◌, ◌++◌, map, drop, length, List, [], ℕ, Bool, Bor, Option, arith, refl, sym, get_or, drop-cons, suc, true, false}
use Rattle.std.proofs.lemmas.List.{drop_all}
use Rattle.std.specs.Io.KnownBytes.{Appends}
use Rattle.std.proofs.KnownBytes.{Appends-trans}
use Rattle.pdi_session.specs.telegram.Places.{tele_seen}
use Rattle.pdu_text.specs.MessageText.{are_telegrams, is_telegram, message_line, message_lines}

abbrev pub octets_of_all : List (Bor (List ℕ)) → List (List ℕ)
octets_of_all messages = map (λ (m : Bor (List ℕ)). m.now) messages

-- the lines from the i-th message on are its line and those of the later ones
pub message_lines-drop : (number i : ℕ) (ms : List (Bor (List ℕ))) (d : Bor (List ℕ)) → i < length ms
    → message_lines number (octets_of_all (drop i ms))
    ≡ message_line number (tele_seen (get_or ms i d).now) ++ message_lines (number + 1)
    (octets_of_all (drop (i + 1) ms))
unfolding message_lines
message_lines-drop number i ms d inner =
    let later : i + 1 ≡ suc i = omega arith in
    rw (later, drop-cons ms i d inner) refl

pub are_telegrams-drop : (i : ℕ) (ms : List (Bor (List ℕ))) (d : Bor (List ℕ)) → i < length ms
    → are_telegrams (octets_of_all (drop i ms))
    ≡ (is_telegram (tele_seen (get_or ms i d).now) && are_telegrams (octets_of_all (drop (i + 1) ms)))
unfolding are_telegrams
are_telegrams-drop i ms d inner =
    let later : i + 1 ≡ suc i = omega arith in
    rw (later, drop-cons ms i d inner) refl

-- after the last message there is no line
pub message_lines-end : (number i : ℕ) (ms : List (Bor (List ℕ))) → length ms ≤ i
    → message_lines number (octets_of_all (drop i ms)) ≡ []
unfolding message_lines
message_lines-end number i ms over = let none : drop i ms ≡ [] = drop_all i ms over in rw none refl

pub are_telegrams-end : (i : ℕ) (ms : List (Bor (List ℕ))) → length ms ≤ i
    → are_telegrams (octets_of_all (drop i ms)) ≡ true
unfolding are_telegrams
are_telegrams-end i ms over = let none : drop i ms ≡ [] = drop_all i ms over in rw none refl

-- a line was written, and then the lines after it
pub lines_left : (number i : ℕ) (ms : List (Bor (List ℕ))) (d : Bor (List ℕ)) (a b end : Option (List ℕ))
    → i < length ms
    → Appends a b (message_line number (tele_seen (get_or ms i d).now))
    → Appends b end (message_lines (number + 1) (octets_of_all (drop (i + 1) ms)))
    → Appends a end (message_lines number (octets_of_all (drop i ms)))
lines_left number i ms d a b end inner line behind =
    rw (message_lines-drop number i ms d inner) (Appends-trans a b end _ _ line behind)

-- the test of a message, and then those of the messages after it
pub clean_left : (old whole new : Bool) (i : ℕ) (ms : List (Bor (List ℕ))) (d : Bor (List ℕ)) (all : Bool)
    → i < length ms
    → whole ≡ is_telegram (tele_seen (get_or ms i d).now) → (old && are_telegrams (octets_of_all (drop i ms))) ≡ all
    → new ≡ (old && whole)
    → (new && are_telegrams (octets_of_all (drop (i + 1) ms))) ≡ all
clean_left true whole new i ms d all inner judged before is =
    rw (is, judged) (sym (are_telegrams-drop i ms d inner) ∙ before)
clean_left false whole new i ms d all inner judged before is = rw is before
