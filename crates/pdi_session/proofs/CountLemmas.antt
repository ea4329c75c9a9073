-- A name's place, by the number of its bytes that are not filling.
use Rattle.std.proofs.Common.{◌≡◌, ◌==◌, ℕ, zero, suc, ◌-◌, not, true, List, [], ◌∷◌, length, take, drop, Option, Some, None, Err, cond, refl, ap, ◌∙◌, inl, inr, arith}
use Rattle.std.proofs.Math.ListN.{replicate}
use Rattle.std.proofs.Math.Seq.{take-append_seam}
use Rattle.std.proofs.lemmas.Bool.{and_parts, cases_Bool}
use Rattle.std.proofs.lemmas.List.{length-take}
use Rattle.std.proofs.lemmas.List.Sums.{count_by-le-length, sum_by-append, sum_by-cons, sum_by-take-drop}
use Rattle.std.specs.List.{count_by, list_all}
use Rattle.std.specs.Result.{result_ok}
use Rattle.octets.specs.declared.limits.TheConstants.{NAME_LENGTH, FILLING}
use Rattle.pdi_session.specs.declared.telegram.NameFault.{NameFault}
use Rattle.pdi_session.specs.telegram.Names.{HasCharacters, IsName, fill_name, is_character, name_read}
use Rattle.pdi_session.specs.telegram.Places.{name_seen}
use Rattle.pdi_session.proofs.NameLemmas.{character_plain, filled_seen, name_read-ok, read_cases, seen_spelled, spelled_at}

abbrev counts : ℕ → ℕ
counts octet = cond (not (octet == FILLING)) 1 0

abbrev pub count : List ℕ → ℕ
count field = count_by (λ octet. not (octet == FILLING)) field

-- each character is counted, and filling is not
count-characters : (cs : List ℕ) → HasCharacters cs → count cs ≡ length cs
count-characters [] h = refl
count-characters (c ∷ cs) h =
    let parts = and_parts (is_character c) (list_all is_character cs) h in
    let plain = character_plain c parts.0 in
    let one : counts c ≡ 1 = rw plain refl in
    omega (arith, sum_by-cons counts c cs, one, count-characters cs parts.1)

count-filling : (n : ℕ) → count (replicate n FILLING) ≡ 0
count-filling zero = refl
count-filling (suc n) = omega (arith, sum_by-cons counts FILLING (replicate n FILLING), count-filling n)

count-filled : (name : List ℕ) → HasCharacters name → count (fill_name name) ≡ length name
count-filled name h =
    let filling : List ℕ = replicate (NAME_LENGTH - length name) FILLING in
    omega (arith, sum_by-append counts name filling, count-characters name h, count-filling (NAME_LENGTH - length name))

-- if the count is 0, all is filling
none_counts : (xs : List ℕ) → count xs ≡ 0 → list_all (λ octet. octet == FILLING) xs ≡ true
none_counts [] h = refl
none_counts (x ∷ xs) h =
    elim (cases_Bool (x == FILLING)) [
      | inl is ↦ let none : counts x ≡ 0 =
          rw is refl in rw is (none_counts xs (omega (arith, h, sum_by-cons counts x xs, none)))
      | inr other ↦ let one : counts x ≡ 1 = rw other refl in absurd (omega (arith, h, sum_by-cons counts x xs, one))
    ]

-- if as many characters as counted come first, they are a name with its filling
front_named : (field : List ℕ) → length field ≡ NAME_LENGTH → IsName (take (count field) field)
    → field ≡ fill_name (take (count field) field)
front_named field long is =
    let front : List ℕ = take (count field) field in
    let size : length front ≡ count field = omega
    (arith, length-take (count field) field, count_by-le-length (λ (octet : ℕ). not (octet == FILLING)) field) in
    let back : count (drop (count field) field) ≡ 0 =
    omega (arith, size, count-characters front is.2, sum_by-take-drop counts field (count field))
    in
    (spelled_at (count field) field long is (none_counts (drop (count field) field) back)).spelled

-- a name that is read is at the start
seen_front : (field name : List ℕ) → length field ≡ NAME_LENGTH → Some name ≡ name_seen field
    → (take (count field) field ≡ name) × IsName name
seen_front field name long seen =
    let found = seen_spelled field name long seen in
    let size : count field ≡ length name = ap count found.spelled ∙ count-filled name found.is.2 in
    let front : take (count field) field ≡ name = rw (size, found.spelled)
    (take-append_seam name (replicate (NAME_LENGTH - length name) FILLING)) in
    (front, found.is)

none_seen : (seen : Option (List ℕ)) (field : List ℕ) (fault : NameFault) → seen ≡ name_seen field
    → length field ≡ NAME_LENGTH
    → name_read (take (count field) field) ≡ Err fault → None ≡ name_seen field
none_seen None field fault is long reads = is
none_seen (Some name) field fault is long reads =
    let front = seen_front field name long is in
    let again = name_read-ok name front.1 in
    absurd cc

-- the characters at the start are read as the name
pub front_seen : (field : List ℕ) → length field ≡ NAME_LENGTH
    → result_ok (name_read (take (count field) field)) ≡ name_seen field
front_seen field long =
    elim (read_cases (take (count field) field)) [
      | inl (reads, is) ↦ rw (reads, filled_seen (take (count field) field) field is (front_named field long is)) refl
      | inr (fault, reads) ↦ rw reads (none_seen (name_seen field) field fault refl long reads)
    ]
