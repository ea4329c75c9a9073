-- Names: the place of a name has the name with its filling, and is read as that name.
use Rattle.std.proofs.Common.{◌≡◌, ◌≢◌, ◌==◌, nat_lt, ◌<◌, ℕ, zero, suc, ◌-◌, true, false, ◌⊎◌, List, [], ◌∷◌, ◌++◌, length, take, drop, Some, None, Ok, Err, refl, sym, ap, ◌∙◌, inl, inr, arith}
use Rattle.std.proofs.Math.ListN.{replicate}
use Rattle.std.proofs.Math.Seq.{take-append_seam, drop-append_seam}
use Rattle.std.proofs.lemmas.Bool.{and_parts, cases_Bool, eqb-true, eqb-false, ltb-false, ne_eqb, le-ltb}
use Rattle.std.proofs.lemmas.Bool.Decides.{nat_tests}
use Rattle.std.proofs.lemmas.List.{take-append-drop, length-drop, length-take}
use Rattle.std.proofs.lemmas.Str.Ascii.{IsAscii-nil, IsAscii-cons}
use Rattle.std.specs.List.{list_all}
use Rattle.std.specs.Str.{IsAscii}
use Rattle.pdi_session.specs.declared.telegram.NameFault.{NameFault}
use Rattle.pdi_session.specs.declared.telegram.NameFault.TheVariants.{Empty, Long, Character}
use Rattle.octets.specs.declared.limits.TheConstants.{NAME_LENGTH, FILLING}
use Rattle.pdi_session.specs.telegram.Names.{HasCharacters, IsName, fill_name, is_character, name_read}
use Rattle.pdi_session.specs.telegram.Places.{HoldsNoName, name_at, name_seen, name_size}

-- a character is not filling, and is ASCII
pub character_plain : (c : ℕ) → is_character c ≡ true → (c == FILLING) ≡ false
character_plain c h = grind (arith, nat_tests)

character_ascii : (c : ℕ) → is_character c ≡ true → c < 128
character_ascii c h = grind (arith, nat_tests)

pub HasCharacters-ascii : (text : List ℕ) → HasCharacters text → IsAscii text
HasCharacters-ascii [] h = IsAscii-nil
HasCharacters-ascii (c ∷ cs) h =
    let parts = and_parts (is_character c) (list_all is_character cs) h in
    IsAscii-cons c cs (character_ascii c parts.0) (HasCharacters-ascii cs parts.1)

-- bytes that are all filling
filling_is : (xs : List ℕ) → list_all (λ octet. octet == FILLING) xs ≡ true → xs ≡ replicate (length xs) FILLING
filling_is [] h = refl
filling_is (x ∷ xs) h =
    let parts = and_parts (x == FILLING) (list_all (λ octet. octet == FILLING) xs) h in
    let head = eqb-true x FILLING parts.0 in
    let tail = filling_is xs parts.1 in
    ap (λ (y : ℕ). y ∷ xs) head ∙ ap (λ (ys : List ℕ). FILLING ∷ ys) tail

replicate_filling : (n : ℕ) → list_all (λ octet. octet == FILLING) (replicate n FILLING) ≡ true
replicate_filling zero = refl
replicate_filling (suc n) = replicate_filling n

name_size-replicate : (n : ℕ) → name_size (replicate n FILLING) ≡ 0
name_size-replicate zero = refl
name_size-replicate (suc n) = refl

-- the characters of a name end at its first filling
name_size-append : (cs rest : List ℕ) → HasCharacters cs → name_size rest ≡ 0 → name_size (cs ++ rest) ≡ length cs
name_size-append [] rest h none = none
name_size-append (c ∷ cs) rest h none =
    let parts = and_parts (is_character c) (list_all is_character cs) h in
    let plain = character_plain c parts.0 in
    let inner = name_size-append cs rest parts.1 none in
    rw (plain, inner) (omega arith)

-- the text is a name and is read as it, or has a fault
pub read_cases : (text : List ℕ) → ((name_read text ≡ Ok text) × IsName text) ⊎ ((f : NameFault)
    × (name_read text ≡ Err f))
read_cases text =
    elim (cases_Bool (length text == 0)) [
      | inl none ↦ inr (Empty, rw none refl)
      | inr some ↦ elim (cases_Bool (nat_lt NAME_LENGTH (length text))) [
        | inl long ↦ inr (Long, rw (some, long) refl)
        | inr short ↦ elim (cases_Bool (list_all is_character text)) [
          | inl all ↦ inl (
            rw (some, short, all) refl,
            (omega (arith, eqb-false (length text) 0 some), ltb-false NAME_LENGTH (length text) short, all),
          )
          | inr bad ↦ inr (Character, rw (some, short, bad) refl)
        ]
      ]
    ]

pub name_read-ok : (text : List ℕ) → IsName text → name_read text ≡ Ok text
name_read-ok text h =
    let some = ne_eqb (length text) 0 (omega (arith, h.0)) in
    let short = le-ltb NAME_LENGTH (length text) h.1 in
    rw (some, short, h.2) refl

name_at-some : (size : ℕ) (field name : List ℕ) → take size field ≡ name
    → list_all (λ octet. octet == FILLING) (drop size field) ≡ true
    → name_read name ≡ Ok name → name_at size field ≡ Some name
name_at-some size field name front filling reads = rw (filling, front, reads) refl

-- a name with its filling is read as that name
pub filled_seen : (name field : List ℕ) → IsName name → field ≡ fill_name name → name_seen field ≡ Some name
filled_seen name field is e =
    let filling : List ℕ = replicate (NAME_LENGTH - length name) FILLING in
    let size : name_size field ≡ length name = ap name_size e
    ∙ name_size-append name filling is.2 (name_size-replicate (NAME_LENGTH - length name)) in
    let front : take (name_size field) field ≡ name = rw (size, e) (take-append_seam name filling) in
    let back : drop (name_size field) field ≡ filling = rw (size, e) (drop-append_seam name filling) in
    name_at-some (name_size field) field name front (rw back (replicate_filling (NAME_LENGTH - length name)))
    (name_read-ok name is)

-- if nothing is read, there is no name
pub holds_none : (field : List ℕ) → None ≡ name_seen field → HoldsNoName field
holds_none field none name is e = let some = filled_seen name field is e in cc

-- a place that is read as a name has it with its filling
pub record Spelled (field name : List ℕ) : Type 0 where
  pub is : IsName name
  pub spelled : field ≡ fill_name name

pub spelled_at : (size : ℕ) (field : List ℕ) → length field ≡ NAME_LENGTH → IsName (take size field)
    → list_all (λ octet. octet == FILLING) (drop size field) ≡ true → Spelled field (take size field)
spelled_at size field long is filling =
    let back : drop size field ≡ replicate (NAME_LENGTH - length (take size field)) FILLING =
    filling_is (drop size field) filling
    ∙ ap (λ (n : ℕ). replicate n FILLING) (let whole = take-append-drop size field in
    omega (arith, length-drop size field, length-take size field))
    in
    record { is = is; spelled = sym (take-append-drop size field) ∙ ap (λ (b : List ℕ). take size field ++ b) back }

name_at-none : (size : ℕ) (field : List ℕ) → name_read (take size field) ≢ Ok (take size field)
    → name_at size field ≡ None
name_at-none size field refused =
    elim (cases_Bool (list_all (λ octet. octet == FILLING) (drop size field))) [
      | inr bad ↦ rw bad refl
      | inl filling ↦ elim (read_cases (take size field)) [
        | inl (reads, is) ↦ absurd (refused reads)
        | inr (fault, reads) ↦ rw (filling, reads) refl
      ]
    ]

at_spelled : (size : ℕ) (field name : List ℕ) → length field ≡ NAME_LENGTH → Some name ≡ name_at size field
    → Spelled field name
at_spelled size field name long seen =
    elim (cases_Bool (list_all (λ octet. octet == FILLING) (drop size field))) [
      | inr bad ↦ let none : name_at size field ≡ None = rw bad refl in absurd cc
      | inl filling ↦ elim (read_cases (take size field)) [
        | inl (reads, is) ↦
            let some : name_at size field ≡ Some (take size field) = rw (filling, reads) refl in
            let same : name ≡ take size field = cc in
            rw same (spelled_at size field long is filling)
        | inr (fault, reads) ↦ let none : name_at size field ≡ None = rw (filling, reads) refl in absurd cc
      ]
    ]

pub seen_spelled : (field name : List ℕ) → length field ≡ NAME_LENGTH → Some name ≡ name_seen field → Spelled field name
seen_spelled field name long seen = at_spelled (name_size field) field name long seen
