-- Rows of plain settings: names, lists and words, as they are written and read.
use Rattle.std.proofs.Common.{◌≡◌, ◌==◌, ◌<◌, ◌≤◌, ℕ, suc, ◌-◌, true, false, nat_le, nat_lt, List, [], ◌∷◌, ◌++◌, length, take, drop, get_or, Some, None, refl, ap, ◌∙◌, inl, inr, arith}
use Rattle.std.proofs.Math.ListN.{replicate}
use Rattle.std.proofs.Math.Seq.{take-append_seam}
use Rattle.std.proofs.lemmas.Bool.{and_parts, cases_Bool, le-leb, lt-ltb}
use Rattle.std.proofs.lemmas.Bool.Decides.{nat_tests}
use Rattle.std.proofs.lemmas.List.{drop-replicate, length-replicate, length-append}
use Rattle.std.proofs.lemmas.Str.{IsUtf8-from_ascii}
use Rattle.std.specs.List.{flat_map, list_all}
use Rattle.std.specs.Str.{IsUtf8}
use Rattle.byteorder.specs.Endian.{little_bytes}
use Rattle.octets.proofs.Fields.{field_reads}
use Rattle.pdi_session.specs.telegram.Names.{HasCharacters, IsName, is_character}
use Rattle.pdi_session.proofs.NameLemmas.{HasCharacters-ascii, name_read-ok, read_cases}
use Rattle.end_settings.specs.ConfigValue.{code_of}
use Rattle.end_settings.specs.EndSettings.{EndSettings}
use Rattle.end_settings.specs.declared.Side.{Side}
use Rattle.end_for_callers.specs.Plain.{ListsSeen, config_with, front_of, lists_in, name_in, opening_of, side_in, text_size, words_of}
use Rattle.end_for_callers.specs.declared.plain.PlainSettings.{PlainSettings}

-- bytes that are not text are not a name
pub no_text : (row : List ℕ) → ¬ IsUtf8 (take (text_size row) row) → None ≡ name_in row
no_text row none =
    elim (cases_Bool (nat_lt (text_size row) (length row))) [
      | inr whole ↦ rw whole refl
      | inl ends ↦ elim (read_cases (take (text_size row) row)) [
        | inl (reads, name) ↦ absurd (none (IsUtf8-from_ascii (take (text_size row) row)
            (HasCharacters-ascii (take (text_size row) row) name.2)))
        | inr (fault, reads) ↦ rw (ends, reads) refl
      ]
    ]

-- a character is not zero
character_some : (c : ℕ) → is_character c ≡ true → (c == 0) ≡ false
character_some c h = grind (arith, nat_tests)

-- the characters of a name end at its first zero
text_size-append : (cs zeros : List ℕ) → HasCharacters cs → text_size zeros ≡ 0 → text_size (cs ++ zeros) ≡ length cs
text_size-append [] zeros h none = none
text_size-append (c ∷ cs) zeros h none =
    let parts = and_parts (is_character c) (list_all is_character cs) h in
    let some = character_some c parts.0 in
    let inner = text_size-append cs zeros parts.1 none in
    rw (some, inner) (omega arith)

zeros_first : (n : ℕ) → n ≡ suc (n - 1) → text_size (replicate n 0) ≡ 0
zeros_first n some = rw some refl

-- a name followed by zeros is read as that name
pub named_row : (name row : List ℕ) → IsName name → row ≡ name ++ drop (length name) (replicate 24 0)
    → name_in row ≡ Some name
named_row name row is e =
    let zeros : List ℕ = replicate (24 - length name) 0 in
    let whole : row ≡ name ++ zeros = e ∙ ap (λ (z : List ℕ). name ++ z) (drop-replicate (length name) 24 0) in
    let first : text_size zeros ≡ 0 = zeros_first (24 - length name) (omega (arith, is.1)) in
    let size : text_size row ≡ length name = ap text_size whole ∙ text_size-append name zeros is.2 first in
    let front : take (text_size row) row ≡ name = rw (size, whole) (take-append_seam name zeros) in
    let long : length name < length row = rw whole
    (omega (arith, is.1, length-append name zeros, length-replicate {A = ℕ} (24 - length name) 0)) in
    let ends : nat_lt (text_size row) (length row) ≡ true = rw size (lt-ltb (length name) (length row) long) in
    rw (ends, front, name_read-ok name is) refl

-- four words that were written are read
pub words_back : (ws octets : List ℕ) → length ws ≡ 4 → ((i : ℕ) → get_or ws i 0 < 4294967296)
    → octets ≡ flat_map (little_bytes 4) ws → words_of octets ≡ ws
words_back [] octets long fits e = absurd (omega (arith, long))
words_back (a ∷ []) octets long fits e = absurd (omega (arith, long))
words_back (a ∷ b ∷ []) octets long fits e = absurd (omega (arith, long))
words_back (a ∷ b ∷ c ∷ []) octets long fits e = absurd (omega (arith, long))
words_back (a ∷ b ∷ c ∷ d ∷ []) octets long fits e =
    let after_c : List ℕ = little_bytes 4 d ++ [] in
    let after_b : List ℕ = little_bytes 4 c ++ after_c in
    let after_a : List ℕ = little_bytes 4 b ++ after_b in
    rw (
      e,
      field_reads 4 a (little_bytes 4 a ++ after_a) after_a (fits 0) refl,
      field_reads 4 b after_a after_b (fits 1) refl,
      field_reads 4 c after_b after_c (fits 2) refl,
      field_reads 4 d after_c [] (fits 3) refl,
    )
    refl
words_back (a ∷ b ∷ c ∷ d ∷ f ∷ ws) octets long fits e = absurd (omega (arith, long))

-- a list at the start of its row is read as that list
pub front_row : (count : ℕ) (list written behind row : List ℕ) → row ≡ written ++ behind → written ≡ list
    → count ≡ length list → front_of count row ≡ Some list
front_row count list written behind row e same long =
    let whole : row ≡ list ++ behind = e ∙ ap (λ (front : List ℕ). front ++ behind) same in
    let enough : nat_le count (length row) ≡ true = le-leb count (length row)
    (rw (whole, long) (omega (arith, length-append list behind))) in
    let front : take count row ≡ list = rw (long, whole) (take-append_seam list behind) in
    rw (enough, front) refl

-- names and lists, each as it is read
pub lists_row : (s : PlainSettings) (own peer versions checksum : List ℕ) → name_in s.name ≡ Some own
    → name_in s.peer_name ≡ Some peer
    → front_of s.version_count s.versions ≡ Some versions → front_of s.checksum_length s.checksum ≡ Some checksum
    → lists_in s ≡ Some (record { own = own; peer = peer; versions = versions; checksum = checksum })
lists_row s own peer versions checksum a b c d = rw (a, b, c, d) refl

-- the settings with these lists, this protocol type and these words of the initial value
abbrev pub config_said : PlainSettings → ListsSeen → ℕ → List ℕ → EndSettings
config_said s lists protocol words =
    let config = config_with s lists in
    record config {
      connection = record config.connection { rule = record { length = code_of s.code; initial_value = words } };
      addressing = record config.addressing { protocol = protocol };
    }

-- an end is opened with the settings read
pub opening_row : (s : PlainSettings) (side : Side) (lists : ListsSeen) (protocol : ℕ) (words : List ℕ)
    → side_in s.side ≡ Some side
    → s.protocol ≡ protocol → s.protocol ≤ 255 → lists_in s ≡ Some lists → words_of s.initial_value ≡ words
    → opening_of s ≡ Some (record {
      config = config_said s lists protocol words;
      side = side;
      first_sn = s.first_sn;
      rooms = record { telegrams = s.telegram_room; datagrams = s.datagram_room };
    })
opening_row s side lists protocol words a same small c d = rw (a, le-leb s.protocol 255 small, c, d, same) refl
