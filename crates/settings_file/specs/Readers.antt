-- The value of one key of a table, for each kind of key.
use Rattle.std.specs.Prelude.{ℕ, bytes_eq, codes, suc, ◌+◌, ◌*◌, true, false, is_some, ℤ, pos, negsuc, List, [], ◌∷◌, length, nat_le, ◌==◌, ◌/◌, ◌&&◌, if◌then◌else◌, Bool, Option, Some, None, Result, Ok, Err, option_and_then, option_map}
use Rattle.std.specs.Result.{result_ok}
use Rattle.std.specs.Option.{ok_or, option_map_or}
use Rattle.toml.specs.Data.{Data, get, as_integer, as_str, as_array, Items, no_items, item}
use Rattle.hex.specs.Hex.{decode_sized, decode_of}
use Rattle.std.specs.Prelude.{◌≡◌, nat_lt, slice_index, take, drop}
use Rattle.std.specs.Bool.{⊤}
use Rattle.settings_file.specs.declared.keys.ReadFault.{ReadFault}
use Rattle.settings_file.specs.declared.keys.ReadFault.TheVariants as read_fault
use Rattle.pdi_session.specs.telegram.Names.{name_read}
use Rattle.settings_file.specs.declared.keys.Key.{Key}
use Rattle.settings_file.specs.declared.keys.Key.TheVariants as key
use Rattle.end_settings.specs.declared.Side.{Side}
use Rattle.end_settings.specs.declared.Side.TheVariants as side
use Rattle.settings_file.specs.declared.keys.ExpectedValue.{ExpectedValue}
use Rattle.settings_file.specs.declared.keys.ExpectedValue.TheVariants as expected
use Rattle.settings_file.specs.declared.keys.KeyFault.{KeyFault}
use Rattle.settings_file.specs.declared.keys.PresentValue.{PresentValue}
use Rattle.settings_file.specs.declared.keys.PresentValue.TheVariants as found
use Rattle.byteorder.specs.Endian.{little_number}
use Rattle.md4.specs.declared.TheConstants.{INITIAL_VALUE}
use Rattle.pdi_session.specs.declared.TheConstants.{CHECKSUM_MAX}
use Rattle.settings_file.specs.Keys.{text_of}

-- what a table has at a key: nothing, a whole number, or another value
abbrev pub present_value_at : Data → Key → PresentValue
present_value_at d k =
    option_map_or (λ v. option_map_or found.Number (as_integer v) found.Other) (get (text_of k) d) found.Nothing

-- the fault at a key that expects `e`
abbrev pub wrong_at : Data → Key → ExpectedValue → KeyFault
wrong_at d k e = record { key = k; expected = e; found = present_value_at d k }

-- the value that `read` has of a key, or the default if the key is missing; else the fault
abbrev pub at_key : {T : Type 0} → Data → Key → ExpectedValue → Option T → (Data → Option T) → Result T KeyFault
at_key d k e default read = ok_or (option_map_or read (get (text_of k) d) default) (wrong_at d k e)

-- the whole number, if it is in this range
abbrev pub within : ℕ → ℕ → ℤ → Option ℕ
within low high (pos n) = if nat_le low n && nat_le n high then Some n else None
within low high (negsuc n) = None

-- the whole number at a key, or the default, which is tested like a written number
abbrev pub whole_at : Data → Key → Option ℕ → Option ℤ
whole_at d k default = option_map_or as_integer (get (text_of k) d) (option_map pos default)

-- the whole number at a key in this range, or the fault
abbrev pub number_at : Data → Key → ℕ → ℕ → Option ℕ → Result ℕ KeyFault
number_at d k low high default =
    ok_or (option_and_then (within low high) (whole_at d k default)) (wrong_at d k (expected.Whole low high))

-- a number of four bytes; none for the text `random`
abbrev pub first_number_of : Data → Option (Option ℕ)
first_number_of v = option_map_or (λ t. if bytes_eq t (codes "random") then Some None else None) (as_str v)
    (option_map Some (option_and_then (within 0 4294967295) (as_integer v)))

-- the first sequence number at a key, 1 if the key is missing
abbrev pub first_number_at : Data → Key → Result (Option ℕ) KeyFault
first_number_at d k = at_key d k expected.FirstNumber (Some (Some 1)) first_number_of

-- the characters of the name at a key
abbrev pub name_at : Data → Key → Result (List ℕ) KeyFault
name_at d k = at_key d k expected.Name None (λ v. option_and_then (λ t. result_ok (name_read t)) (as_str v))

-- the number, if it is 8 or 16
abbrev pub code_length : ℕ → Option ℕ
code_length n = if n == 8 then Some 8 else if n == 16 then Some 16 else None

-- the integer, if it is 8 or 16
abbrev pub code_within : ℤ → Option ℕ
code_within (pos n) = code_length n
code_within (negsuc n) = None

-- the length of the safety code in bytes at a key, 8 if the key is missing
abbrev pub code_at : Data → Key → Result ℕ KeyFault
code_at d k = at_key d k expected.CodeLength (Some 8) (λ v. option_and_then code_within (as_integer v))

-- the four words of 16 bytes, the least significant byte of each first
abbrev pub words_of : List ℕ → List ℕ
words_of octets =
    little_number 4 octets ∷ little_number 4 (drop 4 octets) ∷ little_number 4 (drop 8 octets) ∷
    little_number 4 (drop 12 octets) ∷ []

-- the four words of 32 hex digits at a key, those of RFC 1320 if the key is missing
abbrev pub initial_value_at : Data → Key → Result (List ℕ) KeyFault
initial_value_at d k =
    at_key d k expected.SixteenOctets (Some INITIAL_VALUE)
    (λ v. option_and_then (λ t. option_map words_of (result_ok (decode_sized t 16))) (as_str v))

-- at most 16 bytes, from hex digits
abbrev pub short_octets : List ℕ → Option (List ℕ)
short_octets t = if nat_le (length t / 2) CHECKSUM_MAX then result_ok (decode_sized t (length t / 2)) else None

-- the checksum at a key, empty if the key is missing
abbrev pub checksum_at : Data → Key → Result (List ℕ) KeyFault
checksum_at d k = ok_or (option_and_then short_octets (option_map_or as_str (get (text_of k) d) (Some [])))
    (wrong_at d k expected.UpToSixteenOctets)

-- the result of a reader, its value seen through `f`
abbrev pub read_as : {A B : Type 0} → (A → B) → Result A KeyFault → Result B KeyFault
read_as f (Ok x) = Ok (f x)
read_as f (Err e) = Err e

-- the number of items
abbrev pub items_length : Items → ℕ
items_length no_items = 0
items_length (item d ds) = suc (items_length ds)

-- the numbers of all items, each from 0 to 255
abbrev pub octets_of : Items → Option (List ℕ)
octets_of no_items = Some []
octets_of (item d ds) =
    option_and_then (λ b. option_map (λ bs. b ∷ bs) (octets_of ds)) (option_and_then (within 0 255) (as_integer d))

-- the number is in the list
abbrev pub contains_number : ℕ → List ℕ → Bool
contains_number x [] = false
contains_number x (y ∷ ys) = if x == y then true else contains_number x ys

-- no number occurs again later in the list
abbrev pub are_different : List ℕ → Bool
are_different [] = true
are_different (x ∷ xs) = if contains_number x xs then false else are_different xs

-- there are one to four items
abbrev pub is_few : Items → Bool
is_few ds = nat_le 1 (items_length ds) && nat_le (items_length ds) 4

-- one to four numbers from 0 to 255
abbrev pub few_octets : Items → Option (List ℕ)
few_octets ds = if is_few ds then octets_of ds else None

-- the numbers, if no two are equal
abbrev pub if_different : List ℕ → Option (List ℕ)
if_different bs = if are_different bs then Some bs else None

-- one to four different numbers from 0 to 255
abbrev pub different_octets : Items → Option (List ℕ)
different_octets ds = option_and_then if_different (few_octets ds)

-- the one version of an end at `version`, 1 if the key is missing
abbrev pub one_version : Data → Result (List ℕ) KeyFault
one_version d = read_as (λ v. v ∷ []) (number_at d key.Version 0 255 (Some 1))

-- the version of an interlocking, which must not have `versions`
abbrev pub il_versions : Data → Result (List ℕ) KeyFault
il_versions d =
    if is_some (get (text_of key.Versions) d) then Err (wrong_at d key.Versions expected.Absent) else one_version d

-- the versions at `versions`, beside which `version` must be absent
abbrev pub listed_versions : Data → Data → Result (List ℕ) KeyFault
listed_versions d v = if is_some (get (text_of key.Version) d) then Err (wrong_at d key.Version expected.Absent)
    else ok_or (option_and_then different_octets (as_array v)) (wrong_at d key.Versions expected.DifferentVersions)

-- the versions of a field element, in one of the two keys
abbrev pub fe_versions : Data → Result (List ℕ) KeyFault
fe_versions d = option_map_or (listed_versions d) (get (text_of key.Versions) d) (one_version d)

-- the versions of an end of this side
abbrev pub versions_at : Side → Data → Result (List ℕ) KeyFault
versions_at side.Interlocking d = il_versions d
versions_at side.FieldElement d = fe_versions d

-- the texts of all items
abbrev pub texts_of : Items → Option (List (List ℕ))
texts_of no_items = Some []
texts_of (item d ds) = option_and_then (λ t. option_map (λ ts. t ∷ ts) (texts_of ds)) (as_str d)

-- one to four texts; no memory is taken for others
abbrev pub few_texts : Items → Option (List (List ℕ))
few_texts ds = if is_few ds then texts_of ds else None

-- the one to four addresses at a key, as texts
abbrev pub addresses_at : Data → Key → Result (List (List ℕ)) KeyFault
addresses_at d k = at_key d k expected.Addresses None (λ v. option_and_then few_texts (as_array v))

-- the telegram that a text spells: four hex digits, a colon, and hex digits
abbrev pub put_of : List ℕ → Option (ℕ × List ℕ)
put_of t = if nat_lt (length t) 5 then None
    else if slice_index t 4 == 58 then option_and_then
    (λ kind. option_map (λ payload. (slice_index kind 0 * 256 + slice_index kind 1, payload))
    (result_ok (decode_of (drop 5 t)))) (result_ok (decode_sized (take 4 t) 2))
    else None

-- the telegrams of all items
abbrev pub puts_of : Items → Option (List (ℕ × List ℕ))
puts_of no_items = Some []
puts_of (item d ds) = option_and_then (λ p. option_map (λ ps. p ∷ ps) (puts_of ds)) (option_and_then put_of (as_str d))

-- the telegrams at a key, none if the key is missing
abbrev pub puts_at : Data → Key → Result (List (ℕ × List ℕ)) KeyFault
puts_at d k = at_key d k expected.Puts (Some []) (λ v. option_and_then puts_of (as_array v))

-- the fault of a reader that allocates: that of the definition, or want of memory, of which nothing is claimed
abbrev pub IsFaultOf : {A : Type 0} → Result A KeyFault → ReadFault → Type 0
IsFaultOf r (read_fault.Key f) = r ≡ Err f
IsFaultOf r (read_fault.Memory e) = ⊤
