-- The names in a telegram (session layer; characters and filling are the profile's, docs/protocol.md).
use Rattle.std.specs.Prelude.{◌≡◌, ◌==◌, ◌<◌, ◌≤◌, ℕ, ◌-◌, Bool, true, ◌&&◌, not, nat_lt, nat_le, if◌then◌else◌, List, ◌++◌, length, replicate, Result, Ok, Err}
use Rattle.std.specs.List.{list_all}
use Rattle.octets.specs.declared.limits.TheConstants.{NAME_LENGTH, FILLING}
use Rattle.pdi_session.specs.declared.telegram.NameFault.{NameFault}
use Rattle.pdi_session.specs.declared.telegram.NameFault.TheVariants.{Empty, Long, Character}

-- the byte is allowed in a name
abbrev pub is_character : ℕ → Bool
is_character octet = nat_le 0x21 octet && nat_le octet 0x7e && not (octet == FILLING)

-- every byte is allowed in a name
abbrev pub HasCharacters : List ℕ → Type 0
HasCharacters text = list_all is_character text ≡ true

-- the text is a valid name: 1 to 20 characters
abbrev pub IsName : List ℕ → Type 0
IsName text = (0 < length text) × (length text ≤ NAME_LENGTH) × HasCharacters text

-- a name as a telegram has it: with filling, 20 bytes
abbrev pub fill_name : List ℕ → List ℕ
fill_name name = name ++ replicate (NAME_LENGTH - length name) FILLING

-- the fault is the first that the text has
abbrev pub FirstNameFault : List ℕ → NameFault → Type 0
FirstNameFault text Empty = length text ≡ 0
FirstNameFault text Long = NAME_LENGTH < length text
FirstNameFault text Character = (0 < length text) × (length text ≤ NAME_LENGTH) × (¬ HasCharacters text)

-- the text as a name, or the first fault
abbrev pub name_read : List ℕ → Result (List ℕ) NameFault
name_read text =
    if length text == 0 then Err Empty
    else if nat_lt NAME_LENGTH (length text) then Err Long
    else if list_all is_character text then Ok text
    else Err Character
