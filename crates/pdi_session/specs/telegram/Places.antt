-- Reading a telegram by its places, and the first fault of bytes that are not a telegram.
use Rattle.std.specs.Prelude.{◌≡◌, ◌==◌, ◌⊎◌, ◌<◌, ◌≤◌, ℕ, nat_lt, if◌then◌else◌, List, length, take, drop, slice_index, Option, Some, None, Result, Ok, Err}
use Rattle.std.specs.List.{list_all, position_or_len}
use Rattle.std.specs.Option.{option_map}
use Rattle.std.specs.Result.{result_ok}
use Rattle.byteorder.specs.Endian.{little_number}
use Rattle.octets.specs.declared.limits.TheConstants.{MESSAGE_MIN, MESSAGE_MAX, NAME_LENGTH, FILLING}
use Rattle.pdi_session.specs.declared.telegram.TheConstants.{KIND, SENDER, RECEIVER}
use Rattle.pdi_session.specs.declared.telegram.Name.{Name}
use Rattle.pdi_session.specs.declared.telegram.TeleFault.{TeleFault}
use Rattle.pdi_session.specs.declared.telegram.TeleFault.TheVariants as fault
use Rattle.pdi_session.specs.declared.telegram.Telegram.{Telegram}
use Rattle.pdi_session.specs.telegram.Names.{IsName, fill_name, name_read}
use Rattle.pdi_session.specs.telegram.Tele.{Tele, characters_of, tele_of}

-- the number of bytes before the first filling
abbrev pub name_size : List ℕ → ℕ
name_size field = position_or_len (λ octet. octet == FILLING) field

-- the bytes before this place as a name, if only filling follows and they are valid
abbrev pub name_at : ℕ → List ℕ → Option (List ℕ)
name_at size field =
    if list_all (λ octet. octet == FILLING) (drop size field) then result_ok (name_read (take size field)) else None

-- the name in its place of 20 bytes, or None
abbrev pub name_seen : List ℕ → Option (List ℕ)
name_seen field = name_at (name_size field) field

-- a result of `name_in` as a value, without its place in memory
abbrev pub name_found : Option Name → Option (List ℕ)
name_found found = option_map characters_of found

-- the 20 bytes of the sender's name
abbrev pub sender_field : List ℕ → List ℕ
sender_field octets = take NAME_LENGTH (drop SENDER octets)

-- the 20 bytes of the receiver's name
abbrev pub receiver_field : List ℕ → List ℕ
receiver_field octets = take NAME_LENGTH (drop RECEIVER octets)

-- the bytes have the size of a telegram: 43 to 400
abbrev pub IsSized : List ℕ → Type 0
IsSized octets = (MESSAGE_MIN ≤ length octets) × (length octets ≤ MESSAGE_MAX)

-- the field is not a valid name with its filling
abbrev pub HoldsNoName : List ℕ → Type 0
HoldsNoName field = (name : List ℕ) → IsName name → ¬ (field ≡ fill_name name)

-- the fault is the first that these bytes have
abbrev pub FirstFault : List ℕ → TeleFault → Type 0
FirstFault octets fault.Short = length octets < MESSAGE_MIN
FirstFault octets fault.Long = MESSAGE_MAX < length octets
FirstFault octets fault.Name =
    IsSized octets × (HoldsNoName (sender_field octets) ⊎ HoldsNoName (receiver_field octets))

-- the fields by their places if both names are valid, or the fault Name
abbrev pub read_named : Option (List ℕ) → Option (List ℕ) → List ℕ → Result Tele TeleFault
read_named (Some sender) (Some receiver) octets =
    Ok
    record {
      protocol = slice_index octets 0;
      kind = little_number 2 (drop KIND octets);
      sender = sender;
      receiver = receiver;
      payload = drop MESSAGE_MIN octets;
    }
read_named (Some sender) None octets = Err fault.Name
read_named None receiver octets = Err fault.Name

-- the fields read by their places, or the first fault
unfoldable pub tele_seen : List ℕ → Result Tele TeleFault
tele_seen octets =
    if nat_lt (length octets) MESSAGE_MIN then Err fault.Short
    else if nat_lt MESSAGE_MAX (length octets) then Err fault.Long
    else read_named (name_seen (sender_field octets)) (name_seen (receiver_field octets)) octets

-- a result of the decoder as a value, without its place in memory
abbrev pub seen_of : Result Telegram TeleFault → Result Tele TeleFault
seen_of (Ok telegram) = Ok (tele_of telegram)
seen_of (Err f) = Err f
