-- The content of a settings file for a caller in C.
use Rattle.std.specs.Prelude.{◌≡◌, ℕ, ◌-◌, ◌==◌, false, is_ok, if◌then◌else◌, slice_get, unwrap_or, List, Option, None, Some, Ok}
use Rattle.std.specs.Bool.{⊤}
use Rattle.bekwidas_toml.specs.declared.Unread.{Unread}
use Rattle.bekwidas_toml.specs.declared.Unread.TheVariants as unread
use Rattle.std.specs.Str.{IsUtf8}
use Rattle.end_settings.specs.declared.Side.{Side}
use Rattle.end_for_callers.specs.Plain.{opening_of, side_in}
use Rattle.end_for_callers.specs.declared.plain.PlainSettings.{PlainSettings}
use Rattle.settings_file.specs.FileContents.{SettingsSeen, file_settings}

-- the number names this side, and the text is a settings file for it with this content
abbrev pub SaysSettings : ℕ → List ℕ → Side → SettingsSeen → Type 0
SaysSettings side text e seen = (side_in side ≡ Some e) × (file_settings e text ≡ Ok seen)

-- the new settings open an end with exactly the content of the file and the old rooms; the first sequence number is the
-- old one if the file has none
abbrev pub ReadsSettings : ℕ → List ℕ → PlainSettings → PlainSettings → Type 0
ReadsSettings side text old new =
    (e : Side) × (seen : SettingsSeen) × SaysSettings side text e seen
    × (opening_of new ≡ Some (record {
      config = seen.config;
      side = e;
      first_sn = unwrap_or seen.first_sn old.first_sn;
      rooms = record { telegrams = old.telegram_room; datagrams = old.datagram_room };
    }))

-- the text is not a valid settings file for the side of this number
abbrev pub NoFile : ℕ → List ℕ → Type 0
NoFile side text = (e : Side) → side_in side ≡ Some e → IsUtf8 text → is_ok (file_settings e text) ≡ false

-- the own addresses, or the peer's
abbrev pub addresses_in : ℕ → SettingsSeen → List (List ℕ)
addresses_in is_remote seen = if is_remote == 0 then seen.local else seen.remote

-- the address of a channel, numbered from 1, if there is such a channel
abbrev pub address_of : (is_remote channel : ℕ) → SettingsSeen → Option (List ℕ)
address_of is_remote channel seen = if channel == 0 then None else slice_get (addresses_in is_remote seen) (channel - 1)

-- the text is a settings file in which the channel has this address, or has none
abbrev pub HasAddress : (side is_remote channel : ℕ) → List ℕ → Option (List ℕ) → Type 0
HasAddress side is_remote channel text address =
    (e : Side) × (seen : SettingsSeen) × SaysSettings side text e seen × (address_of is_remote channel seen ≡ address)

-- the reason why a text was not read applies; a failed allocation says nothing of the text
abbrev pub IsUnread : Side → List ℕ → Unread → Type 0
IsUnread e text unread.Memory = ⊤
IsUnread e text unread.NotText = ¬ IsUtf8 text
IsUnread e text (unread.Settings fault) = is_ok (file_settings e text) ≡ false
