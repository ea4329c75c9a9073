-- The options of `follow`, and the words that name their values.
use Rattle.std.specs.Prelude.{◌≡◌, ℕ, ◌≤◌, ◌<◌, ◌^◌, Bool, false, true, List, codes, Option, None, Some}
use Rattle.std.specs.Str.{bytes_eq}
use Rattle.std.specs.Str.Parse.{IsNumeral, digits_value, without_leading_plus}
use Rattle.clap.specs.Words.{App, Row, Text, first_of, new_app}
use Rattle.capture.specs.declared.ports.PortRange.{PortRange}
use Rattle.capture.specs.Ports.{ports_of}
use Rattle.capture_text.specs.declared.choice.Remarkable.{Remarkable}
use Rattle.capture_text.specs.Choice.{word_text}
use Rattle.safe_pdu.specs.declared.CodeLength.{CodeLength}
use Rattle.safe_pdu.specs.declared.CodeLength.TheVariants.{Zero, Eight, Sixteen}
use Rattle.rasta_words.specs.Arguments.{with_flag, with_operand, with_option}

-- The command is follow [--beside RECORDING] [--choose] [--code N] [--events] [--every N] [--from INSTANT] [--iv HEX]
-- [--json] [--messages] [--only WORD] [--ports PORTS] [--time FORM] [--t-max MS] [--to INSTANT] FILE.

-- the command with `--code` and `--iv`
abbrev pub with_code : App → App
with_code app = with_option (with_option app (codes "code")) (codes "iv")

-- the command with `--only`, `--t-max` and the flag `--messages`
abbrev pub with_remarks : App → App
with_remarks app = with_flag (with_option (with_option app (codes "only")) (codes "t-max")) (codes "messages")

-- the command with `--ports`
abbrev pub with_ports : App → App
with_ports app = with_option app (codes "ports")

-- the command with the flags `--json`, `--choose` and `--events`
abbrev pub with_forms : App → App
with_forms app = with_flag (with_flag (with_flag app (codes "json")) (codes "choose")) (codes "events")

-- the command with `--time`, `--from`, `--to` and `--every`
abbrev pub with_times : App → App
with_times app = with_option (with_option (with_option (with_option app (codes "time")) (codes "from")) (codes "to"))
    (codes "every")

-- the command with `--beside` and FILE, which is required
abbrev pub with_recordings : App → App
with_recordings app = with_operand (with_option app (codes "beside")) (codes "file")

-- the whole command `follow`
abbrev pub follow_app : App
follow_app =
    with_recordings (with_times (with_forms (with_ports (with_remarks (with_code (new_app (codes "follow")))))))

-- the word for a length of the safety code, in bytes
abbrev pub code_word : CodeLength → Text
code_word Zero = codes "0"
code_word Eight = codes "8"
code_word Sixteen = codes "16"

-- the length of code that the word of `--code` names; 8 bytes without the option
abbrev pub IsCodeChosen : Option Text → CodeLength → Type 0
IsCodeChosen None code = code ≡ Eight
IsCodeChosen (Some word) code = word ≡ code_word code

-- whether a flag was given: clap then gives it the value `true`
abbrev pub is_flagged : Option Text → Bool
is_flagged None = false
is_flagged (Some word) = bytes_eq word (codes "true")

-- the word names this remark
abbrev pub IsWritten : Text → Option Remarkable → Type 0
IsWritten word None = ⊥
IsWritten word (Some remark) = word ≡ word_text remark

-- the remark that the word of `--only` names; without the option none, so all lines are printed
abbrev pub IsRemarkChosen : Option Text → Option Remarkable → Type 0
IsRemarkChosen None remark = remark ≡ None
IsRemarkChosen (Some word) remark = IsWritten word remark

-- the word is a number of milliseconds from 1 to 2^32 - 1, in decimal digits, after an optional plus
abbrev pub IsMilliseconds : Text → ℕ → Type 0
IsMilliseconds word age =
    IsNumeral 10 (without_leading_plus word) × (digits_value 10 (without_leading_plus word) ≡ age) × (1 ≤ age)
    × (age < 2 ^ 32)

-- the age that the word of `--t-max` names, in milliseconds; 1,800 without the option
abbrev pub IsAgeChosen : Option Text → ℕ → Type 0
IsAgeChosen None age = age ≡ 1800
IsAgeChosen (Some word) age = IsMilliseconds word age

-- the word names these ranges of ports
abbrev pub IsPorts : Text → Option (List (Option PortRange)) → Type 0
IsPorts word None = ⊥
IsPorts word (Some ports) = ports_of word ≡ Some ports

-- the ports that the word of `--ports` names; without the option none, so those of all ports are read
abbrev pub ArePortsChosen : Option Text → Option (List (Option PortRange)) → Type 0
ArePortsChosen None ports = ports ≡ None
ArePortsChosen (Some word) ports = IsPorts word ports
