-- What a run of `show` or `md4` has done.
use Rattle.std.specs.Prelude.{◌≡◌, ℕ, Bool, List, ◌++◌, Option, Some, codes}
use Rattle.std.specs.Io.KnownBytes.{Appends}
use Rattle.hex.specs.Hex.{encode_lower}
use Rattle.md4.specs.Digest.{digest}
use Rattle.md4.specs.declared.TheConstants.{INITIAL_VALUE}
use Rattle.safe_pdu.specs.declared.CodeLength.{CodeLength}
use Rattle.safe_pdu.specs.declared.CodeRule.{CodeRule}
use Rattle.rasta_run.specs.DigestMessage.{message_of}
use Rattle.pdu_text.specs.HexText.{octets_of, initial_value_of}
use Rattle.pdu_text.specs.ShowText.{show_text, is_clean}

-- the safety code of this length and initial value
abbrev pub rule_of : CodeLength → List ℕ → CodeRule
rule_of code words = record { length = code; initial_value = words }

-- the text of the bytes that the hex text spells was appended, and `clean` says whether it has no fault
pub record HasShown (code : CodeLength) (iv : Option (List ℕ)) (hex : List ℕ) (clean : Bool)
    (old new : Option (List ℕ)) : Type 0 where
  -- the initial value
  pub words : List ℕ
  -- the bytes
  pub octets : List ℕ
  -- the initial value is given, or that of RFC 1320
  pub initial : initial_value_of iv ≡ Some words
  -- the hex text spells the bytes
  pub spelled : octets_of hex ≡ Some octets
  -- their text has a fault or not
  pub cleanness : is_clean (rule_of code words) octets ≡ clean
  -- their text was appended
  pub shown : Appends old new (show_text (rule_of code words) octets)

-- the line of a digest: 32 hex digits
abbrev pub digest_line : List ℕ → List ℕ
digest_line octets = encode_lower (digest INITIAL_VALUE octets) ++ codes "\n"

-- the digest of the bytes that the text names was appended
pub record HasDigested (hex : List ℕ) (old new : Option (List ℕ)) : Type 0 where
  -- the bytes
  pub octets : List ℕ
  -- the text names the bytes
  pub spelled : message_of hex ≡ Some octets
  -- the line of their digest was appended
  pub printed : Appends old new (digest_line octets)
