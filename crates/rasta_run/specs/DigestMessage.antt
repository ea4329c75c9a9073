-- The message that a word of `md4` names.
use Rattle.std.specs.Prelude.{ℕ, List, [], Option, Some, codes, if◌then◌else◌}
use Rattle.std.specs.Str.{bytes_eq}
use Rattle.pdu_text.specs.HexText.{octets_of}

-- the bytes that hex digits spell; the word `empty` is the empty message
abbrev pub message_of : List ℕ → Option (List ℕ)
message_of text = if bytes_eq text (codes "empty") then Some [] else octets_of text
