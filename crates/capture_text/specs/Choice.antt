-- The choice of printed lines by a remark.
use Rattle.std.specs.Prelude.{ℕ, ◌*◌, ◌||◌, Bool, true, false, List, codes, nat_le, Option, Some, None, is_some}
use Rattle.capture.specs.declared.direction.Remarks.{Remarks}
use Rattle.capture.specs.declared.follower.Remark.{Remark}
use Rattle.capture.specs.declared.follower.Remark.TheVariants.{Pdu, NoRed, NoSafe}
use Rattle.capture.specs.declared.window.NumberOrder.{NumberOrder}
use Rattle.capture.specs.declared.window.NumberOrder.TheVariants as judged
use Rattle.capture_text.specs.declared.choice.Remarkable.{Remarkable}
use Rattle.capture_text.specs.declared.choice.Remarkable.TheVariants.{Opens, Repeat, Differs, Ahead, Late, Stale, Anew, Resent, Age, Waits, Leaving, Fault}

-- The word of a remark.
abbrev pub word_text : Remarkable → List ℕ
word_text Opens = codes "opens"
word_text Repeat = codes "repeat"
word_text Differs = codes "differs"
word_text Ahead = codes "ahead"
word_text Late = codes "late"
word_text Stale = codes "stale"
word_text Anew = codes "anew"
word_text Resent = codes "resent"
word_text Age = codes "age"
word_text Waits = codes "waits"
word_text Leaving = codes "reason"
word_text Fault = codes "fault"

-- The number followed as the word says.
abbrev pub is_named : Remarkable → NumberOrder → Bool
is_named Repeat (judged.Repeat _) = true
is_named Differs (judged.Differs _) = true
is_named Ahead (judged.Ahead _) = true
is_named Late judged.Late = true
is_named Stale judged.Stale = true
is_named Anew judged.Anew = true
is_named _ _ = false

-- The number was judged and followed as the word says.
abbrev pub is_maybe_named : Remarkable → Option NumberOrder → Bool
is_maybe_named word None = false
is_maybe_named word (Some judged) = is_named word judged

-- One of the PDU's numbers followed as the word says.
abbrev pub is_number_named : Remarkable → Remarks → Bool
is_number_named word m = is_maybe_named word m.channel || (is_named word m.together || is_maybe_named word m.sequence)

-- The age of a confirmed timestamp is at least T_max.
abbrev pub is_overdue : ℕ → Option ℕ → Bool
is_overdue t_max None = false
is_overdue t_max (Some age) = nat_le t_max age

-- A wait is at least half of T_max.
abbrev pub is_half : ℕ → ℕ → Bool
is_half t_max waits = nat_le t_max (waits * 2)

-- The end has waited for a confirmation for at least half of T_max.
abbrev pub is_waiting : ℕ → Option ℕ → Bool
is_waiting t_max None = false
is_waiting t_max (Some waits) = is_half t_max waits

-- The PDU has the remark of this word.
abbrev pub has_word : Remarkable → ℕ → Remarks → Bool
has_word Opens t_max m = m.opens
has_word Resent t_max m = m.resent
has_word Age t_max m = is_overdue t_max m.age
has_word Waits t_max m = is_waiting t_max m.waits
has_word Leaving t_max m = is_some m.leaving
has_word word t_max m = is_number_named word m

-- The word is that of faults.
abbrev pub is_fault : Remarkable → Bool
is_fault Fault = true
is_fault _ = false

-- The datagram has the remark of this word.
abbrev pub is_meant : Remarkable → ℕ → Remark → Bool
is_meant word t_max (Pdu seq h m) = has_word word t_max m
is_meant word t_max (NoSafe seq fault) = is_fault word
is_meant word t_max (NoRed fault) = is_fault word

-- The line is printed; all are if no word is asked for.
abbrev pub is_asked : Option Remarkable → ℕ → Remark → Bool
is_asked None t_max m = true
is_asked (Some word) t_max m = is_meant word t_max m
