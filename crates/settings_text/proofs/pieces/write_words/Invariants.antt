use Rattle.std.proofs.Common.{drop, map, string_bytes, ℕ, List, Option}
use Rattle.std.specs.Io.KnownBytes.{Appends}
use Rattle.settings_text.specs.InForce.{all_texts, word_text}
use Rattle.settings_text.proofs.pieces.write_words.Given as goal

-- Writing the items that are left completes all items.
abbrev pub invariant-loop-word : goal.invariant-loop-word
invariant-loop-word g l =
    (end : Option (List ℕ)) → Appends (g.W.Write.contents l.writer) end
    (all_texts word_text (drop l.word-index l.words))
    → Appends (g.W.Write.contents l.initial.writer) end (all_texts word_text l.words)
