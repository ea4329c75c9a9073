use Rattle.std.proofs.Common.{◌≡◌, ◌+◌, ◌&&◌, drop, List, ℕ, Option}
use Rattle.std.specs.Io.KnownBytes.{Appends}
use Rattle.pdu_text.specs.MessageText.{are_telegrams, message_lines}
use Rattle.pdu_text.proofs.MessageLemmas.{octets_of_all}
use Rattle.pdu_text.proofs.messages.write_messages.Given as goal

-- Writing the lines that are left completes all lines; and the tests so far and those left give the test of all.
abbrev pub invariant-loop-i : goal.invariant-loop-i
invariant-loop-i g l = record {
  written : (end : Option (List ℕ)) → Appends (g.W.Write.contents l.writer) end
      (message_lines (l.i + 1) (octets_of_all (drop l.i l.messages)))
      → Appends (g.W.Write.contents l.initial.writer) end (message_lines 1 (octets_of_all l.messages));
  clean : (l.clean && are_telegrams (octets_of_all (drop l.i l.messages))) ≡ are_telegrams (octets_of_all l.messages);
}
