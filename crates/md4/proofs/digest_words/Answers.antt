use Rattle.std.proofs.Common.{arith}
use Rattle.std.proofs.lemmas.List.{take_rest}
use Rattle.md4.proofs.Whole.{all_taken}
use Rattle.md4.proofs.digest_words.Goals as goal

pub returns : goal.returns
returns c =
    c.after_last_blocks.ensures c.args.iv c.args.octets.now
    (all_taken c.args.iv c.args.octets.now _ _ _ (omega arith) c.take_in_all.ensures (take_rest c.args.octets.now _))
    (omega arith) (omega arith)
