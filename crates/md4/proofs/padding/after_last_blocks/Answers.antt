use Rattle.md4.proofs.Whole.{digest_by_one, digest_by_two}
use Rattle.md4.proofs.padding.after_last_blocks.Goals as goal

pub returns-then-behind : goal.returns-then-behind
returns-then-behind c = λ iv octets taken many count.
    rw c.take_in.ensures
    (digest_by_one iv octets c.args.words c.args.behind.now _ taken many c.if-behind.true
    (rw (← count, ← c.begun-block.ensures) c.with_bit_count.ensures))

pub returns-else-behind : goal.returns-else-behind
returns-else-behind c = λ iv octets taken many count.
    rw (c.take_in-else-behind-2.ensures, c.take_in-else-behind.ensures)
    (digest_by_two iv octets c.args.words c.args.behind.now _ _ taken many c.if-behind.false
    c.begun-block.ensures (rw (← count) c.with_bit_count-else-behind.ensures))
