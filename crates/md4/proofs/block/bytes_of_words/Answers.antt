use Rattle.std.proofs.Common.{sym, ◌∙◌, arith}
use Rattle.std.proofs.lemmas.List.{take_all}
use Rattle.md4.proofs.Blocks.{spelled_are}
use Rattle.md4.proofs.block.bytes_of_words.Goals as goal

pub returns : goal.returns
returns c =
    let whole = take_all 16 c.put_u32-4.new.buffer (omega arith) in
    sym whole ∙ spelled_are c.args.words _ _ _ _ c.put_u32.ensures.front c.put_u32-2.ensures.front
    c.put_u32-3.ensures.front c.put_u32-4.ensures.front
