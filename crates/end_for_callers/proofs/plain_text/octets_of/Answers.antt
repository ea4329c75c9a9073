use Rattle.end_for_callers.proofs.Rows.{words_back}
use Rattle.end_for_callers.proofs.plain_text.octets_of.Goals as goal

pub returns : goal.returns
returns c = words_back c.args.words.now c.write_u32_into.new.dst c.told-words c.fits-words c.write_u32_into.ensures
