use Rattle.pdi_session.proofs.TeleLemmas.{one_value, tele_read}
use Rattle.pdi_session.proofs.telegram.codec.one_spelling.Goals as goal

pub returns-clause-value : goal.returns-clause-value
returns-clause-value c = one_value

pub returns-clause-read : goal.returns-clause-read
returns-clause-read c = tele_read
