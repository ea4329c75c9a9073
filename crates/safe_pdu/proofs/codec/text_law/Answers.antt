use Rattle.safe_pdu.proofs.SafeLemmas.{by_place, is_asked, is_text-Decides}
use Rattle.safe_pdu.proofs.ReadByField.{safe_seen-text}
use Rattle.safe_pdu.proofs.PremiseTest.{read_law, read_alike_law, read_asked_law, asked_law}
use Rattle.safe_pdu.proofs.codec.text_law.Goals as goal

pub returns-clause-by_place : goal.returns-clause-by_place
returns-clause-by_place c = by_place

pub returns-clause-is_asked : goal.returns-clause-is_asked
returns-clause-is_asked c = is_asked

pub returns-clause-complete : goal.returns-clause-complete
returns-clause-complete c = safe_seen-text

pub returns-clause-test : goal.returns-clause-test
returns-clause-test c = is_text-Decides

pub returns-clause-read : goal.returns-clause-read
returns-clause-read c = read_law

pub returns-clause-read_alike : goal.returns-clause-read_alike
returns-clause-read_alike c = read_alike_law

pub returns-clause-read_asked : goal.returns-clause-read_asked
returns-clause-read_asked c = read_asked_law

pub returns-clause-asked : goal.returns-clause-asked
returns-clause-asked c = asked_law
