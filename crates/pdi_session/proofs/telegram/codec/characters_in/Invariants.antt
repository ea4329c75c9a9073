use Rattle.std.proofs.Common.{◌≡◌, take}
use Rattle.pdi_session.proofs.CountLemmas.{count}
use Rattle.pdi_session.proofs.telegram.codec.characters_in.Given as goal

abbrev pub invariant-loop-octet : goal.invariant-loop-octet
invariant-loop-octet l = l.count ≡ count (take l.octet-index l.field)
