use Rattle.std.proofs.lemmas.Str.{IsUtf8-from_ascii}
use Rattle.pdi_session.proofs.NameLemmas.{HasCharacters-ascii}
use Rattle.pdi_session.proofs.telegram.Name.of_valid.Goals as goal

pub from_utf8_unchecked-characters-requires : goal.from_utf8_unchecked-characters-requires
from_utf8_unchecked-characters-requires c =
    IsUtf8-from_ascii c.args.octets.now (HasCharacters-ascii c.args.octets.now c.requires.2)
