-- Settings whose numbers are in their ranges are fit if and only if the versions are: names and checksum always are.
use Rattle.std.proofs.Common.{◌≡◌, ◌<◌, suc, Bool, true, ◌&&◌, ℕ, List, length, refl, arith}
use Rattle.std.specs.Prelude.{nat_le}
use Rattle.std.proofs.lemmas.Bool.{le-leb}
use Rattle.std.proofs.lemmas.List.{length-take}
use Rattle.octets.specs.declared.limits.TheConstants.{NAME_LENGTH}
use Rattle.pdi_session.specs.telegram.Names.{IsName}
use Rattle.pdi_session.specs.declared.TheConstants.{CHECKSUM_MAX}
use Rattle.pdi_session.specs.Settings.{Addressing}
use Rattle.end_settings.specs.declared.lists.Checksum.{Checksum}
use Rattle.end_settings.specs.Lists.{checksum_in}
use Rattle.end_settings.specs.EndSettings.{is_addressing, is_name}

-- a conjunction whose first four parts are true is its last part
pub last-decides : (a b c d e : Bool) → a ≡ true → b ≡ true → c ≡ true → d ≡ true → e ≡ (a && (b && (c && (d && e))))
last-decides a b c d e p q r s = rw (p, q, r, s) refl

both : (a b : Bool) → a ≡ true → b ≡ true → (a && b) ≡ true
both a b p q = rw (p, q) refl

named : (text : List ℕ) → IsName text → is_name text ≡ true
named text h = both _ _ (le-leb 1 (length text) h.0) (both _ _ (le-leb (length text) NAME_LENGTH h.1) h.2)

pub addressed : (a : Addressing) → a.protocol < 256 → IsName a.own → IsName a.peer → is_addressing a ≡ true
addressed a p own peer = both _ _ (le-leb (suc a.protocol) 256 p) (both _ _ (named a.own own) (named a.peer peer))

pub checked : (c : Checksum) → nat_le (length (checksum_in c)) CHECKSUM_MAX ≡ true
checked c = let count =
    c.in_range in le-leb (length (checksum_in c)) CHECKSUM_MAX (omega (arith, length-take c.count c.octets))
