use Rattle.pdi_session.proofs.KnownLemmas.{and_both, five_alike}
use Rattle.pdi_session.proofs.telegram.known.KnownPair.has.Goals as goal

pub returns : goal.returns
returns c = λ same.
    let five = and_both _ _ same in
    let four = and_both _ _ five.0 in
    let three = and_both _ _ four.0 in
    let two = and_both _ _ three.0 in
    five_alike c.args.names.now c.args.self.now.octets c.requires c.args.self.now.well_formed.2
    (c.has_eight.ensures two.0) (c.has_eight-2.ensures two.1) (c.has_eight-3.ensures three.1)
    (c.has_eight-4.ensures four.1) (c.has_eight-5.ensures five.1)
