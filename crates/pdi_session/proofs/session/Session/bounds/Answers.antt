use Rattle.std.proofs.Common.{subst}
use Rattle.pdi_session.specs.Settings.{AreSettings}
use Rattle.pdi_session.proofs.one.Sides.{side_checksum}
use Rattle.pdi_session.proofs.session.Session.bounds.Goals as goal

pub returns : goal.returns
returns c =
    subst (λ s. AreSettings s.addressing s.role) c.self.view_is
    (record {
      protocol = c.self.invariant.0;
      own = c.self.inside.parties.own.well_formed;
      peer = c.self.inside.parties.peer.well_formed;
      checksum = side_checksum c.self.inside.side c.self.invariant.1;
    })
