-- What the two ends agreed on, in numbers.
use Rattle.std.specs.Prelude.{◌-◌, ◌++◌, length, replicate}
use Rattle.pdi_session.specs.declared.TheConstants.{CHECKSUM_MAX}
use Rattle.pdi_session.specs.SessionStep.{Agreement}
use Rattle.bekwidas.specs.declared.agreement.PlainAgreement.{PlainAgreement}

-- an agreement in numbers: the checksum is followed by zeros
abbrev pub agreement_in : Agreement → PlainAgreement
agreement_in a =
    record {
      version = a.version;
      checksum_length = length a.checksum;
      checksum = a.checksum ++ replicate (CHECKSUM_MAX - length a.checksum) 0;
    }
