-- The meaning of an `EndConfig`, without its place in memory.
use Rattle.std.specs.Prelude.{ℕ, ◌==◌, true, if◌then◌else◌}
use Rattle.safe_pdu.specs.declared.CodeLength.{CodeLength}
use Rattle.safe_pdu.specs.declared.CodeLength.TheVariants.{Zero, Eight, Sixteen}
use Rattle.safe_machine.specs.declared.Role.{Role}
use Rattle.safe_machine.specs.declared.Role.TheVariants.{Client, Server}
use Rattle.safe_machine.specs.World.{Side as WorldSide}
use Rattle.safe_machine.specs.World.Side.{Il, Fe}
use Rattle.pdi_session.specs.telegram.Tele.{owned_characters}
use Rattle.end_settings.specs.declared.Side.{Side}
use Rattle.end_settings.specs.declared.Side.TheVariants.{Interlocking, FieldElement}
use Rattle.end_settings.specs.Lists.{versions_in, checksum_in}
use Rattle.end_settings.specs.declared.EndConfig.{EndConfig}
use Rattle.end_settings.specs.EndSettings.{EndSettings}

-- the side of the specs for a side of the code
abbrev pub side_of : Side → WorldSide
side_of Interlocking = Il
side_of FieldElement = Fe

-- the role of a side's safety machine
abbrev pub role_of : Side → Role
role_of Interlocking = Client
role_of FieldElement = Server

-- the length of the safety code for a number of bytes: 8 and 16 are lengths of an end's code, all other numbers mean
-- Zero
abbrev pub code_of : ℕ → CodeLength
code_of octets = if octets == 8 then Eight else (if octets == 16 then Sixteen else Zero)

-- the settings that an `EndConfig` holds; the role of the connection is set later
abbrev pub settings_of : EndConfig → EndSettings
settings_of c =
    record {
      connection = record {
        client = true;
        own = c.id;
        peer = c.peer_id;
        n_sendmax = c.n_sendmax;
        t_max = c.t_max;
        t_h = c.t_h;
        mwa = c.mwa;
        pdu_limit = c.pdu_limit;
        rule = record { length = code_of c.code; initial_value = c.initial_value };
      };
      addressing = record { protocol = c.protocol; own = owned_characters c.name; peer = owned_characters c.peer_name };
      versions = versions_in c.versions;
      checksum = checksum_in c.checksum;
      channels = c.channels;
      n_maxpacket = c.n_maxpacket;
      q = c.q;
      t_seq = c.t_seq;
    }
