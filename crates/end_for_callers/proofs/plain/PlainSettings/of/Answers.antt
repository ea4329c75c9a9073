use Rattle.std.proofs.Common.{ap, length}
use Rattle.end_settings.specs.Lists.{checksum_in, versions_in}
use Rattle.pdi_session.specs.telegram.Tele.{owned_characters}
use Rattle.end_for_callers.specs.declared.plain.PlainSettings.{PlainSettings}
use Rattle.end_for_callers.proofs.Rows.{front_row, lists_row, opening_row}
use Rattle.end_for_callers.proofs.plain.PlainSettings.of.Goals as goal

pub returns-clause-says : goal.returns-clause-says
returns-clause-says c =
    let config = c.args.config.now in
    let versions = front_row (length c.as_slice-3.result.now) (versions_in config.versions) _ _ c.fill.new.row
    c.fill.ensures c.as_slice.ensures (ap length c.as_slice-3.ensures) in
    let checksum = front_row (length c.as_slice-4.result.now) (checksum_in config.checksum) _ _ c.fill-2.new.row
    c.fill-2.ensures c.as_slice-2.ensures (ap length c.as_slice-4.ensures) in
    let plain : PlainSettings = record {
      size = 164;
      side = c.number_of.result;
      id = config.id;
      peer_id = config.peer_id;
      first_sn = c.args.first_sn;
      protocol = c.widen.result;
      code = config.code;
      channels = config.channels;
      n_sendmax = config.n_sendmax;
      n_maxpacket = config.n_maxpacket;
      q = config.q;
      t_max = config.t_max;
      t_h = config.t_h;
      t_seq = config.t_seq;
      mwa = config.mwa;
      pdu_limit = config.pdu_limit;
      telegram_room = c.args.rooms.telegrams;
      datagram_room = c.args.rooms.datagrams;
      version_count = length c.as_slice-3.result.now;
      checksum_length = length c.as_slice-4.result.now;
      versions = c.fill.new.row;
      checksum = c.fill-2.new.row;
      initial_value = c.octets_of.result;
      name = c.spell_name.result;
      peer_name = c.spell_name-2.result;
    } in
    let lists = lists_row plain (owned_characters config.name) (owned_characters config.peer_name)
    (versions_in config.versions)
    (checksum_in config.checksum) c.spell_name.ensures c.spell_name-2.ensures versions checksum in
    opening_row plain c.args.side _ config.protocol config.initial_value c.number_of.ensures c.widen.ensures.value
    c.widen.ensures.small lists
    c.octets_of.ensures
