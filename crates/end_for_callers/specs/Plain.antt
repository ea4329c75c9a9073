-- The meaning of plain settings: numbers as they are, names and lists at the start of their rows.
use Rattle.std.specs.Prelude.{ℕ, Bool, true, ◌&&◌, ◌==◌, nat_lt, nat_le, if◌then◌else◌, List, [], ◌∷◌, length, take, drop, Option, Some, None, option_and_then, option_map}
use Rattle.std.specs.List.{position_or_len}
use Rattle.std.specs.Result.{result_ok}
use Rattle.byteorder.specs.Endian.{little_number}
use Rattle.pdi_session.specs.telegram.Names.{name_read}
use Rattle.end_settings.specs.ConfigValue.{code_of, settings_of}
use Rattle.end_settings.specs.EndSettings.{EndSettings}
use Rattle.end_settings.specs.declared.EndConfig.{EndConfig}
use Rattle.end_settings.specs.declared.Side.{Side}
use Rattle.end_settings.specs.declared.Side.TheVariants.{Interlocking, FieldElement}
use Rattle.end_settings.specs.Lists.{checksum_in, versions_in}
use Rattle.pdi_session.specs.telegram.Tele.{owned_characters}
use Rattle.end_for_callers.specs.declared.plain.Lists.{Lists}
use Rattle.end_for_callers.specs.declared.plain.EndOpening.{EndOpening}
use Rattle.end_for_callers.specs.declared.plain.PlainSettings.{PlainSettings}
use Rattle.end_for_callers.specs.declared.station.Rooms.{Rooms}

-- the arguments for opening an end
pub record OpeningSeen : Type 0 where
  -- the settings
  pub config : EndSettings
  -- the side
  pub side : Side
  -- the first sequence number
  pub first_sn : ℕ
  -- the room of the two queues
  pub rooms : Rooms

-- the same of the type in the code
abbrev pub opening_seen : EndOpening → OpeningSeen
opening_seen o = record { config = settings_of o.config; side = o.side; first_sn = o.first_sn; rooms = o.rooms }

-- the number of bytes before the first zero
abbrev pub text_size : List ℕ → ℕ
text_size row = position_or_len (λ octet. octet == 0) row

-- the name before the first zero, if there is a zero and the name is valid
abbrev pub name_in : List ℕ → Option (List ℕ)
name_in row = if nat_lt (text_size row) (length row) then result_ok (name_read (take (text_size row) row)) else None

-- the first `count` bytes of a row, if it has as many
abbrev pub front_of : ℕ → List ℕ → Option (List ℕ)
front_of count row = if nat_le count (length row) then Some (take count row) else None

-- the side with this number
abbrev pub side_in : ℕ → Option Side
side_in number = if number == 1 then Some Interlocking else if number == 2 then Some FieldElement else None

-- a protocol type, if it fits one byte
abbrev pub protocol_in : ℕ → Option ℕ
protocol_in number = if nat_le number 255 then Some number else None

-- the names and lists of an end
pub record ListsSeen : Type 0 where
  -- the own name
  pub own : List ℕ
  -- the peer's name
  pub peer : List ℕ
  -- the versions
  pub versions : List ℕ
  -- the checksum
  pub checksum : List ℕ

-- the same of the type in the code
abbrev pub lists_seen : Lists → ListsSeen
lists_seen l =
    record {
      own = owned_characters l.own;
      peer = owned_characters l.peer;
      versions = versions_in l.versions;
      checksum = checksum_in l.checksum;
    }

-- the names and lists of plain settings, if all four can be read
abbrev pub lists_in : PlainSettings → Option ListsSeen
lists_in s =
    option_and_then (λ own. option_and_then (λ peer. option_and_then (λ versions. option_map (λ checksum.
    record { own = own; peer = peer; versions = versions; checksum = checksum })
    (front_of s.checksum_length s.checksum)) (front_of s.version_count s.versions)) (name_in s.peer_name))
    (name_in s.name)

-- the four words of sixteen bytes, least significant byte first
abbrev pub words_of : List ℕ → List ℕ
words_of octets =
    little_number 4 octets ∷ little_number 4 (drop 4 octets) ∷ little_number 4 (drop 8 octets) ∷
    little_number 4 (drop 12 octets) ∷ []

-- the settings with the numbers of plain settings and these lists
abbrev pub config_with : PlainSettings → ListsSeen → EndSettings
config_with s l =
    record {
      connection = record {
        client = true;
        own = s.id;
        peer = s.peer_id;
        n_sendmax = s.n_sendmax;
        t_max = s.t_max;
        t_h = s.t_h;
        mwa = s.mwa;
        pdu_limit = s.pdu_limit;
        rule = record { length = code_of s.code; initial_value = words_of s.initial_value };
      };
      addressing = record { protocol = s.protocol; own = l.own; peer = l.peer };
      versions = l.versions;
      checksum = l.checksum;
      channels = s.channels;
      n_maxpacket = s.n_maxpacket;
      q = s.q;
      t_seq = s.t_seq;
    }

-- the arguments of plain settings; None if side, protocol type, a name or a list cannot be read
abbrev pub opening_of : PlainSettings → Option OpeningSeen
opening_of s =
    option_and_then (λ side. option_and_then (λ protocol. option_map (λ lists.
    record {
      config = config_with s lists;
      side = side;
      first_sn = s.first_sn;
      rooms = record { telegrams = s.telegram_room; datagrams = s.datagram_room };
    })
    (lists_in s)) (protocol_in s.protocol)) (side_in s.side)

-- a number fits a field of plain settings
abbrev pub is_plain : ℕ → Bool
is_plain number = nat_le number 4_294_967_295

-- each number that may be wider fits a field
abbrev pub are_plain : EndConfig → Bool
are_plain c =
    is_plain c.code && (is_plain c.channels && (is_plain c.n_sendmax
    && (is_plain c.n_maxpacket && (is_plain c.q && (is_plain c.t_max
    && (is_plain c.t_h && (is_plain c.t_seq && (is_plain c.mwa && is_plain c.pdu_limit))))))))
