-- The setting that is wrong, with its value and range; settings with which an end opens and works badly; rooms that are
-- always enough.
use Rattle.std.specs.Prelude.{◌≡◌, ◌+◌, ◌-◌, ◌*◌, ◌^◌, ◌/◌, min, ℕ, ℤ, Bool, true, not, ◌&&◌, ◌||◌, ◌==◌, nat_le, nat_lt, is_some, Option, Some, None, take, if◌then◌else◌}
use Rattle.pdi_session.specs.Settings.{are_versions}
use Rattle.octets.specs.declared.limits.TheConstants.{WINDOW_MAX}
use Rattle.end_for_callers.specs.Calls.{or_else}
use Rattle.end_for_callers.specs.Plain.{name_in, text_size}
use Rattle.end_for_callers.specs.Loads.{most_on_channel}
use Rattle.end_for_callers.specs.declared.TheConstants.{CALL_TELEGRAMS, PART_PDUS}
use Rattle.end_for_callers.specs.declared.plain.PlainSettings.{PlainSettings}
use Rattle.end_for_callers.specs.declared.plain.TheConstants.{PLAIN_SETTINGS_SIZE}
use Rattle.bekwidas.specs.declared.codes.TheConstants.{OK, UNWISE}
use Rattle.bekwidas.specs.declared.faults.SettingFault.{SettingFault}

-- the greatest number of a member
abbrev pub greatest : ℕ
greatest = 2 ^ 32 - 1

-- no fault if a test holds; otherwise that of this member, with its value and range
abbrev pub unless : (fits : Bool) (field value least most : ℕ) → Option SettingFault
unless fits field value least most =
    if fits then None else Some (record { field = field; value = value; least = least; most = most })

-- the fault of a member whose number is outside its range
abbrev pub outside : (field value least most : ℕ) → Option SettingFault
outside field value least most = unless (nat_le least value && nat_le value most) field value least most

-- the first fault of size, side, identifiers, protocol type and safety code
abbrev pub in_front : PlainSettings → Option SettingFault
in_front s =
    or_else (outside 1 s.size PLAIN_SETTINGS_SIZE PLAIN_SETTINGS_SIZE) (or_else (outside 2 s.side 1 2)
    (or_else (unless (not (s.peer_id == s.id)) 4 s.peer_id 0 greatest) (or_else (outside 6 s.protocol 0 255)
    (unless (s.code == 8 || s.code == 16) 7 s.code 8 16))))

-- the first fault of the numbers of the layers
abbrev pub in_numbers : PlainSettings → Option SettingFault
in_numbers s =
    or_else (outside 8 s.channels 1 4) (or_else (outside 9 s.n_sendmax 1 32) (or_else (outside 10 s.n_maxpacket 1 3)
    (or_else (outside 11 s.q 1 8) (or_else (outside 12 s.t_max 100 60_000) (or_else (outside 13 s.t_h 10 (s.t_max - 1))
    (or_else (outside 14 s.t_seq 10 1_000) (or_else (outside 15 s.mwa 1 16)
    (outside 16 s.pdu_limit 100 4_294_901_760))))))))

-- the greatest number of versions: one for an interlocking, four for a field element
abbrev pub most_versions : ℕ → ℕ
most_versions side = if side == 1 then 1 else 4

-- no two versions are equal, as far as there are at most four
abbrev pub have_versions : PlainSettings → Bool
have_versions s = if nat_le s.version_count 4 then are_versions (take s.version_count s.versions) else true

-- the first fault of lists and names
abbrev pub in_lists : PlainSettings → Option SettingFault
in_lists s =
    or_else (outside 19 s.version_count 1 (most_versions s.side)) (or_else (outside 20 s.checksum_length 0 16)
    (or_else (unless (have_versions s) 21 s.version_count 1 (most_versions s.side))
    (or_else (unless (is_some (name_in s.name)) 24 (text_size s.name) 1 20)
    (unless (is_some (name_in s.peer_name)) 25 (text_size s.peer_name) 1 20))))

-- the least room for datagrams
abbrev pub least_room : ℕ → ℕ
least_room channels = min (channels * (WINDOW_MAX + PART_PDUS)) (2 ^ 32 - 1)

-- the first fault of the rooms
abbrev pub in_rooms : PlainSettings → Option SettingFault
in_rooms s = or_else (outside 17 s.telegram_room CALL_TELEGRAMS greatest)
    (outside 18 s.datagram_room (least_room s.channels) greatest)

-- the first fault of settings
abbrev pub first_fault : PlainSettings → Option SettingFault
first_fault s = or_else (in_front s) (or_else (in_numbers s) (or_else (in_lists s) (in_rooms s)))

-- how many parts can be deferred after one datagram lost in a retransmission: its RetrResp, the units of a window, a
-- heartbeat, and the heartbeats that confirm units
abbrev pub most_deferred : (window mwa : ℕ) → ℕ
most_deferred window mwa = if mwa == 0 then 0 else min (window + window / mwa + 2) (2 ^ 32 - 1)

-- the first of the settings with which an end works badly: a peer that waits for a heartbeat, parts that are too old
-- when they go up, a window that overruns the deferral queue, openings that make the same bytes
abbrev pub first_warning : PlainSettings → Option SettingFault
first_warning s =
    or_else (unless (nat_lt s.mwa s.n_sendmax) 15 s.mwa 1 (s.n_sendmax - 1))
    (or_else (unless (nat_lt s.t_seq s.t_max) 14 s.t_seq 10 (s.t_max - 1))
    (or_else (unless (nat_le (most_deferred s.n_sendmax s.mwa) s.q) 9 s.n_sendmax 1 (s.q - 2))
    (unless (not (s.first_sn == 1)) 5 s.first_sn 0 greatest)))

-- what is written for a fault, or zeros without a fault
abbrev pub written_for : Option SettingFault → SettingFault
written_for None = record { field = 0; value = 0; least = 0; most = 0 }
written_for (Some fault) = fault

-- the code of settings with which an end opens
abbrev pub code_of_warning : Option SettingFault → ℤ
code_of_warning None = OK
code_of_warning (Some fault) = UNWISE

-- a number of channels
abbrev pub are_channels : ℕ → Bool
are_channels n = nat_le 1 n && nat_le n 4

-- the room for whatever one call sends
abbrev pub ample_room : ℕ → ℕ
ample_room channels = channels * most_on_channel
