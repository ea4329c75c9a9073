-- The limits of the profile, as numbers. The standards fix the headers (8 bytes for redundancy, 28 for safety) and the
-- bodies of a ConnReq and a ConnResp (14) and of a DiscReq (4). They also fix the safety code of 0, 8 or 16 bytes and a
-- name of 20. This project's profile chooses the others.
use Rattle.std.specs.Prelude.{◌≡◌, ◌^◌, ℕ}
use Rattle.octets.specs.declared.limits.TheConstants.{RED_HEADER, SAFE_HEADER, CODE_MAX, MESSAGE_MIN, NAME_LENGTH, FILLING, PAYLOAD_MAX, MESSAGE_MAX, MESSAGE_LENGTH, UNIT_MESSAGES, UNIT_MIN, UNIT_MAX, OPENING_BODY, LEAVING_BODY, WINDOW_MAX, REACH, T_MAX_LOWEST, T_MAX_HIGHEST, T_H_LOWEST, MWA_MAX, PDU_LIMIT_LOWEST, PDU_LIMIT_HIGHEST, WAITING_MAX, CHANNELS_MAX, Q_MAX, T_SEQ_LOWEST, T_SEQ_MAX, TIME_MAX, SAFE_FRONT_MAX, SAFE_PDU_MAX, RED_PDU_MAX}

-- in bytes: both headers, the bodies of ConnReq/ConnResp and DiscReq, and the longest safety code
abbrev pub HeadersAre : Type 0
HeadersAre = (RED_HEADER ≡ 8) × (SAFE_HEADER ≡ 28) × (OPENING_BODY ≡ 14) × (LEAVING_BODY ≡ 4) × (CODE_MAX ≡ 16)

-- in bytes: names (filled with an underscore, 95), messages, units of at most three, and PDUs; the longest datagram
-- passes a network without fragmentation
abbrev pub TelegramsAre : Type 0
TelegramsAre =
    (NAME_LENGTH ≡ 20) × (FILLING ≡ 95) × (MESSAGE_MIN ≡ 43) × (PAYLOAD_MAX ≡ 357) × (MESSAGE_MAX ≡ 400)
    × (MESSAGE_LENGTH ≡ 2)
    × (UNIT_MESSAGES ≡ 3) × (UNIT_MIN ≡ 45) × (UNIT_MAX ≡ 1206) × (SAFE_FRONT_MAX ≡ 1234) × (SAFE_PDU_MAX ≡ 1250)
    × (RED_PDU_MAX ≡ 1258)

-- the greatest numbers of unconfirmed units, of units taken without sending, of waiting messages, of channels and of
-- deferred parts; and the reach, as a multiple of the window or of q
abbrev pub CountsAre : Type 0
CountsAre = (WINDOW_MAX ≡ 32) × (MWA_MAX ≡ 16) × (WAITING_MAX ≡ 64) × (CHANNELS_MAX ≡ 4) × (Q_MAX ≡ 8) × (REACH ≡ 10)

-- the ranges of T_max, T_h, T_seq and of a clock in milliseconds, and of the PDU limit, whose greatest value leaves
-- room below 2^32 for the PDUs of an open window and a DiscReq
abbrev pub RangesAre : Type 0
RangesAre =
    (T_MAX_LOWEST ≡ 100) × (T_MAX_HIGHEST ≡ 60000) × (T_H_LOWEST ≡ 10) × (T_SEQ_LOWEST ≡ 10) × (T_SEQ_MAX ≡ 1000)
    × (TIME_MAX ≡ 2 ^ 62)
    × (PDU_LIMIT_LOWEST ≡ 100) × (PDU_LIMIT_HIGHEST ≡ 4294901760)
