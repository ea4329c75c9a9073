-- The parts of lines: times, addresses and channels.
use Rattle.std.specs.Prelude.{ℕ, ◌+◌, ◌-◌, ◌/◌, ◌%◌, nat_le, nat_lt, nat_eq, List, [], ◌∷◌, ◌++◌, codes, slice_index, if◌then◌else◌}
use Rattle.std.specs.Fmt.{decimal}
use Rattle.std.specs.Net.Addr.{segments_of}
use Rattle.std.specs.Net.Text.{ipv6_text}
use Rattle.pdu_text.specs.Lines.{join_pieces}
use Rattle.capture_text.specs.Dates.{date_of}
use Rattle.capture_text.specs.declared.dates.Date.{Date}
use Rattle.capture_text.specs.declared.pieces.Clock.{Clock}
use Rattle.capture_text.specs.declared.pieces.TimeForm.{TimeForm}
use Rattle.capture_text.specs.declared.pieces.TimeForm.TheVariants.{Since, Epoch, Utc}
use Rattle.capture.specs.declared.line.Address.{Address}
use Rattle.capture.specs.declared.line.Host.{Host}
use Rattle.capture.specs.declared.line.Host.TheVariants.{V4, V6}

-- The decimal digit with this weight: 1 for the last, 10 for the one before it.
abbrev pub digit : ℕ → ℕ → ℕ
digit weight n = 48 + n / weight % 10

-- The last six decimal digits, with leading zeros.
abbrev pub six_digits : ℕ → List ℕ
six_digits n = digit 100000 n ∷ digit 10000 n ∷ digit 1000 n ∷ digit 100 n ∷ digit 10 n ∷ digit 1 n ∷ []

-- Microseconds as seconds: whole seconds, a point, six digits.
unfoldable pub duration_text : ℕ → List ℕ
duration_text micros = join_pieces (decimal (micros / 1000000) ∷ codes "." ∷ six_digits (micros % 1000000) ∷ [])

-- The time since the first one, after a minus sign if it is earlier.
unfoldable pub difference_text : ℕ → ℕ → List ℕ
difference_text first time =
    if nat_lt time first then codes "-" ++ duration_text (first - time) else duration_text (time - first)

-- Month, day and time of day after a year: two digits for each but six for the microseconds, as in ISO 8601, in UTC.
abbrev pub moment_digits : Date → ℕ → List ℕ
moment_digits d micros =
    45 ∷ digit 10 d.month ∷ digit 1 d.month ∷ 45 ∷ digit 10 d.day ∷ digit 1 d.day ∷ 84 ∷
    digit 10 (micros / 1000000 / 3600)
    ∷ digit 1 (micros / 1000000 / 3600) ∷ 58 ∷ digit 10 (micros / 1000000 / 60 % 60) ∷
    digit 1 (micros / 1000000 / 60 % 60) ∷ 58
    ∷ digit 10 (micros / 1000000 % 60) ∷ digit 1 (micros / 1000000 % 60) ∷ 46 ∷ digit 100000 (micros % 1000000)
    ∷ digit 10000 (micros % 1000000) ∷ digit 1000 (micros % 1000000) ∷ digit 100 (micros % 1000000) ∷
    digit 10 (micros % 1000000)
    ∷ digit 1 (micros % 1000000) ∷ 90 ∷ []

-- A date and a time of day in UTC.
unfoldable pub moment_text : Date → ℕ → List ℕ
moment_text d micros = join_pieces (decimal d.year ∷ moment_digits d micros ∷ [])

-- A time as date and time of day in UTC.
unfoldable pub utc_text : ℕ → List ℕ
utc_text micros = moment_text (date_of (micros / 86400000000)) (micros % 86400000000)

-- A time in this form.
abbrev pub time_in : TimeForm → ℕ → ℕ → List ℕ
time_in Since first time = difference_text first time
time_in Epoch first time = duration_text time
time_in Utc first time = utc_text time

-- A time in the form of a clock.
abbrev pub since_text : Clock → ℕ → List ℕ
since_text c time = time_in c.form c.first time

-- The remark on an age or a wait that reached T_max.
abbrev pub t_max_remark : ℕ → ℕ → List ℕ
t_max_remark t_max most = if nat_le t_max most then codes " reached" else []

-- A byte of an IPv4 address in decimal.
abbrev pub octet_of : List ℕ → ℕ → List ℕ
octet_of host place = decimal (slice_index host place)

-- An IPv4 address with its port.
unfoldable pub v4_text : List ℕ → ℕ → List ℕ
v4_text host port =
    join_pieces
    (octet_of host 0 ∷ codes "." ∷ octet_of host 1 ∷ codes "." ∷ octet_of host 2 ∷ codes "." ∷ octet_of host 3 ∷
    codes ":" ∷ decimal port ∷ [])

-- An IPv6 address as in RFC 5952, in brackets, with its port.
unfoldable pub v6_text : List ℕ → ℕ → List ℕ
v6_text host port = join_pieces (codes "[" ∷ ipv6_text (segments_of host) ∷ codes "]:" ∷ decimal port ∷ [])

-- A host with a port.
abbrev pub host_text : Host → ℕ → List ℕ
host_text (V4 host) port = v4_text host port
host_text (V6 host) port = v6_text host port

-- An address.
abbrev pub address_text : Address → List ℕ
address_text a = host_text a.host a.port

-- The sender and the receiver, by their identifiers.
unfoldable pub ends_text : ℕ → ℕ → List ℕ
ends_text sender receiver = join_pieces (decimal sender ∷ codes "->" ∷ decimal receiver ∷ [])

-- The words of a channel, counted from 1; further channels have no number.
abbrev pub channel_text : ℕ → List ℕ
channel_text route =
    if nat_eq route 0 then codes " ch 1"
    else if nat_eq route 1 then codes " ch 2"
    else if nat_eq route 2 then codes " ch 3"
    else if nat_eq route 3 then codes " ch 4"
    else codes " ch other"
