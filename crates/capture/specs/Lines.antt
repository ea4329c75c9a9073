-- A line of a capture: the datagram that it spells, or its first fault.
use Rattle.std.specs.Prelude.{ℕ, ◌*◌, nat_lt, nat_eq, List, length, take, if◌then◌else◌, Option, Some, None, Result, Ok, Err}
use Rattle.hex.specs.Hex.{decode_of}
use Rattle.hex.specs.declared.error.FromHexError.{FromHexError}
use Rattle.capture.specs.declared.line.Address.{Address}
use Rattle.capture.specs.declared.line.Host.{Host}
use Rattle.capture.specs.declared.line.Record.{Record}
use Rattle.capture.specs.declared.line.LineFault.{LineFault}
use Rattle.capture.specs.declared.line.LineFault.TheVariants.{Fields, Time, Source, Destination, Long, Payload}
use Rattle.capture.specs.declared.line.TheConstants.{PAYLOAD_ROOM}
use Rattle.capture.specs.Words.{before, behind, marks, host_of, number_of, time_of}

-- A recorded datagram with the bytes of its payload.
pub record Line : Type 0 where
  pub time : ℕ  -- in microseconds since 1970
  pub source : Address
  pub destination : Address
  pub payload : List ℕ

-- An address, if both host and port were read.
abbrev pub address_with : Option Host → Option ℕ → Option Address
address_with (Some host) (Some port) = Some (record { host = host; port = port })
address_with _ _ = None

-- An address: a host, and a port of at most 65,535.
abbrev pub address_of : List ℕ → List ℕ → Option Address
address_of host port = address_with (host_of host) (number_of 65535 port)

-- The decoded bytes; any fault of the hexadecimal digits is `Payload`.
abbrev pub octets_or_fault : Result (List ℕ) FromHexError → Result (List ℕ) LineFault
octets_or_fault (Ok octets) = Ok octets
octets_or_fault (Err fault) = Err Payload

-- A payload: two hexadecimal digits for each byte, at most 2,048 bytes.
abbrev pub payload_of : List ℕ → Result (List ℕ) LineFault
payload_of digits = if nat_lt (2 * PAYLOAD_ROOM) (length digits) then Err Long else octets_or_fault (decode_of digits)

-- The datagram of four values that were read, or the fault of the first that was not.
abbrev pub datagram : Option ℕ → Option Address → Option Address → Result (List ℕ) LineFault → Result Line LineFault
datagram None source destination payload = Err Time
datagram (Some time) None destination payload = Err Source
datagram (Some time) (Some source) None payload = Err Destination
datagram (Some time) (Some source) (Some destination) (Err fault) = Err fault
datagram (Some time) (Some source) (Some destination) (Ok payload) =
    Ok (record { time = time; source = source; destination = destination; payload = payload })

-- The destination and payload, from the text after the source's fields.
abbrev pub fields_from_destination : Option ℕ → Option Address → List ℕ → Result Line LineFault
fields_from_destination time source rest =
    datagram time source (address_of (before 9 rest) (before 9 (behind 9 rest))) (payload_of (behind 9 (behind 9 rest)))

-- The source, destination and payload, from the text after the time.
abbrev pub fields_from_source : Option ℕ → List ℕ → Result Line LineFault
fields_from_source time rest =
    fields_from_destination time (address_of (before 9 rest) (before 9 (behind 9 rest))) (behind 9 (behind 9 rest))

-- The datagram of a line: its six fields separated by five tabs, or its first fault.
abbrev pub line_of : List ℕ → Result Line LineFault
line_of line =
    if nat_eq (marks 9 line) 5 then fields_from_source (time_of (before 9 line)) (behind 9 line) else Err Fields

-- A result of the payload's reader, with the bytes at the start of the buffer.
abbrev pub payload_seen : Result ℕ LineFault → List ℕ → Result (List ℕ) LineFault
payload_seen (Ok size) buffer = Ok (take size buffer)
payload_seen (Err fault) buffer = Err fault

-- A result of the line's reader, with the payload at the start of the buffer.
abbrev pub record_seen : Result Record LineFault → List ℕ → Result Line LineFault
record_seen (Ok r) buffer =
    Ok (record { time = r.time; source = r.source; destination = r.destination; payload = take r.size buffer })
record_seen (Err fault) buffer = Err fault
