-- A recording, block by block: pcap and pcapng.
use Rattle.std.specs.Prelude.{◌≤◌, ℕ, ◌+◌, ◌-◌, ◌*◌, ◌/◌, ◌%◌, ◌==◌, ◌&&◌, ◌||◌, Bool, true, false, not, nat_eq, nat_lt, nat_le, min, List, length, take, slice_index_or, slice_set, replicate, if◌then◌else◌, Option, Some, None, is_none, Result, Ok, Err}
use Rattle.std.specs.List.{position}
use Rattle.capture.specs.Frames.{link_of}
use Rattle.capture.specs.Places.{four_at, long_at, short_at}
use Rattle.capture.specs.Times.{is_unit, add_offset, offset_of, resolution_of, tick_micros}
use Rattle.capture.specs.declared.frame.Link.{Link}
use Rattle.capture.specs.declared.interfaces.Interface.{Interface}
use Rattle.capture.specs.declared.file.TheConstants.{BLOCK_MAX, INTERFACES, SECTION, SKIPPED_AT_ONCE}
use Rattle.capture.specs.declared.file.Change.{Change}
use Rattle.capture.specs.declared.file.Change.TheVariants.{Keep, Clear, Add}
use Rattle.capture.specs.declared.file.BlockContent.{BlockContent}
use Rattle.capture.specs.declared.file.BlockContent.TheVariants as event
use Rattle.capture.specs.declared.file.FileFault.{FileFault}
use Rattle.capture.specs.declared.file.FileFault.TheVariants as fault
use Rattle.capture.specs.declared.file.FileForm.{FileForm}
use Rattle.capture.specs.declared.file.FilePart.{FilePart}
use Rattle.capture.specs.declared.file.FilePart.TheVariants.{Start, Head, Record, Body, Section, Order, Opening, Block, Rest, Skipped}
use Rattle.capture.specs.declared.file.Recording.{Recording}
use Rattle.capture.specs.declared.file.Step.{Step}

-- No interface is known.
abbrev pub no_interfaces : List (Option Interface)
no_interfaces = replicate INTERFACES None

-- The state before the first block.
abbrev pub new_recording : Recording
new_recording = record { part = Start; interfaces = no_interfaces; last = 0 }

-- How many bytes the next block has.
abbrev pub next_size : FilePart → ℕ
next_size Start = 4
next_size (Head form) = 20
next_size (Record form link) = 16
next_size (Body form link time size whole) = size
next_size Section = 4
next_size (Order size) = 4
next_size (Opening big size) = size - 12
next_size (Block big) = 8
next_size (Rest big kind size) = size - 8
next_size (Skipped big left size) = if nat_eq left 0 then 4 else min left SKIPPED_AT_ONCE

-- A frame is within this many bytes, and its start is not after its end.
abbrev pub IsWithin : ℕ → BlockContent → Type 0
IsWithin size (event.Frame f) = (f.start ≤ f.end) × (f.end ≤ size)
IsWithin size event.Nothing = Unit {0}
IsWithin size event.Text = Unit {0}

-- A frame is within the bytes of its block.
abbrev pub IsWithinBlock : List ℕ → BlockContent → Type 0
IsWithinBlock octets content = IsWithin (length octets) content

-- A step to this part, without content.
abbrev pub part_after : FilePart → Step
part_after part = record { part = part; event = event.Nothing; change = Keep }

-- The step of a file that is not a recording.
abbrev pub text_step : Step
text_step = record { part = Start; event = event.Text; change = Keep }

-- The step to the header of a pcap file of this form.
abbrev pub form_step : Bool → Bool → Step
form_step big nanos = part_after (Head (record { big = big; nanos = nanos }))

-- The first four bytes: four numbers name byte order and unit of a pcap file, one starts a pcapng section; anything
-- else is a text.
abbrev pub start_with : Option ℕ → Step
start_with (Some first) =
    if nat_eq first 0xa1b2c3d4 then form_step true false
    else if nat_eq first 0xa1b23c4d then form_step true true
    else if nat_eq first 0xd4c3b2a1 then form_step false false
    else if nat_eq first 0x4d3cb2a1 then form_step false true
    else if nat_eq first SECTION then part_after Section
    else text_step
start_with None = text_step

-- The step of the first four bytes.
abbrev pub start_step : List ℕ → Step
start_step octets = start_with (long_at true 0 octets)

-- A pcap header with this version and link number.
abbrev pub head_with : FileForm → Option ℕ → Option ℕ → Result Step FileFault
head_with form (Some version) (Some network) =
    if not (nat_eq version 2) then Err fault.Version else Ok (part_after (Record form (link_of (network % 65536))))
head_with form _ _ = Err fault.Length

-- The step of a pcap header.
abbrev pub head_step : FileForm → List ℕ → Result Step FileFault
head_step form octets = head_with form (short_at form.big 0 octets) (long_at form.big 16 octets)

-- Whole microseconds from seconds and a fraction.
abbrev pub micros_of : Bool → ℕ → ℕ → ℕ
micros_of nanos seconds part = seconds * 1000000 + (if nanos then part / 1000 else part)

-- A record header with this time, recorded size and original size.
abbrev pub record_with : FileForm → Option Link → Option ℕ → Option ℕ → Option ℕ → Option ℕ → Result Step FileFault
record_with form link (Some seconds) (Some part) (Some size) (Some original) =
    if nat_lt BLOCK_MAX size then Err fault.Length
    else Ok (part_after (Body form link (micros_of form.nanos seconds part) size (nat_le original size)))
record_with form link _ _ _ _ = Err fault.Length

-- The step of a record header: time, recorded size, original size.
abbrev pub record_step : FileForm → Option Link → List ℕ → Result Step FileFault
record_step form link octets =
    record_with form link (long_at form.big 0 octets) (long_at form.big 4 octets) (long_at form.big 8 octets)
    (long_at form.big 12 octets)

-- The step of a record's frame.
abbrev pub body_step : FileForm → Option Link → ℕ → ℕ → Bool → List ℕ → Step
body_step form link time size whole octets =
    record {
      part = Record form link;
      event =
          event.Frame (record { link = link; time = time; start = 0; end = min (length octets) size; whole = whole });
      change = Keep;
    }

-- The length of a section header, kept as bytes.
abbrev pub section_with : Option (List ℕ) → Result Step FileFault
section_with (Some size) = Ok (part_after (Order size))
section_with None = Err fault.Length

-- The step of a section's length.
abbrev pub section_step : List ℕ → Result Step FileFault
section_step octets = section_with (four_at 0 octets)

-- The length of a block: at least `least`, at most `BLOCK_MAX`, a multiple of four.
abbrev pub sized_block : ℕ → ℕ → Bool
sized_block least size = nat_le least size && (nat_le size BLOCK_MAX && nat_eq (size % 4) 0)

-- A section header of this length: at least 28 bytes.
abbrev pub size_with : Bool → Option ℕ → Result Step FileFault
size_with big (Some size) = if sized_block 28 size then Ok (part_after (Opening big size)) else Err fault.Length
size_with big None = Err fault.Length

-- The step of a section's length, once the byte order is known.
abbrev pub size_step : Bool → List ℕ → Result Step FileFault
size_step big size = size_with big (long_at big 0 size)

-- The byte order mark in either order, then the length.
abbrev pub order_with : Option ℕ → List ℕ → Result Step FileFault
order_with (Some magic) size =
    if nat_eq magic 0x1a2b3c4d then size_step true size
    else if nat_eq magic 0x4d3c2b1a then size_step false size
    else Err fault.Order
order_with None size = Err fault.Order

-- The step of a byte order mark.
abbrev pub order_step : List ℕ → List ℕ → Result Step FileFault
order_step size octets = order_with (long_at true 0 octets) size

-- The number that was read is this one.
abbrev pub is_number : Option ℕ → ℕ → Bool
is_number (Some found) number = found == number
is_number None number = false

-- The step of the rest of a section header: the length again at its end, and version 1.
abbrev pub head_of_section : Bool → ℕ → List ℕ → Result Step FileFault
head_of_section big size octets =
    if not (is_number (long_at big (size - 16) octets) size) then Err fault.Trailer
    else if not (is_number (short_at big 0 octets) 1) then Err fault.Version
    else Ok (record { part = Block big; event = event.Nothing; change = Clear })

-- The blocks that are read: an interface, and the obsolete, the simple and the enhanced packet.
abbrev pub is_read : ℕ → Bool
is_read kind = nat_eq kind 1 || (nat_eq kind 2 || (nat_eq kind 3 || nat_eq kind 6))

-- The length of a block that is not read: at least 12, a multiple of four.
abbrev pub long_block : ℕ → Bool
long_block size = nat_le 12 size && nat_eq (size % 4) 0

-- A block that is not read.
abbrev pub unread_step : Bool → ℕ → Result Step FileFault
unread_step big size = if long_block size then Ok (part_after (Skipped big (size - 12) size)) else Err fault.Length

-- A block of this type and length; `raw` has the bytes of the length.
abbrev pub block_with : Bool → Option ℕ → Option (List ℕ) → Option ℕ → Result Step FileFault
block_with big (Some kind) (Some raw) (Some size) =
    if nat_eq kind SECTION then Ok (part_after (Order raw))
    else if not (is_read kind) then unread_step big size
    else if not (sized_block 12 size) then Err fault.Length
    else Ok (part_after (Rest big kind size))
block_with big _ _ _ = Err fault.Length

-- The step of a block's type and length; the length of a section header is in the section's own order.
abbrev pub block_step : Bool → List ℕ → Result Step FileFault
block_step big octets = block_with big (long_at big 0 octets) (four_at 4 octets) (long_at big 4 octets)

-- More of a block that is not read: the rest of its content, then the length again.
abbrev pub skip_step : Bool → ℕ → ℕ → List ℕ → Result Step FileFault
skip_step big left size octets =
    if not (nat_eq left 0) then Ok (part_after (Skipped big (left - SKIPPED_AT_ONCE) size))
    else if not (is_number (long_at big 0 octets) size) then Err fault.Trailer
    else Ok (part_after (Block big))

-- The first place without an interface.
abbrev pub at_first_free : List (Option Interface) → Option ℕ
at_first_free interfaces = position (λ (interface : Option Interface). is_none interface) interfaces

-- The description of an interface with this link number and this limit of its frames.
abbrev pub interface_with : List (Option Interface) → Bool → List ℕ → Option ℕ → Option ℕ → Result Step FileFault
interface_with interfaces big inner (Some link) (Some limit) =
    if not (is_unit (resolution_of big inner)) then Err fault.Resolution
    else if is_none (at_first_free interfaces) then Err fault.Interfaces
    else
    Ok
    (record {
      part = Block big;
      event = event.Nothing;
      change =
          Add
          (record {
            link = link_of link;
            resolution = resolution_of big inner;
            offset = offset_of big inner;
            limit = limit;
          });
    })
interface_with interfaces big inner _ _ = Err fault.Length

-- The step of an interface's description.
abbrev pub interface_step : List (Option Interface) → Bool → List ℕ → Result Step FileFault
interface_step interfaces big inner = interface_with interfaces big inner (short_at big 0 inner) (long_at big 4 inner)

-- The interface with this number.
abbrev pub interface_at : List (Option Interface) → ℕ → Option Interface
interface_at interfaces number = if nat_lt number INTERFACES then slice_index_or interfaces number None else None

-- The step of a packet of this interface, whose frame starts at byte 20.
abbrev pub frame_on : Option Interface → Bool → ℕ → ℕ → ℕ → ℕ → Result Step FileFault
frame_on None big high low size original = Err fault.Interface
frame_on (Some interface) big high low size original =
    Ok
    (record {
      part = Block big;
      event =
          event.Frame
          (record {
            link = interface.link;
            time = add_offset interface.offset (tick_micros interface.resolution high low);
            start = 20;
            end = 20 + size;
            whole = nat_le original size;
          });
      change = Keep;
    })

-- The step of a packet, of which the block has this many bytes from byte 20 on.
abbrev pub frame_for : Option Interface → Bool → ℕ → ℕ → ℕ → ℕ → ℕ → Result Step FileFault
frame_for interface big high low size original room =
    if nat_lt room size then Err fault.Length else frame_on interface big high low size original

-- A packet with these fields.
abbrev pub packet_with : List (Option Interface) → Bool → ℕ → Option ℕ → Option ℕ → Option ℕ → Option ℕ → Option ℕ
    → Result Step FileFault
packet_with interfaces big long (Some number) (Some high) (Some low) (Some size) (Some original) =
    frame_for (interface_at interfaces number) big high low size original (long - 20)
packet_with interfaces big long _ _ _ _ _ = Err fault.Length

-- The step of an enhanced packet: interface, time, recorded size, original size.
abbrev pub packet_step : List (Option Interface) → Bool → List ℕ → Result Step FileFault
packet_step interfaces big inner =
    packet_with interfaces big (length inner) (long_at big 0 inner) (long_at big 4 inner) (long_at big 8 inner)
    (long_at big 12 inner)
    (long_at big 16 inner)

-- The step of an obsolete packet: interface, time, recorded size, original size.
abbrev pub obsolete_step : List (Option Interface) → Bool → List ℕ → Result Step FileFault
obsolete_step interfaces big inner =
    packet_with interfaces big (length inner) (short_at big 0 inner) (long_at big 4 inner) (long_at big 8 inner)
    (long_at big 12 inner)
    (long_at big 16 inner)

-- How many bytes of a simple packet are in its block: at most its original size, the limit of its interface if that is
-- not 0, and the room of the block.
abbrev pub simple_size : ℕ → ℕ → ℕ → ℕ
simple_size limit original room = if nat_eq limit 0 then min room original else min room (min original limit)

-- The step of a simple packet of this interface, whose frame starts at byte 4 and has the time of the frame before it.
abbrev pub simple_on : Option Interface → ℕ → Bool → ℕ → ℕ → Result Step FileFault
simple_on None last big original room = Err fault.Interface
simple_on (Some interface) last big original room =
    Ok
    (record {
      part = Block big;
      event =
          event.Frame
          (record {
            link = interface.link;
            time = last;
            start = 4;
            end = 4 + simple_size interface.limit original room;
            whole = nat_le original (simple_size interface.limit original room);
          });
      change = Keep;
    })

-- A simple packet with this original size.
abbrev pub simple_with : Option Interface → ℕ → Bool → ℕ → Option ℕ → Result Step FileFault
simple_with interface last big long (Some original) = simple_on interface last big original (long - 4)
simple_with interface last big long None = Err fault.Length

-- The step of a simple packet, which is of the first interface.
abbrev pub simple_step : List (Option Interface) → ℕ → Bool → List ℕ → Result Step FileFault
simple_step interfaces last big inner =
    simple_with (interface_at interfaces 0) last big (length inner) (long_at big 0 inner)

-- The step of a block by its type; any other block is skipped.
abbrev pub inner_step : Recording → Bool → ℕ → List ℕ → Result Step FileFault
inner_step r big kind inner =
    if nat_eq kind 1 then interface_step r.interfaces big inner
    else if nat_eq kind 2 then obsolete_step r.interfaces big inner
    else if nat_eq kind 3 then simple_step r.interfaces r.last big inner
    else if nat_eq kind 6 then packet_step r.interfaces big inner
    else Ok (part_after (Block big))

-- The step of the rest of a block, with the length again at its end.
abbrev pub cut_step : Recording → Bool → ℕ → ℕ → List ℕ → Result Step FileFault
cut_step r big kind size octets =
    if not (is_number (long_at big (size - 12) octets) size)
    || nat_lt (length octets) (size - 12) then Err fault.Trailer
    else inner_step r big kind (take (size - 12) octets)

-- The step of the part that comes next.
abbrev pub step_at : FilePart → Recording → List ℕ → Result Step FileFault
step_at Start r octets = Ok (start_step octets)
step_at (Head form) r octets = head_step form octets
step_at (Record form link) r octets = record_step form link octets
step_at (Body form link time size whole) r octets = Ok (body_step form link time size whole octets)
step_at Section r octets = section_step octets
step_at (Order size) r octets = order_step size octets
step_at (Opening big size) r octets = head_of_section big size octets
step_at (Block big) r octets = block_step big octets
step_at (Rest big kind size) r octets = cut_step r big kind size octets
step_at (Skipped big left size) r octets = skip_step big left size octets

-- The step that a recording makes with these bytes.
abbrev pub step_of : Recording → List ℕ → Result Step FileFault
step_of r octets = step_at r.part r octets

-- The content of a step, or its fault.
abbrev pub event_of : Result Step FileFault → Result BlockContent FileFault
event_of (Ok s) = Ok s.event
event_of (Err fault) = Err fault

-- The interfaces with one more at this place.
abbrev pub add_interface_at : Option ℕ → Interface → List (Option Interface) → List (Option Interface)
add_interface_at (Some place) interface interfaces = slice_set interfaces place (Some interface)
add_interface_at None interface interfaces = interfaces

-- The interfaces after a change.
abbrev pub interfaces_after : List (Option Interface) → Change → List (Option Interface)
interfaces_after interfaces Keep = interfaces
interfaces_after interfaces Clear = no_interfaces
interfaces_after interfaces (Add interface) = add_interface_at (at_first_free interfaces) interface interfaces

-- The time of the last frame after a block.
abbrev pub last_after : ℕ → BlockContent → ℕ
last_after last (event.Frame f) = f.time
last_after last event.Nothing = last
last_after last event.Text = last

-- The recording after a step; a fault changes nothing.
abbrev pub recording_after : Recording → Result Step FileFault → Recording
recording_after r (Ok s) =
    record { part = s.part; interfaces = interfaces_after r.interfaces s.change; last = last_after r.last s.event }
recording_after r (Err fault) = r
