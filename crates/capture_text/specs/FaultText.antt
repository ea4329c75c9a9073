-- The line that is printed for a line or frame that is not a datagram.
use Rattle.std.specs.Prelude.{ℕ, ◌==◌, ◌&&◌, ◌||◌, Bool, nat_eq, List, [], ◌∷◌, codes, slice_index, if◌then◌else◌, Option, Some, None}
use Rattle.std.specs.Fmt.{decimal}
use Rattle.capture.specs.declared.file.FileFault.{FileFault}
use Rattle.capture.specs.declared.file.FileFault.TheVariants as file
use Rattle.capture.specs.declared.line.LineFault.{LineFault}
use Rattle.capture.specs.declared.line.LineFault.TheVariants.{Fields, Time, Source, Destination, Long, Payload}
use Rattle.capture.specs.Numbers.{limited_sum}
use Rattle.pdu_text.specs.Lines.{join_pieces}
use Rattle.capture_text.specs.declared.capture_run.ForeignForm.{ForeignForm}
use Rattle.capture_text.specs.declared.capture_run.ForeignForm.TheVariants.{Gzip, Zstd, Snoop, ModifiedPcap}
use Rattle.capture_text.specs.declared.frames.FrameFault.{FrameFault}
use Rattle.capture_text.specs.declared.frames.FrameFault.TheVariants as frame

-- The words of a line's fault.
abbrev pub fault_word : LineFault → List ℕ
fault_word Fields = codes "not six fields"
fault_word Time = codes "time"
fault_word Source = codes "source"
fault_word Destination = codes "destination"
fault_word Long = codes "too long"
fault_word Payload = codes "payload"

-- The line for an unreadable line, with its number.
unfoldable pub fault_text : ℕ → LineFault → List ℕ
fault_text number fault =
    join_pieces (codes "line " ∷ decimal number ∷ codes ": unreadable: " ∷ fault_word fault ∷ codes "\n" ∷ [])

-- The word of a frame's fault.
abbrev pub frame_word : FrameFault → List ℕ
frame_word frame.Link = codes "link"
frame_word frame.Truncated = codes "truncated"
frame_word frame.Fragment = codes "fragment"
frame_word frame.Length = codes "length"

-- The line for an unreadable frame, with its number.
unfoldable pub frame_text : ℕ → FrameFault → List ℕ
frame_text number fault =
    join_pieces (codes "frame " ∷ decimal number ∷ codes ": unreadable: " ∷ frame_word fault ∷ codes "\n" ∷ [])

-- The words of a recording's fault.
abbrev pub file_fault_word : FileFault → List ℕ
file_fault_word file.Version = codes "version"
file_fault_word file.Length = codes "length"
file_fault_word file.Order = codes "order of octets"
file_fault_word file.Trailer = codes "second length"
file_fault_word file.Interface = codes "unknown interface"
file_fault_word file.Resolution = codes "unit of times"
file_fault_word file.Interfaces = codes "too many interfaces"

-- The line for a recording that cannot go on, with the number of its last frame.
unfoldable pub recording_text : ℕ → List ℕ → List ℕ
recording_text frames why =
    join_pieces (codes "recording: unreadable behind frame " ∷ decimal frames ∷ codes ": " ∷ why ∷ codes "\n" ∷ [])

-- The file begins with these four bytes.
abbrev pub has_front : List ℕ → List ℕ → Bool
has_front front wanted =
    (slice_index front 0 == slice_index wanted 0)
    && ((slice_index front 1 == slice_index wanted 1)
    && ((slice_index front 2 == slice_index wanted 2) && (slice_index front 3 == slice_index wanted 3)))

-- The form of a file that is not followed, by its first four bytes; gzip has two of its own.
abbrev pub foreign_of : List ℕ → Option ForeignForm
foreign_of front =
    if has_front front (31 ∷ 139 ∷ slice_index front 2 ∷ slice_index front 3 ∷ []) then Some Gzip
    else if has_front front (40 ∷ 181 ∷ 47 ∷ 253 ∷ []) then Some Zstd
    else if has_front front (115 ∷ 110 ∷ 111 ∷ 111 ∷ []) then Some Snoop
    else if has_front front (161 ∷ 178 ∷ 205 ∷ 52 ∷ []) || has_front front (52 ∷ 205 ∷ 178 ∷ 161 ∷ [])
    then Some ModifiedPcap
    else None

-- Why a file is not followed, and what to do with it.
abbrev pub foreign_word : ForeignForm → List ℕ
foreign_word Gzip = codes "it is compressed by gzip; use gzip -dc FILE | rasta follow -"
foreign_word Zstd = codes "it is compressed by zstd; use zstd -dc FILE | rasta follow -"
foreign_word Snoop = codes "it is a snoop file; use editcap -F pcapng FILE NEW"
foreign_word ModifiedPcap = codes "it is a modified pcap file; use editcap -F pcapng FILE NEW"

-- The line about forgotten connections.
unfoldable pub forgotten_text : ℕ → List ℕ
forgotten_text forgotten =
    join_pieces
    (codes "connections: " ∷ decimal forgotten ∷
    codes " were forgotten, since more than 256 were recorded at once; choose some by --ports\n" ∷ [])

-- The line about forgotten connections, if there are any.
abbrev pub forgotten_line : ℕ → List ℕ
forgotten_line forgotten = if nat_eq forgotten 0 then [] else forgotten_text forgotten

-- The line about datagrams that all have another safety code.
unfoldable pub miscoded_text : ℕ → List ℕ
miscoded_text miscoded =
    join_pieces (codes "datagrams: all " ∷ decimal miscoded ∷
    codes " of RaSTA have another safety code; choose it by --code or --iv\n" ∷ [])

-- How many datagrams have another safety code, if none has the right one.
abbrev pub all_miscoded : Option ℕ → ℕ
all_miscoded None = 0
all_miscoded (Some miscoded) = miscoded

-- The line about datagrams that all have another safety code, if there are any.
abbrev pub miscoded_line : ℕ → List ℕ
miscoded_line miscoded = if nat_eq miscoded 0 then [] else miscoded_text miscoded

-- How many faults a capture had: unreadable lines, forgotten connections, and datagrams with another safety code if
-- none has the right one.
abbrev pub faults_in : ℕ → ℕ → Option ℕ → ℕ
faults_in unreadable forgotten miscoded = limited_sum (limited_sum unreadable forgotten) (all_miscoded miscoded)
