-- The settings in force, in the form of a settings file: a line for each key, in the order in which keys are read.
use Rattle.std.specs.Prelude.{ℕ, List, [], ◌∷◌, ◌++◌, ◌==◌, codes, length, slice_index, if◌then◌else◌, Option, Some, None}
use Rattle.std.specs.Fmt.{decimal}
use Rattle.std.specs.Int.{w16, w32, to_be_bytes, to_le_bytes}
use Rattle.hex.specs.Hex.{encode_lower}
use Rattle.safe_pdu.specs.SafeText.{code_octets}
use Rattle.end_settings.specs.declared.Side.{Side}
use Rattle.end_settings.specs.declared.Side.TheVariants as side
use Rattle.end_settings.specs.EndSettings.{EndSettings}
use Rattle.pdu_text.specs.Lines.{join_pieces}
use Rattle.settings_file.specs.declared.keys.Key.{Key}
use Rattle.settings_file.specs.declared.keys.Key.TheVariants as key
use Rattle.settings_file.specs.Keys.{text_of}
use Rattle.settings_file.specs.FileContents.{EndsSeen, SettingsSeen, fe_seen, il_seen, pair_seen}

-- the table of an end before a key, in a file for both ends
abbrev pub table_text : Option Side → List ℕ
table_text None = []
table_text (Some side.Interlocking) = codes "il."
table_text (Some side.FieldElement) = codes "fe."

-- TABLE.KEY =
unfoldable pub key_text : Option Side → Key → List ℕ
key_text named k = join_pieces (table_text named ∷ text_of k ∷ codes " = " ∷ [])

-- the line of a number
unfoldable pub number_line : Option Side → Key → ℕ → List ℕ
number_line named k n = join_pieces (key_text named k ∷ decimal n ∷ codes "\n" ∷ [])

-- the line of a text, in quotes
unfoldable pub text_line : Option Side → Key → List ℕ → List ℕ
text_line named k t = join_pieces (key_text named k ∷ codes "\"" ∷ t ∷ codes "\"\n" ∷ [])

-- the line of a list, in brackets
unfoldable pub list_line : Option Side → Key → List ℕ → List ℕ
list_line named k items = join_pieces (key_text named k ∷ codes "[" ∷ items ∷ codes "]\n" ∷ [])

-- the texts of all items, one after the other
unfoldable pub all_texts : {A : Type 0} → (A → List ℕ) → List A → List ℕ
all_texts f [] = []
all_texts f (x ∷ xs) = f x ++ all_texts f xs

-- a number after a comma
abbrev pub later_number : ℕ → List ℕ
later_number n = join_pieces (codes ", " ∷ decimal n ∷ [])

-- numbers with commas between them
abbrev pub numbers_text : List ℕ → List ℕ
numbers_text [] = []
numbers_text (n ∷ ns) = join_pieces (decimal n ∷ all_texts later_number ns ∷ [])

-- `version` for one version, and else the list `versions`
abbrev pub versions_line : Option Side → List ℕ → List ℕ
versions_line named vs =
    if length vs == 1 then number_line named key.Version (slice_index vs 0)
    else list_line named key.Versions (numbers_text vs)

-- a word in hex digits, the least significant byte first
abbrev pub word_text : ℕ → List ℕ
word_text w = encode_lower (to_le_bytes w32 w)

-- the first sequence number, or that it is drawn at random
abbrev pub first_line : Option Side → Option ℕ → List ℕ
first_line named None = text_line named key.FirstSn (codes "random")
first_line named (Some n) = number_line named key.FirstSn n

-- an address in quotes, after a comma
abbrev pub later_address : List ℕ → List ℕ
later_address t = join_pieces (codes ", \"" ∷ t ∷ codes "\"" ∷ [])

-- addresses in quotes, with commas between them
abbrev pub addresses_text : List (List ℕ) → List ℕ
addresses_text [] = []
addresses_text (t ∷ ts) = join_pieces (codes "\"" ∷ t ∷ codes "\"" ∷ all_texts later_address ts ∷ [])

-- a telegram in quotes: message type, colon, payload
unfoldable pub put_text : ℕ × List ℕ → List ℕ
put_text p =
    join_pieces (codes "\"" ∷ encode_lower (to_be_bytes w16 p.0) ∷ codes ":" ∷ encode_lower p.1 ∷ codes "\"" ∷ [])

-- a telegram after a comma
abbrev pub later_put : ℕ × List ℕ → List ℕ
later_put p = join_pieces (codes ", " ∷ put_text p ∷ [])

-- telegrams with commas between them
abbrev pub puts_text : List (ℕ × List ℕ) → List ℕ
puts_text [] = []
puts_text (p ∷ ps) = join_pieces (put_text p ∷ all_texts later_put ps ∷ [])

-- the lines of identifiers, names and protocol type
unfoldable pub identity_lines : Option Side → EndSettings → List ℕ
identity_lines named c =
    join_pieces
    (number_line named key.Id c.connection.own ∷ number_line named key.PeerId c.connection.peer ∷
    text_line named key.Name c.addressing.own
    ∷ text_line named key.PeerName c.addressing.peer ∷ number_line named key.Protocol c.addressing.protocol ∷ [])

-- the lines of what an end of this side expects of its peer's telegrams
unfoldable pub expected_lines : Side → EndSettings → List ℕ
expected_lines side c = join_pieces (identity_lines (Some side) c ∷ versions_line (Some side) c.versions ∷ [])

-- the lines of what an end uses to connect
unfoldable pub beginning_lines : Option Side → EndSettings → Option ℕ → List ℕ
beginning_lines named c first_sn =
    join_pieces
    (versions_line named c.versions ∷ number_line named key.Code (code_octets c.connection.rule.length)
    ∷ text_line named key.Checksum (encode_lower c.checksum)
    ∷ text_line named key.InitialValue (all_texts word_text c.connection.rule.initial_value) ∷
    first_line named first_sn ∷ [])

-- the lines of addresses
unfoldable pub address_lines : Option Side → List (List ℕ) → List (List ℕ) → List ℕ
address_lines named local remote =
    join_pieces (list_line named key.Local (addresses_text local) ∷ list_line named key.Remote (addresses_text remote) ∷
    [])

-- the lines of limits that count
unfoldable pub count_lines : Option Side → EndSettings → List ℕ
count_lines named c =
    join_pieces
    (number_line named key.NSendmax c.connection.n_sendmax ∷ number_line named key.NMaxpacket c.n_maxpacket ∷
    number_line named key.Deferral c.q ∷ [])

-- the lines of times
unfoldable pub time_lines : Option Side → EndSettings → List ℕ
time_lines named c =
    join_pieces
    (number_line named key.TMax c.connection.t_max ∷ number_line named key.THeartbeat c.connection.t_h ∷
    number_line named key.TSeq c.t_seq ∷ [])

-- the lines of limits
unfoldable pub limit_lines : Option Side → EndSettings → List ℕ
limit_lines named c =
    join_pieces
    (count_lines named c ∷ time_lines named c ∷ number_line named key.Mwa c.connection.mwa ∷
    number_line named key.PduLimit c.connection.pdu_limit ∷ [])

-- the lines of an end
unfoldable pub end_lines : Option Side → SettingsSeen → List ℕ
end_lines named s =
    join_pieces
    (identity_lines named s.config ∷ beginning_lines named s.config s.first_sn ∷ address_lines named s.local s.remote ∷
    limit_lines named s.config
    ∷ list_line named key.Puts (puts_text s.puts) ∷ [])

-- the words of the program that take the file, as a comment
unfoldable pub head_text : EndsSeen → List ℕ
head_text (il_seen s) = codes "# for il or fe\n"
head_text (fe_seen s) = codes "# for fe\n"
head_text (pair_seen s t) = codes "# for pair\n"

-- the lines of all ends
unfoldable pub all_lines : EndsSeen → List ℕ
all_lines (il_seen s) = end_lines None s
all_lines (fe_seen s) = end_lines None s
all_lines (pair_seen s t) =
    join_pieces (end_lines (Some side.Interlocking) s ∷ end_lines (Some side.FieldElement) t ∷ [])

-- the comment, and the lines of all ends
unfoldable pub settings_text : EndsSeen → List ℕ
settings_text ends = join_pieces (head_text ends ∷ all_lines ends ∷ [])
