-- The telegrams of the establishment, and the meaning of a telegram.
use Rattle.std.specs.Prelude.{◌≡◌, ℕ, ◌==◌, Bool, ◌&&◌, ◌||◌, nat_le, if◌then◌else◌, List, [], ◌∷◌, length}
use Rattle.std.specs.Str.{bytes_eq}
use Rattle.pdi_session.specs.telegram.Tele.{Tele}
use Rattle.pdi_session.specs.declared.TheConstants.{CHECKSUM_MAX, VERSION_CHECK, VERSION_ANSWER, INITIALISATION_REQUEST, START_INITIALISATION, INITIALISATION_COMPLETED, DIFFERENT, EQUAL}
use Rattle.pdi_session.specs.declared.Notice.{Notice}
use Rattle.pdi_session.specs.declared.Notice.TheVariants as notice
use Rattle.pdi_session.specs.declared.Form.{Form}
use Rattle.pdi_session.specs.declared.Form.TheVariants.{Notifies, Item, OtherPayload}
use Rattle.pdi_session.specs.Settings.{Addressing}

-- the five message types of the establishment; all others are commands of the interlocking or status of the field
-- element
abbrev pub is_reserved : ℕ → Bool
is_reserved kind =
    kind == VERSION_CHECK || kind == VERSION_ANSWER || kind == INITIALISATION_REQUEST || kind == START_INITIALISATION || kind == INITIALISATION_COMPLETED

-- the message type of a telegram of the establishment
abbrev pub kind_of : Notice → ℕ
kind_of (notice.VersionCheck version) = VERSION_CHECK
kind_of (notice.VersionEqual version) = VERSION_ANSWER
kind_of (notice.VersionDiffers version) = VERSION_ANSWER
kind_of notice.InitialisationRequest = INITIALISATION_REQUEST
kind_of notice.StartInitialisation = START_INITIALISATION
kind_of notice.InitialisationCompleted = INITIALISATION_COMPLETED

-- the payload of a telegram of the establishment; a reply of equal versions has the checksum after its length
abbrev pub payload_of : List ℕ → Notice → List ℕ
payload_of checksum (notice.VersionCheck version) = version ∷ []
payload_of checksum (notice.VersionEqual version) = EQUAL ∷ version ∷ length checksum ∷ checksum
payload_of checksum (notice.VersionDiffers version) = DIFFERENT ∷ version ∷ 0 ∷ []
payload_of checksum notice.InitialisationRequest = []
payload_of checksum notice.StartInitialisation = []
payload_of checksum notice.InitialisationCompleted = []

-- a version check has the version as its only byte
abbrev pub check_form : List ℕ → Form
check_form (version ∷ []) = Notifies (notice.VersionCheck version)
check_form payload = OtherPayload

-- a reply with this result and version; a result other than 1 and 2 does not fit
abbrev pub result_form : (result version : ℕ) → Form
result_form result version =
    if result == EQUAL then Notifies (notice.VersionEqual version)
    else if result == DIFFERENT then Notifies (notice.VersionDiffers version)
    else OtherPayload

-- a reply has a result, a version, the length of the checksum and the checksum
abbrev pub answer_form : List ℕ → Form
answer_form (result ∷ version ∷ size ∷ checksum) =
    if nat_le size CHECKSUM_MAX && length checksum == size then result_form result version else OtherPayload
answer_form payload = OtherPayload

-- the other three have no payload
abbrev pub bare_form : Notice → List ℕ → Form
bare_form n [] = Notifies n
bare_form n (octet ∷ payload) = OtherPayload

-- the meaning of a telegram by its message type and payload
abbrev pub form_of : ℕ → List ℕ → Form
form_of kind payload =
    if kind == VERSION_CHECK then check_form payload
    else if kind == VERSION_ANSWER then answer_form payload
    else if kind == INITIALISATION_REQUEST then bare_form notice.InitialisationRequest payload
    else if kind == START_INITIALISATION then bare_form notice.StartInitialisation payload
    else if kind == INITIALISATION_COMPLETED then bare_form notice.InitialisationCompleted payload
    else Item

-- a telegram from this end to its peer
abbrev pub telegram : Addressing → ℕ → List ℕ → Tele
telegram a kind payload =
    record { protocol = a.protocol; kind = kind; sender = a.own; receiver = a.peer; payload = payload }

-- a telegram has the protocol type of the session, is from the peer and for this end
abbrev pub is_addressed : Addressing → Tele → Bool
is_addressed a t = t.protocol == a.protocol && bytes_eq t.sender a.peer && bytes_eq t.receiver a.own

-- a telegram is from the peer and for this end; its protocol type may be any
abbrev pub IsNamed : Addressing → Tele → Type 0
IsNamed a t = (t.sender ≡ a.peer) × (t.receiver ≡ a.own)
