-- The two tables of the session: what each end decides, by its phase. SessionStep has what a decision does.
use Rattle.std.specs.Prelude.{ℕ, ◌==◌, Bool, true, false, if◌then◌else◌, List}
use Rattle.std.specs.List.{list_any}
use Rattle.pdi_session.specs.declared.Phase.{Phase}
use Rattle.pdi_session.specs.declared.Phase.TheVariants.{Idle, Checking, Requesting, AwaitCheck, AwaitRequest, Refused, Initialising, Established}
use Rattle.pdi_session.specs.declared.SessionDetail.{SessionDetail}
use Rattle.pdi_session.specs.declared.SessionDetail.TheVariants as detail
use Rattle.pdi_session.specs.declared.Notice.TheVariants as notice
use Rattle.pdi_session.specs.declared.Form.{Form}
use Rattle.pdi_session.specs.declared.Form.TheVariants.{Notifies, Item}
use Rattle.pdi_session.specs.declared.Verdict.{Verdict}
use Rattle.pdi_session.specs.declared.Verdict.TheVariants.{Takes, Goes, Answers, Ends}
use Rattle.pdi_session.specs.Settings.{Role, Interlocking, Field, first_version}

-- an interlocking with this version; without a row the telegram is out of order
abbrev pub interlocking_table : ℕ → Phase → Form → Verdict
interlocking_table own Checking (Notifies (notice.VersionEqual version)) =
    if version == own then Answers Requesting notice.InitialisationRequest else Ends detail.OutOfOrder
interlocking_table own Checking (Notifies (notice.VersionDiffers version)) = Ends detail.VersionDiffers
interlocking_table own Requesting (Notifies notice.StartInitialisation) = Goes Initialising
interlocking_table own Initialising Item = Takes
interlocking_table own Initialising (Notifies notice.InitialisationCompleted) = Goes Established
interlocking_table own Established Item = Takes
interlocking_table own phase form = Ends detail.OutOfOrder

-- a field element with these versions; without a row the telegram is out of order
abbrev pub field_table : List ℕ → Phase → Form → Verdict
field_table versions AwaitCheck (Notifies (notice.VersionCheck version)) =
    if list_any (λ v. v == version) versions then Answers AwaitRequest (notice.VersionEqual version)
    else Answers Refused (notice.VersionDiffers (first_version versions))
field_table versions AwaitRequest (Notifies notice.InitialisationRequest) =
    Answers Initialising notice.StartInitialisation
field_table versions Established Item = Takes
field_table versions phase form = Ends detail.OutOfOrder

-- the table of either end
abbrev pub table : Role → Phase → Form → Verdict
table (Interlocking version) phase form = interlocking_table version phase form
table (Field versions checksum) phase form = field_table versions phase form

-- the connection comes up at an interlocking: an idle session begins, any other stays as it is
abbrev pub interlocking_up : ℕ → Phase → Verdict
interlocking_up own Idle = Answers Checking (notice.VersionCheck own)
interlocking_up own phase = Goes phase

-- the connection comes up at a field element: an idle session begins, any other stays as it is
abbrev pub field_up : Phase → Verdict
field_up Idle = Goes AwaitCheck
field_up phase = Goes phase

-- the connection comes up at either end
abbrev pub at_up : Role → Phase → Verdict
at_up (Interlocking version) phase = interlocking_up version phase
at_up (Field versions checksum) phase = field_up phase

-- the application may put a telegram
abbrev pub may_put : Role → Phase → Bool
may_put role Established = true
may_put (Field versions checksum) Initialising = true
may_put role phase = false

-- the application may complete the initialisation: only at a field element in Initialising
abbrev pub is_initialising : Role → Phase → Bool
is_initialising (Field versions checksum) Initialising = true
is_initialising role phase = false

-- the phases before Initialising, in which only the session itself adds messages
abbrev pub is_early : Phase → Bool
is_early Idle = true
is_early Checking = true
is_early Requesting = true
is_early AwaitCheck = true
is_early AwaitRequest = true
is_early Refused = true
is_early phase = false

-- the number of a detail in a DiscReq with reason 4
abbrev pub detail_number : SessionDetail → ℕ
detail_number detail.VersionDiffers = 1
detail_number detail.OutOfOrder = 2
detail_number detail.NotOfThisPair = 3
