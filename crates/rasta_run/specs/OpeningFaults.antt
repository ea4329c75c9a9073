-- What is printed of a channel that could not be opened, after the line of the fault.
use Rattle.std.specs.Prelude.{ℕ, nat_eq, Bool, true, false, List, [], ◌∷◌, codes, Option, Some, None, if◌then◌else◌}
use Rattle.std.specs.Fmt.{decimal}
use Rattle.udp_channels.specs.declared.udp.UdpFault.{UdpFault}
use Rattle.udp_channels.specs.declared.udp.UdpFault.TheVariants as udp
use Rattle.end_settings.specs.declared.Side.{Side}
use Rattle.end_settings.specs.declared.Side.TheVariants as side
use Rattle.settings_file.specs.declared.values.Ends.{Ends}
use Rattle.settings_file.specs.declared.values.Ends.TheVariants as ends
use Rattle.settings_file.specs.declared.values.Settings.{Settings as Entry}
use Rattle.pdu_text.specs.Lines.{join_pieces}
use Rattle.pdu_text.specs.Names.{side_name}
use Rattle.rasta_words.specs.declared.status.Fault.{Fault}
use Rattle.rasta_words.specs.declared.status.Fault.TheVariants.{Memory, Settings, Network}
use Rattle.rasta_run.specs.declared.opening_faults.StopCause.{StopCause}
use Rattle.rasta_run.specs.declared.opening_faults.StopCause.TheVariants as stopped
use Rattle.stack_end.specs.declared.OpenFault.{OpenFault}
use Rattle.stack_end.specs.declared.OpenFault.TheVariants as end

-- the fault of a run whose channels were not opened: addresses are settings, and what the system refuses is the network
abbrev pub fault_of : UdpFault → Fault
fault_of udp.Lists = Settings
fault_of udp.Memory = Memory
fault_of (udp.Address place) = Settings
fault_of (udp.Bind refusal) = Network
fault_of udp.Wait = Network

-- the fault that ended a run
abbrev pub fault_of_stop : StopCause → Fault
fault_of_stop (stopped.Fault fault) = fault
fault_of_stop (stopped.Unopened u) = fault_of u.fault

-- the fault of a run whose end was not opened
abbrev pub fault_of_end : OpenFault → Fault
fault_of_end end.BadConfig = Settings
fault_of_end end.Memory = Memory

-- the settings of the end of this side, or those of the only end
abbrev pub settings_of : Ends → Side → Entry
settings_of (ends.Il il) side = il
settings_of (ends.Fe fe) side = fe
settings_of (ends.Pair il fe) side.Interlocking = il
settings_of (ends.Pair il fe) side.FieldElement = fe

-- whose address it is
abbrev pub whose_text : Bool → List ℕ
whose_text true = codes "own address "
whose_text false = codes "peer's address "

-- END channel N: WHOSE address TEXT; channels are numbered from 1
unfoldable pub place_text : Side → ℕ → Bool → List ℕ → List ℕ
place_text side channel is_own address =
    join_pieces (side_name side ∷ codes " channel " ∷ decimal channel ∷ codes ": " ∷ whose_text is_own ∷ address ∷ [])

-- the line of a text that is not an address
unfoldable pub unread_text : Side → ℕ → Bool → List ℕ → List ℕ
unread_text side channel is_own address =
    join_pieces (place_text side channel is_own address ∷ codes ": not an IP address and a port\n" ∷ [])

-- words for the most frequent errors of the system
abbrev pub error_words : ℕ → List ℕ
error_words error =
    if nat_eq error 98 then codes ": address in use"
    else if nat_eq error 99 then codes ": not an address of this machine"
    else if nat_eq error 13 then codes ": this user may not use the port"
    else []

-- the number of an error, and its words
unfoldable pub error_number_text : ℕ → List ℕ
error_number_text error = join_pieces (codes ", error " ∷ decimal error ∷ error_words error ∷ [])

-- the error, if it has a number
abbrev pub error_text : Option ℕ → List ℕ
error_text None = []
error_text (Some error) = error_number_text error

-- the channel, and that the system gives no socket at its own address
unfoldable pub unbound_front : Side → ℕ → List ℕ → List ℕ
unbound_front side channel address = join_pieces (place_text side channel true address ∷ codes ": no socket there" ∷ [])

-- the line of a channel without a socket, with the system's error, if it has a number
unfoldable pub unbound_text : Side → ℕ → List ℕ → Option ℕ → List ℕ
unbound_text side channel address error =
    join_pieces (unbound_front side channel address ∷ error_text error ∷ codes "\n" ∷ [])
