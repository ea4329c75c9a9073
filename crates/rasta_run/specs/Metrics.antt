-- The counts of one or two ends in the text format of Prometheus: for each metric its help, its type, and its numbers
-- with their labels.
use Rattle.std.specs.Prelude.{ℕ, ◌+◌, nat_le, Bool, List, [], ◌∷◌, codes, slice_index_or, Option, Some, None, if◌then◌else◌}
use Rattle.std.specs.Fmt.{decimal}
use Rattle.end_settings.specs.declared.Side.{Side}
use Rattle.pdu_text.specs.Lines.{join_pieces}
use Rattle.pdu_text.specs.Names.{side_name}
use Rattle.rasta_run.specs.Counters.{accepted_count, failures_in, no_datagrams, oldest}
use Rattle.rasta_run.specs.Counts.{margin_of}
use Rattle.rasta_run.specs.declared.counts.ChannelCounts.{ChannelCounts}
use Rattle.rasta_run.specs.declared.metrics.ChannelMetric.{ChannelMetric}
use Rattle.rasta_run.specs.declared.metrics.ChannelMetric.TheVariants as channel
use Rattle.rasta_run.specs.declared.metrics.EndMetric.{EndMetric}
use Rattle.rasta_run.specs.declared.metrics.EndMetric.TheVariants as end
use Rattle.rasta_run.specs.declared.metrics.Sample.{Sample}
use Rattle.rasta_run.specs.declared.metrics.Samples.{Samples}
use Rattle.stack_end.specs.Statistics.{all_red_faults, all_safe_faults, no_reception_counts, sum}
use Rattle.stack_end.specs.declared.statistics.ReceptionCounts.{ReceptionCounts}
use Rattle.udp_channels.specs.declared.sockets.Failures.{Failures}

-- the count of a channel
abbrev pub channel_number : ChannelMetric → ReceptionCounts → ChannelCounts → Failures → ℕ
channel_number channel.Sent r c f = c.sent
channel_number channel.Failed r c f = c.failed
channel_number channel.Refused r c f = f.receives.count
channel_number channel.Received r c f = r.received
channel_number channel.Passed r c f = r.passed
channel_number channel.Deferred r c f = r.deferred
channel_number channel.Old r c f = r.old
channel_number channel.Repeated r c f = r.repeated
channel_number channel.Far r c f = r.far
channel_number channel.Full r c f = r.full
channel_number channel.Damaged r c f = sum (all_red_faults r.damaged) c.damaged
channel_number channel.Stranger r c f = c.strangers

-- the name of the metric of a channel, after the prefix of all
abbrev pub channel_name : ChannelMetric → List ℕ
channel_name channel.Sent = codes "datagrams_sent_total"
channel_name channel.Failed = codes "datagrams_failed_total"
channel_name channel.Refused = codes "receptions_refused_total"
channel_name channel.Received = codes "datagrams_received_total"
channel_name channel.Passed = codes "datagrams_passed_total"
channel_name channel.Deferred = codes "datagrams_deferred_total"
channel_name channel.Old = codes "datagrams_dropped_total"
channel_name channel.Repeated = codes "datagrams_dropped_total"
channel_name channel.Far = codes "datagrams_dropped_total"
channel_name channel.Full = codes "datagrams_dropped_total"
channel_name channel.Damaged = codes "datagrams_dropped_total"
channel_name channel.Stranger = codes "datagrams_dropped_total"

-- the label of the cause, if the metric has one
abbrev pub channel_cause : ChannelMetric → List ℕ
channel_cause channel.Sent = []
channel_cause channel.Failed = []
channel_cause channel.Refused = []
channel_cause channel.Received = []
channel_cause channel.Passed = []
channel_cause channel.Deferred = []
channel_cause channel.Old = codes ",cause=\"old\""
channel_cause channel.Repeated = codes ",cause=\"repeated\""
channel_cause channel.Far = codes ",cause=\"far\""
channel_cause channel.Full = codes ",cause=\"full\""
channel_cause channel.Damaged = codes ",cause=\"damaged\""
channel_cause channel.Stranger = codes ",cause=\"stranger\""

-- the count of an end
abbrev pub end_number : EndMetric → Sample → Option ℕ
end_number end.Time s = Some s.at
end_number end.Units s = Some s.counted.sums.made.units
end_number end.Resent s = Some s.counted.sums.made.resent
end_number end.Heartbeats s = Some s.counted.sums.made.heartbeats
end_number end.Requested s = Some s.counted.sums.made.requests
end_number end.Answered s = Some s.counted.sums.made.answers
end_number end.Accepted s = Some (accepted_count s.counted)
end_number end.Damaged s = Some (all_safe_faults s.counted.sums.parts.damaged)
end_number end.Stranger s = Some s.counted.sums.parts.strangers
end_number end.Unopened s = Some s.counted.sums.parts.unopened
end_number end.Far s = Some s.counted.sums.parts.far
end_number end.Unrequested s = Some s.counted.sums.parts.unrequested
end_number end.Repeated s = Some s.counted.sums.parts.answered
end_number end.Below s = Some s.counted.sums.parts.below
end_number end.Confirmed s = Some s.counted.sums.confirmed
end_number end.Expired s = Some s.counted.sums.expired_deferrals
end_number end.Put s = Some s.counted.put
end_number end.Taken s = Some s.counted.taken
end_number end.Oldest s = oldest s.counted
end_number end.Margin s = margin_of (oldest s.counted) s.t_max

-- the name of the metric of an end, after the prefix of all
abbrev pub end_name : EndMetric → List ℕ
end_name end.Time = codes "run_milliseconds"
end_name end.Units = codes "units_sent_total"
end_name end.Resent = codes "units_resent_total"
end_name end.Heartbeats = codes "heartbeats_sent_total"
end_name end.Requested = codes "retransmissions_requested_total"
end_name end.Answered = codes "retransmissions_answered_total"
end_name end.Accepted = codes "pdus_accepted_total"
end_name end.Damaged = codes "pdus_dropped_total"
end_name end.Stranger = codes "pdus_dropped_total"
end_name end.Unopened = codes "pdus_dropped_total"
end_name end.Far = codes "pdus_dropped_total"
end_name end.Unrequested = codes "pdus_dropped_total"
end_name end.Repeated = codes "pdus_dropped_total"
end_name end.Below = codes "pdus_dropped_total"
end_name end.Confirmed = codes "units_confirmed_total"
end_name end.Expired = codes "deferrals_expired_total"
end_name end.Put = codes "telegrams_put_total"
end_name end.Taken = codes "telegrams_taken_total"
end_name end.Oldest = codes "confirmation_age_max_milliseconds"
end_name end.Margin = codes "margin_min_milliseconds"

-- the label of the cause, if the metric has one
abbrev pub end_cause : EndMetric → List ℕ
end_cause end.Time = []
end_cause end.Units = []
end_cause end.Resent = []
end_cause end.Heartbeats = []
end_cause end.Requested = []
end_cause end.Answered = []
end_cause end.Accepted = []
end_cause end.Damaged = codes ",cause=\"damaged\""
end_cause end.Stranger = codes ",cause=\"stranger\""
end_cause end.Unopened = codes ",cause=\"unopened\""
end_cause end.Far = codes ",cause=\"far\""
end_cause end.Unrequested = codes ",cause=\"unrequested\""
end_cause end.Repeated = codes ",cause=\"answered\""
end_cause end.Below = codes ",cause=\"below\""
end_cause end.Confirmed = []
end_cause end.Expired = []
end_cause end.Put = []
end_cause end.Taken = []
end_cause end.Oldest = []
end_cause end.Margin = []

-- what the metric of a channel counts
abbrev pub channel_help : ChannelMetric → List ℕ
channel_help channel.Sent = codes "Datagrams that the system took."
channel_help channel.Failed = codes "Datagrams that the system refused."
channel_help channel.Refused = codes "Receptions that the system refused."
channel_help channel.Received = codes "Datagrams received, from anyone."
channel_help channel.Passed = codes "Datagrams passed on in turn."
channel_help channel.Deferred = codes "Datagrams that came early and were deferred."
channel_help channel.Old = codes "Datagrams dropped, by cause."
channel_help channel.Repeated = codes "Datagrams dropped, by cause."
channel_help channel.Far = codes "Datagrams dropped, by cause."
channel_help channel.Full = codes "Datagrams dropped, by cause."
channel_help channel.Damaged = codes "Datagrams dropped, by cause."
channel_help channel.Stranger = codes "Datagrams dropped, by cause."

-- what the metric of an end counts
abbrev pub end_help : EndMetric → List ℕ
end_help end.Time = codes "The time since the run began."
end_help end.Units = codes "Units sent."
end_help end.Resent = codes "Units sent again."
end_help end.Heartbeats = codes "Heartbeats sent."
end_help end.Requested = codes "Retransmissions requested."
end_help end.Answered = codes "Retransmissions carried out."
end_help end.Accepted = codes "PDUs that the safety layer accepted."
end_help end.Damaged = codes "PDUs that the safety layer dropped, by cause."
end_help end.Stranger = codes "PDUs that the safety layer dropped, by cause."
end_help end.Unopened = codes "PDUs that the safety layer dropped, by cause."
end_help end.Far = codes "PDUs that the safety layer dropped, by cause."
end_help end.Unrequested = codes "PDUs that the safety layer dropped, by cause."
end_help end.Repeated = codes "PDUs that the safety layer dropped, by cause."
end_help end.Below = codes "PDUs that the safety layer dropped, by cause."
end_help end.Confirmed = codes "Units that the peer confirmed."
end_help end.Expired = codes "How often T_seq passed while datagrams were deferred."
end_help end.Put = codes "Telegrams put."
end_help end.Taken = codes "Telegrams taken."
end_help end.Oldest = codes "The greatest age of a confirmed timestamp."
end_help end.Margin = codes "The least time that was left to T_max."

-- the type of the metric of an end: only times may fall
abbrev pub end_kind : EndMetric → List ℕ
end_kind end.Time = codes "gauge"
end_kind end.Units = codes "counter"
end_kind end.Resent = codes "counter"
end_kind end.Heartbeats = codes "counter"
end_kind end.Requested = codes "counter"
end_kind end.Answered = codes "counter"
end_kind end.Accepted = codes "counter"
end_kind end.Damaged = codes "counter"
end_kind end.Stranger = codes "counter"
end_kind end.Unopened = codes "counter"
end_kind end.Far = codes "counter"
end_kind end.Unrequested = codes "counter"
end_kind end.Repeated = codes "counter"
end_kind end.Below = codes "counter"
end_kind end.Confirmed = codes "counter"
end_kind end.Expired = codes "counter"
end_kind end.Put = codes "counter"
end_kind end.Taken = codes "counter"
end_kind end.Oldest = codes "gauge"
end_kind end.Margin = codes "gauge"

-- the help and the type of a metric
unfoldable pub head_text : List ℕ → List ℕ → List ℕ → List ℕ
head_text name type help =
    join_pieces
    (codes "# HELP rasta_" ∷ name ∷ codes " " ∷ help ∷ codes "\n# TYPE rasta_" ∷ name ∷ codes " " ∷ type ∷ codes "\n" ∷
    [])

-- the number of a channel, numbered from 1
unfoldable pub channel_line : List ℕ → List ℕ → Side → (channel number : ℕ) → List ℕ
channel_line name cause side number value =
    join_pieces
    (codes "rasta_" ∷ name ∷ codes "{side=\"" ∷ side_name side ∷ codes "\",channel=\"" ∷ decimal number ∷ codes "\"" ∷
    cause ∷ codes "} " ∷ decimal value
    ∷ codes "\n" ∷ [])

-- the number of an end
unfoldable pub end_line : List ℕ → List ℕ → Side → ℕ → List ℕ
end_line name cause side value =
    join_pieces (codes "rasta_" ∷ name ∷ codes "{side=\"" ∷ side_name side ∷ codes "\"" ∷ cause ∷ codes "} " ∷
    decimal value ∷ codes "\n" ∷ [])

-- the number of an end, if there is one
abbrev pub end_line_of : Option ℕ → List ℕ → List ℕ → Side → List ℕ
end_line_of None name cause side = []
end_line_of (Some value) name cause side = end_line name cause side value

-- the line of the channel at a place, from 0, if the end has it
unfoldable pub place_text : ChannelMetric → Sample → ℕ → List ℕ
place_text m s place =
    if nat_le s.count place then []
    else channel_line (channel_name m) (channel_cause m) s.side (place + 1)
    (channel_number m (slice_index_or s.counted.sums.channels place no_reception_counts)
    (slice_index_or s.counted.channels place no_datagrams)
    (failures_in s.counted place))

-- the lines of the channels of an end
unfoldable pub channels_text : ChannelMetric → Sample → List ℕ
channels_text m s = join_pieces (place_text m s 0 ∷ place_text m s 1 ∷ place_text m s 2 ∷ place_text m s 3 ∷ [])

-- the lines of the second end, if there is one
abbrev pub second_channels : ChannelMetric → Option Sample → List ℕ
second_channels m None = []
second_channels m (Some s) = channels_text m s

-- the lines of a metric of channels
unfoldable pub channel_text : ChannelMetric → Samples → List ℕ
channel_text m s = join_pieces (channels_text m s.first ∷ second_channels m s.second ∷ [])

-- the line of an end
abbrev pub sample_text : EndMetric → Sample → List ℕ
sample_text m s = end_line_of (end_number m s) (end_name m) (end_cause m) s.side

-- the line of the second end, if there is one
abbrev pub second_sample : EndMetric → Option Sample → List ℕ
second_sample m None = []
second_sample m (Some s) = sample_text m s

-- the lines of a metric of ends
unfoldable pub end_text : EndMetric → Samples → List ℕ
end_text m s = join_pieces (sample_text m s.first ∷ second_sample m s.second ∷ [])

-- a metric of channels that only grows
unfoldable pub channel_counter : ChannelMetric → Samples → List ℕ
channel_counter m s =
    join_pieces (head_text (channel_name m) (codes "counter") (channel_help m) ∷ channel_text m s ∷ [])

-- a metric of ends
unfoldable pub end_metric : EndMetric → Samples → List ℕ
end_metric m s = join_pieces (head_text (end_name m) (end_kind m) (end_help m) ∷ end_text m s ∷ [])

-- what became of datagrams on channels
unfoldable pub traffic_text : Samples → List ℕ
traffic_text s =
    join_pieces
    (channel_counter channel.Sent s
    ∷ channel_counter channel.Failed s
    ∷ channel_counter channel.Refused s
    ∷ channel_counter channel.Received s
    ∷ channel_counter channel.Passed s
    ∷ channel_counter channel.Deferred s ∷ [])

-- why datagrams were dropped
unfoldable pub drops_text : Samples → List ℕ
drops_text s =
    join_pieces
    (channel_counter channel.Old s ∷ channel_text channel.Repeated s ∷ channel_text channel.Far s
    ∷ channel_text channel.Full s ∷ channel_text channel.Damaged s ∷ channel_text channel.Stranger s ∷ [])

-- the PDUs that ends made
unfoldable pub made_pdus_text : Samples → List ℕ
made_pdus_text s =
    join_pieces
    (end_metric end.Units s ∷ end_metric end.Resent s
    ∷ end_metric end.Heartbeats s
    ∷ end_metric end.Requested s
    ∷ end_metric end.Answered s
    ∷ end_metric end.Confirmed s ∷ [])

-- the PDUs that ends dropped for their code, their identifiers or their state
unfoldable pub rejections_text : Samples → List ℕ
rejections_text s = join_pieces (end_metric end.Damaged s ∷ end_text end.Stranger s ∷ end_text end.Unopened s ∷ [])

-- the PDUs that ends dropped for their numbers
unfoldable pub misplacements_text : Samples → List ℕ
misplacements_text s =
    join_pieces (end_text end.Far s ∷ end_text end.Unrequested s ∷ end_text end.Repeated s ∷ end_text end.Below s ∷ [])

-- the PDUs that ends received
unfoldable pub parts_text : Samples → List ℕ
parts_text s =
    join_pieces (end_metric end.Expired s ∷ end_metric end.Accepted s ∷ rejections_text s ∷ misplacements_text s ∷ [])

-- telegrams and times
unfoldable pub telegrams_text : Samples → List ℕ
telegrams_text s =
    join_pieces
    (end_metric end.Put s ∷ end_metric end.Taken s
    ∷ end_metric end.Oldest s
    ∷ end_metric end.Margin s
    ∷ end_metric end.Time s ∷ [])

-- all metrics; the last line is a comment that ends them
unfoldable pub block_text : Samples → List ℕ
block_text s = join_pieces (traffic_text s ∷ drops_text s ∷ made_pdus_text s ∷ parts_text s ∷ telegrams_text s ∷
    codes "# EOF\n" ∷ [])
