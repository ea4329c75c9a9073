-- What the lemmas of this crate name of the library, of the layers below and of the crate's own definitions; what they
-- prove they name by its own file.
pub use Rattle.std.proofs.Common.{
  Bool,
  Err,
  List,
  None,
  Ok,
  Option,
  Result,
  Some,
  [],
  add-one,
  ap,
  append-nil,
  append_assoc,
  arith,
  codes,
  cond,
  drop,
  false,
}
pub use Rattle.std.proofs.Common.{
  get_or,
  inl,
  inr,
  is_some,
  length,
  lit<,
  lit≤,
  refl,
  subst,
  suc,
  sym,
  take,
  true,
  unwrap_or,
  zero,
  zero-add,
  ℕ,
  ⊎_elim,
  ◌*◌,
}
pub use Rattle.std.proofs.Common.{◌++◌, ◌+◌, ◌-◌, ◌<◌, ◌==◌, ◌^◌, ◌↔◌, ◌∙◌, ◌∷◌, ◌≡◌, ◌≢◌, ◌≤◌, ◌⊎◌}
pub use Rattle.std.proofs.Math.Seq.{drop-append_seam, take-length, take-suc}
pub use Rattle.std.proofs.lemmas.Bool.{cases_lt, eq-eqb, eqb-true, false≢true, ltb-false}
pub use Rattle.std.proofs.lemmas.Bool.Decides.{nat_tests}
pub use Rattle.std.proofs.lemmas.List.{
  drop-append-le,
  length-append,
  length-drop,
  length-map,
  length-reverse,
  length-take,
  map-append,
  reverse-append,
}
pub use Rattle.std.proofs.lemmas.List.{reverse-reverse, take-append-drop, take-append-le}
pub use Rattle.std.proofs.lemmas.List.Elements.{All-from_recursion}
pub use Rattle.std.proofs.lemmas.Option.{slice_get-map}
pub use Rattle.std.proofs.lemmas.Slice.Eq.{bytes_eq-Decides}
pub use Rattle.std.specs.List.{AllByRecursion, FoldsTo, list_any, slice_get, slice_range}
pub use Rattle.std.specs.Prelude.{
  MatchOption,
  MatchResult,
  if◌then◌else◌,
  is_none,
  map,
  nat_le,
  nat_lt,
  not,
  option_map,
  reverse,
  ◌&&◌,
  ◌||◌,
}
pub use Rattle.std.specs.Str.{bytes_eq}
pub use Rattle.byteorder.specs.Endian.{little_bytes}
pub use Rattle.channels.specs.ChannelHistory.{SentDatagram, SendsOne, ChannelHistory}
pub use Rattle.end_settings.specs.ConfigValue.{settings_of, side_of}
pub use Rattle.end_settings.specs.EndSettings.{
  EndSettings,
  are_fit,
  connection_of,
  in_limits,
  is_addressing,
  is_name,
  rule_of,
  session_of,
}
pub use Rattle.end_settings.specs.declared.EndConfig.{EndConfig}
pub use Rattle.md4.specs.declared.TheConstants.{INITIAL_VALUE}
pub use Rattle.octets.proofs.Choices.{by_cond, by_test}
pub use Rattle.octets.specs.Lists.{IsBeginning}
pub use Rattle.octets.specs.Octets.{AreOctets}
pub use Rattle.octets.specs.declared.limits.TheConstants.{
  MESSAGE_MAX,
  MESSAGE_MIN,
  NAME_LENGTH,
  PAYLOAD_MAX,
  REACH,
  RED_PDU_MAX,
  UNIT_MESSAGES,
}
pub use Rattle.pdi_session.specs.packing.Places.{after as after_read, behind_first, first_message, is_piece}
pub use Rattle.pdi_session.specs.packing.UnitText.{IsMessage, UnitText, piece, unit_text}
pub use Rattle.pdi_session.specs.declared.packing.PackFault.{PackFault}
pub use Rattle.pdi_session.specs.Histories.{
  History,
  new_history,
  ends_by,
  add_event,
  add_events,
  handed_by,
  is_ended,
  put_by,
}
pub use Rattle.pdi_session.specs.JoinedSessions.{
  AreInStep,
  AtFe,
  AtIl,
  EndsEarly,
  Fits,
  InStepLaw,
  InTurn,
  IsNext,
  IsRunning,
  SessionPair,
  PairEvent,
  MatchingLaw,
}
pub use Rattle.pdi_session.specs.JoinedSessions.{PhaseLaw, TakesFrontLaw, apply_events, new_sessions}
pub use Rattle.pdi_session.specs.Laws.{
  BegunLaw,
  HasKind,
  HasMessage,
  MessageLaw,
  OverLaw,
  OwnEarlyLaw,
  TakenLaw,
  items_of,
}
pub use Rattle.pdi_session.specs.SessionStep.{
  Arrives,
  Closes,
  Event as SessionEvent,
  InitDone as Completes,
  Item,
  Puts,
  SessionState,
  Up as GoesUp,
  added_by,
}
pub use Rattle.pdi_session.specs.SessionStep.{
  end_of,
  init_refusal,
  item_of,
  judge_telegram,
  phase_after,
  put_refusal,
  taken_as,
  taken_by,
  texts,
}
pub use Rattle.pdi_session.specs.Settings.{
  Addressing,
  AreSettings,
  Field,
  Interlocking,
  Role,
  checksum_of,
  first_version,
}
pub use Rattle.pdi_session.specs.Tables.{is_early, is_initialising, may_put}
pub use Rattle.pdi_session.specs.Telegrams.{is_reserved}
pub use Rattle.pdi_session.specs.declared.SessionDetail.{SessionDetail}
pub use Rattle.pdi_session.specs.declared.Phase.{Phase}
pub use Rattle.pdi_session.specs.declared.Phase.TheVariants.{Established, Idle, Initialising}
pub use Rattle.pdi_session.specs.declared.PutFault.{PutFault}
pub use Rattle.pdi_session.specs.declared.TheConstants.{CHECKSUM_MAX}
pub use Rattle.pdi_session.specs.declared.Verdict.{Verdict}
pub use Rattle.pdi_session.specs.declared.Verdict.TheVariants.{Answers, Ends, Goes, Takes}
pub use Rattle.red_layer.specs.FiniteMap.{has_number, part_under, put_in}
pub use Rattle.red_layer.specs.Laws.{FirstMissingLaw, Masking, OneMoreLaw, OriginLaw, PartsLaw}
pub use Rattle.red_layer.specs.Masking.{
  AreAtMost,
  IsInTime,
  NoDeadlineFalls,
  QNear,
  Wait,
  first_missing,
  first_parts,
  moment_of,
  no_wait,
  wait_after,
}
pub use Rattle.red_layer.specs.Parts.{Part, is_nil}
pub use Rattle.red_layer.specs.Redundancy.{
  Datagram,
  Input,
  Receiver,
  ReceiverStep,
  Tick as RedTick,
  after,
  after_release,
  after_run,
  arrival,
  defer,
}
pub use Rattle.red_layer.specs.Redundancy.{
  follow,
  is_due,
  least_waiting,
  new_receiver as red_opened,
  parts_passed,
  parts_due,
  run_from,
}
pub use Rattle.red_layer.specs.Service.{
  AreAmong,
  IsAmong,
  part_received,
  after_along,
  arrivals,
  arrivals_of,
  parts_passed_along,
}
pub use Rattle.red_layer.specs.declared.RedEvent.TheVariants.{Again, Far, Full, Old, Passed}
pub use Rattle.red_layer.specs.pdu.RedText.{red_seen, red_text}
pub use Rattle.red_layer.specs.declared.pdu.RedFault.{RedFault}
pub use Rattle.safe_machine.specs.Decision.{in_turn, is_closed, is_stranger}
pub use Rattle.safe_machine.specs.InOrder.{
  AsksNothing,
  GuardHolds,
  InOrder,
  InOrderEvent,
  KeepsOrder,
  NextArrival,
  OneMoreLaw as EventsLaw,
  OrderLaw,
  StaysLaw,
}
pub use Rattle.safe_machine.specs.InOrder.{
  StaysOpen,
  all_heard_by_fe,
  all_heard_by_il,
  client_state,
  has_close,
  heard_by_fe,
  heard_by_il,
  is_close,
}
pub use Rattle.safe_machine.specs.InOrder.{server_state}
pub use Rattle.safe_machine.specs.Law.{Fresh, FreshAtLastLaw}
pub use Rattle.safe_machine.specs.Made.{Made, leaving_body, units}
pub use Rattle.safe_machine.specs.Moves.{
  AreFrom,
  AreSoundMoves,
  ConnectionsLaw,
  GoesOn,
  HaveTexts,
  HearsOwn,
  IdentifiedLaw,
  IsSoundMove,
  IsTakenBy,
}
pub use Rattle.safe_machine.specs.Moves.{
  IsUnitSized,
  Move,
  MovesLaw,
  ReachedLaw,
  ReachedState,
  SettingsLaw,
  StrangersLaw,
  TextsLaw,
  WaitsLaw,
  move,
  sent_by,
}
pub use Rattle.safe_machine.specs.Moves.Move.{Guards, Hears, Leaves, Sends, Ticks}
pub use Rattle.safe_machine.specs.Octets.{arrive_octets, move_of as heard_as, seen_by}
pub use Rattle.safe_machine.specs.Invariant.{AreRead, FewLaw, FewMade, IsRead}
pub use Rattle.safe_machine.specs.Settings.{Settings, is_legal}
pub use Rattle.safe_machine.specs.State.{State, unconfirmed}
pub use Rattle.safe_machine.specs.Connections.{is_live as says_goodbye}
pub use Rattle.safe_machine.proofs.one.Effects.{heartbeat, make, move_to, next_made}
pub use Rattle.safe_machine.specs.Step.{
  guard,
  is_connected,
  is_live as is_alive,
  leave,
  may_send,
  new_state,
  send,
  tick,
}
pub use Rattle.safe_machine.specs.World.{Among, GenuineAt, Side, Timely, TimelyEvent, is_joining}
pub use Rattle.safe_machine.specs.World.Event.{Arrive, Guard, Open as OpenMachine, Send}
pub use Rattle.safe_machine.specs.World.Side.{Fe, Il}
pub use Rattle.safe_machine.specs.declared.ConnectionState.{ConnectionState}
pub use Rattle.safe_machine.specs.declared.ConnectionState.TheVariants.{
  Closed,
  Down,
  RetrReq,
  RetrReq as Requesting,
  RetrRun,
  Start,
  Up,
  Up as IsUp,
}
pub use Rattle.safe_pdu.specs.declared.reasons.Detail.{Detail}
pub use Rattle.safe_pdu.specs.declared.reasons.Detail.TheVariants.{Limit, Unspecified}
pub use Rattle.safe_pdu.specs.declared.reasons.Reason.{Reason}
pub use Rattle.safe_pdu.specs.declared.reasons.Reason.TheVariants.{ClosedByUser, ProtocolError, Timeout}
pub use Rattle.safe_pdu.specs.Laws.{AskedLaw, ReadAlikeLaw, ReadAskedLaw, ReadLaw, ReadLaw as PduReadLaw}
pub use Rattle.safe_pdu.specs.Pdu.{Pdu}
pub use Rattle.safe_pdu.specs.Places.{safe_seen}
pub use Rattle.safe_pdu.specs.SafeText.{SafeText, code_octets, safe_text}
pub use Rattle.safe_pdu.specs.declared.CodeLength.{CodeLength}
pub use Rattle.safe_pdu.specs.declared.CodeLength.TheVariants.{Eight, Sixteen, Zero}
pub use Rattle.safe_pdu.specs.declared.CodeRule.{CodeRule}
pub use Rattle.safe_pdu.specs.declared.Kind.TheVariants.{Data, DiscReq, Heartbeat}
pub use Rattle.safe_pdu.specs.declared.SafeFault.{SafeFault}
pub use Rattle.pdi_session.specs.telegram.Names.{IsName}
pub use Rattle.pdi_session.specs.telegram.Places.{name_seen, read_named, receiver_field, sender_field}
pub use Rattle.pdi_session.specs.telegram.Tele.{Tele}
pub use Rattle.pdi_session.specs.telegram.TeleText.{tele_text}
pub use Rattle.pdi_session.specs.declared.telegram.TeleFault.{TeleFault}
pub use Rattle.stack_end.specs.Datagrams.{on_channels, sendings, sent_at_opening, upper_of}
pub use Rattle.stack_end.specs.Dialogue.{
  Dialogue,
  Judgement,
  Leaving,
  if_ended,
  judge_messages,
  judge_read,
  judge_units,
  judge_unpacked,
  judge_as,
  judge_nothing,
}
pub use Rattle.stack_end.specs.Dialogue.{process_event, phase_in, session_in, unless_leaving}
pub use Rattle.stack_end.specs.EndValue.{EndRepresents, EndTakesTurn, EndTakesTurnAlone, EndValue, channels_of, inside}
pub use Rattle.stack_end.proofs.Effects.{
  answered,
  did,
  goes_on,
  handed_up,
  heard,
  leaves,
  moved,
  packed,
  packed_up_to,
  put_done,
  put_in as put_into,
}
pub use Rattle.stack_end.proofs.Effects.{sends, settle, with_machine, with_session}
pub use Rattle.stack_end.proofs.TurnSteps.{
  closed-is as closed-step-is,
  finished-is,
  guarded-is,
  may-pack,
  not-pack,
  packed-is,
  part-is,
  queued-is,
}
pub use Rattle.stack_end.proofs.TurnSteps.{ticked-is}
pub use Rattle.stack_end.specs.Ends.{Call, EndState, is_settled, is_shut, new_end, time_of}
pub use Rattle.stack_end.specs.Steps.{
  call,
  guard_step,
  kept_of as fields_kept,
  part_step,
  parts_step,
  input_step,
  step,
  tick_step,
  with_input,
}
pub use Rattle.stack_end.specs.Ends.Call.{Close, Deliver, InitDone, Put, Tick}
pub use Rattle.stack_end.specs.Fields.{LayersRepresent}
pub use Rattle.stack_end.specs.TurnLaws.{GrowsBy, LeadsByTurn}
pub use Rattle.stack_end.specs.Turns.{
  Inside,
  Turn,
  can_pack,
  close_turn,
  comes_up,
  finish_turn,
  request_after,
  pack_turn,
  queue_turn,
  bring_up,
  turn,
}
pub use Rattle.stack_engine.specs.Bounds.{
  FewFirst,
  FewFirstLaw,
  FewMore,
  FewMoreLaw,
  IsSmallItem,
  IsSmallPdu,
  QueueLaw,
  most_pdus,
  most_taken,
}
pub use Rattle.stack_engine.specs.Events.{call_of, doing_of, event_of}
pub use Rattle.stack_engine.specs.Faithful.{
  AllArrived,
  AllFaithful,
  AllThere,
  CarriesPdu,
  CarriesAll,
  Crossed,
  Faithful,
  FaithfulCall,
  FaithfulEvent,
  GuardsHold,
}
pub use Rattle.stack_engine.specs.Faithful.{
  IfAllArrived,
  IfOpen,
  IsNear,
  IsNoClose,
  Match,
  NothingLost,
  NothingLostCrossedLaw,
  NothingLostLaw,
  OfBoth,
}
pub use Rattle.stack_engine.specs.Faithful.{OrderlyLaw, SameRule, UnitsThere, WaitsForWindow}
pub use Rattle.stack_engine.specs.Freshness.{AllFresh, FreshCall, FreshEvent, Freshness, TakesFresh}
pub use Rattle.stack_engine.specs.Headline.{
  AllTakeBeginnings,
  HeadlineLaw,
  IsJoined,
  JoinedBelow,
  JoinsFall,
  OnlyJoinedTake,
  TakesBeginnings,
  incarnation,
}
pub use Rattle.stack_engine.specs.Headline.{next_bound, put_at, taken_at}
pub use Rattle.stack_engine.specs.Histories.{call_octets}
pub use Rattle.stack_engine.specs.HistoryPlaces.{
  AreWithin,
  IsPlaced,
  IsWithin,
  deed_event,
  deed_in,
  event_in,
  events_in,
  opened_by,
}
pub use Rattle.stack_engine.specs.Incarnations.{
  HasRoom,
  IncarnationStays,
  IncarnationRepresents,
  IncarnationTakesTurn,
  PastRepresents,
  TakesItem,
  datagrams_of,
  inc_refusal,
  puts_in,
  sure_items,
}
pub use Rattle.stack_engine.specs.Instances.{
  FreshInstances,
  HeadlineInstances,
  Instances,
  SettledInstances,
  made_after,
  confirming_pdu,
  made_one,
  one,
  two,
}
pub use Rattle.stack_engine.specs.Joins.{joined_of, joins_in, joins_of, joins_with, join_latest, request_in}
pub use Rattle.stack_engine.specs.Keeper.{KeeperValue, has_part, on_first, sure_room, told_of}
pub use Rattle.stack_engine.specs.LossInstances.{
  Course,
  LossInstances,
  world_of_two,
  early,
  fe_with,
  il_with,
  keeping,
  lost_course,
  one_message,
  plain,
  not_up,
  stranger_with,
  waiting_course,
}
pub use Rattle.stack_engine.specs.Openings.{
  EarlierRepresent,
  IsOfSession,
  NamesRefusal,
  PresentRepresents,
  SideTakesCall,
  SideRepresents,
  breaks_with,
  is_memory,
  live_in,
}
pub use Rattle.stack_engine.specs.Openings.{rest_of}
pub use Rattle.stack_engine.specs.PairValue.{RunsTo, RunsToFault, events_of}
pub use Rattle.stack_engine.specs.Pairs.{
  Event,
  InitRefused,
  JoinedEnd,
  PutRefused,
  Refusal,
  World,
  call_fe,
  call_il,
  call_refusal,
  change_world,
  ends_of,
  apply_event,
}
pub use Rattle.stack_engine.specs.Pairs.{
  has_made,
  is_untimely,
  joined_by,
  last_time,
  latest,
  latest_maker,
  made_of,
  open_refusal,
  present,
  refusal,
  run,
}
pub use Rattle.stack_engine.specs.Pairs.{session_refusal, start, unless_refused, with_joined}
pub use Rattle.stack_engine.specs.Pairs.Event.{Calls, Open}
pub use Rattle.stack_engine.specs.Pairs.Refusal.{BadConfig, Clock}
pub use Rattle.stack_engine.specs.Premise.{
  AreTyped,
  AtArrivals,
  AtCall,
  AtInput,
  AtOpened,
  AtParts,
  BreaksLaw,
  Genuine,
  GenuineCall,
  GenuineEvent,
  IsGenuine,
}
pub use Rattle.stack_engine.specs.Premise.{IsTyped, breaks_at, breaks_by, is_asked_of, is_live}
pub use Rattle.stack_engine.specs.Premises.{Arrived, FaithfulInstance, GenuineInstance, OfBothOpened, Premises}
pub use Rattle.stack_engine.specs.Reports.{
  entry_of,
  fe_entry,
  il_entry,
  incarnations_of,
  joined_entry,
  past_of,
  place_of,
  present_list,
}
pub use Rattle.stack_engine.specs.Settled.{
  ConfirmedTakenLaw,
  FeTaken,
  SettledAt,
  SettledFe,
  SettledLaw,
  WasTaken,
  found_messages,
  found_telegram,
  is_number,
}
pub use Rattle.stack_engine.specs.Settled.{
  items_unconfirmed,
  items_waiting,
  messages_in,
  taken_from_fe,
  taken_from_il,
  telegrams_in,
}
pub use Rattle.stack_engine.specs.Sides.{FewAt, SidesTakeEvent, SidesRepresent, ends_at}
pub use Rattle.stack_engine.specs.TextPlaces.{text_in, texts_in}
pub use Rattle.stack_engine.specs.Texts.{Shelf}
pub use Rattle.stack_engine.specs.declared.ApplyFault.{ApplyFault}
pub use Rattle.stack_engine.specs.declared.event.Call.{Call as CodeCall}
pub use Rattle.stack_engine.specs.declared.event.Action.{Action}
pub use Rattle.stack_engine.specs.declared.event.Event.{Event as CodeEvent}
pub use Rattle.stack_engine.specs.declared.history.Deed.{Deed}
pub use Rattle.stack_engine.specs.declared.history.Entry.{Entry}
pub use Rattle.stack_engine.specs.declared.incarnation.Incarnation.{Incarnation}
pub use Rattle.stack_engine.specs.declared.openings.Openings.{Openings}
pub use Rattle.stack_engine.specs.declared.past.Past.{Past}
pub use Rattle.stack_engine.specs.declared.sides.Sides.{Sides}
pub use Rattle.stack_engine.specs.declared.texts.Kept.{Kept}
unfoldable pub use Rattle.md4.specs.Digest.{after_block, after_round, digest, four_steps}
unfoldable pub use Rattle.pdi_session.specs.packing.Places.{pieces_seen, unit_seen}
unfoldable pub use Rattle.red_layer.specs.Redundancy.{decoded}
unfoldable pub use Rattle.safe_machine.specs.Numbers.{ahead, sn_of}
unfoldable pub use Rattle.pdi_session.specs.telegram.Places.{tele_seen}
