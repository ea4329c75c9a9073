-- Names of the library, of the layers below and of the crate's own definitions that these lemmas use. Names of lemmas
-- are imported from their own files.
pub use Rattle.std.proofs.Common.{
  Bool,
  Err,
  List,
  None,
  Ok,
  Option,
  Result,
  Some,
  [],
  ap,
  append_assoc,
  arith,
  cond,
  drop,
  false,
  inl,
  inr,
  length,
  rules,
}
pub use Rattle.std.proofs.Common.{
  length-append,
  refl,
  subst,
  suc,
  sym,
  take,
  true,
  zero,
  ℕ,
  ⊎_elim,
  ◌%◌,
  ◌*◌,
  ◌++◌,
  ◌+◌,
  ◌-◌,
  ◌<◌,
  ◌^◌,
  ◌∙◌,
  ◌∷◌,
  ◌≡◌,
  ◌≢◌,
}
pub use Rattle.std.proofs.Common.{◌≤◌, ◌⊎◌}
pub use Rattle.std.proofs.Math.Seq.{drop-append_seam, take-append_seam}
pub use Rattle.std.proofs.lemmas.Bool.{
  and_parts,
  cond_both,
  eq-eqb,
  eqb-true,
  false≢true,
  le-leb,
  leb-false,
  leb-true,
  lt-ltb,
  ltb-false,
  ltb-true,
}
pub use Rattle.std.proofs.lemmas.Bool.Decides.{eqb_tells, nat_tests}
pub use Rattle.std.proofs.lemmas.List.{
  append-nil,
  append_cancel_right,
  drop-append-le,
  drop-drop,
  drop_all,
  length-drop,
  length-map,
  length-take,
  map-append,
}
pub use Rattle.std.proofs.lemmas.List.{take-append-drop, take_more, take_all}
pub use Rattle.std.proofs.lemmas.List.Elements.{All-cons, All-filter, All-nil, All-push, All-weaker, filter-append}
pub use Rattle.std.proofs.lemmas.Option.{slice_get-get_or}
pub use Rattle.std.specs.List.{FoldsTo, list_all}
pub use Rattle.std.specs.Prelude.{IfSome, MatchOption, get_or, if◌then◌else◌, nat_le, nat_lt, slice_get, ◌&&◌, ◌==◌}
pub use Rattle.octets.proofs.Choices.{by_cond, by_test}
pub use Rattle.octets.proofs.Steps.{FoldsTo-append}
pub use Rattle.octets.specs.Lists.{IsBeginning}
pub use Rattle.octets.specs.declared.limits.TheConstants.{LEAVING_BODY, REACH, UNIT_MAX, UNIT_MIN, WINDOW_MAX}
pub use Rattle.safe_machine.proofs.UnitLemmas.{octets-renumbered}
pub use Rattle.safe_machine.specs.retrans.Units.{Numbered, above, octets_of, renumber_units}
pub use Rattle.safe_pdu.proofs.SafeLemmas.{length-text}
pub use Rattle.safe_pdu.specs.Bodies.{IsBody, is_digit, is_zero, version_of, window_of}
pub use Rattle.safe_pdu.specs.Pdu.{Pdu, kind_number, pdu_of}
pub use Rattle.safe_pdu.specs.Places.{safe_seen}
pub use Rattle.safe_pdu.specs.SafeText.{HasNumbers}
pub use Rattle.safe_pdu.specs.declared.CodeLength.TheVariants.{Eight}
pub use Rattle.safe_pdu.specs.declared.CodeRule.{CodeRule}
pub use Rattle.safe_pdu.specs.declared.Kind.{Kind}
pub use Rattle.safe_pdu.specs.declared.Kind.TheVariants.{
  ConnReq,
  ConnResp,
  Data,
  DiscReq,
  Heartbeat,
  RetrData,
  RetrReq,
  RetrResp,
}
pub use Rattle.safe_pdu.specs.declared.SafeFault.{SafeFault}
pub use Rattle.safe_pdu.specs.declared.SafeFault.TheVariants.{Short}
pub use Rattle.safe_machine.specs.Connections.{in_turn, is_closed, is_connected, is_live}
pub use Rattle.safe_machine.specs.Deadlines.{beat_due, by_guard, overdue}
pub use Rattle.safe_machine.specs.Decision.{
  decide_request,
  as_client,
  by_cell,
  by_connection,
  by_sender,
  by_table,
  cs_fits,
  cs_step,
  cts_fits,
  cts_step,
  decide,
}
pub use Rattle.safe_machine.specs.Decision.{
  distance,
  in_down,
  in_start,
  is_foreign,
  is_goodbye,
  is_ours,
  is_stranger,
  decide_by_tests,
}
pub use Rattle.safe_machine.specs.InOrder.{
  AllThere,
  AsksNothing,
  GuardHolds,
  InOrder,
  InOrderEvent,
  KeepsOrder,
  NextArrival,
  OneMoreLaw,
  OrderLaw,
  StaysLaw,
}
pub use Rattle.safe_machine.specs.InOrder.{
  all_heard_by_fe,
  all_heard_by_il,
  client_state,
  has_close,
  heard_by_fe,
  heard_by_il,
  is_close,
  server_state,
}
pub use Rattle.safe_machine.specs.Law.{
  AllFresh,
  Fresh,
  FreshAtLastLaw,
  FreshEvent,
  FreshLaw,
  IsJoined,
  JoinedBelow,
  JoinedLaw,
  JoinsFall,
  LossLaw,
  UnitLaw,
}
pub use Rattle.safe_machine.specs.Law.{is_number, next_bound, taken_count, taken_from_il}
pub use Rattle.safe_machine.specs.Made.{
  Made,
  after_pdu,
  is_carrier_kind,
  first_sent,
  is_answer,
  is_request,
  last_time,
  leaving_body,
  opening_body,
  run_after,
  run_of,
}
pub use Rattle.safe_machine.specs.Made.{units}
pub use Rattle.safe_machine.specs.Moves.{
  AreFrom,
  AreSoundMoves,
  ConnectionsLaw,
  GoesOn,
  HasText,
  HaveTexts,
  HearsNothing,
  HearsOwn,
  IdentifiedLaw,
  IsSoundMove,
}
pub use Rattle.safe_machine.specs.Moves.{
  IsUnitSized,
  Move,
  MovesLaw,
  ReachedLaw,
  ReachedState,
  RequestsLaw,
  SettingsLaw,
  StrangersLaw,
  TextsLaw,
  WaitsLaw,
}
pub use Rattle.safe_machine.specs.Moves.{move, make_moves, sent_by, IsTakenBy, HearsRequest}
pub use Rattle.safe_machine.specs.Moves.Move.{Guards, Hears, Leaves as LeavesNow, Sends, Ticks}
pub use Rattle.safe_machine.specs.Numbers.{ahead, sn_of, wrap}
pub use Rattle.safe_machine.specs.Octets.{arrive_octets, move_of, decoded_answer, octets_turn, octets_units}
pub use Rattle.safe_machine.specs.Properties.{HandsIf, IsNextData, IsRecent, StopsOnly, index_step, OnlyConfirms}
pub use Rattle.safe_machine.specs.Invariant.{AreRead, FewLaw, IsReached, IsRead}
pub use Rattle.safe_machine.specs.Ring.{
  after_at,
  after_carrier,
  carried_again,
  carried_at,
  carriers,
  carriers_from,
  is_resent,
  count_resent,
  ring_of,
}
pub use Rattle.safe_machine.specs.Settings.{Settings, are_two, in_range, is_coded, is_legal}
pub use Rattle.safe_machine.specs.State.{State, unconfirmed}
pub use Rattle.safe_machine.specs.Step.{arrive, follow, guard, history, leave, may_send, new_state, send, tick}
pub use Rattle.safe_machine.proofs.one.Effects.{
  answered_ahead,
  ask,
  beat,
  blank,
  carry_out,
  confirm_to,
  confirm_units,
  guarded,
  hand_up,
}
pub use Rattle.safe_machine.proofs.one.Effects.{
  heartbeat,
  left_by,
  make,
  move_to,
  next_made,
  note_request,
  pass,
  reply,
  resend,
  respond,
  set_window,
}
pub use Rattle.safe_machine.proofs.one.Effects.{take_unit, tests_passed}
pub use Rattle.safe_machine.specs.Table.{cell, request_row, run_row, start_row, up_row}
pub use Rattle.safe_machine.specs.TurnLaws.{
  HasMade,
  MaySend,
  OpenedTurn,
  DeterminesUnits,
  LeadsByTurn,
  units_of_move,
  turn,
}
pub use Rattle.safe_machine.specs.Turns.{
  Out,
  Turn,
  answer_ahead_turn,
  arrive_answer,
  arrival_turn,
  request_turn,
  heartbeat_turn,
  both_confirmed,
  carried_unit,
  decision_turn,
  confirmed_to,
}
pub use Rattle.safe_machine.specs.Turns.{
  count_pdu,
  goes_on,
  guard_turn,
  handed_by,
  handed_units,
  has_room,
  is_open,
  leave_turn,
  moved_to,
  opening_turn,
  move_past,
  renumber_ring,
  reply_turn,
  tick_turn,
}
pub use Rattle.safe_machine.specs.Turns.{
  mark_answered,
  resend_turn,
  response_turn,
  sending_turn,
  send_turn,
  send_unit_turn,
  still,
  take_unit_turn,
  units_confirmed,
  new_view,
  with_window,
}
pub use Rattle.safe_machine.specs.View.{StandsFor, View, beside, kept_of, text_of, texts, settings_of}
pub use Rattle.safe_machine.specs.World.{
  Among,
  Event,
  Genuine,
  GenuineAt,
  GenuineEvent,
  Served,
  Timely,
  TimelyEvent,
  World,
  as_role,
  at_end,
  change_world,
}
pub use Rattle.safe_machine.specs.World.{
  event_end,
  event_time,
  apply_event,
  is_joining,
  open_fe,
  open_il,
  run,
  start,
  unopened_state,
  with_fe,
  with_il,
}
pub use Rattle.safe_machine.specs.World.Event.{Arrive, Close, Guard, Open, Send, Tick}
pub use Rattle.safe_machine.specs.World.Side.{Fe, Il}
pub use Rattle.safe_machine.specs.declared.ConnectionState.{ConnectionState}
pub use Rattle.safe_machine.specs.declared.ConnectionState.TheVariants.{
  Closed,
  Down,
  RetrReq as Requesting,
  RetrRun,
  Start,
  Up,
}
pub use Rattle.safe_pdu.specs.declared.reasons.Detail.{Detail}
pub use Rattle.safe_pdu.specs.declared.reasons.Detail.TheVariants.{
  BadUnit,
  ConfirmedNumber,
  ConfirmedTimestamp,
  Limit,
  NotWellFormed,
  OutOfOrder,
  Unspecified,
}
pub use Rattle.safe_pdu.specs.declared.reasons.Detail.TheVariants.{VersionDiffers}
pub use Rattle.safe_machine.specs.declared.DropCause.TheVariants.{
  Answered,
  Below,
  Fault,
  NotOpened,
  Number,
  Request,
  Stranger,
}
pub use Rattle.safe_pdu.specs.declared.reasons.Reason.{Reason}
pub use Rattle.safe_pdu.specs.declared.reasons.Reason.TheVariants.{
  ClosedByUser,
  ProtocolError,
  RetransmissionImpossible,
  SequenceError,
}
pub use Rattle.safe_pdu.specs.declared.reasons.Reason.TheVariants.{
  ServiceNotAllowed,
  Timeout,
  UnexpectedPdu,
  WrongVersion,
}
pub use Rattle.safe_machine.specs.declared.Step.TheVariants.{Dropped, Gap, Left, Nothing as NoAnswer, Taken}
pub use Rattle.safe_machine.specs.declared.arrival.Cell.{Cell}
pub use Rattle.safe_machine.specs.declared.arrival.Cell.TheVariants.{Answer, Ask, Refuse, Resume, Skip, Take}
pub use Rattle.safe_machine.specs.declared.arrival.Decision.{Decision}
pub use Rattle.safe_machine.specs.declared.arrival.Decision.TheVariants.{
  Accepts,
  AnswersEarly,
  AnswersNext,
  Asks,
  Connects,
  Drops,
  Leaves,
  Nothing,
  Rejects,
}
pub use Rattle.safe_machine.specs.declared.arrival.Decision.TheVariants.{Resumes, Shuts, Takes}
pub use Rattle.safe_machine.specs.inner.Allows.{Allows, Passes}
pub use Rattle.safe_machine.specs.inner.Sound.{AllBelow, AllUnits, Sound}
