-- The names of the library, of the layers below and of the crate's own definitions that at least two proof files use.
pub use Rattle.std.proofs.Common.{
  [],
  ap,
  append-nil,
  append_assoc,
  arith,
  Bool,
  drop,
  Err,
  false,
  inl,
  inr,
  length,
  length-append,
  List,
  None,
  not,
  Ok,
  refl,
}
pub use Rattle.std.proofs.Common.{
  Result,
  rules,
  Some,
  subst,
  suc,
  sym,
  take,
  true,
  zero,
  ℕ,
  ◌%◌,
  ◌&&◌,
  ◌++◌,
  ◌+◌,
  ◌<◌,
  ◌^◌,
  ◌∙◌,
  ◌∷◌,
  ◌≡◌,
  ◌≢◌,
  ◌≤◌,
  ◌⊎◌,
}
pub use Rattle.std.proofs.lemmas.Bool.{true≢false}
pub use Rattle.std.specs.List.{FoldsTo}
pub use Rattle.std.specs.Prelude.{if◌then◌else◌, is_none, Option}
pub use Rattle.channels.specs.ChannelHistory.{SendsOne, ChannelHistory}
pub use Rattle.end_settings.specs.ConfigValue.{settings_of, side_of}
pub use Rattle.end_settings.specs.EndSettings.{EndSettings, rule_of}
pub use Rattle.octets.proofs.Choices.{by_cond}
pub use Rattle.octets.proofs.Steps.{FoldsTo-keeps}
pub use Rattle.octets.specs.declared.limits.TheConstants.{UNIT_MESSAGES}
pub use Rattle.pdi_session.specs.packing.Places.{unit_seen}
pub use Rattle.pdi_session.specs.packing.UnitText.{unit_text}
pub use Rattle.pdi_session.specs.declared.packing.PackFault.{PackFault}
pub use Rattle.pdi_session.specs.SessionStep.{
  added_by,
  after,
  Arrives,
  Closes,
  end_of,
  Event,
  InitDone as Completes,
  Item,
  judge_telegram,
  Puts,
  taken_by,
  texts,
}
pub use Rattle.red_layer.specs.Parts.{is_nil, Part}
pub use Rattle.red_layer.specs.Redundancy.{after as red_after, Datagram, Input, parts_passed, Receiver, Tick as RedTick}
pub use Rattle.red_layer.specs.pdu.RedText.{red_text}
pub use Rattle.safe_machine.specs.Connections.{is_closed}
pub use Rattle.safe_machine.specs.Deadlines.{IsBefore, IsReachedAt}
pub use Rattle.safe_machine.specs.Made.{Made}
pub use Rattle.safe_machine.specs.Octets.{octets_turn as machine_octets_turn, octets_units}
pub use Rattle.safe_machine.specs.Settings.{Settings}
pub use Rattle.safe_machine.specs.TurnLaws.{HasMade}
pub use Rattle.safe_machine.specs.Turns.{has_room, opening_turn, still as machine_still, tick_turn, Turn as MachineTurn}
pub use Rattle.safe_machine.specs.View.{kept_of, View}
unfoldable pub use Rattle.safe_machine.specs.View.{text_of}
pub use Rattle.safe_machine.specs.declared.ConnectionState.{ConnectionState}
pub use Rattle.safe_machine.specs.declared.ConnectionState.TheVariants.{Closed, Down, RetrReq, RetrRun, Start, Up}
pub use Rattle.safe_pdu.specs.declared.reasons.Detail.TheVariants.{Unspecified}
pub use Rattle.safe_pdu.specs.declared.reasons.Reason.TheVariants.{ClosedByUser}
pub use Rattle.pdi_session.specs.telegram.Places.{tele_seen}
pub use Rattle.pdi_session.specs.telegram.Tele.{Tele}
pub use Rattle.pdi_session.specs.declared.telegram.TeleFault.{TeleFault}
pub use Rattle.stack_end.specs.Datagrams.{on_channels, sendings}
pub use Rattle.stack_end.specs.Dialogue.{
  Dialogue,
  if_ended,
  judge_messages,
  judge_read,
  judge_units,
  judge_unpacked,
  Judgement,
  Leaving,
  process_event,
  session_in,
}
pub use Rattle.stack_end.specs.Dialogue.{unless_leaving}
pub use Rattle.stack_end.specs.EndValue.{inside}
pub use Rattle.stack_end.specs.Ends.{Deliver}
pub use Rattle.stack_end.specs.Fields.{fields_of, inside_of, KeepsBounds}
pub use Rattle.stack_end.specs.Reception.{HasProcessed, TakesPart}
pub use Rattle.stack_end.specs.Outstanding.{PutOut}
pub use Rattle.stack_end.specs.Recent.{DatagramRecent, TickRecent}
pub use Rattle.stack_end.specs.Talk.{JudgesDialogue, RepresentsDialogue, talk, texts_of}
pub use Rattle.stack_end.specs.Turns.{
  upper_turn,
  arrival_turn,
  can_pack,
  comes_up,
  init_done_turn,
  datagrams,
  dialogue_of,
  Fields,
  turn_then,
  input_and_send_turn,
  up_turn,
  guard_turn,
  judge_turn,
  Inside,
}
pub use Rattle.stack_end.specs.Turns.{
  is_over,
  judge_part,
  leave_turn,
  machine_turn,
  next_number,
  request_after,
  note_request_turn,
  number_after,
  pack_turn,
  pack_once_turn,
  pack_up_to_turn,
  part_turn,
  parts_turn,
}
pub use Rattle.stack_end.specs.Turns.{
  time_turn,
  put_turn,
  input_turn,
  bring_up,
  send_turn,
  session_turn,
  end_session_turn,
  still,
  Turn,
  turn,
  CarriesOutAlone,
}
