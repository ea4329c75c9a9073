use Rattle.pdi_session.proofs.one.Growth.{stands_on}
use Rattle.pdi_session.proofs.one.AddedTelegrams.{message_law}
use Rattle.pdi_session.proofs.one.ItemLists.{queue_law, taken_law}
use Rattle.pdi_session.proofs.one.Queues.{field_law, interlocking_law}
use Rattle.pdi_session.proofs.two.JointSteps.{fronts_law, one_more_law, phase_law}
use Rattle.pdi_session.proofs.one.RowLaws.{takes_law, goes_law, own_law, put_law, room_law}
use Rattle.pdi_session.proofs.one.OwnEarly.{own_early_law}
use Rattle.pdi_session.proofs.two.MatchingSessions.{matching_law}
use Rattle.pdi_session.proofs.two.InStep.{in_step_law}
use Rattle.pdi_session.proofs.one.Over.{over_law, begun_law}
use Rattle.pdi_session.proofs.one.Agreements.{agreed_law}
use Rattle.pdi_session.proofs.law.session_law.Goals as goal

pub returns-clause-stands : goal.returns-clause-stands
returns-clause-stands c = stands_on

pub returns-clause-takes : goal.returns-clause-takes
returns-clause-takes c = takes_law

pub returns-clause-goes : goal.returns-clause-goes
returns-clause-goes c = goes_law

pub returns-clause-own : goal.returns-clause-own
returns-clause-own c = own_law

pub returns-clause-puts : goal.returns-clause-puts
returns-clause-puts c = put_law

pub returns-clause-messages : goal.returns-clause-messages
returns-clause-messages c = message_law

pub returns-clause-room : goal.returns-clause-room
returns-clause-room c = room_law

pub returns-clause-taken : goal.returns-clause-taken
returns-clause-taken c = taken_law

pub returns-clause-queue : goal.returns-clause-queue
returns-clause-queue c = queue_law

pub returns-clause-interlocking : goal.returns-clause-interlocking
returns-clause-interlocking c = interlocking_law

pub returns-clause-field : goal.returns-clause-field
returns-clause-field c = field_law

pub returns-clause-phases : goal.returns-clause-phases
returns-clause-phases c = phase_law

pub returns-clause-fronts : goal.returns-clause-fronts
returns-clause-fronts c = fronts_law

pub returns-clause-one_more : goal.returns-clause-one_more
returns-clause-one_more c = one_more_law

pub returns-clause-own_early : goal.returns-clause-own_early
returns-clause-own_early c = own_early_law

pub returns-clause-matching : goal.returns-clause-matching
returns-clause-matching c = matching_law

pub returns-clause-in_step : goal.returns-clause-in_step
returns-clause-in_step c = in_step_law

pub returns-clause-over : goal.returns-clause-over
returns-clause-over c = over_law

pub returns-clause-begun : goal.returns-clause-begun
returns-clause-begun c = begun_law

pub returns-clause-agreed : goal.returns-clause-agreed
returns-clause-agreed c = agreed_law
