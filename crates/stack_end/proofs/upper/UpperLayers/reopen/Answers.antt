use Rattle.stack_end.proofs.Words.{ap, Fields, fields_of, subst, ChannelHistory, CarriesOutAlone}
use Rattle.stack_end.specs.Reopening.{empty_fields, machine_reopening_turn}
use Rattle.stack_end.proofs.upper.UpperLayers.reopen.Goals as goal

pub returns-clause-does : goal.returns-clause-does
returns-clause-does g c =
    let told = g.C.Channels.told in
    let after = fields_of c.open_machine.new.self in
    let told_after : ChannelHistory = told c.open_machine.new.self.channels in
    let v = fields_of c.args.self.now in
    let one = subst (λ (u : Fields). CarriesOutAlone (machine_reopening_turn c.args.first_sn c.args.now u)
    (told c.forget.new.self.channels) after told_after)
    c.forget.ensures.left c.open_machine.ensures.does in
    subst (λ (t : ChannelHistory). CarriesOutAlone (machine_reopening_turn c.args.first_sn c.args.now (empty_fields v))
    t after told_after) (ap told c.forget.ensures.channels) one
