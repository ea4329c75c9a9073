use Rattle.std.proofs.Common.{rules}
use Rattle.udp_channels.proofs.BindLemmas.{binds, if-ok}
use Rattle.udp_channels.proofs.udp.+bind_all.Goals as goal

pub returns-clause-ok : goal.returns-clause-ok
returns-clause-ok g t c =
    if-ok c.bind_all.result
    (binds g.T.UdpCalls.is_bound c.in_ok-path.path c.in-Some.first.now c.in-Some.others.now c.args.addresses.now
    c.over.result
    c.args.list.now.items c.push.new.self.items c.bind_all.new.list.items c.in-Some.ensures.cases.0 c.over.ensures
    c.in_ok-path.ensures.ok.0 c.in_ok-path.ensures.ok.1
    (search (rules, c.push.ensures.items, c.is_err.ensures, c.if-is_err)))
    c.bind_all.ensures.ok
