use Rattle.capture.proofs.follower.Follower.add.Goals as goal

pub returns-in-Pdu-clause-connections : goal.returns-in-Pdu-clause-connections
returns-in-Pdu-clause-connections c = rw c.in-Pdu.is c.follow-remarks.ensures.step
