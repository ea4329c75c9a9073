use Rattle.stack_end.proofs.StatisticsLaw.{datagram-law, expiry-law, part-law}
use Rattle.stack_end.proofs.law.statistics_law.Goals as goal

pub returns : goal.returns
returns c = record { datagrams = datagram-law; deadlines = expiry-law; parts = part-law }
