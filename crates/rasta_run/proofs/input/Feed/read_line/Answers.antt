use Rattle.std.proofs.Common.{sym}
use Rattle.rasta_run.specs.InputLines.{input_of, line_read}
use Rattle.rasta_run.proofs.NextLines.{reads-telegram}
use Rattle.rasta_run.proofs.input.Feed.read_line.Goals as goal

pub returns-in-Ok-Telegram-clause-read : goal.returns-in-Ok-Telegram-clause-read
returns-in-Ok-Telegram-clause-read g c =
    let seen = rw c.in-Ok-Telegram.field-0-is at c.in-Ok-Telegram.ensures.line in
    reads-telegram (line_read c.args.ended c.args.self.now.lines.octets.items) c.args.ended (input_of c.args.self.now)
    c.in-Ok-Telegram.put _ _ (sym seen)
    c.in-Ok-Telegram.ensures.left c.in-Ok-Telegram.ensures.cut
