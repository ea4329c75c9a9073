use Rattle.std.proofs.Common.{◌≡◌, ◌%◌, length, arith, ◌∙◌}
use Rattle.md4.proofs.Pieces.{StandsFor-total, StandsFor-taken, HasTaken-front}
use Rattle.md4.proofs.Md4.finish.Goals as goal

pub returns : goal.returns
returns c = λ iv fed stands.
    let total = StandsFor-total c.args.self iv fed stands in
    let used : c.args.self.total % 64 ≡ length fed % 64 = omega arith in
    c.bytes_of_words.ensures
    ∙ c.after_last_blocks-words.ensures iv fed
    (HasTaken-front c.args.self.words c.args.self.part iv fed _ used (StandsFor-taken c.args.self iv fed stands))
    (omega arith) (omega arith)
