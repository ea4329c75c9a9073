use Rattle.std.proofs.Common.{◌≡◌, ◌∙◌, ◌+◌, ◌-◌, ap, arith, drop, ℕ, refl, sym, take}
use Rattle.pdi_session.proofs.KnownLemmas.{held_behind, held_front, holds_behind, holds_front, known_read}
use Rattle.pdi_session.proofs.telegram.known.KnownPair.decode_known.Goals as goal

pub of_valid-requires : goal.of_valid-requires
of_valid-requires c =
    let size : 3 + c.args.self.now.sender - 3 ≡ c.args.self.now.sender = omega arith in
    rw size
    (holds_front c.args.octets.now c.args.self.now.octets c.args.self.now.sender c.args.self.now.receiver
    c.args.self.now.well_formed
    (c.has.ensures c.if-not-has.false)).is

pub of_valid-requires-2 : goal.of_valid-requires-2
of_valid-requires-2 c =
    let size : 23 + c.args.self.now.receiver - 23 ≡ c.args.self.now.receiver = omega arith in
    rw size
    (holds_behind c.args.octets.now c.args.self.now.octets c.args.self.now.sender c.args.self.now.receiver
    c.args.self.now.well_formed
    (c.has.ensures c.if-not-has.false)).is

pub returns-clause-exact : goal.returns-clause-exact
returns-clause-exact c =
    let same = c.has.ensures c.if-not-has.false in
    let size : 3 + c.args.self.now.sender - 3 ≡ c.args.self.now.sender = omega arith in
    let size-2 : 23 + c.args.self.now.receiver - 23 ≡ c.args.self.now.receiver = omega arith in
    let one = holds_front c.args.octets.now c.args.self.now.octets c.args.self.now.sender c.args.self.now.receiver
    c.args.self.now.well_formed same in
    let other = holds_behind c.args.octets.now c.args.self.now.octets c.args.self.now.sender c.args.self.now.receiver
    c.args.self.now.well_formed same in
    sym
    (known_read c.args.octets.now (take c.args.self.now.sender (drop 3 c.args.octets.now))
    (take c.args.self.now.receiver (drop 23 c.args.octets.now)) _
    (omega arith) (omega arith) one.seen other.seen refl c.u16_at.ensures (c.of_valid.ensures
    ∙ ap (λ (n : ℕ). take n (drop 3 c.args.octets.now)) size)
    (c.of_valid-2.ensures ∙ ap (λ (n : ℕ). take n (drop 23 c.args.octets.now)) size-2) c.split_at.ensures.back)

pub returns-clause-sender : goal.returns-clause-sender
returns-clause-sender c =
    let size : 3 + c.args.self.now.sender - 3 ≡ c.args.self.now.sender = omega arith in
    c.of_valid.ensures ∙ ap (λ (n : ℕ). take n (drop 3 c.args.octets.now)) size
    ∙ held_front c.args.octets.now c.args.self.now.octets c.args.self.now.sender c.args.self.now.receiver
    c.args.self.now.well_formed
    (c.has.ensures c.if-not-has.false)

pub returns-clause-receiver : goal.returns-clause-receiver
returns-clause-receiver c =
    let size : 23 + c.args.self.now.receiver - 23 ≡ c.args.self.now.receiver = omega arith in
    c.of_valid-2.ensures ∙ ap (λ (n : ℕ). take n (drop 23 c.args.octets.now)) size
    ∙ held_behind c.args.octets.now c.args.self.now.octets c.args.self.now.sender c.args.self.now.receiver
    c.args.self.now.well_formed
    (c.has.ensures c.if-not-has.false)
