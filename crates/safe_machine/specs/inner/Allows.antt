-- What each decision guarantees to the function that carries it out.
use Rattle.std.specs.Prelude.{◌≡◌, ◌<◌, ◌≤◌, ℕ, ◌-◌, []}
use Rattle.safe_machine.specs.declared.arrival.Decision.{Decision}
use Rattle.safe_machine.specs.declared.arrival.Decision.TheVariants.{Accepts, Connects, Takes, Resumes, AnswersNext, AnswersEarly}
use Rattle.safe_pdu.specs.Pdu.{Pdu}
use Rattle.safe_pdu.specs.Bodies.{IsBody}
use Rattle.safe_pdu.specs.declared.Kind.TheVariants.{ConnReq}
use Rattle.safe_machine.specs.Decision.{cs_step, cts_step}
use Rattle.safe_machine.specs.View.{View}

-- The PDU passes both confirmation tests.
abbrev pub Passes : View → Pdu → ℕ → Type 0
Passes v p now = (cs_step v p < v.made - v.confirmed) × (cts_step v p ≤ now - v.confirmed_at)

-- The condition under which a decision may be carried out.
abbrev pub Allows : View → Pdu → ℕ → Decision → Type 0
Allows v p now Accepts = IsBody ConnReq p.body × (v.ring ≡ [])
Allows v p now Connects = IsBody ConnReq p.body × Passes v p now
Allows v p now (Takes connection) = Passes v p now
Allows v p now Resumes = Passes v p now
Allows v p now AnswersNext = Passes v p now
Allows v p now AnswersEarly = cs_step v p < v.made - v.confirmed
Allows v p now _ = Unit {0}
