-- No message is dropped before it is confirmed: each waits, or is in an unconfirmed unit.
use Rattle.std.specs.Prelude.{◌≡◌, ℕ, List, [], ◌∷◌, ◌++◌, map}
use Rattle.std.specs.List.{flat_map}
use Rattle.pdi_session.specs.packing.UnitText.{unit_text}
use Rattle.pdi_session.specs.telegram.TeleText.{tele_text}
use Rattle.pdi_session.specs.Settings.{Addressing}
use Rattle.pdi_session.specs.Telegrams.{telegram}
use Rattle.safe_machine.specs.View.{View}
use Rattle.stack_end.specs.Turns.{Fields}

-- the bytes of each element
abbrev pub each : {N : Type 0} → List N → (N → List ℕ) → List (List ℕ)
each ns f = map f ns

-- the unconfirmed units of a machine
abbrev pub units_in : View → List (List ℕ)
units_in v = each v.ring (λ u. u.octets)

-- of the messages that waited, the first are now in newly unconfirmed units, and the others still wait
pub record GoesOut (v : Fields) (waited : List (List ℕ)) (w : Fields) : Type 0 where
  pub units : List (List (List ℕ))  -- the newly unconfirmed units, each as its messages
  -- they come after those that were unconfirmed before
  pub unconfirmed : units_in w.machine ≡ units_in v.machine ++ map unit_text units
  -- their messages, then those that wait, are those that waited
  pub messages : flat_map (λ u. u) units ++ w.waiting ≡ waited

-- the message of a telegram that is put
abbrev pub put_message : Addressing → ℕ → List ℕ → List ℕ
put_message addressing kind payload = tele_text (telegram addressing kind payload)

-- the new telegram comes last: it and the messages that waited, and no others, are in newly unconfirmed units or wait,
-- in this order
abbrev pub PutOut : (kind : ℕ) → List ℕ → Fields → Fields → Type 0
PutOut kind payload v w = GoesOut v (v.waiting ++ put_message v.session.addressing kind payload ∷ []) w
