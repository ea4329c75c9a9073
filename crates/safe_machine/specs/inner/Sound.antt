-- Bounds that every machine keeps.
use Rattle.std.specs.Prelude.{◌≡◌, ◌<◌, ◌≤◌, ◌^◌, ℕ, true, List, length, [], All}
use Rattle.octets.specs.declared.limits.TheConstants.{WINDOW_MAX}
use Rattle.safe_machine.specs.retrans.Units.{Numbered}
use Rattle.safe_pdu.specs.Bodies.{IsBody}
use Rattle.safe_pdu.specs.declared.Kind.TheVariants.{ConnReq, RetrData}
use Rattle.safe_machine.specs.declared.ConnectionState.TheVariants.{Down}
use Rattle.safe_machine.specs.Connections.{is_live}
use Rattle.safe_machine.specs.Made.{opening_body}
use Rattle.safe_machine.specs.View.{View}

-- Each number is below this one.
abbrev pub AllBelow : ℕ → List Numbered → Type 0
AllBelow number units = All (λ (u : Numbered). u.number < number) units

-- Each entry has the bytes of a unit.
abbrev pub AllUnits : List Numbered → Type 0
AllUnits units = All (λ (u : Numbered). IsBody RetrData u.octets) units

-- The bounds of what a machine keeps.
pub record Sound (v : View) : Type 0 where
  -- Fewer than 2^33 PDUs are made.
  pub few : v.made < 2 ^ 33
  -- The peer's window is at most 32.
  pub window : v.window ≤ WINDOW_MAX
  -- The ring has room for 32 units.
  pub room : v.room ≡ WINDOW_MAX
  -- At most 32 units are unconfirmed.
  pub short : length v.ring ≤ WINDOW_MAX
  -- Each of them has the size of a unit.
  pub sized : AllUnits v.ring
  -- Each of them has the number of a PDU made.
  pub below : AllBelow v.made v.ring
  -- In a live state, the PDU last confirmed was made.
  pub live : is_live v.connection ≡ true → v.confirmed < v.made
  -- Fewer than 2^33 units are taken since the last sending.
  pub since : v.since < 2 ^ 33
  -- In Down, no unit is unconfirmed.
  pub down : v.connection ≡ Down → v.ring ≡ []
  -- The own window is valid in an opening.
  pub opening : IsBody ConnReq (opening_body v.settings.n_sendmax)
