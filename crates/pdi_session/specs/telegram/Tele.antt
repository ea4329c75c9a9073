-- A telegram as its fields, without its place in memory (session layer).
use Rattle.std.specs.Prelude.{ℕ, List, Result, Ok, Err}
use Rattle.pdi_session.specs.declared.telegram.Name.{Name}
use Rattle.pdi_session.specs.declared.telegram.NameFault.{NameFault}
use Rattle.pdi_session.specs.declared.telegram.OwnedName.{OwnedName}
use Rattle.pdi_session.specs.declared.telegram.Telegram.{Telegram}

-- the fields of a telegram
pub record Tele : Type 0 where
  -- the protocol type
  pub protocol : ℕ
  -- the message type
  pub kind : ℕ
  -- the characters of the sender's name, without filling
  pub sender : List ℕ
  -- the characters of the receiver's name, without filling
  pub receiver : List ℕ
  -- the payload
  pub payload : List ℕ

-- the characters of a name
abbrev pub characters_of : Name → List ℕ
characters_of name = name.characters.now

-- the characters of a name with its own copy
abbrev pub owned_characters : OwnedName → List ℕ
owned_characters name = name.text.bytes

-- a result of `Name::new` as a value, without its place in memory
abbrev pub name_of : Result Name NameFault → Result (List ℕ) NameFault
name_of (Ok name) = Ok (characters_of name)
name_of (Err fault) = Err fault

-- the fields of a decoded telegram
abbrev pub tele_of : Telegram → Tele
tele_of t =
    record {
      protocol = t.protocol;
      kind = t.kind;
      sender = characters_of t.sender;
      receiver = characters_of t.receiver;
      payload = t.payload.now;
    }
