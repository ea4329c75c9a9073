-- The state of an end after its caller is done with the channels that it lent.
use Rattle.std.specs.Borrow.{Fml, RattleType, MutBor, Lends}
use Rattle.std.specs.declared.alloc.Allocator.{Ghosts}
use Rattle.stack_end.specs.EndValue.{EndValue}
use Rattle.stack_end.specs.contracts.end.End.{the_row}

-- the end with these channels
abbrev pub with_channels : {C A : Type 0} → EndValue C A → C → EndValue C A
with_channels v c = record v { layers = record v.layers { upper = record v.layers.upper { channels = c } } }

-- when the borrow r ends, the end has the channels as r left them
abbrev pub lends_channels : (C A : RattleType) (g : Ghosts A.Denot) → MutBor (EndValue C.Denot A.Denot) → MutBor C.Denot
    → Fml
lends_channels C A g e r = Lends (the_row C A g) C e r (with_channels e.now)
