-- The PDUs of both ends as they are kept in memory.
use Rattle.std.specs.Prelude.{◌≡◌, ◌≤◌, Bool, true, take, vec_len}
use Rattle.std.specs.List.{list_all}
use Rattle.sim.specs.Ledger.{Ledger, is_named}
use Rattle.sim.specs.declared.labels.Labels.TheInside.{Inside}

-- The ledger of the kept lists.
abbrev pub ledger_of : {A : Type 0} → Inside A → Ledger
ledger_of l = record { il = l.il; fe = l.fe; order = l.order.items }

-- The invariant: all labels before the kept place are named.
pub record IsLedger {A : Type 0} (l : Inside A) : Type 0 where
  pub within : l.unnamed ≤ vec_len l.order
  pub named : list_all (is_named (ledger_of l)) (take l.unnamed l.order.items) ≡ true
