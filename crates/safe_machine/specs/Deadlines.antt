-- The deadlines of a machine if nothing arrives: T_max, T_h, and at once if the limit of PDUs is reached
-- (safety and retransmission layer of DIN VDE V 0831-200:2015).
use Rattle.std.specs.Prelude.{ℕ, ◌+◌, ◌-◌, ◌^◌, ◌<◌, ◌≤◌, ◌&&◌, Bool, min, nat_le, Option, Some, None, if◌then◌else◌}
use Rattle.safe_pdu.specs.declared.reasons.Reason.{Reason}
use Rattle.safe_pdu.specs.declared.reasons.Reason.TheVariants.{Timeout, ProtocolError}
use Rattle.safe_pdu.specs.declared.reasons.Detail.{Detail}
use Rattle.safe_pdu.specs.declared.reasons.Detail.TheVariants.{Unspecified, Limit}
use Rattle.safe_machine.specs.Connections.{is_connected, is_live}
use Rattle.safe_machine.specs.View.{View}

-- The timeout check: T_max first, then the limit of PDUs. The result is `leaves` of the reason and detail, or `goes` if
-- both hold.
abbrev pub by_guard : {A : Type 0} → ℕ → View → (Reason → Detail → A) → A → A
by_guard now v leaves goes =
    if is_live v.connection
    then (if nat_le (v.confirmed_at + v.settings.t_max) now then leaves Timeout Unspecified
    else if nat_le v.settings.pdu_limit v.made then leaves ProtocolError Limit
    else goes)
    else goes

-- The reason and detail with which the timeout check disconnects, or `None`.
abbrev pub overdue : ℕ → View → Option (Reason × Detail)
overdue now v = by_guard now v (λ reason detail. Some (reason, detail)) None

-- A heartbeat is due: the end is connected, and the last PDU was made T_h ago or more.
abbrev pub beat_due : ℕ → View → Bool
beat_due now v = is_connected v.connection && nat_le (v.last_made + v.settings.t_h) now

-- A time cut to 64 bits. The times of a caller are never greater.
abbrev pub as_time : ℕ → ℕ
as_time n = min n (2 ^ 64 - 1)

-- The time at which the timeout check disconnects: 0 if the limit of PDUs is reached, otherwise T_max after the last
-- confirmation.
abbrev pub timeout_of : View → ℕ
timeout_of v = if nat_le v.settings.pdu_limit v.made then 0 else as_time (v.confirmed_at + v.settings.t_max)

-- The earliest time at which a tick does something, if the state is live: the timeout, or the next heartbeat if that is
-- earlier and the end is connected.
abbrev pub deadline_of : View → Option ℕ
deadline_of v =
    if is_live v.connection
    then Some (if is_connected v.connection then min (timeout_of v) (as_time (v.last_made + v.settings.t_h))
    else timeout_of v)
    else None

-- The time is before the deadline, or there is no deadline.
abbrev pub IsBefore : ℕ → Option ℕ → Type 0
IsBefore now None = Unit {0}
IsBefore now (Some deadline) = now < deadline

-- There is a deadline, and the time is not before it.
abbrev pub IsReachedAt : ℕ → Option ℕ → Type 0
IsReachedAt now None = ⊥
IsReachedAt now (Some deadline) = deadline ≤ now
