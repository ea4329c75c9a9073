-- Worked lists of events, which show that the laws are not vacuous: in order, a close in order, a loss, a wrap of the
-- numbers, and a request that is early and next.
use Rattle.safe_machine.proofs.Words.{Some, ◌++◌, ◌≡◌, ℕ, List, [], ◌∷◌, drop, take, length, get_or, true, refl, arith, Eight, Kind, ConnReq, ConnResp, RetrReq}
use Rattle.safe_machine.proofs.Words.{RetrResp, Heartbeat, Data, RetrData, DiscReq, Pdu, Up, Start, Closed, Requesting, ClosedByUser, Unspecified, Made}
use Rattle.safe_machine.proofs.Words.{opening_body, leaving_body, Settings, State, unconfirmed, decide, distance, AnswersEarly, kept_of, Il, Fe, Served, World}
use Rattle.safe_machine.proofs.Words.{Event, start, run, Genuine, Timely, Open, Send, Close, Tick, Arrive, InOrder, all_heard_by_il, all_heard_by_fe}
use Rattle.safe_machine.specs.Numbers.{sn_of, ahead}
use Rattle.std.proofs.Common.{rules}

-- The settings of an end.
abbrev ends : (own peer n_sendmax t_max mwa pdu_limit : ℕ) → Settings
ends own peer n_sendmax t_max mwa pdu_limit =
    record {
      client = true;
      own = own;
      peer = peer;
      n_sendmax = n_sendmax;
      t_max = t_max;
      t_h = 300;
      mwa = mwa;
      pdu_limit = pdu_limit;
      rule = record { length = Eight; initial_value = [] };
    }

-- PDUs of the interlocking, which is 1, and of the field element, which is 2.
abbrev i : Kind → (sn cs ts cts : ℕ) → List ℕ → Pdu
i kind sn cs ts cts body =
    record { kind = kind; receiver = 2; sender = 1; sn = sn; cs = cs; ts = ts; cts = cts; body = body }

abbrev f : Kind → (sn cs ts cts : ℕ) → List ℕ → Pdu
f kind sn cs ts cts body =
    record { kind = kind; receiver = 1; sender = 2; sn = sn; cs = cs; ts = ts; cts = cts; body = body }

-- The PDU with this index among those that an end makes, by its fields and with its context.
abbrev nth : List Pdu → ℕ → Pdu
nth ps index = get_or ps index (i ConnReq 0 0 0 0 [])

abbrev at : Pdu → (time behind : ℕ) → Made
at p time behind = record { pdu = p; time = time; behind = behind }

-- In order: the connection is opened, and one unit is sent and taken, or the interlocking closes it.
abbrev opening : List Event
opening =
    Open Fe (ends 2 1 3 1000 4 1000) 500 5000 ∷ Open Il (ends 1 2 2 1000 4 1000) 10 100 ∷
    Arrive Fe (i ConnReq 10 0 100 0 (opening_body 2)) 5010
    ∷ Arrive Il (f ConnResp 500 10 5010 100 (opening_body 3)) 130 ∷ Arrive Fe (i Heartbeat 11 500 130 5010 []) 5040 ∷ []

abbrev sending : List Event
sending = opening ++ Send Il (1 ∷ 2 ∷ 3 ∷ []) 140 ∷ Arrive Fe (i Data 12 500 140 5010 (1 ∷ 2 ∷ 3 ∷ [])) 5050 ∷ []

abbrev closing : List Event
closing =
    opening ++ Close Il ClosedByUser Unspecified 140 ∷
    Arrive Fe (i DiscReq 12 500 140 5010 (leaving_body ClosedByUser Unspecified)) 5050 ∷ []

pub sent : Genuine sending start × Timely sending start × InOrder 0 0 sending start
    × ((run sending start).fe.taken ≡ (1 ∷ 2 ∷ 3 ∷ []) ∷ [])
unfolding sn_of ahead
sent = (search rules depth 12, grind arith, search rules depth 16, refl)

-- A close is allowed in order: everything has arrived, and both ends are closed.
pub closed : Genuine closing start × Timely closing start × InOrder 0 0 closing start
    × (all_heard_by_il closing 0 ≡ length (run closing start).fe.made)
    × (all_heard_by_fe closing 0 ≡ length (run closing start).il.made)
    × ((run closing start).fe.connection ≡ Closed) × ((run closing start).il.connection ≡ Closed)
unfolding sn_of ahead
closed = (search rules depth 12, grind arith, search rules depth 16, refl, refl, refl, refl)

-- Units are taken on both sides, through a loss, a retransmission and a reopening of both ends.
loss : List Event
loss =
    Open Fe (ends 2 1 20 1800 10 4294901760) 500 5000 ∷ Open Il (ends 1 2 20 1800 10 4294901760) 100 100
    ∷ Arrive Fe (i ConnReq 100 0 100 0 (opening_body 20)) 5000 ∷
    Arrive Il (f ConnResp 500 100 5000 100 (opening_body 20)) 100
    ∷ Arrive Fe (i Heartbeat 101 500 100 5000 []) 5000
    ∷ Send Il (7 ∷ []) 100 ∷ Send Il (8 ∷ []) 100 ∷ Send Fe (9 ∷ []) 5000
    -- Data 102 is delayed: a gap.
    ∷ Arrive Fe (i Data 103 500 100 5000 (8 ∷ [])) 5000
    ∷ Arrive Il (f Data 501 101 5000 100 (9 ∷ [])) 100
    ∷ Arrive Il (f RetrReq 502 101 5000 100 []) 100
    ∷ Arrive Fe (i RetrResp 104 502 100 5000 []) 5000
    ∷ Arrive Fe (i RetrData 105 502 100 5000 (7 ∷ [])) 5000 ∷ Arrive Fe (i RetrData 106 502 100 5000 (8 ∷ [])) 5000
    ∷ Arrive Fe (i Heartbeat 107 502 100 5000 []) 5000
    -- Now it arrives, late.
    ∷ Arrive Fe (i Data 102 500 100 5000 (7 ∷ [])) 5000
    ∷ Close Il ClosedByUser Unspecified 100
    ∷ Open Fe (ends 2 1 20 1800 10 4294901760) 700 5000 ∷ Open Il (ends 1 2 20 1800 10 4294901760) 300 100
    ∷ Arrive Fe (i ConnReq 300 0 100 0 (opening_body 20)) 5000 ∷
    Arrive Il (f ConnResp 700 300 5000 100 (opening_body 20)) 100
    ∷ Arrive Fe (i Heartbeat 301 700 100 5000 []) 5000
    ∷ Send Il (10 ∷ []) 100 ∷ Arrive Fe (i Data 302 700 100 5000 (10 ∷ [])) 5000
    ∷ Send Fe (11 ∷ []) 5000 ∷ Arrive Il (f Data 701 302 5000 100 (11 ∷ [])) 100 ∷ []

loss-comes : Genuine loss start × Timely loss start
unfolding loss sn_of ahead
loss-comes = (search rules depth 40, grind arith)

-- What each end took, in each incarnation.
before_il : List State → List (List ℕ)
before_il [] = []
before_il (s ∷ ss) = s.taken

before_fe : List Served → List (List ℕ)
before_fe [] = []
before_fe (s ∷ ss) = s.machine.taken

loss-taken : ((run loss start).fe.taken ≡ (10 ∷ []) ∷ []) × ((run loss start).il.taken ≡ (11 ∷ []) ∷ [])
    × ((run loss start).joined ≡ Some 2)
    × ((run loss start).fe.connection ≡ Up) × ((run loss start).il.connection ≡ Up)
    × (before_fe (run loss start).fe_before ≡ (7 ∷ []) ∷ (8 ∷ []) ∷ [])
    × (before_il (run loss start).il_before ≡ (9 ∷ []) ∷ [])
unfolding loss sn_of ahead before_fe before_il
loss-taken = (refl, refl, refl, refl, refl, refl, refl)

-- The times and the interlocking's sequence numbers pass 2^32: windows, timestamps of the PDUs made, and a heartbeat at
-- the mwa-th unit (here 2).
abbrev wrap_il : List Pdu
wrap_il =
    i ConnReq 4294967295 0 4294967293 0 (opening_body 2) ∷ i Heartbeat 0 500 1 4294967292 [] ∷
    i Data 1 500 3 4294967292 (7 ∷ [])
    ∷ i Data 2 500 3 4294967292 (8 ∷ []) ∷ []

abbrev wrap_fe : List Pdu
wrap_fe = f ConnResp 500 4294967295 4294967292 4294967293 (opening_body 3) ∷ f Heartbeat 501 2 5 3 [] ∷ []

wraps : List Event
wraps =
    Open Fe (ends 2 1 3 1800 2 1000) 500 4294967290 ∷ Open Il (ends 1 2 2 1800 2 1000) 4294967295 4294967293 ∷
    Arrive Fe (nth wrap_il 0) 4294967292
    ∷ Arrive Il (nth wrap_fe 0) 4294967297 ∷ Arrive Fe (nth wrap_il 1) 4294967298 ∷ Send Il (7 ∷ []) 4294967299 ∷
    Send Il (8 ∷ []) 4294967299
    ∷ Arrive Fe (nth wrap_il 2) 4294967300 ∷ Arrive Fe (nth wrap_il 3) 4294967301 ∷
    Arrive Il (nth wrap_fe 1) 4294967302 ∷ []

-- The world after the first n of these events.
abbrev wrapped : ℕ → World
wrapped n = run (take n wraps) start

wraps-come : Genuine wraps start × Timely wraps start
unfolding wraps sn_of ahead
wraps-come = (search rules depth 20, grind arith)

-- Each end learns the window of the other from the body of the opening PDU: the server in Down, the client in Start.
window_told : ((wrapped 3).fe.window ≡ 2) × ((wrapped 3).il.connection ≡ Start) × ((wrapped 3).il.window ≡ 0)
    × ((wrapped 4).il.window ≡ 3)
    × ((wrapped 4).il.connection ≡ Up)
unfolding wraps sn_of ahead
window_told = (refl, refl, refl, refl, refl)

-- A PDU has the low 32 bits of the own time, and the sequence number and timestamp of the PDU taken last: here before
-- and after the wrap of the times and of the interlocking's numbers.
stamps_made : ((wrapped 7).fe.made ≡ at (nth wrap_fe 0) 4294967292 1 ∷ [])
    × ((wrapped 7).il.made ≡ at (nth wrap_il 0) 4294967293 0 ∷ at (nth wrap_il 1) 4294967297 1 ∷
    at (nth wrap_il 2) 4294967299 1
    ∷ at (nth wrap_il 3) 4294967299 1 ∷ [])
unfolding wraps sn_of ahead
stamps_made = (refl, refl)

-- The first unit taken is below mwa, so no PDU is made.
first_unit : ((wrapped 8).fe.taken ≡ (7 ∷ []) ∷ []) × ((wrapped 8).fe.since ≡ 1) × (length (wrapped 8).fe.made ≡ 1)
unfolding wraps sn_of ahead
first_unit = (refl, refl, refl)

-- The second is the mwa-th since the last sending: a heartbeat confirms both, and the count starts again.
beats : ((wrapped 9).fe.taken ≡ (7 ∷ []) ∷ (8 ∷ []) ∷ [])
    × (drop 1 (wrapped 9).fe.made ≡ at (nth wrap_fe 1) 4294967301 4 ∷ [])
    × ((wrapped 9).fe.since ≡ 0) × (length (unconfirmed (wrapped 9).il) ≡ 2)
unfolding wraps sn_of ahead
beats = (refl, refl, refl, refl)

-- Its confirmed timestamp 3 is 6 ms after 4,294,967,293, the last one confirmed; both units are confirmed.
confirms : ((wrapped 9).il.confirmed_at ≡ 4294967293) × ((wrapped 10).il.confirmed_at ≡ 4294967299)
    × ((wrapped 10).il.confirmed ≡ 3)
    × (unconfirmed (wrapped 10).il ≡ [])
unfolding wraps sn_of ahead
confirms = (refl, refl, refl, refl)

-- A request for retransmission arrives at last with the number that an end in RetrReq expects.
abbrev request_il : List Pdu
request_il =
    i ConnReq 100 0 0 0 (opening_body 2) ∷ i Heartbeat 101 500 20 10 [] ∷ i RetrReq 102 500 50 10 [] ∷
    i Heartbeat 103 500 400 10 [] ∷ []

abbrev request_fe : List Pdu
request_fe =
    f ConnResp 500 100 10 0 (opening_body 3) ∷ f Data 501 101 40 20 (7 ∷ []) ∷ f Data 502 101 40 20 (8 ∷ []) ∷
    f RetrReq 503 101 410 20 []
    ∷ f RetrResp 504 101 420 20 [] ∷ f RetrData 505 101 420 20 (7 ∷ []) ∷ f RetrData 506 101 420 20 (8 ∷ []) ∷
    f Heartbeat 507 101 420 20 [] ∷ []

requests : List Event
requests =
    Open Fe (ends 2 1 3 1800 10 1000) 500 0 ∷ Open Il (ends 1 2 2 1800 10 1000) 100 0 ∷
    Arrive Fe (nth request_il 0) 10 ∷ Arrive Il (nth request_fe 0) 20
    ∷ Arrive Fe (nth request_il 1) 30 ∷ Send Fe (7 ∷ []) 40 ∷ Send Fe (8 ∷ []) 40 ∷ Arrive Il (nth request_fe 2) 50 ∷
    Tick Il 400
    ∷ Arrive Fe (nth request_il 3) 410 ∷ Arrive Fe (nth request_il 2) 420 ∷ []

abbrev requested : ℕ → World
requested n = run (take n requests) start

requests-come : Genuine requests start × Timely requests start
unfolding requests sn_of ahead
requests-come = (search rules depth 20, grind arith)

-- Data 501 is lost, so the client requests it by its PDU 102; its heartbeat 103 overtakes that, so the server requests,
-- too.
both_ask : (drop 2 (requested 9).il.made ≡ at (nth request_il 2) 50 1 ∷ at (nth request_il 3) 400 1 ∷ [])
    × ((requested 9).il.connection ≡ Requesting)
    × (drop 3 (requested 10).fe.made ≡ at (nth request_fe 3) 410 2 ∷ []) × ((requested 10).fe.connection ≡ Requesting)
unfolding requests sn_of ahead
both_ask = (refl, refl, refl, refl)

-- Now the request arrives with exactly the number that the server expects: its distance is 0, and in RetrReq it is
-- answered as an early one.
request_next : (distance (kept_of (requested 10).fe) (nth request_il 2) ≡ 0)
    × (decide (kept_of (requested 10).fe) (nth request_il 2) 420 ≡ AnswersEarly)
unfolding requests sn_of ahead
request_next = (refl, refl)

-- RetrResp, both units and a heartbeat. The expected number and the state RetrReq stay, and no second request is made.
answered : (drop 4 (requested 11).fe.made ≡ at (nth request_fe 4) 420 2 ∷ at (nth request_fe 5) 420 2 ∷
    at (nth request_fe 6) 420 2
    ∷ at (nth request_fe 7) 420 2 ∷ [])
    × ((requested 11).fe.connection ≡ Requesting) × ((requested 11).fe.expected ≡ 2) × ((requested 11).fe.last_sn ≡ 101)
    × ((requested 11).fe.answered ≡ 2)
    × (unconfirmed (requested 11).fe ≡ (7 ∷ []) ∷ (8 ∷ []) ∷ [])
unfolding requests sn_of ahead
answered = (refl, refl, refl, refl, refl, refl)
