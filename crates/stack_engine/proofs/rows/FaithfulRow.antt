-- A faithful list of events, computed: two channels with losses on either and repeats on both, a window of two that
-- fills, and three messages packed in a unit. At its end both ends are Established, and everything put was taken.
use Rattle.stack_engine.proofs.Words.{[], after_block, after_round, ahead, AtOpened, Calls, CodeRule, decoded, Deliver, digest, Eight, EndState, Established}
use Rattle.stack_engine.proofs.Words.{Event, Faithful, FaithfulInstance, Fe, four_steps, Il, InitDone, INITIAL_VALUE, Item, length, List, Open, Phase, phase_in}
use Rattle.stack_engine.proofs.Words.{pieces_seen, present, Put, put_at, refl, run, sn_of, start, take, taken_at, tele_seen, true, unconfirmed, unit_seen, ℕ}
use Rattle.stack_engine.proofs.Words.{◌∷◌, ◌≡◌}
use Rattle.stack_engine.proofs.rows.FaithfulTests.{all-typed, all_of, course, HasRule, is_course, is_typed, Told}
use Rattle.stack_engine.proofs.rows.RowSettings.{fe_of, il_of}

-- the datagrams that the ends make, each under its index
abbrev i0 : List ℕ
i0 =
    58 ∷ 0 ∷ 0 ∷ 0 ∷ 0 ∷ 0 ∷ 0 ∷ 0 ∷ 50 ∷ 0 ∷ 56 ∷ 24 ∷ 2 ∷ 0 ∷ 0 ∷ 0 ∷ 1 ∷ 0 ∷ 0 ∷ 0 ∷ 100 ∷ 0 ∷ 0 ∷ 0 ∷ 0 ∷ 0 ∷ 0 ∷
    0 ∷ 100 ∷ 0 ∷ 0 ∷ 0 ∷ 0 ∷ 0 ∷ 0 ∷ 0 ∷ 48 ∷
    51 ∷ 48 ∷ 51 ∷ 2 ∷ 0 ∷ 0 ∷ 0 ∷ 0 ∷ 0 ∷ 0 ∷ 0 ∷ 0 ∷ 0 ∷ 73 ∷ 227 ∷ 246 ∷ 200 ∷ 135 ∷ 104 ∷ 35 ∷ 226 ∷ []

abbrev f0 : List ℕ
f0 =
    58 ∷ 0 ∷ 0 ∷ 0 ∷ 0 ∷ 0 ∷ 0 ∷ 0 ∷ 50 ∷ 0 ∷ 57 ∷ 24 ∷ 1 ∷ 0 ∷ 0 ∷ 0 ∷ 2 ∷ 0 ∷ 0 ∷ 0 ∷ 244 ∷ 1 ∷ 0 ∷ 0 ∷ 100 ∷ 0 ∷ 0 ∷
    0 ∷ 100 ∷ 0 ∷ 0 ∷ 0 ∷ 100 ∷ 0 ∷ 0 ∷ 0 ∷
    48 ∷ 51 ∷ 48 ∷ 51 ∷ 2 ∷ 0 ∷ 0 ∷ 0 ∷ 0 ∷ 0 ∷ 0 ∷ 0 ∷ 0 ∷ 0 ∷ 30 ∷ 123 ∷ 70 ∷ 61 ∷ 11 ∷ 178 ∷ 113 ∷ 111 ∷ []

abbrev i1 : List ℕ
i1 =
    44 ∷ 0 ∷ 0 ∷ 0 ∷ 1 ∷ 0 ∷ 0 ∷ 0 ∷ 36 ∷ 0 ∷ 76 ∷ 24 ∷ 2 ∷ 0 ∷ 0 ∷ 0 ∷ 1 ∷ 0 ∷ 0 ∷ 0 ∷ 101 ∷ 0 ∷ 0 ∷ 0 ∷ 244 ∷ 1 ∷ 0 ∷
    0 ∷ 100 ∷ 0 ∷ 0 ∷ 0 ∷ 100 ∷ 0 ∷ 0 ∷ 0 ∷
    53 ∷ 34 ∷ 5 ∷ 74 ∷ 211 ∷ 83 ∷ 237 ∷ 237 ∷ []

abbrev i2 : List ℕ
i2 =
    90 ∷ 0 ∷ 0 ∷ 0 ∷ 2 ∷ 0 ∷ 0 ∷ 0 ∷ 82 ∷ 0 ∷ 96 ∷ 24 ∷ 2 ∷ 0 ∷ 0 ∷ 0 ∷ 1 ∷ 0 ∷ 0 ∷ 0 ∷ 102 ∷ 0 ∷ 0 ∷ 0 ∷ 244 ∷ 1 ∷ 0 ∷
    0 ∷ 100 ∷ 0 ∷ 0 ∷ 0 ∷ 100 ∷ 0 ∷ 0 ∷ 0 ∷
    44 ∷ 0 ∷ 1 ∷ 36 ∷ 0 ∷ 73 ∷ 76 ∷ 49 ∷ 95 ∷ 95 ∷ 95 ∷ 95 ∷ 95 ∷ 95 ∷ 95 ∷ 95 ∷ 95 ∷ 95 ∷ 95 ∷ 95 ∷ 95 ∷ 95 ∷ 95 ∷ 95 ∷
    95 ∷ 70 ∷ 69 ∷ 49 ∷ 95 ∷ 95 ∷ 95 ∷ 95 ∷
    95 ∷ 95 ∷ 95 ∷ 95 ∷ 95 ∷ 95 ∷ 95 ∷ 95 ∷ 95 ∷ 95 ∷ 95 ∷ 95 ∷ 95 ∷ 3 ∷ 244 ∷ 117 ∷ 61 ∷ 28 ∷ 75 ∷ 44 ∷ 180 ∷ 3 ∷ []

abbrev f1 : List ℕ
f1 =
    44 ∷ 0 ∷ 0 ∷ 0 ∷ 1 ∷ 0 ∷ 0 ∷ 0 ∷ 36 ∷ 0 ∷ 76 ∷ 24 ∷ 1 ∷ 0 ∷ 0 ∷ 0 ∷ 2 ∷ 0 ∷ 0 ∷ 0 ∷ 245 ∷ 1 ∷ 0 ∷ 0 ∷ 102 ∷ 0 ∷ 0 ∷
    0 ∷ 100 ∷ 0 ∷ 0 ∷ 0 ∷ 100 ∷ 0 ∷ 0 ∷ 0 ∷
    182 ∷ 76 ∷ 99 ∷ 37 ∷ 211 ∷ 163 ∷ 175 ∷ 136 ∷ []

abbrev f2 : List ℕ
f2 =
    92 ∷ 0 ∷ 0 ∷ 0 ∷ 2 ∷ 0 ∷ 0 ∷ 0 ∷ 84 ∷ 0 ∷ 96 ∷ 24 ∷ 1 ∷ 0 ∷ 0 ∷ 0 ∷ 2 ∷ 0 ∷ 0 ∷ 0 ∷ 246 ∷ 1 ∷ 0 ∷ 0 ∷ 102 ∷ 0 ∷ 0 ∷
    0 ∷ 100 ∷ 0 ∷ 0 ∷ 0 ∷ 100 ∷ 0 ∷ 0 ∷ 0 ∷
    46 ∷ 0 ∷ 1 ∷ 37 ∷ 0 ∷ 70 ∷ 69 ∷ 49 ∷ 95 ∷ 95 ∷ 95 ∷ 95 ∷ 95 ∷ 95 ∷ 95 ∷ 95 ∷ 95 ∷ 95 ∷ 95 ∷ 95 ∷ 95 ∷ 95 ∷ 95 ∷ 95 ∷
    95 ∷ 73 ∷ 76 ∷ 49 ∷ 95 ∷ 95 ∷ 95 ∷ 95 ∷
    95 ∷ 95 ∷ 95 ∷ 95 ∷ 95 ∷ 95 ∷ 95 ∷ 95 ∷ 95 ∷ 95 ∷ 95 ∷ 95 ∷ 95 ∷ 2 ∷ 3 ∷ 0 ∷ 109 ∷ 2 ∷ 92 ∷ 112 ∷ 69 ∷ 34 ∷ 64 ∷
    69 ∷ []

abbrev i3 : List ℕ
i3 =
    44 ∷ 0 ∷ 0 ∷ 0 ∷ 3 ∷ 0 ∷ 0 ∷ 0 ∷ 36 ∷ 0 ∷ 76 ∷ 24 ∷ 2 ∷ 0 ∷ 0 ∷ 0 ∷ 1 ∷ 0 ∷ 0 ∷ 0 ∷ 103 ∷ 0 ∷ 0 ∷ 0 ∷ 246 ∷ 1 ∷ 0 ∷
    0 ∷ 100 ∷ 0 ∷ 0 ∷ 0 ∷ 100 ∷ 0 ∷ 0 ∷ 0 ∷
    117 ∷ 240 ∷ 96 ∷ 209 ∷ 114 ∷ 167 ∷ 65 ∷ 155 ∷ []

abbrev i4 : List ℕ
i4 =
    89 ∷ 0 ∷ 0 ∷ 0 ∷ 4 ∷ 0 ∷ 0 ∷ 0 ∷ 81 ∷ 0 ∷ 96 ∷ 24 ∷ 2 ∷ 0 ∷ 0 ∷ 0 ∷ 1 ∷ 0 ∷ 0 ∷ 0 ∷ 104 ∷ 0 ∷ 0 ∷ 0 ∷ 246 ∷ 1 ∷ 0 ∷
    0 ∷ 100 ∷ 0 ∷ 0 ∷ 0 ∷ 100 ∷ 0 ∷ 0 ∷ 0 ∷
    43 ∷ 0 ∷ 1 ∷ 33 ∷ 0 ∷ 73 ∷ 76 ∷ 49 ∷ 95 ∷ 95 ∷ 95 ∷ 95 ∷ 95 ∷ 95 ∷ 95 ∷ 95 ∷ 95 ∷ 95 ∷ 95 ∷ 95 ∷ 95 ∷ 95 ∷ 95 ∷ 95 ∷
    95 ∷ 70 ∷ 69 ∷ 49 ∷ 95 ∷ 95 ∷ 95 ∷ 95 ∷
    95 ∷ 95 ∷ 95 ∷ 95 ∷ 95 ∷ 95 ∷ 95 ∷ 95 ∷ 95 ∷ 95 ∷ 95 ∷ 95 ∷ 95 ∷ 142 ∷ 143 ∷ 161 ∷ 159 ∷ 84 ∷ 74 ∷ 65 ∷ 148 ∷ []

abbrev f3 : List ℕ
f3 =
    44 ∷ 0 ∷ 0 ∷ 0 ∷ 3 ∷ 0 ∷ 0 ∷ 0 ∷ 36 ∷ 0 ∷ 76 ∷ 24 ∷ 1 ∷ 0 ∷ 0 ∷ 0 ∷ 2 ∷ 0 ∷ 0 ∷ 0 ∷ 247 ∷ 1 ∷ 0 ∷ 0 ∷ 104 ∷ 0 ∷ 0 ∷
    0 ∷ 100 ∷ 0 ∷ 0 ∷ 0 ∷ 100 ∷ 0 ∷ 0 ∷ 0 ∷
    106 ∷ 84 ∷ 71 ∷ 63 ∷ 75 ∷ 111 ∷ 207 ∷ 13 ∷ []

abbrev f4 : List ℕ
f4 =
    89 ∷ 0 ∷ 0 ∷ 0 ∷ 4 ∷ 0 ∷ 0 ∷ 0 ∷ 81 ∷ 0 ∷ 96 ∷ 24 ∷ 1 ∷ 0 ∷ 0 ∷ 0 ∷ 2 ∷ 0 ∷ 0 ∷ 0 ∷ 248 ∷ 1 ∷ 0 ∷ 0 ∷ 104 ∷ 0 ∷ 0 ∷
    0 ∷ 100 ∷ 0 ∷ 0 ∷ 0 ∷ 100 ∷ 0 ∷ 0 ∷ 0 ∷
    43 ∷ 0 ∷ 1 ∷ 34 ∷ 0 ∷ 70 ∷ 69 ∷ 49 ∷ 95 ∷ 95 ∷ 95 ∷ 95 ∷ 95 ∷ 95 ∷ 95 ∷ 95 ∷ 95 ∷ 95 ∷ 95 ∷ 95 ∷ 95 ∷ 95 ∷ 95 ∷ 95 ∷
    95 ∷ 73 ∷ 76 ∷ 49 ∷ 95 ∷ 95 ∷ 95 ∷ 95 ∷
    95 ∷ 95 ∷ 95 ∷ 95 ∷ 95 ∷ 95 ∷ 95 ∷ 95 ∷ 95 ∷ 95 ∷ 95 ∷ 95 ∷ 95 ∷ 206 ∷ 66 ∷ 86 ∷ 27 ∷ 93 ∷ 53 ∷ 224 ∷ 36 ∷ []

abbrev i5 : List ℕ
i5 =
    44 ∷ 0 ∷ 0 ∷ 0 ∷ 5 ∷ 0 ∷ 0 ∷ 0 ∷ 36 ∷ 0 ∷ 76 ∷ 24 ∷ 2 ∷ 0 ∷ 0 ∷ 0 ∷ 1 ∷ 0 ∷ 0 ∷ 0 ∷ 105 ∷ 0 ∷ 0 ∷ 0 ∷ 248 ∷ 1 ∷ 0 ∷
    0 ∷ 100 ∷ 0 ∷ 0 ∷ 0 ∷ 100 ∷ 0 ∷ 0 ∷ 0 ∷
    94 ∷ 136 ∷ 11 ∷ 202 ∷ 246 ∷ 114 ∷ 198 ∷ 215 ∷ []

abbrev f5 : List ℕ
f5 =
    90 ∷ 0 ∷ 0 ∷ 0 ∷ 5 ∷ 0 ∷ 0 ∷ 0 ∷ 82 ∷ 0 ∷ 96 ∷ 24 ∷ 1 ∷ 0 ∷ 0 ∷ 0 ∷ 2 ∷ 0 ∷ 0 ∷ 0 ∷ 249 ∷ 1 ∷ 0 ∷ 0 ∷ 105 ∷ 0 ∷ 0 ∷
    0 ∷ 100 ∷ 0 ∷ 0 ∷ 0 ∷ 100 ∷ 0 ∷ 0 ∷ 0 ∷
    44 ∷ 0 ∷ 1 ∷ 0 ∷ 2 ∷ 70 ∷ 69 ∷ 49 ∷ 95 ∷ 95 ∷ 95 ∷ 95 ∷ 95 ∷ 95 ∷ 95 ∷ 95 ∷ 95 ∷ 95 ∷ 95 ∷ 95 ∷ 95 ∷ 95 ∷ 95 ∷ 95 ∷
    95 ∷ 73 ∷ 76 ∷ 49 ∷ 95 ∷ 95 ∷ 95 ∷ 95 ∷
    95 ∷ 95 ∷ 95 ∷ 95 ∷ 95 ∷ 95 ∷ 95 ∷ 95 ∷ 95 ∷ 95 ∷ 95 ∷ 95 ∷ 95 ∷ 1 ∷ 89 ∷ 112 ∷ 72 ∷ 40 ∷ 130 ∷ 25 ∷ 152 ∷ 186 ∷ []

abbrev f6 : List ℕ
f6 =
    89 ∷ 0 ∷ 0 ∷ 0 ∷ 6 ∷ 0 ∷ 0 ∷ 0 ∷ 81 ∷ 0 ∷ 96 ∷ 24 ∷ 1 ∷ 0 ∷ 0 ∷ 0 ∷ 2 ∷ 0 ∷ 0 ∷ 0 ∷ 250 ∷ 1 ∷ 0 ∷ 0 ∷ 105 ∷ 0 ∷ 0 ∷
    0 ∷ 100 ∷ 0 ∷ 0 ∷ 0 ∷ 100 ∷ 0 ∷ 0 ∷ 0 ∷
    43 ∷ 0 ∷ 1 ∷ 35 ∷ 0 ∷ 70 ∷ 69 ∷ 49 ∷ 95 ∷ 95 ∷ 95 ∷ 95 ∷ 95 ∷ 95 ∷ 95 ∷ 95 ∷ 95 ∷ 95 ∷ 95 ∷ 95 ∷ 95 ∷ 95 ∷ 95 ∷ 95 ∷
    95 ∷ 73 ∷ 76 ∷ 49 ∷ 95 ∷ 95 ∷ 95 ∷ 95 ∷
    95 ∷ 95 ∷ 95 ∷ 95 ∷ 95 ∷ 95 ∷ 95 ∷ 95 ∷ 95 ∷ 95 ∷ 95 ∷ 95 ∷ 95 ∷ 203 ∷ 98 ∷ 100 ∷ 4 ∷ 161 ∷ 147 ∷ 6 ∷ 35 ∷ []

abbrev i6 : List ℕ
i6 =
    44 ∷ 0 ∷ 0 ∷ 0 ∷ 6 ∷ 0 ∷ 0 ∷ 0 ∷ 36 ∷ 0 ∷ 76 ∷ 24 ∷ 2 ∷ 0 ∷ 0 ∷ 0 ∷ 1 ∷ 0 ∷ 0 ∷ 0 ∷ 106 ∷ 0 ∷ 0 ∷ 0 ∷ 249 ∷ 1 ∷ 0 ∷
    0 ∷ 100 ∷ 0 ∷ 0 ∷ 0 ∷ 100 ∷ 0 ∷ 0 ∷ 0 ∷
    50 ∷ 13 ∷ 227 ∷ 96 ∷ 40 ∷ 73 ∷ 252 ∷ 151 ∷ []

abbrev i7 : List ℕ
i7 =
    44 ∷ 0 ∷ 0 ∷ 0 ∷ 7 ∷ 0 ∷ 0 ∷ 0 ∷ 36 ∷ 0 ∷ 76 ∷ 24 ∷ 2 ∷ 0 ∷ 0 ∷ 0 ∷ 1 ∷ 0 ∷ 0 ∷ 0 ∷ 107 ∷ 0 ∷ 0 ∷ 0 ∷ 250 ∷ 1 ∷ 0 ∷
    0 ∷ 100 ∷ 0 ∷ 0 ∷ 0 ∷ 100 ∷ 0 ∷ 0 ∷ 0 ∷
    173 ∷ 183 ∷ 51 ∷ 204 ∷ 62 ∷ 87 ∷ 70 ∷ 25 ∷ []

abbrev i8 : List ℕ
i8 =
    90 ∷ 0 ∷ 0 ∷ 0 ∷ 8 ∷ 0 ∷ 0 ∷ 0 ∷ 82 ∷ 0 ∷ 96 ∷ 24 ∷ 2 ∷ 0 ∷ 0 ∷ 0 ∷ 1 ∷ 0 ∷ 0 ∷ 0 ∷ 108 ∷ 0 ∷ 0 ∷ 0 ∷ 250 ∷ 1 ∷ 0 ∷
    0 ∷ 100 ∷ 0 ∷ 0 ∷ 0 ∷ 100 ∷ 0 ∷ 0 ∷ 0 ∷
    44 ∷ 0 ∷ 1 ∷ 0 ∷ 1 ∷ 73 ∷ 76 ∷ 49 ∷ 95 ∷ 95 ∷ 95 ∷ 95 ∷ 95 ∷ 95 ∷ 95 ∷ 95 ∷ 95 ∷ 95 ∷ 95 ∷ 95 ∷ 95 ∷ 95 ∷ 95 ∷ 95 ∷
    95 ∷ 70 ∷ 69 ∷ 49 ∷ 95 ∷ 95 ∷ 95 ∷ 95 ∷
    95 ∷ 95 ∷ 95 ∷ 95 ∷ 95 ∷ 95 ∷ 95 ∷ 95 ∷ 95 ∷ 95 ∷ 95 ∷ 95 ∷ 95 ∷ 1 ∷ 44 ∷ 39 ∷ 251 ∷ 5 ∷ 98 ∷ 91 ∷ 233 ∷ 144 ∷ []

abbrev i9 : List ℕ
i9 =
    90 ∷ 0 ∷ 0 ∷ 0 ∷ 9 ∷ 0 ∷ 0 ∷ 0 ∷ 82 ∷ 0 ∷ 96 ∷ 24 ∷ 2 ∷ 0 ∷ 0 ∷ 0 ∷ 1 ∷ 0 ∷ 0 ∷ 0 ∷ 109 ∷ 0 ∷ 0 ∷ 0 ∷ 250 ∷ 1 ∷ 0 ∷
    0 ∷ 100 ∷ 0 ∷ 0 ∷ 0 ∷ 100 ∷ 0 ∷ 0 ∷ 0 ∷
    44 ∷ 0 ∷ 1 ∷ 0 ∷ 1 ∷ 73 ∷ 76 ∷ 49 ∷ 95 ∷ 95 ∷ 95 ∷ 95 ∷ 95 ∷ 95 ∷ 95 ∷ 95 ∷ 95 ∷ 95 ∷ 95 ∷ 95 ∷ 95 ∷ 95 ∷ 95 ∷ 95 ∷
    95 ∷ 70 ∷ 69 ∷ 49 ∷ 95 ∷ 95 ∷ 95 ∷ 95 ∷
    95 ∷ 95 ∷ 95 ∷ 95 ∷ 95 ∷ 95 ∷ 95 ∷ 95 ∷ 95 ∷ 95 ∷ 95 ∷ 95 ∷ 95 ∷ 2 ∷ 31 ∷ 64 ∷ 59 ∷ 209 ∷ 71 ∷ 155 ∷ 23 ∷ 50 ∷ []

abbrev f7 : List ℕ
f7 =
    44 ∷ 0 ∷ 0 ∷ 0 ∷ 7 ∷ 0 ∷ 0 ∷ 0 ∷ 36 ∷ 0 ∷ 76 ∷ 24 ∷ 1 ∷ 0 ∷ 0 ∷ 0 ∷ 2 ∷ 0 ∷ 0 ∷ 0 ∷ 251 ∷ 1 ∷ 0 ∷ 0 ∷ 108 ∷ 0 ∷ 0 ∷
    0 ∷ 100 ∷ 0 ∷ 0 ∷ 0 ∷ 100 ∷ 0 ∷ 0 ∷ 0 ∷
    161 ∷ 161 ∷ 194 ∷ 69 ∷ 197 ∷ 109 ∷ 71 ∷ 179 ∷ []

abbrev f8 : List ℕ
f8 =
    44 ∷ 0 ∷ 0 ∷ 0 ∷ 8 ∷ 0 ∷ 0 ∷ 0 ∷ 36 ∷ 0 ∷ 76 ∷ 24 ∷ 1 ∷ 0 ∷ 0 ∷ 0 ∷ 2 ∷ 0 ∷ 0 ∷ 0 ∷ 252 ∷ 1 ∷ 0 ∷ 0 ∷ 109 ∷ 0 ∷ 0 ∷
    0 ∷ 100 ∷ 0 ∷ 0 ∷ 0 ∷ 100 ∷ 0 ∷ 0 ∷ 0 ∷
    155 ∷ 194 ∷ 64 ∷ 193 ∷ 126 ∷ 202 ∷ 195 ∷ 175 ∷ []

abbrev i10 : List ℕ
i10 =
    182 ∷ 0 ∷ 0 ∷ 0 ∷ 10 ∷ 0 ∷ 0 ∷ 0 ∷ 174 ∷ 0 ∷ 96 ∷ 24 ∷ 2 ∷ 0 ∷ 0 ∷ 0 ∷ 1 ∷ 0 ∷ 0 ∷ 0 ∷ 110 ∷ 0 ∷ 0 ∷ 0 ∷ 251 ∷ 1 ∷
    0 ∷ 0 ∷ 100 ∷ 0 ∷ 0 ∷ 0 ∷ 100 ∷ 0 ∷ 0 ∷
    0 ∷ 44 ∷ 0 ∷ 1 ∷ 0 ∷ 1 ∷ 73 ∷ 76 ∷ 49 ∷ 95 ∷ 95 ∷ 95 ∷ 95 ∷ 95 ∷ 95 ∷ 95 ∷ 95 ∷ 95 ∷ 95 ∷ 95 ∷ 95 ∷ 95 ∷ 95 ∷ 95 ∷
    95 ∷ 95 ∷ 70 ∷ 69 ∷ 49 ∷ 95 ∷ 95 ∷ 95 ∷
    95 ∷ 95 ∷ 95 ∷ 95 ∷ 95 ∷ 95 ∷ 95 ∷ 95 ∷ 95 ∷ 95 ∷ 95 ∷ 95 ∷ 95 ∷ 95 ∷ 3 ∷ 44 ∷ 0 ∷ 1 ∷ 0 ∷ 1 ∷ 73 ∷ 76 ∷ 49 ∷ 95 ∷
    95 ∷ 95 ∷ 95 ∷ 95 ∷ 95 ∷ 95 ∷ 95 ∷ 95 ∷
    95 ∷ 95 ∷ 95 ∷ 95 ∷ 95 ∷ 95 ∷ 95 ∷ 95 ∷ 70 ∷ 69 ∷ 49 ∷ 95 ∷ 95 ∷ 95 ∷ 95 ∷ 95 ∷ 95 ∷ 95 ∷ 95 ∷ 95 ∷ 95 ∷ 95 ∷ 95 ∷
    95 ∷ 95 ∷ 95 ∷ 95 ∷ 95 ∷ 4 ∷ 44 ∷ 0 ∷ 1 ∷
    0 ∷ 1 ∷ 73 ∷ 76 ∷ 49 ∷ 95 ∷ 95 ∷ 95 ∷ 95 ∷ 95 ∷ 95 ∷ 95 ∷ 95 ∷ 95 ∷ 95 ∷ 95 ∷ 95 ∷ 95 ∷ 95 ∷ 95 ∷ 95 ∷ 95 ∷ 70 ∷
    69 ∷ 49 ∷ 95 ∷ 95 ∷ 95 ∷ 95 ∷ 95 ∷ 95 ∷
    95 ∷ 95 ∷ 95 ∷ 95 ∷ 95 ∷ 95 ∷ 95 ∷ 95 ∷ 95 ∷ 95 ∷ 95 ∷ 5 ∷ 109 ∷ 29 ∷ 168 ∷ 37 ∷ 218 ∷ 254 ∷ 116 ∷ 178 ∷ []

abbrev f9 : List ℕ
f9 =
    44 ∷ 0 ∷ 0 ∷ 0 ∷ 9 ∷ 0 ∷ 0 ∷ 0 ∷ 36 ∷ 0 ∷ 76 ∷ 24 ∷ 1 ∷ 0 ∷ 0 ∷ 0 ∷ 2 ∷ 0 ∷ 0 ∷ 0 ∷ 253 ∷ 1 ∷ 0 ∷ 0 ∷ 110 ∷ 0 ∷ 0 ∷
    0 ∷ 100 ∷ 0 ∷ 0 ∷ 0 ∷ 100 ∷ 0 ∷ 0 ∷ 0 ∷
    163 ∷ 37 ∷ 180 ∷ 100 ∷ 18 ∷ 77 ∷ 38 ∷ 72 ∷ []

-- a session is set up over two channels, a status and five commands are put
abbrev pub events : List Event
events =
    Open Fe (fe_of 2 1) 500 100 ∷ Open Il (il_of 2 1) 100 100 ∷ Calls Fe (Deliver 1 i0 100) ∷
    Calls Il (Deliver 1 f0 100) ∷ Calls Fe (Deliver 2 i1 100) ∷
    Calls Fe (Deliver 1 i2 100) ∷ Calls Fe (Deliver 2 i2 100) ∷ Calls Il (Deliver 2 f1 100) ∷
    Calls Il (Deliver 1 f2 100) ∷ Calls Il (Deliver 2 f2 100) ∷
    Calls Fe (Deliver 2 i3 100) ∷ Calls Fe (Deliver 1 i3 100) ∷ Calls Fe (Deliver 1 i4 100) ∷
    Calls Il (Deliver 2 f3 100) ∷ Calls Il (Deliver 1 f3 100) ∷
    Calls Il (Deliver 1 f4 100) ∷ Calls Fe (Deliver 2 i5 100) ∷ Calls Fe (Put 512 (1 ∷ []) 100) ∷
    Calls Fe (InitDone 100) ∷ Calls Il (Deliver 2 f5 100) ∷
    Calls Il (Deliver 1 f6 100) ∷ Calls Il (Deliver 2 f6 100) ∷ Calls Fe (Deliver 1 i6 100) ∷
    Calls Fe (Deliver 2 i6 100) ∷ Calls Fe (Deliver 2 i7 100) ∷
    Calls Fe (Deliver 1 i7 100) ∷ Calls Il (Put 256 (1 ∷ []) 100) ∷ Calls Il (Put 256 (2 ∷ []) 100) ∷
    Calls Il (Put 256 (3 ∷ []) 100) ∷
    Calls Il (Put 256 (4 ∷ []) 100) ∷ Calls Il (Put 256 (5 ∷ []) 100) ∷ Calls Fe (Deliver 1 i8 100) ∷
    Calls Fe (Deliver 2 i9 100) ∷
    Calls Il (Deliver 2 f7 100) ∷ Calls Il (Deliver 1 f7 100) ∷ Calls Il (Deliver 1 f8 100) ∷
    Calls Fe (Deliver 1 i10 100) ∷ Calls Fe (Deliver 2 i10 100) ∷
    Calls Il (Deliver 2 f9 100) ∷ []

rule : CodeRule
rule = record { length = Eight; initial_value = INITIAL_VALUE }

rules : AtOpened (HasRule rule) (present Il (run events start))
    × AtOpened (HasRule rule) (present Fe (run events start))
unfolding rule sn_of ahead four_steps after_round after_block digest pieces_seen unit_seen tele_seen decoded
rules = (refl, refl)

told : is_course events start ≡ true
unfolding sn_of ahead four_steps after_round after_block digest pieces_seen unit_seen tele_seen decoded
told = refl

-- at its end: the phase of an end, what was put at its peer, and what it took
record Course (phase : Phase) (put taken : List Item) (x : EndState) : Type 0 where
  phase_is : phase_in x.session ≡ phase
  put_is : put_at x ≡ put
  taken_is : taken_at x ≡ taken
  nothing_waits : x.session.waiting ≡ []

commands : List Item
commands = (256, 1 ∷ []) ∷ (256, 2 ∷ []) ∷ (256, 3 ∷ []) ∷ (256, 4 ∷ []) ∷ (256, 5 ∷ []) ∷ []

status : List Item
status = (512, 1 ∷ []) ∷ []

il-course : AtOpened (Course Established commands status) (present Il (run events start))
unfolding commands status sn_of ahead four_steps after_round after_block digest pieces_seen unit_seen tele_seen decoded
il-course = record { phase_is = refl; put_is = refl; taken_is = refl; nothing_waits = refl }

fe-course : AtOpened (Course Established status commands) (present Fe (run events start))
unfolding commands status sn_of ahead four_steps after_round after_block digest pieces_seen unit_seen tele_seen decoded
fe-course = record { phase_is = refl; put_is = refl; taken_is = refl; nothing_waits = refl }

-- after the fifth put the window of two is full, and three messages wait
window-filled : AtOpened (λ x. (length (unconfirmed x.machine) ≡ 2) × (length x.session.waiting ≡ 3))
    (present Il (run (take 31 events) start))
unfolding sn_of ahead four_steps after_round after_block digest pieces_seen unit_seen tele_seen decoded
window-filled = (refl, refl)

-- these three are taken from one datagram
three-at-once : AtOpened (λ x. length (taken_at x) ≡ 2) (present Fe (run (take 36 events) start))
    × AtOpened (λ x. length (taken_at x) ≡ 5) (present Fe (run (take 37 events) start))
unfolding sn_of ahead four_steps after_round after_block digest pieces_seen unit_seen tele_seen decoded
three-at-once = (refl, refl)

pub instance-by : (es : List Event) → Told es start → all_of is_typed es ≡ true → FaithfulInstance es
instance-by es t typed =
    let events-typed = all-typed es typed in
    let faithful : Faithful es =
    record { genuine = t.genuine; events = t.events; il_near = t.il_near; fe_near = t.fe_near; same_rule = t.same_rule }
    in
    record {
      typed = events-typed;
      faithful = faithful;
      arrived = t.arrived;
      nothing_lost = λ law. law es events-typed faithful;
      promised = λ p. p.nothing_lost faithful;
    }

pub instance : FaithfulInstance events
instance = instance-by events (course rule events start rules.0 rules.1 told) refl
