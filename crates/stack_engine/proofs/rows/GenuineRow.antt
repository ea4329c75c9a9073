-- A genuine list of events, computed: a command is lost and sent again, the one after it is deferred, and status is
-- taken; then both ends are opened again, and in the second session both directions are used. At its end both ends are
-- settled.
use Rattle.stack_engine.proofs.Words.{[], after_block, after_round, ahead, Calls, decoded, Deliver, digest, drop, ends_of, Event, Faithful, Fe, four_steps}
use Rattle.stack_engine.proofs.Words.{Genuine, GenuineInstance, Il, InitDone, is_settled, joins_in, List, map, Open, option_map, pieces_seen, present, Put}
use Rattle.stack_engine.proofs.Words.{refl, run, sn_of, Some, start, taken_at, tele_seen, Tick, true, unit_seen, ℕ, ◌++◌, ◌∷◌, ◌≡◌}
use Rattle.stack_engine.proofs.rows.FaithfulTests.{all-genuine, all-typed, are_good, faithful-at}
use Rattle.stack_engine.proofs.rows.RowSettings.{fe_of, il_of}

-- the datagrams that the ends make, each under its index; those of the second opening with a b
abbrev i0 : List ℕ
i0 =
    58 ∷ 0 ∷ 0 ∷ 0 ∷ 0 ∷ 0 ∷ 0 ∷ 0 ∷ 50 ∷ 0 ∷ 56 ∷ 24 ∷ 2 ∷ 0 ∷ 0 ∷ 0 ∷ 1 ∷ 0 ∷ 0 ∷ 0 ∷ 100 ∷ 0 ∷ 0 ∷ 0 ∷ 0 ∷ 0 ∷ 0 ∷
    0 ∷ 100 ∷ 0 ∷ 0 ∷ 0 ∷ 0 ∷ 0 ∷ 0 ∷ 0 ∷ 48 ∷
    51 ∷ 48 ∷ 51 ∷ 20 ∷ 0 ∷ 0 ∷ 0 ∷ 0 ∷ 0 ∷ 0 ∷ 0 ∷ 0 ∷ 0 ∷ 131 ∷ 202 ∷ 171 ∷ 11 ∷ 113 ∷ 188 ∷ 81 ∷ 240 ∷ []

abbrev f0 : List ℕ
f0 =
    58 ∷ 0 ∷ 0 ∷ 0 ∷ 0 ∷ 0 ∷ 0 ∷ 0 ∷ 50 ∷ 0 ∷ 57 ∷ 24 ∷ 1 ∷ 0 ∷ 0 ∷ 0 ∷ 2 ∷ 0 ∷ 0 ∷ 0 ∷ 244 ∷ 1 ∷ 0 ∷ 0 ∷ 100 ∷ 0 ∷ 0 ∷
    0 ∷ 136 ∷ 19 ∷ 0 ∷ 0 ∷ 100 ∷ 0 ∷ 0 ∷ 0 ∷
    48 ∷ 51 ∷ 48 ∷ 51 ∷ 20 ∷ 0 ∷ 0 ∷ 0 ∷ 0 ∷ 0 ∷ 0 ∷ 0 ∷ 0 ∷ 0 ∷ 113 ∷ 97 ∷ 230 ∷ 133 ∷ 162 ∷ 237 ∷ 2 ∷ 138 ∷ []

abbrev i1 : List ℕ
i1 =
    44 ∷ 0 ∷ 0 ∷ 0 ∷ 1 ∷ 0 ∷ 0 ∷ 0 ∷ 36 ∷ 0 ∷ 76 ∷ 24 ∷ 2 ∷ 0 ∷ 0 ∷ 0 ∷ 1 ∷ 0 ∷ 0 ∷ 0 ∷ 101 ∷ 0 ∷ 0 ∷ 0 ∷ 244 ∷ 1 ∷ 0 ∷
    0 ∷ 100 ∷ 0 ∷ 0 ∷ 0 ∷ 136 ∷ 19 ∷ 0 ∷ 0 ∷
    246 ∷ 180 ∷ 181 ∷ 146 ∷ 188 ∷ 49 ∷ 60 ∷ 218 ∷ []

abbrev i2 : List ℕ
i2 =
    90 ∷ 0 ∷ 0 ∷ 0 ∷ 2 ∷ 0 ∷ 0 ∷ 0 ∷ 82 ∷ 0 ∷ 96 ∷ 24 ∷ 2 ∷ 0 ∷ 0 ∷ 0 ∷ 1 ∷ 0 ∷ 0 ∷ 0 ∷ 102 ∷ 0 ∷ 0 ∷ 0 ∷ 244 ∷ 1 ∷ 0 ∷
    0 ∷ 100 ∷ 0 ∷ 0 ∷ 0 ∷ 136 ∷ 19 ∷ 0 ∷ 0 ∷
    44 ∷ 0 ∷ 1 ∷ 36 ∷ 0 ∷ 73 ∷ 76 ∷ 49 ∷ 95 ∷ 95 ∷ 95 ∷ 95 ∷ 95 ∷ 95 ∷ 95 ∷ 95 ∷ 95 ∷ 95 ∷ 95 ∷ 95 ∷ 95 ∷ 95 ∷ 95 ∷ 95 ∷
    95 ∷ 70 ∷ 69 ∷ 49 ∷ 95 ∷ 95 ∷ 95 ∷ 95 ∷
    95 ∷ 95 ∷ 95 ∷ 95 ∷ 95 ∷ 95 ∷ 95 ∷ 95 ∷ 95 ∷ 95 ∷ 95 ∷ 95 ∷ 95 ∷ 3 ∷ 193 ∷ 122 ∷ 76 ∷ 17 ∷ 86 ∷ 108 ∷ 41 ∷ 1 ∷ []

abbrev f1 : List ℕ
f1 =
    92 ∷ 0 ∷ 0 ∷ 0 ∷ 1 ∷ 0 ∷ 0 ∷ 0 ∷ 84 ∷ 0 ∷ 96 ∷ 24 ∷ 1 ∷ 0 ∷ 0 ∷ 0 ∷ 2 ∷ 0 ∷ 0 ∷ 0 ∷ 245 ∷ 1 ∷ 0 ∷ 0 ∷ 102 ∷ 0 ∷ 0 ∷
    0 ∷ 136 ∷ 19 ∷ 0 ∷ 0 ∷ 100 ∷ 0 ∷ 0 ∷ 0 ∷
    46 ∷ 0 ∷ 1 ∷ 37 ∷ 0 ∷ 70 ∷ 69 ∷ 49 ∷ 95 ∷ 95 ∷ 95 ∷ 95 ∷ 95 ∷ 95 ∷ 95 ∷ 95 ∷ 95 ∷ 95 ∷ 95 ∷ 95 ∷ 95 ∷ 95 ∷ 95 ∷ 95 ∷
    95 ∷ 73 ∷ 76 ∷ 49 ∷ 95 ∷ 95 ∷ 95 ∷ 95 ∷
    95 ∷ 95 ∷ 95 ∷ 95 ∷ 95 ∷ 95 ∷ 95 ∷ 95 ∷ 95 ∷ 95 ∷ 95 ∷ 95 ∷ 95 ∷ 2 ∷ 3 ∷ 0 ∷ 206 ∷ 4 ∷ 125 ∷ 210 ∷ 53 ∷ 173 ∷ 34 ∷
    34 ∷ []

abbrev i3 : List ℕ
i3 =
    89 ∷ 0 ∷ 0 ∷ 0 ∷ 3 ∷ 0 ∷ 0 ∷ 0 ∷ 81 ∷ 0 ∷ 96 ∷ 24 ∷ 2 ∷ 0 ∷ 0 ∷ 0 ∷ 1 ∷ 0 ∷ 0 ∷ 0 ∷ 103 ∷ 0 ∷ 0 ∷ 0 ∷ 245 ∷ 1 ∷ 0 ∷
    0 ∷ 100 ∷ 0 ∷ 0 ∷ 0 ∷ 136 ∷ 19 ∷ 0 ∷ 0 ∷
    43 ∷ 0 ∷ 1 ∷ 33 ∷ 0 ∷ 73 ∷ 76 ∷ 49 ∷ 95 ∷ 95 ∷ 95 ∷ 95 ∷ 95 ∷ 95 ∷ 95 ∷ 95 ∷ 95 ∷ 95 ∷ 95 ∷ 95 ∷ 95 ∷ 95 ∷ 95 ∷ 95 ∷
    95 ∷ 70 ∷ 69 ∷ 49 ∷ 95 ∷ 95 ∷ 95 ∷ 95 ∷
    95 ∷ 95 ∷ 95 ∷ 95 ∷ 95 ∷ 95 ∷ 95 ∷ 95 ∷ 95 ∷ 95 ∷ 95 ∷ 95 ∷ 95 ∷ 44 ∷ 249 ∷ 229 ∷ 96 ∷ 134 ∷ 224 ∷ 77 ∷ 203 ∷ []

abbrev f2 : List ℕ
f2 =
    89 ∷ 0 ∷ 0 ∷ 0 ∷ 2 ∷ 0 ∷ 0 ∷ 0 ∷ 81 ∷ 0 ∷ 96 ∷ 24 ∷ 1 ∷ 0 ∷ 0 ∷ 0 ∷ 2 ∷ 0 ∷ 0 ∷ 0 ∷ 246 ∷ 1 ∷ 0 ∷ 0 ∷ 103 ∷ 0 ∷ 0 ∷
    0 ∷ 136 ∷ 19 ∷ 0 ∷ 0 ∷ 100 ∷ 0 ∷ 0 ∷ 0 ∷
    43 ∷ 0 ∷ 1 ∷ 34 ∷ 0 ∷ 70 ∷ 69 ∷ 49 ∷ 95 ∷ 95 ∷ 95 ∷ 95 ∷ 95 ∷ 95 ∷ 95 ∷ 95 ∷ 95 ∷ 95 ∷ 95 ∷ 95 ∷ 95 ∷ 95 ∷ 95 ∷ 95 ∷
    95 ∷ 73 ∷ 76 ∷ 49 ∷ 95 ∷ 95 ∷ 95 ∷ 95 ∷
    95 ∷ 95 ∷ 95 ∷ 95 ∷ 95 ∷ 95 ∷ 95 ∷ 95 ∷ 95 ∷ 95 ∷ 95 ∷ 95 ∷ 95 ∷ 195 ∷ 113 ∷ 43 ∷ 213 ∷ 176 ∷ 3 ∷ 178 ∷ 178 ∷ []

abbrev f3 : List ℕ
f3 =
    89 ∷ 0 ∷ 0 ∷ 0 ∷ 3 ∷ 0 ∷ 0 ∷ 0 ∷ 81 ∷ 0 ∷ 96 ∷ 24 ∷ 1 ∷ 0 ∷ 0 ∷ 0 ∷ 2 ∷ 0 ∷ 0 ∷ 0 ∷ 247 ∷ 1 ∷ 0 ∷ 0 ∷ 103 ∷ 0 ∷ 0 ∷
    0 ∷ 136 ∷ 19 ∷ 0 ∷ 0 ∷ 100 ∷ 0 ∷ 0 ∷ 0 ∷
    43 ∷ 0 ∷ 1 ∷ 35 ∷ 0 ∷ 70 ∷ 69 ∷ 49 ∷ 95 ∷ 95 ∷ 95 ∷ 95 ∷ 95 ∷ 95 ∷ 95 ∷ 95 ∷ 95 ∷ 95 ∷ 95 ∷ 95 ∷ 95 ∷ 95 ∷ 95 ∷ 95 ∷
    95 ∷ 73 ∷ 76 ∷ 49 ∷ 95 ∷ 95 ∷ 95 ∷ 95 ∷
    95 ∷ 95 ∷ 95 ∷ 95 ∷ 95 ∷ 95 ∷ 95 ∷ 95 ∷ 95 ∷ 95 ∷ 95 ∷ 95 ∷ 95 ∷ 62 ∷ 215 ∷ 239 ∷ 157 ∷ 17 ∷ 191 ∷ 169 ∷ 221 ∷ []

abbrev i5 : List ℕ
i5 =
    90 ∷ 0 ∷ 0 ∷ 0 ∷ 5 ∷ 0 ∷ 0 ∷ 0 ∷ 82 ∷ 0 ∷ 96 ∷ 24 ∷ 2 ∷ 0 ∷ 0 ∷ 0 ∷ 1 ∷ 0 ∷ 0 ∷ 0 ∷ 105 ∷ 0 ∷ 0 ∷ 0 ∷ 247 ∷ 1 ∷ 0 ∷
    0 ∷ 100 ∷ 0 ∷ 0 ∷ 0 ∷ 136 ∷ 19 ∷ 0 ∷ 0 ∷
    44 ∷ 0 ∷ 1 ∷ 0 ∷ 1 ∷ 73 ∷ 76 ∷ 49 ∷ 95 ∷ 95 ∷ 95 ∷ 95 ∷ 95 ∷ 95 ∷ 95 ∷ 95 ∷ 95 ∷ 95 ∷ 95 ∷ 95 ∷ 95 ∷ 95 ∷ 95 ∷ 95 ∷
    95 ∷ 70 ∷ 69 ∷ 49 ∷ 95 ∷ 95 ∷ 95 ∷ 95 ∷
    95 ∷ 95 ∷ 95 ∷ 95 ∷ 95 ∷ 95 ∷ 95 ∷ 95 ∷ 95 ∷ 95 ∷ 95 ∷ 95 ∷ 95 ∷ 2 ∷ 45 ∷ 136 ∷ 26 ∷ 158 ∷ 36 ∷ 156 ∷ 233 ∷ 233 ∷ []

abbrev f4 : List ℕ
f4 =
    44 ∷ 0 ∷ 0 ∷ 0 ∷ 4 ∷ 0 ∷ 0 ∷ 0 ∷ 36 ∷ 0 ∷ 68 ∷ 24 ∷ 1 ∷ 0 ∷ 0 ∷ 0 ∷ 2 ∷ 0 ∷ 0 ∷ 0 ∷ 248 ∷ 1 ∷ 0 ∷ 0 ∷ 103 ∷ 0 ∷ 0 ∷
    0 ∷ 186 ∷ 19 ∷ 0 ∷ 0 ∷ 100 ∷ 0 ∷ 0 ∷ 0 ∷
    5 ∷ 108 ∷ 188 ∷ 199 ∷ 234 ∷ 56 ∷ 198 ∷ 249 ∷ []

abbrev i6 : List ℕ
i6 =
    44 ∷ 0 ∷ 0 ∷ 0 ∷ 6 ∷ 0 ∷ 0 ∷ 0 ∷ 36 ∷ 0 ∷ 69 ∷ 24 ∷ 2 ∷ 0 ∷ 0 ∷ 0 ∷ 1 ∷ 0 ∷ 0 ∷ 0 ∷ 106 ∷ 0 ∷ 0 ∷ 0 ∷ 248 ∷ 1 ∷ 0 ∷
    0 ∷ 150 ∷ 0 ∷ 0 ∷ 0 ∷ 186 ∷ 19 ∷ 0 ∷ 0 ∷
    130 ∷ 12 ∷ 166 ∷ 159 ∷ 98 ∷ 80 ∷ 215 ∷ 74 ∷ []

abbrev i7 : List ℕ
i7 =
    90 ∷ 0 ∷ 0 ∷ 0 ∷ 7 ∷ 0 ∷ 0 ∷ 0 ∷ 82 ∷ 0 ∷ 97 ∷ 24 ∷ 2 ∷ 0 ∷ 0 ∷ 0 ∷ 1 ∷ 0 ∷ 0 ∷ 0 ∷ 107 ∷ 0 ∷ 0 ∷ 0 ∷ 248 ∷ 1 ∷ 0 ∷
    0 ∷ 150 ∷ 0 ∷ 0 ∷ 0 ∷ 186 ∷ 19 ∷ 0 ∷ 0 ∷
    44 ∷ 0 ∷ 1 ∷ 0 ∷ 1 ∷ 73 ∷ 76 ∷ 49 ∷ 95 ∷ 95 ∷ 95 ∷ 95 ∷ 95 ∷ 95 ∷ 95 ∷ 95 ∷ 95 ∷ 95 ∷ 95 ∷ 95 ∷ 95 ∷ 95 ∷ 95 ∷ 95 ∷
    95 ∷ 70 ∷ 69 ∷ 49 ∷ 95 ∷ 95 ∷ 95 ∷ 95 ∷
    95 ∷ 95 ∷ 95 ∷ 95 ∷ 95 ∷ 95 ∷ 95 ∷ 95 ∷ 95 ∷ 95 ∷ 95 ∷ 95 ∷ 95 ∷ 1 ∷ 26 ∷ 191 ∷ 252 ∷ 120 ∷ 72 ∷ 9 ∷ 211 ∷ 119 ∷ []

abbrev i8 : List ℕ
i8 =
    90 ∷ 0 ∷ 0 ∷ 0 ∷ 8 ∷ 0 ∷ 0 ∷ 0 ∷ 82 ∷ 0 ∷ 97 ∷ 24 ∷ 2 ∷ 0 ∷ 0 ∷ 0 ∷ 1 ∷ 0 ∷ 0 ∷ 0 ∷ 108 ∷ 0 ∷ 0 ∷ 0 ∷ 248 ∷ 1 ∷ 0 ∷
    0 ∷ 150 ∷ 0 ∷ 0 ∷ 0 ∷ 186 ∷ 19 ∷ 0 ∷ 0 ∷
    44 ∷ 0 ∷ 1 ∷ 0 ∷ 1 ∷ 73 ∷ 76 ∷ 49 ∷ 95 ∷ 95 ∷ 95 ∷ 95 ∷ 95 ∷ 95 ∷ 95 ∷ 95 ∷ 95 ∷ 95 ∷ 95 ∷ 95 ∷ 95 ∷ 95 ∷ 95 ∷ 95 ∷
    95 ∷ 70 ∷ 69 ∷ 49 ∷ 95 ∷ 95 ∷ 95 ∷ 95 ∷
    95 ∷ 95 ∷ 95 ∷ 95 ∷ 95 ∷ 95 ∷ 95 ∷ 95 ∷ 95 ∷ 95 ∷ 95 ∷ 95 ∷ 95 ∷ 2 ∷ 31 ∷ 102 ∷ 18 ∷ 16 ∷ 247 ∷ 120 ∷ 45 ∷ 102 ∷ []

abbrev i9 : List ℕ
i9 =
    44 ∷ 0 ∷ 0 ∷ 0 ∷ 9 ∷ 0 ∷ 0 ∷ 0 ∷ 36 ∷ 0 ∷ 76 ∷ 24 ∷ 2 ∷ 0 ∷ 0 ∷ 0 ∷ 1 ∷ 0 ∷ 0 ∷ 0 ∷ 109 ∷ 0 ∷ 0 ∷ 0 ∷ 248 ∷ 1 ∷ 0 ∷
    0 ∷ 150 ∷ 0 ∷ 0 ∷ 0 ∷ 186 ∷ 19 ∷ 0 ∷ 0 ∷
    239 ∷ 169 ∷ 217 ∷ 15 ∷ 82 ∷ 183 ∷ 112 ∷ 54 ∷ []

abbrev f5 : List ℕ
f5 =
    90 ∷ 0 ∷ 0 ∷ 0 ∷ 5 ∷ 0 ∷ 0 ∷ 0 ∷ 82 ∷ 0 ∷ 96 ∷ 24 ∷ 1 ∷ 0 ∷ 0 ∷ 0 ∷ 2 ∷ 0 ∷ 0 ∷ 0 ∷ 249 ∷ 1 ∷ 0 ∷ 0 ∷ 109 ∷ 0 ∷ 0 ∷
    0 ∷ 186 ∷ 19 ∷ 0 ∷ 0 ∷ 150 ∷ 0 ∷ 0 ∷ 0 ∷
    44 ∷ 0 ∷ 1 ∷ 0 ∷ 2 ∷ 70 ∷ 69 ∷ 49 ∷ 95 ∷ 95 ∷ 95 ∷ 95 ∷ 95 ∷ 95 ∷ 95 ∷ 95 ∷ 95 ∷ 95 ∷ 95 ∷ 95 ∷ 95 ∷ 95 ∷ 95 ∷ 95 ∷
    95 ∷ 73 ∷ 76 ∷ 49 ∷ 95 ∷ 95 ∷ 95 ∷ 95 ∷
    95 ∷ 95 ∷ 95 ∷ 95 ∷ 95 ∷ 95 ∷ 95 ∷ 95 ∷ 95 ∷ 95 ∷ 95 ∷ 95 ∷ 95 ∷ 3 ∷ 40 ∷ 117 ∷ 125 ∷ 229 ∷ 67 ∷ 61 ∷ 230 ∷ 142 ∷ []

abbrev pub i0b : List ℕ
i0b =
    58 ∷ 0 ∷ 0 ∷ 0 ∷ 0 ∷ 0 ∷ 0 ∷ 0 ∷ 50 ∷ 0 ∷ 56 ∷ 24 ∷ 2 ∷ 0 ∷ 0 ∷ 0 ∷ 1 ∷ 0 ∷ 0 ∷ 0 ∷ 44 ∷ 1 ∷ 0 ∷ 0 ∷ 0 ∷ 0 ∷ 0 ∷ 0 ∷
    160 ∷ 0 ∷ 0 ∷ 0 ∷ 0 ∷ 0 ∷ 0 ∷ 0 ∷ 48 ∷
    51 ∷ 48 ∷ 51 ∷ 20 ∷ 0 ∷ 0 ∷ 0 ∷ 0 ∷ 0 ∷ 0 ∷ 0 ∷ 0 ∷ 0 ∷ 63 ∷ 181 ∷ 153 ∷ 119 ∷ 252 ∷ 46 ∷ 143 ∷ 69 ∷ []

abbrev f0b : List ℕ
f0b =
    58 ∷ 0 ∷ 0 ∷ 0 ∷ 0 ∷ 0 ∷ 0 ∷ 0 ∷ 50 ∷ 0 ∷ 57 ∷ 24 ∷ 1 ∷ 0 ∷ 0 ∷ 0 ∷ 2 ∷ 0 ∷ 0 ∷ 0 ∷ 188 ∷ 2 ∷ 0 ∷ 0 ∷ 44 ∷ 1 ∷ 0 ∷
    0 ∷ 196 ∷ 19 ∷ 0 ∷ 0 ∷ 160 ∷ 0 ∷ 0 ∷ 0 ∷
    48 ∷ 51 ∷ 48 ∷ 51 ∷ 20 ∷ 0 ∷ 0 ∷ 0 ∷ 0 ∷ 0 ∷ 0 ∷ 0 ∷ 0 ∷ 0 ∷ 51 ∷ 49 ∷ 194 ∷ 70 ∷ 68 ∷ 35 ∷ 150 ∷ 215 ∷ []

abbrev pub i1b : List ℕ
i1b =
    44 ∷ 0 ∷ 0 ∷ 0 ∷ 1 ∷ 0 ∷ 0 ∷ 0 ∷ 36 ∷ 0 ∷ 76 ∷ 24 ∷ 2 ∷ 0 ∷ 0 ∷ 0 ∷ 1 ∷ 0 ∷ 0 ∷ 0 ∷ 45 ∷ 1 ∷ 0 ∷ 0 ∷ 188 ∷ 2 ∷ 0 ∷
    0 ∷ 160 ∷ 0 ∷ 0 ∷ 0 ∷ 196 ∷ 19 ∷ 0 ∷ 0 ∷
    119 ∷ 142 ∷ 182 ∷ 47 ∷ 152 ∷ 107 ∷ 78 ∷ 230 ∷ []

abbrev pub i2b : List ℕ
i2b =
    90 ∷ 0 ∷ 0 ∷ 0 ∷ 2 ∷ 0 ∷ 0 ∷ 0 ∷ 82 ∷ 0 ∷ 96 ∷ 24 ∷ 2 ∷ 0 ∷ 0 ∷ 0 ∷ 1 ∷ 0 ∷ 0 ∷ 0 ∷ 46 ∷ 1 ∷ 0 ∷ 0 ∷ 188 ∷ 2 ∷ 0 ∷
    0 ∷ 160 ∷ 0 ∷ 0 ∷ 0 ∷ 196 ∷ 19 ∷ 0 ∷ 0 ∷
    44 ∷ 0 ∷ 1 ∷ 36 ∷ 0 ∷ 73 ∷ 76 ∷ 49 ∷ 95 ∷ 95 ∷ 95 ∷ 95 ∷ 95 ∷ 95 ∷ 95 ∷ 95 ∷ 95 ∷ 95 ∷ 95 ∷ 95 ∷ 95 ∷ 95 ∷ 95 ∷ 95 ∷
    95 ∷ 70 ∷ 69 ∷ 49 ∷ 95 ∷ 95 ∷ 95 ∷ 95 ∷
    95 ∷ 95 ∷ 95 ∷ 95 ∷ 95 ∷ 95 ∷ 95 ∷ 95 ∷ 95 ∷ 95 ∷ 95 ∷ 95 ∷ 95 ∷ 3 ∷ 214 ∷ 161 ∷ 231 ∷ 33 ∷ 3 ∷ 207 ∷ 49 ∷ 97 ∷ []

abbrev f1b : List ℕ
f1b =
    92 ∷ 0 ∷ 0 ∷ 0 ∷ 1 ∷ 0 ∷ 0 ∷ 0 ∷ 84 ∷ 0 ∷ 96 ∷ 24 ∷ 1 ∷ 0 ∷ 0 ∷ 0 ∷ 2 ∷ 0 ∷ 0 ∷ 0 ∷ 189 ∷ 2 ∷ 0 ∷ 0 ∷ 46 ∷ 1 ∷ 0 ∷
    0 ∷ 196 ∷ 19 ∷ 0 ∷ 0 ∷ 160 ∷ 0 ∷ 0 ∷ 0 ∷
    46 ∷ 0 ∷ 1 ∷ 37 ∷ 0 ∷ 70 ∷ 69 ∷ 49 ∷ 95 ∷ 95 ∷ 95 ∷ 95 ∷ 95 ∷ 95 ∷ 95 ∷ 95 ∷ 95 ∷ 95 ∷ 95 ∷ 95 ∷ 95 ∷ 95 ∷ 95 ∷ 95 ∷
    95 ∷ 73 ∷ 76 ∷ 49 ∷ 95 ∷ 95 ∷ 95 ∷ 95 ∷
    95 ∷ 95 ∷ 95 ∷ 95 ∷ 95 ∷ 95 ∷ 95 ∷ 95 ∷ 95 ∷ 95 ∷ 95 ∷ 95 ∷ 95 ∷ 2 ∷ 3 ∷ 0 ∷ 139 ∷ 175 ∷ 111 ∷ 151 ∷ 110 ∷ 244 ∷
    55 ∷ 8 ∷ []

abbrev pub i3b : List ℕ
i3b =
    89 ∷ 0 ∷ 0 ∷ 0 ∷ 3 ∷ 0 ∷ 0 ∷ 0 ∷ 81 ∷ 0 ∷ 96 ∷ 24 ∷ 2 ∷ 0 ∷ 0 ∷ 0 ∷ 1 ∷ 0 ∷ 0 ∷ 0 ∷ 47 ∷ 1 ∷ 0 ∷ 0 ∷ 189 ∷ 2 ∷ 0 ∷
    0 ∷ 160 ∷ 0 ∷ 0 ∷ 0 ∷ 196 ∷ 19 ∷ 0 ∷ 0 ∷
    43 ∷ 0 ∷ 1 ∷ 33 ∷ 0 ∷ 73 ∷ 76 ∷ 49 ∷ 95 ∷ 95 ∷ 95 ∷ 95 ∷ 95 ∷ 95 ∷ 95 ∷ 95 ∷ 95 ∷ 95 ∷ 95 ∷ 95 ∷ 95 ∷ 95 ∷ 95 ∷ 95 ∷
    95 ∷ 70 ∷ 69 ∷ 49 ∷ 95 ∷ 95 ∷ 95 ∷ 95 ∷
    95 ∷ 95 ∷ 95 ∷ 95 ∷ 95 ∷ 95 ∷ 95 ∷ 95 ∷ 95 ∷ 95 ∷ 95 ∷ 95 ∷ 95 ∷ 136 ∷ 21 ∷ 5 ∷ 53 ∷ 137 ∷ 80 ∷ 39 ∷ 251 ∷ []

abbrev f2b : List ℕ
f2b =
    89 ∷ 0 ∷ 0 ∷ 0 ∷ 2 ∷ 0 ∷ 0 ∷ 0 ∷ 81 ∷ 0 ∷ 96 ∷ 24 ∷ 1 ∷ 0 ∷ 0 ∷ 0 ∷ 2 ∷ 0 ∷ 0 ∷ 0 ∷ 190 ∷ 2 ∷ 0 ∷ 0 ∷ 47 ∷ 1 ∷ 0 ∷
    0 ∷ 196 ∷ 19 ∷ 0 ∷ 0 ∷ 160 ∷ 0 ∷ 0 ∷ 0 ∷
    43 ∷ 0 ∷ 1 ∷ 34 ∷ 0 ∷ 70 ∷ 69 ∷ 49 ∷ 95 ∷ 95 ∷ 95 ∷ 95 ∷ 95 ∷ 95 ∷ 95 ∷ 95 ∷ 95 ∷ 95 ∷ 95 ∷ 95 ∷ 95 ∷ 95 ∷ 95 ∷ 95 ∷
    95 ∷ 73 ∷ 76 ∷ 49 ∷ 95 ∷ 95 ∷ 95 ∷ 95 ∷
    95 ∷ 95 ∷ 95 ∷ 95 ∷ 95 ∷ 95 ∷ 95 ∷ 95 ∷ 95 ∷ 95 ∷ 95 ∷ 95 ∷ 95 ∷ 19 ∷ 116 ∷ 232 ∷ 122 ∷ 48 ∷ 114 ∷ 235 ∷ 27 ∷ []

abbrev f3b : List ℕ
f3b =
    89 ∷ 0 ∷ 0 ∷ 0 ∷ 3 ∷ 0 ∷ 0 ∷ 0 ∷ 81 ∷ 0 ∷ 96 ∷ 24 ∷ 1 ∷ 0 ∷ 0 ∷ 0 ∷ 2 ∷ 0 ∷ 0 ∷ 0 ∷ 191 ∷ 2 ∷ 0 ∷ 0 ∷ 47 ∷ 1 ∷ 0 ∷
    0 ∷ 196 ∷ 19 ∷ 0 ∷ 0 ∷ 160 ∷ 0 ∷ 0 ∷ 0 ∷
    43 ∷ 0 ∷ 1 ∷ 35 ∷ 0 ∷ 70 ∷ 69 ∷ 49 ∷ 95 ∷ 95 ∷ 95 ∷ 95 ∷ 95 ∷ 95 ∷ 95 ∷ 95 ∷ 95 ∷ 95 ∷ 95 ∷ 95 ∷ 95 ∷ 95 ∷ 95 ∷ 95 ∷
    95 ∷ 73 ∷ 76 ∷ 49 ∷ 95 ∷ 95 ∷ 95 ∷ 95 ∷
    95 ∷ 95 ∷ 95 ∷ 95 ∷ 95 ∷ 95 ∷ 95 ∷ 95 ∷ 95 ∷ 95 ∷ 95 ∷ 95 ∷ 95 ∷ 254 ∷ 110 ∷ 17 ∷ 10 ∷ 132 ∷ 233 ∷ 6 ∷ 214 ∷ []

abbrev pub i4b : List ℕ
i4b =
    90 ∷ 0 ∷ 0 ∷ 0 ∷ 4 ∷ 0 ∷ 0 ∷ 0 ∷ 82 ∷ 0 ∷ 96 ∷ 24 ∷ 2 ∷ 0 ∷ 0 ∷ 0 ∷ 1 ∷ 0 ∷ 0 ∷ 0 ∷ 48 ∷ 1 ∷ 0 ∷ 0 ∷ 191 ∷ 2 ∷ 0 ∷
    0 ∷ 160 ∷ 0 ∷ 0 ∷ 0 ∷ 196 ∷ 19 ∷ 0 ∷ 0 ∷
    44 ∷ 0 ∷ 1 ∷ 0 ∷ 1 ∷ 73 ∷ 76 ∷ 49 ∷ 95 ∷ 95 ∷ 95 ∷ 95 ∷ 95 ∷ 95 ∷ 95 ∷ 95 ∷ 95 ∷ 95 ∷ 95 ∷ 95 ∷ 95 ∷ 95 ∷ 95 ∷ 95 ∷
    95 ∷ 70 ∷ 69 ∷ 49 ∷ 95 ∷ 95 ∷ 95 ∷ 95 ∷
    95 ∷ 95 ∷ 95 ∷ 95 ∷ 95 ∷ 95 ∷ 95 ∷ 95 ∷ 95 ∷ 95 ∷ 95 ∷ 95 ∷ 95 ∷ 4 ∷ 242 ∷ 248 ∷ 237 ∷ 220 ∷ 193 ∷ 5 ∷ 232 ∷ 252 ∷
    []

abbrev f4b : List ℕ
f4b =
    90 ∷ 0 ∷ 0 ∷ 0 ∷ 4 ∷ 0 ∷ 0 ∷ 0 ∷ 82 ∷ 0 ∷ 96 ∷ 24 ∷ 1 ∷ 0 ∷ 0 ∷ 0 ∷ 2 ∷ 0 ∷ 0 ∷ 0 ∷ 192 ∷ 2 ∷ 0 ∷ 0 ∷ 47 ∷ 1 ∷ 0 ∷
    0 ∷ 196 ∷ 19 ∷ 0 ∷ 0 ∷ 160 ∷ 0 ∷ 0 ∷ 0 ∷
    44 ∷ 0 ∷ 1 ∷ 0 ∷ 2 ∷ 70 ∷ 69 ∷ 49 ∷ 95 ∷ 95 ∷ 95 ∷ 95 ∷ 95 ∷ 95 ∷ 95 ∷ 95 ∷ 95 ∷ 95 ∷ 95 ∷ 95 ∷ 95 ∷ 95 ∷ 95 ∷ 95 ∷
    95 ∷ 73 ∷ 76 ∷ 49 ∷ 95 ∷ 95 ∷ 95 ∷ 95 ∷
    95 ∷ 95 ∷ 95 ∷ 95 ∷ 95 ∷ 95 ∷ 95 ∷ 95 ∷ 95 ∷ 95 ∷ 95 ∷ 95 ∷ 95 ∷ 5 ∷ 234 ∷ 209 ∷ 22 ∷ 68 ∷ 149 ∷ 164 ∷ 15 ∷ 44 ∷ []

abbrev i5b : List ℕ
i5b =
    44 ∷ 0 ∷ 0 ∷ 0 ∷ 5 ∷ 0 ∷ 0 ∷ 0 ∷ 36 ∷ 0 ∷ 76 ∷ 24 ∷ 2 ∷ 0 ∷ 0 ∷ 0 ∷ 1 ∷ 0 ∷ 0 ∷ 0 ∷ 49 ∷ 1 ∷ 0 ∷ 0 ∷ 192 ∷ 2 ∷ 0 ∷
    0 ∷ 204 ∷ 1 ∷ 0 ∷ 0 ∷ 196 ∷ 19 ∷ 0 ∷ 0 ∷
    102 ∷ 78 ∷ 65 ∷ 227 ∷ 221 ∷ 36 ∷ 140 ∷ 239 ∷ []

abbrev f5b : List ℕ
f5b =
    44 ∷ 0 ∷ 0 ∷ 0 ∷ 5 ∷ 0 ∷ 0 ∷ 0 ∷ 36 ∷ 0 ∷ 76 ∷ 24 ∷ 1 ∷ 0 ∷ 0 ∷ 0 ∷ 2 ∷ 0 ∷ 0 ∷ 0 ∷ 193 ∷ 2 ∷ 0 ∷ 0 ∷ 48 ∷ 1 ∷ 0 ∷
    0 ∷ 240 ∷ 20 ∷ 0 ∷ 0 ∷ 160 ∷ 0 ∷ 0 ∷ 0 ∷
    128 ∷ 214 ∷ 6 ∷ 88 ∷ 220 ∷ 184 ∷ 202 ∷ 125 ∷ []

-- a command is lost in the first session, both ends are opened again, and both directions are used in the second
abbrev first : List Event
first =
    Open Fe (fe_of 20 10) 500 5000 ∷ Open Il (il_of 20 10) 100 100 ∷ Calls Fe (Deliver 1 i0 5000) ∷
    Calls Il (Deliver 1 f0 100) ∷
    Calls Fe (Deliver 1 i1 5000) ∷ Calls Fe (Deliver 1 i2 5000) ∷ Calls Il (Deliver 1 f1 100) ∷
    Calls Fe (Deliver 1 i3 5000) ∷ Calls Il (Deliver 1 f2 100) ∷
    Calls Fe (InitDone 5000) ∷ Calls Il (Deliver 1 f3 100) ∷ Calls Il (Put 256 (1 ∷ []) 100) ∷
    Calls Il (Put 256 (2 ∷ []) 100) ∷
    Calls Fe (Deliver 1 i5 5000) ∷ Calls Fe (Tick 5050) ∷ Calls Il (Deliver 1 f4 150) ∷ Calls Fe (Deliver 1 i6 5050) ∷
    Calls Fe (Deliver 1 i7 5050) ∷
    Calls Fe (Deliver 1 i8 5050) ∷ Calls Fe (Deliver 1 i9 5050) ∷ Calls Fe (Put 512 (3 ∷ []) 5050) ∷
    Calls Il (Deliver 1 f5 150) ∷ []

abbrev second : List Event
second =
    Open Fe (fe_of 20 10) 700 5060 ∷ Open Il (il_of 20 10) 300 160 ∷ Calls Fe (Deliver 1 i0b 5060) ∷
    Calls Il (Deliver 1 f0b 160) ∷
    Calls Fe (Deliver 1 i1b 5060) ∷ Calls Fe (Deliver 1 i2b 5060) ∷ Calls Il (Deliver 1 f1b 160) ∷
    Calls Fe (Deliver 1 i3b 5060) ∷
    Calls Il (Deliver 1 f2b 160) ∷ Calls Fe (InitDone 5060) ∷ Calls Il (Deliver 1 f3b 160) ∷
    Calls Il (Put 256 (4 ∷ []) 160) ∷
    Calls Fe (Put 512 (5 ∷ []) 5060) ∷ Calls Fe (Deliver 1 i4b 5060) ∷ Calls Il (Deliver 1 f4b 160) ∷
    Calls Fe (Tick 5360) ∷ Calls Il (Tick 460) ∷
    Calls Fe (Deliver 1 i5b 5360) ∷ Calls Il (Deliver 1 f5b 460) ∷ []

abbrev pub events : List Event
events = first ++ second

told : are_good events start ≡ true
unfolding sn_of ahead four_steps after_round after_block digest pieces_seen unit_seen tele_seen decoded
told = refl

opens : {X : Type 0} {x : X} {xs : List X} → x ∷ xs ≡ [] → ⊥
opens e = cc

-- the field element is opened a second time
unfaithful : Faithful events → ⊥
unfolding sn_of ahead four_steps after_round after_block digest pieces_seen unit_seen tele_seen decoded
unfaithful h = opens (faithful-at first (Open Fe (fe_of 20 10) 700 5060) (drop 1 second) start h.events refl)

joined : joins_in (run events start).fes ≡ Some 2 ∷ Some 1 ∷ []
unfolding sn_of ahead four_steps after_round after_block digest pieces_seen unit_seen tele_seen decoded
joined = refl

il-took : map taken_at (run events start).ils ≡ ((512, 5 ∷ []) ∷ []) ∷ ((512, 3 ∷ []) ∷ []) ∷ []
unfolding sn_of ahead four_steps after_round after_block digest pieces_seen unit_seen tele_seen decoded
il-took = refl

fe-took : map taken_at (ends_of (run events start).fes) ≡ ((256, 4 ∷ []) ∷ []) ∷ ((256, 1 ∷ []) ∷ (256, 2 ∷ []) ∷ []) ∷
    []
unfolding sn_of ahead four_steps after_round after_block digest pieces_seen unit_seen tele_seen decoded
fe-took = refl

settled : (option_map is_settled (present Il (run events start)) ≡ Some true)
    × (option_map is_settled (present Fe (run events start)) ≡ Some true)
unfolding sn_of ahead four_steps after_round after_block digest pieces_seen unit_seen tele_seen decoded
settled = (refl, refl)

pub instance : GenuineInstance events
instance =
    let events-typed = all-typed events refl in
    let genuine : Genuine events start = all-genuine events start told in
    record {
      typed = events-typed;
      genuine = genuine;
      unfaithful = unfaithful;
      joined = joined;
      status = il-took;
      commands = fe-took;
      headline = λ law. law events events-typed genuine;
      fresh = λ law. law events events-typed genuine;
      confirmed = λ law. law events events-typed genuine;
      settled = λ law. law events events-typed genuine;
      promised = λ p. (p.headline genuine, p.fresh genuine, p.confirmed genuine, p.settled genuine);
    }
