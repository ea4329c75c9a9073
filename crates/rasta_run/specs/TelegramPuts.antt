-- What an end does with the telegrams that it is to put, one after the other.
use Rattle.std.specs.Prelude.{⊤, ◌≡◌, ◌≢◌, ◌⊎◌, ℕ, zero, suc, ◌+◌, ◌-◌, ◌^◌, ◌%◌, ◌++◌, ◌∷◌, [], List, Bool, true, false, min, nat_lt, Option, Some, None}
use Rattle.std.specs.List.{FoldsTo}
use Rattle.channels.specs.ChannelHistory.{ChannelHistory}
use Rattle.pdi_session.specs.FaultNames.{init_fault_name, put_fault_name}
use Rattle.pdi_session.specs.declared.InitFault.{InitFault}
use Rattle.pdi_session.specs.declared.InitFault.TheVariants as init
use Rattle.pdi_session.specs.declared.PutFault.{PutFault}
use Rattle.pdi_session.specs.declared.PutFault.TheVariants.{Full}
use Rattle.settings_file.specs.declared.values.PutEntry.{PutEntry as Telegram}
use Rattle.rasta_run.specs.InputLines.{Input, ReadsNextTelegram, line_read}
use Rattle.rasta_run.specs.declared.telegram_puts.PutOutcome.{PutOutcome}
use Rattle.rasta_run.specs.declared.telegram_puts.PutOutcome.TheVariants as offered
use Rattle.stack_end.specs.EndValue.{EndTakesTurnAlone, EndValue, inside}
use Rattle.stack_end.specs.Turns.{upper_turn, init_done_turn, init_answer, put_answer, put_turn}

-- an end, the number of telegrams put, its application, and the number of telegrams refused
abbrev pub PutState : Type 0 → Type 0 → Type 0 → Type 0
PutState C A T = EndValue C A × ℕ × T × ℕ

-- the result of the end for a telegram
abbrev pub AnswersTelegram : {C A : Type 0} → EndValue C A → Telegram → Option PutFault → Type 0
AnswersTelegram v p answer = put_answer p.kind p.payload.items (inside v).upper ≡ answer

-- an end, the number of telegrams put, and its application
abbrev pub OfferState : Type 0 → Type 0 → Type 0 → Type 0
OfferState C A T = EndValue C A × ℕ × T

-- a telegram was offered to an end. It was put and counted; or it was refused for another reason than a full end, and
-- the application learned that; or the end is full. What the end did not put leaves it as it was.
abbrev pub OffersTelegram : {C A T : Type 0} → (C → ChannelHistory) → (T → List ℕ → T → Type 0) → ℕ → OfferState C A T
    → Telegram → PutOutcome → OfferState C A T → Type 0
OffersTelegram told refuses now s p offered.Put t =
    AnswersTelegram s.0 p None × EndTakesTurnAlone told (upper_turn (put_turn p.kind p.payload.items now)) s.0 t.0
    × (t.0.time ≡ now) × (t.1 ≡ (s.1 + 1) % 2 ^ 64) × (t.2 ≡ s.2)
OffersTelegram told refuses now s p offered.Refused t =
    (fault : PutFault) × (fault ≢ Full) × AnswersTelegram s.0 p (Some fault) × (t.0 ≡ s.0) × (t.1 ≡ s.1)
    × refuses s.2 (put_fault_name fault) t.2
OffersTelegram told refuses now s p offered.Full t =
    AnswersTelegram s.0 p (Some Full) × (t.0 ≡ s.0) × (t.1 ≡ s.1) × (t.2 ≡ s.2)

-- the end has no room for the telegram that was offered
abbrev pub is_full : PutOutcome → Bool
is_full offered.Full = true
is_full offered.Put = false
is_full offered.Refused = false

-- the number of telegrams refused after one more was offered
abbrev pub refusals_after : PutOutcome → ℕ → ℕ
refusals_after offered.Refused count = min (count + 1) (2 ^ 64 - 1)
refusals_after offered.Put count = count
refusals_after offered.Full count = count

-- a telegram was put, or it was refused and counted
abbrev pub PutsTelegram : {C A T : Type 0} → (C → ChannelHistory) → (T → List ℕ → T → Type 0) → ℕ → PutState C A T
    → Telegram → PutState C A T → Type 0
PutsTelegram told refuses now s p t =
    (result : PutOutcome) × (is_full result ≡ false)
    × OffersTelegram told refuses now (s.0, s.1, s.2) p result (t.0, t.1, t.2) × (t.3 ≡ refusals_after result s.3)

-- the end is full for the first telegram that is left, if one is
abbrev pub IsFullFor : {C A : Type 0} → EndValue C A → List Telegram → Type 0
IsFullFor v [] = ⊤
IsFullFor v (p ∷ ps) = AnswersTelegram v p (Some Full)

-- a prefix of the telegrams was put or refused in order, each once, up to the first for which the end is full
abbrev pub PutsBeginning : {C A T : Type 0} → (C → ChannelHistory) → (T → List ℕ → T → Type 0) → ℕ → List Telegram
    → PutState C A T → List Telegram → PutState C A T → Type 0
PutsBeginning told refuses now before s left t =
    (done : List Telegram) × (before ≡ done ++ left) × FoldsTo (PutsTelegram told refuses now) s done t
    × IsFullFor t.0 left

-- an end, the number of telegrams put, its application, the number of lines refused, and its input
pub record EndWithInput (C A T : Type 0) : Type 0 where
  pub end : EndValue C A
  pub put : ℕ
  pub app : T
  pub refused : ℕ
  pub input : Input

-- the telegram that is next, if one is, was put or refused, and then none is next; or the end is full for it and keeps
-- it
abbrev pub TakesNext : {C A T : Type 0} → (C → ChannelHistory) → (T → List ℕ → T → Type 0) → ℕ → Option Telegram
    → EndWithInput C A T → Bool → EndWithInput C A T → Type 0
TakesNext told refuses now None s done t = (done ≡ true) × (t ≡ s)
TakesNext told refuses now (Some p) s true t =
    PutsTelegram told refuses now (s.end, s.put, s.app, s.refused) p (t.end, t.put, t.app, t.refused)
    × (t.input ≡ record s.input { next = None })
TakesNext told refuses now (Some p) s false t = AnswersTelegram s.end p (Some Full) × (t ≡ s)

-- what is done with the next line, if there is one: the telegram that it spells is put, refused, or kept until the end
-- has room
abbrev pub TakesFoundLine : {C A T : Type 0} → (C → ChannelHistory) → (T → List ℕ → T → Type 0) → ℕ → Bool
    → EndWithInput C A T → Bool → EndWithInput C A T → Type 0
TakesFoundLine told refuses now false s done t = (done ≡ false) × (t ≡ s)
TakesFoundLine told refuses now true s done t = TakesNext told refuses now s.input.next s done t

-- one line: it is read if no telegram is next, and then its telegram is offered
abbrev pub TakesLine : {C A T : Type 0} → (C → ChannelHistory) → (T → List ℕ → T → Type 0) → (now : ℕ) → (ended : Bool)
    → EndWithInput C A T → Bool → EndWithInput C A T → Type 0
TakesLine told refuses now ended s done t =
    (has : Bool) × (input : Input) × ReadsNextTelegram ended s.input has input
    × TakesFoundLine told refuses now has (record s { input = input }) done t

-- this many lines, one after the other
abbrev pub TakesLines : {C A T : Type 0} → (C → ChannelHistory) → (T → List ℕ → T → Type 0) → (now : ℕ) → (ended : Bool)
    → ℕ → EndWithInput C A T → EndWithInput C A T → Type 0
TakesLines told refuses now ended zero s t = t ≡ s
TakesLines {C} {A} {T} told refuses now ended (suc n) s t =
    (mid : EndWithInput C A T) × TakesLines told refuses now ended n s mid × TakesLine told refuses now ended mid true t

-- the greatest number of lines of one turn
abbrev pub lines_most : ℕ
lines_most = 256

-- lines were taken until none was there, the end was full, or there were enough; `found`: there was one
abbrev pub TakesInput : {C A T : Type 0} → (C → ChannelHistory) → (T → List ℕ → T → Type 0) → (now : ℕ) → (ended : Bool)
    → EndWithInput C A T → Bool → EndWithInput C A T → Type 0
TakesInput {C} {A} {T} told refuses now ended s found t =
    (count : ℕ) × (mid : EndWithInput C A T) × TakesLines told refuses now ended count s mid
    × (((count ≡ lines_most) × (found ≡ true) × (t ≡ mid)) ⊎ ((found ≡ nat_lt 0 count)
    × TakesLine told refuses now ended mid false t))

-- lines were taken, if it was the time for them; else nothing changed
abbrev pub TakesInputIf : {C A T : Type 0} → (C → ChannelHistory) → (T → List ℕ → T → Type 0) → (now : ℕ)
    → (ended ready : Bool) → EndWithInput C A T → Bool → EndWithInput C A T → Type 0
TakesInputIf told refuses now ended true s found t = TakesInput told refuses now ended s found t
TakesInputIf told refuses now ended false s found t = (found ≡ false) × (t ≡ s)

-- what comes of the end of the initialisation: it is done, it has to wait for room, or it is refused and the
-- application learns that
abbrev pub EndsInitialisationBy : {C A T : Type 0} → (C → ChannelHistory) → (T → List ℕ → T → Type 0) → ℕ
    → Option InitFault → EndValue C A × T → EndValue C A × T → Type 0
EndsInitialisationBy told refuses now None s t =
    EndTakesTurnAlone told (upper_turn (init_done_turn now)) s.0 t.0 × (t.0.time ≡ now) × (t.1 ≡ s.1)
EndsInitialisationBy told refuses now (Some init.Full) s t = (t.0 ≡ s.0) × (t.1 ≡ s.1)
EndsInitialisationBy told refuses now (Some init.NotInitialising) s t =
    (t.0 ≡ s.0) × refuses s.1 (init_fault_name init.NotInitialising) t.1

-- the initialisation is ended, if it is the time for it; else nothing changes
abbrev pub EndsInitialisationIf : {C A T : Type 0} → (C → ChannelHistory) → (T → List ℕ → T → Type 0) → ℕ → Bool
    → EndValue C A × T → EndValue C A × T → Type 0
EndsInitialisationIf told refuses now true s t =
    EndsInitialisationBy told refuses now (init_answer (inside s.0).upper) s t
EndsInitialisationIf told refuses now false s t = (t.0 ≡ s.0) × (t.1 ≡ s.1)
