-- Texts by their places in one buffer.
use Rattle.std.specs.Prelude.{ℕ, ◌≤◌, List, map, length, slice_range}
use Rattle.std.specs.List.{AllByRecursion}
use Rattle.std.specs.Borrow.{Bor}
use Rattle.stack_engine.specs.declared.texts.Kept.{Kept}

-- a text with its head
abbrev pub text_in : {T : Type 0} → List ℕ → Kept T → T × List ℕ
text_in octets k = (k.head, slice_range octets k.from k.to)

-- all texts, in order
abbrev pub texts_in : {T : Type 0} → List ℕ → List (Kept T) → List (T × List ℕ)
texts_in octets ks = map (text_in octets) ks

-- the place of a text is within the buffer
abbrev pub IsWithin : {T : Type 0} → List ℕ → Kept T → Type 0
IsWithin octets k = (k.from ≤ k.to) × (k.to ≤ length octets)

-- this of all texts
abbrev pub AreWithin : {T : Type 0} → List ℕ → List (Kept T) → Type 0
AreWithin octets ks = AllByRecursion (IsWithin octets) ks

-- a text with its head, without their places in memory
abbrev pub seen_text : {T : Type 0} → Bor T × Bor (List ℕ) → T × List ℕ
seen_text p = (p.0.now, p.1.now)
