-- A name that is written: filling over its whole place, and then its characters.
use Rattle.std.proofs.Common.{◌≡◌, ◌≤◌, ℕ, ◌+◌, ◌-◌, List, ◌++◌, length, take, drop, sym, ap, ◌∙◌, arith, append_assoc}
use Rattle.std.proofs.Math.ListN.{replicate}
use Rattle.std.proofs.Math.Seq.{take-add}
use Rattle.std.proofs.lemmas.List.{length-take, length-append, length-replicate, drop-drop, drop-replicate, drop-take}
use Rattle.octets.specs.declared.limits.TheConstants.{NAME_LENGTH, FILLING}
use Rattle.pdi_session.specs.telegram.Names.{IsName, fill_name}
use Rattle.pdi_session.proofs.TeleLemmas.{front_of, rest_of}

-- the place after filling was written
pub record Blank (place : ℕ) (old mid : List ℕ) : Type 0 where
  pub front : take place mid ≡ take place old
  pub filling : take NAME_LENGTH (drop place mid) ≡ replicate NAME_LENGTH FILLING

blank : (place : ℕ) (old mid : List ℕ) → place + NAME_LENGTH ≤ length old
    → take (place + NAME_LENGTH) mid ≡ take place old ++ replicate NAME_LENGTH FILLING → Blank place old mid
blank place old mid room written =
    let filling : List ℕ = replicate NAME_LENGTH FILLING in
    let whole : List ℕ = take (place + NAME_LENGTH) mid in
    let long-old : length (take place old) ≡ place = omega (arith, length-take place old) in
    let long-mid : length (take place mid) ≡ place =
    omega (
      arith,
      length-take place mid,
      length-take (place + NAME_LENGTH) mid,
      ap length written,
      length-append (take place old) filling,
      length-replicate NAME_LENGTH FILLING,
      long-old,
    )
    in
    record {
      front =
          sym (front_of place (take place mid) (take NAME_LENGTH (drop place mid)) whole
          (take-add place NAME_LENGTH mid) long-mid)
          ∙ front_of place (take place old) filling whole written long-old;
      filling = sym (drop-take place NAME_LENGTH mid) ∙ rest_of place (take place old) filling whole written long-old;
    }

-- filling follows the characters
left_blank : (place n : ℕ) (mid : List ℕ) → n ≤ NAME_LENGTH
    → take NAME_LENGTH (drop place mid) ≡ replicate NAME_LENGTH FILLING
    → take (NAME_LENGTH - n) (drop (place + n) mid) ≡ replicate (NAME_LENGTH - n) FILLING
left_blank place n mid short blank =
    let size : n + (NAME_LENGTH - n) ≡ NAME_LENGTH = omega arith in
    ap (take (NAME_LENGTH - n)) (sym (drop-drop n place mid))
    ∙ sym (drop-take n (NAME_LENGTH - n) (drop place mid))
    ∙ ap (λ (k : ℕ). drop n (take k (drop place mid))) size
    ∙ ap (drop n) blank
    ∙ drop-replicate n NAME_LENGTH FILLING

pub named_front : (place : ℕ) (name old mid new : List ℕ) → IsName name → place + NAME_LENGTH ≤ length old
    → take (place + NAME_LENGTH) mid ≡ take place old ++ replicate NAME_LENGTH FILLING
    → take (place + length name) new ≡ take place mid ++ name
    → drop (place + length name) new ≡ drop (place + length name) mid
    → take (place + NAME_LENGTH) new ≡ take place old ++ fill_name name
named_front place name old mid new is room written named rest =
    let under = blank place old mid room written in
    let left : ℕ = NAME_LENGTH - length name in
    let size : place + length name + left ≡ place + NAME_LENGTH = omega (arith, is.1) in
    ap (λ (n : ℕ). take n new) (sym size)
    ∙ take-add (place + length name) left new
    ∙ ap (λ (front : List ℕ). front ++ take left (drop (place + length name) new)) (named
    ∙ ap (λ (front : List ℕ). front ++ name) under.front)
    ∙ ap (λ (behind : List ℕ). (take place old ++ name) ++ behind) (ap (take left) rest
    ∙ left_blank place (length name) mid is.1 under.filling)
    ∙ append_assoc (take place old) name (replicate left FILLING)
