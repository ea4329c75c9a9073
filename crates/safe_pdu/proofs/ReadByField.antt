-- Reading field by field: if it returns a PDU, the bytes are its encoding, else they have the first fault; and it
-- returns the PDU of every encoding.
use Rattle.std.proofs.Common.{◌≡◌, ◌≢◌, ◌≤◌, ◌==◌, ◌+◌, ℕ, List, length, refl, sym, ap, ◌∙◌, arith, true, Option, Some, None, Result, Ok, Err, inl, inr, nat_lt, IfOk, IfErr, IsOkAnd, subst}
use Rattle.std.proofs.lemmas.Bool.Decides.{Decides-eqb, Decides-ltb, nat_tests}
use Rattle.std.proofs.lemmas.Slice.Eq.{bytes_eq-Decides}
use Rattle.octets.proofs.Choices.{by_cond}
use Rattle.octets.proofs.Fields.{FitOctets}
use Rattle.octets.specs.declared.limits.TheConstants.{SAFE_HEADER, SAFE_FRONT_MAX}
use Rattle.safe_pdu.specs.declared.Kind.{Kind}
use Rattle.safe_pdu.specs.declared.Kind.TheVariants.{ConnReq, ConnResp, RetrReq, RetrResp, DiscReq, Heartbeat, Data, RetrData}
use Rattle.safe_pdu.specs.declared.CodeRule.{CodeRule}
use Rattle.safe_pdu.specs.declared.SafeFault.{SafeFault}
use Rattle.safe_pdu.specs.declared.SafeFault.TheVariants.{Short, Length, Code, BadType, Body}
use Rattle.safe_pdu.specs.declared.SafePdu.{SafePdu}
use Rattle.safe_pdu.specs.Pdu.{Pdu, pdu_of, kind_number}
use Rattle.safe_pdu.specs.Bodies.{IsBody, is_body}
use Rattle.safe_pdu.specs.SafeText.{SafeText, code_octets, code_over}
use Rattle.safe_pdu.specs.Places.{IsSized, HasCode, FirstFault, length_field, type_field, front_of, code_of, body_of, kind_of, has_code, read_of, read_kind, safe_seen, seen_of}
use Rattle.safe_pdu.proofs.SafeLemmas.{Reads, safe_spelled, safe_only, text_reads, text_sized, text_coded, kind_of-number, text_body}

-- the facts about a PDU that was read
pub record IsRead (rule : CodeRule) (octets : List ℕ) (p : Pdu) : Type 0 where
  pub sized : IsSized rule octets
  pub coded : HasCode rule octets
  pub reads : Reads p octets
  pub body : p.body ≡ body_of rule octets
  pub fits : IsBody p.kind p.body

Judged : CodeRule → List ℕ → Result Pdu SafeFault → Type 0
Judged rule octets (Ok p) = IsRead rule octets p
Judged rule octets (Err f) = FirstFault rule octets f

-- a number that passes the test for a PDU type is the number of this type
passed : (number n : ℕ) (c : Kind) → kind_number c ≡ number → (n == number) ≡ true → (k : Kind) → Some c ≡ Some k
    → kind_number k ≡ n
passed number n c is test k e =
    let same : c ≡ k = cc in
    let n-is = (Decides-eqb n number).0 test in
    ap kind_number (sym same) ∙ is ∙ sym n-is

Names : ℕ → Option Kind → Type 0
Names n found = (k : Kind) → found ≡ Some k → kind_number k ≡ n

-- the PDU type with a number has this number
named : (n : ℕ) → Names n (kind_of n)
unfolding Names
named n =
    by_cond (Names n) (n == 6200) (Some ConnReq) _ (passed 6200 n ConnReq refl) (λ _.
    by_cond (Names n) (n == 6201) (Some ConnResp) _ (passed 6201 n ConnResp refl) (λ _.
    by_cond (Names n) (n == 6212) (Some RetrReq) _ (passed 6212 n RetrReq refl) (λ _.
    by_cond (Names n) (n == 6213) (Some RetrResp) _ (passed 6213 n RetrResp refl) (λ _.
    by_cond (Names n) (n == 6216) (Some DiscReq) _ (passed 6216 n DiscReq refl) (λ _.
    by_cond (Names n) (n == 6220) (Some Heartbeat) _ (passed 6220 n Heartbeat refl) (λ _.
    by_cond (Names n) (n == 6240) (Some Data) _ (passed 6240 n Data refl) (λ _.
    by_cond (Names n) (n == 6241) (Some RetrData) None (passed 6241 n RetrData refl) (λ _ k e. cc))))))))

kind_named : (n : ℕ) (k : Kind) → kind_of n ≡ Some k → kind_number k ≡ n
unfolding Names
kind_named n k e = named n k e

-- a number without a PDU type is not the number of any type
kind_none : (n : ℕ) → kind_of n ≡ None → (k : Kind) → kind_number k ≢ n
kind_none n none k e =
    let found : Some k ≡ None = sym (kind_of-number k) ∙ ap kind_of e ∙ none in
    cc

judged_kind : (rule : CodeRule) (octets : List ℕ) (found : Option Kind) → kind_of (type_field octets) ≡ found
    → IsSized rule octets → HasCode rule octets
    → Judged rule octets (read_kind found rule octets)
unfolding Judged
judged_kind rule octets None e sized coded = (sized, coded, kind_none (type_field octets) e)
judged_kind rule octets (Some kind) e sized coded =
    by_cond (Judged rule octets) (is_body kind (body_of rule octets)) (Ok (read_of kind rule octets)) (Err Body)
    (λ fits.
    record {
      sized = sized;
      coded = coded;
      reads = record {
        kind = kind_named (type_field octets) kind e;
        receiver = refl;
        sender = refl;
        sn = refl;
        cs = refl;
        ts = refl;
        cts = refl;
      };
      body = refl;
      fits = fits;
    })
    (λ not. (sized, coded, (kind, kind_named (type_field octets) kind e, λ fits. cc)))

-- the result of reading field by field is right
judged : (rule : CodeRule) (octets : List ℕ) → Judged rule octets (safe_seen rule octets)
unfolding Judged
judged rule octets =
    let n : ℕ = code_octets rule.length in
    by_cond (Judged rule octets) (nat_lt (length octets) (SAFE_HEADER + n)) (Err Short) _
    (λ short. (Decides-ltb (length octets) (SAFE_HEADER + n)).0 short)
    (λ not_short.
    let long : SAFE_HEADER + n ≤ length octets = grind (arith, nat_tests) in
    by_cond (Judged rule octets) (nat_lt (SAFE_FRONT_MAX + n) (length octets)) (Err Length) _
    (λ big. (long, inr ((Decides-ltb (SAFE_FRONT_MAX + n) (length octets)).0 big)))
    (λ not_big.
    let most : length octets ≤ SAFE_FRONT_MAX + n = grind (arith, nat_tests) in
    by_cond (Judged rule octets) (length_field octets == length octets) _ (Err Length)
    (λ same.
    let sized : IsSized rule octets = record {
      long = long;
      said = (Decides-eqb (length_field octets) (length octets)).0 same;
      most = most;
    } in
    by_cond (Judged rule octets) (has_code rule octets) _ (Err Code)
    (λ right. judged_kind rule octets (kind_of (type_field octets)) refl sized ((bytes_eq-Decides _ _).0 right))
    (λ wrong. (
      sized,
      λ coded. let right = (bytes_eq-Decides (code_of rule octets)
          (code_over rule (front_of rule octets))).1 coded in cc,
    )))
    (λ other. (long, inl (λ said. let same = (Decides-eqb (length_field octets) (length octets)).1 said in cc)))))

-- the facts about bytes that read as a PDU
pub is_read : (rule : CodeRule) (octets : List ℕ) (p : Pdu) → safe_seen rule octets ≡ Ok p → IsRead rule octets p
unfolding Judged
is_read rule octets p e = subst (Judged rule octets) e (judged rule octets)

-- an encoding has no fault
text_faultless : (p : Pdu) (rule : CodeRule) (octets : List ℕ) → SafeText p rule octets → (f : SafeFault)
    → FirstFault rule octets f → ⊥
text_faultless p rule octets text Short short = let sized = text_sized p rule octets text in let long =
    sized.long in omega arith
text_faultless p rule octets text Length (long, inl other) = other (text_sized p rule octets text).said
text_faultless p rule octets text Length (long, inr big) = let sized = text_sized p rule octets text in let most =
    sized.most in omega arith
text_faultless p rule octets text Code (sized, wrong) = wrong (text_coded p rule octets text)
text_faultless p rule octets text BadType (sized, coded, none) = none p.kind (text_reads p rule octets text).kind
text_faultless p rule octets text Body (sized, coded, (kind, named, unfit)) =
    let reads = text_reads p rule octets text in
    let found : Some kind ≡ Some p.kind = sym (kind_of-number kind) ∙ ap kind_of (named ∙ sym reads.kind)
    ∙ kind_of-number p.kind in
    let same : kind ≡ p.kind = cc in
    unfit (rw (same, ← text_body p rule octets text) text.body)

answer_of : (p : Pdu) (rule : CodeRule) (octets : List ℕ) → SafeText p rule octets → (r : Result Pdu SafeFault)
    → Judged rule octets r → r ≡ Ok p
unfolding Judged
answer_of p rule octets text (Ok q) known = ap Ok (safe_only q p rule octets text known.reads known.body)
answer_of p rule octets text (Err f) fault = absurd (text_faultless p rule octets text f fault)

-- an encoding reads field by field as its PDU
pub safe_seen-text : (p : Pdu) (rule : CodeRule) (octets : List ℕ) → SafeText p rule octets
    → safe_seen rule octets ≡ Ok p
safe_seen-text p rule octets text = answer_of p rule octets text (safe_seen rule octets) (judged rule octets)

-- the decoder's clauses, from its result field by field
pub found_by_places : (rule : CodeRule) (octets : List ℕ) (r : Result SafePdu SafeFault) → FitOctets octets
    → seen_of r ≡ safe_seen rule octets
    → IfOk r (λ pdu. SafeText (pdu_of pdu) rule octets)
unfolding Judged
found_by_places rule octets (Ok pdu) fits e =
    let known : IsRead rule octets (pdu_of pdu) = subst (Judged rule octets) (sym e) (judged rule octets) in
    safe_spelled (pdu_of pdu) rule octets fits known.sized known.coded known.reads known.body known.fits
found_by_places rule octets (Err f) fits e = tt

pub fault_by_places : (rule : CodeRule) (octets : List ℕ) (r : Result SafePdu SafeFault)
    → seen_of r ≡ safe_seen rule octets → IfErr r (FirstFault rule octets)
unfolding Judged
fault_by_places rule octets (Ok pdu) e = tt
fault_by_places rule octets (Err f) e = subst (Judged rule octets) (sym e) (judged rule octets)

pub only_by_places : (rule : CodeRule) (octets : List ℕ) (r : Result SafePdu SafeFault)
    → seen_of r ≡ safe_seen rule octets → (p : Pdu)
    → SafeText p rule octets → IsOkAnd r (λ pdu. pdu_of pdu ≡ p)
only_by_places rule octets (Ok pdu) e p text =
    let same : Ok (pdu_of pdu) ≡ Ok p = e ∙ safe_seen-text p rule octets text in
    cc
only_by_places rule octets (Err f) e p text =
    let same : Err f ≡ Ok p = e ∙ safe_seen-text p rule octets text in
    cc
