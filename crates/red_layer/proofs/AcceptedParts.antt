-- An arrival is the part of an encoding by the grammar of the redundancy PDU.
use Rattle.std.proofs.Common.{subst, ◌≡◌, ◌≤◌, ℕ, zero, suc, ◌+◌, eqb, ltb, List, [], ◌∷◌, ◌++◌, length, drop, Result, Ok, Err, refl, sym, ap, ◌∙◌, arith}
use Rattle.std.proofs.lemmas.Bool.Decides.{nat_tests}
use Rattle.byteorder.specs.Endian.{little_bytes}
use Rattle.octets.specs.Octets.{AreOctets}
use Rattle.octets.proofs.ByIndex.{fit-octets}
use Rattle.octets.proofs.Fields.{field_reads}
use Rattle.octets.specs.declared.limits.TheConstants.{RED_HEADER, RED_PDU_MAX}
use Rattle.red_layer.specs.declared.pdu.RedFault.{RedFault}
use Rattle.red_layer.specs.pdu.RedText.{RedText, red_seen, length_field, reserve_field, seq_field}
use Rattle.red_layer.proofs.RedLemmas.{red_spelled}
use Rattle.red_layer.specs.Parts.{Part}
use Rattle.red_layer.specs.Redundancy.{decoded}
use Rattle.red_layer.specs.Service.{part_received}
use Rattle.std.specs.List.{AllByRecursion}
use Rattle.red_layer.specs.Laws.{ArrivalLaw, PartsLaw}
use Rattle.octets.proofs.Choices.{by_cond}

-- an encoding is read as its number and payload
read_of : (seq : ℕ) (upper octets : List ℕ) → RedText seq upper octets → red_seen octets ≡ Ok (seq, upper)
read_of seq upper octets text =
    let size : length octets ≡ RED_HEADER + length upper = ap length text.spelled ∙ omega arith in
    let most : length octets ≤ RED_PDU_MAX = text.size in
    let length_is : length_field octets ≡ RED_HEADER + length upper =
    field_reads 2 (RED_HEADER + length upper) octets (little_bytes 2 0 ++ little_bytes 4 seq ++ upper) (omega arith)
    text.spelled in
    let reserve_is : reserve_field octets ≡ 0 =
    field_reads 2 0 (drop 2 octets) (little_bytes 4 seq ++ upper) (omega arith) (ap (drop 2) text.spelled) in
    let seq_is : seq_field octets ≡ seq =
    field_reads 4 seq (drop 4 octets) upper text.seq_fits (ap (drop 4) text.spelled) in
    let upper_is : drop RED_HEADER octets ≡ upper = ap (drop RED_HEADER) text.spelled in
    grind (arith, nat_tests)

-- bytes that are read are the encoding
text_of : (seq : ℕ) (upper octets : List ℕ) → AreOctets octets → red_seen octets ≡ Ok (seq, upper)
    → RedText seq upper octets
text_of seq upper octets bytes =
    let P : Result Part RedFault → Type 0 = λ said. said ≡ Ok (seq, upper) → RedText seq upper octets in
    by_cond P (ltb (length octets) RED_HEADER) _ _ (λ short e. absurd (cc)) (λ long.
    by_cond P (ltb RED_PDU_MAX (length octets)) _ _ (λ more e. absurd (cc)) (λ most.
    by_cond P (eqb (length_field octets) (length octets)) _ _ (λ sized.
    by_cond P (eqb (reserve_field octets) 0) _ _ (λ none e.
    let same : (seq_field octets, drop RED_HEADER octets) ≡ (seq, upper) = cc in
    red_spelled seq upper octets (fit-octets octets bytes) (grind (arith, nat_tests)) (grind (arith, nat_tests))
    (grind (arith, nat_tests)) (grind (arith, nat_tests))
    (sym (ap (λ (p : Part). p.0) same)) (sym (ap (λ (p : Part). p.1) same)))
    (λ some e. absurd (cc)))
    (λ other e. absurd (cc))))

one_accepted : (said : Result Part RedFault) (p : Part) → part_received said ≡ p ∷ [] → said ≡ Ok p
one_accepted (Ok q) p e = let same : q ≡ p = cc in ap (λ x. Ok x) same
one_accepted (Err fault) p e = absurd (cc)

decoded_is : (octets : List ℕ) → decoded octets ≡ red_seen octets
unfolding decoded
decoded_is octets = refl

pub arrival_law : ArrivalLaw
arrival_law octets now seq upper bytes = (
  λ text. ap part_received (decoded_is octets ∙ read_of seq upper octets text),
  λ arrives. text_of seq upper octets bytes (sym (decoded_is octets)
      ∙ one_accepted (decoded octets) (seq, upper) arrives),
)

-- the payload of a list of bytes is a list of bytes
abbrev OctetPart : Part → Type 0
OctetPart p = AreOctets p.1

all-dropped : (n : ℕ) (xs : List ℕ) → AreOctets xs → AreOctets (drop n xs)
all-dropped zero xs h = h
all-dropped (suc n) [] h = h
all-dropped (suc n) (x ∷ xs) h = all-dropped n xs h.1

red-octets : (octets : List ℕ) → AreOctets octets → AllByRecursion OctetPart (part_received (red_seen octets))
red-octets octets h =
    let P : Result Part RedFault → Type 0 = λ r. AllByRecursion OctetPart (part_received r) in
    by_cond P (ltb (length octets) RED_HEADER) _ _ (λ _. tt) (λ _.
    by_cond P (ltb RED_PDU_MAX (length octets)) _ _ (λ _. tt) (λ _.
    by_cond P (eqb (length_field octets) (length octets)) _ _ (λ _.
    by_cond P (eqb (reserve_field octets) 0) _ _ (λ _. (all-dropped RED_HEADER octets h, tt)) (λ _. tt))
    (λ _. tt)))

pub parts_law : PartsLaw
parts_law octets now h = subst (λ (r : Result Part RedFault). AllByRecursion OctetPart (part_received r))
    (sym (decoded_is octets)) (red-octets octets h)
