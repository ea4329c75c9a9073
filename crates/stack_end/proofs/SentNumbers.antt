-- The datagrams of PDUs, by sequence numbers modulo 2^32.
use Rattle.stack_end.proofs.Words.{[], after, ap, append_assoc, arith}
use Rattle.stack_end.proofs.Words.{datagrams}
use Rattle.stack_end.proofs.Words.{EndSettings}
use Rattle.stack_end.proofs.Words.{length, List}
use Rattle.stack_end.proofs.Words.{Made, next_number, number_after}
use Rattle.stack_end.proofs.Words.{on_channels}
use Rattle.stack_end.proofs.Words.{red_text, refl, rule_of, sendings}
use Rattle.stack_end.proofs.Words.{sym, text_of}
use Rattle.stack_end.proofs.Words.{ℕ, ◌%◌, ◌++◌, ◌+◌, ◌^◌, ◌∙◌, ◌∷◌, ◌≡◌}
use Rattle.byteorder.specs.Endian.{little_bytes}
use Rattle.stack_end.specs.Datagrams.{upper_of}
use Rattle.stack_end.specs.Statistics.{with_kind, with_made}
use Rattle.stack_end.specs.declared.statistics.MadeCounts.{MadeCounts}
use Rattle.std.proofs.Common.{◌/◌}
use Rattle.std.specs.Prelude.{◌-◌}

-- four bytes give a number modulo 2^32
little-wrap : (n : ℕ) → little_bytes 4 (n % 2 ^ 32) ≡ little_bytes 4 n
little-wrap n =
    let a : n % 2 ^ 32 % 256 ≡ n % 256 = omega arith in
    let b : n % 2 ^ 32 / 256 ^ 1 % 256 ≡ n / 256 ^ 1 % 256 = omega arith in
    let c : n % 2 ^ 32 / 256 ^ 2 % 256 ≡ n / 256 ^ 2 % 256 = omega arith in
    let d : n % 2 ^ 32 / 256 ^ 3 % 256 ≡ n / 256 ^ 3 % 256 = omega arith in
    λ i. a i ∷ (b i ∷ (c i ∷ (d i ∷ [])))

red-wrap : (n : ℕ) (upper : List ℕ) → red_text (n % 2 ^ 32) upper ≡ red_text n upper
red-wrap n upper =
    ap (λ octets. little_bytes 2 (8 + length upper) ++ little_bytes 2 0 ++ octets ++ upper) (little-wrap n)

next-wrap : (n : ℕ) → next_number (n % 2 ^ 32) ≡ (n + 1) % 2 ^ 32
next-wrap n = omega arith

pub behind-wrap : (n : ℕ) (ms : List Made) → number_after (n % 2 ^ 32) ms ≡ (n + length ms) % 2 ^ 32
behind-wrap n [] = ap (λ k. k % 2 ^ 32) (omega arith)
behind-wrap n (m ∷ ms) =
    ap (λ k. number_after k ms) (next-wrap n) ∙ (behind-wrap (n + 1) ms ∙ ap (λ k. k % 2 ^ 32) (omega arith))

pub datagrams-are : (s : EndSettings) (n : ℕ) (ms : List Made)
    → datagrams (rule_of s) s.channels (n % 2 ^ 32) ms ≡ sendings s n ms
unfolding text_of
datagrams-are s n [] = refl
datagrams-are s n (m ∷ ms) =
    let octets = upper_of (rule_of s) m in
    let first = on_channels s.channels (red_text n octets) in
    ap (λ o. on_channels s.channels o ++ datagrams (rule_of s) s.channels (next_number (n % 2 ^ 32)) ms)
    (red-wrap n octets)
    ∙ (ap (λ k. first ++ datagrams (rule_of s) s.channels k ms) (next-wrap n)
    ∙ ap (λ xs. first ++ xs) (datagrams-are s (n + 1) ms))

pub sendings-append : (s : EndSettings) (index : ℕ) (ms ns : List Made)
    → sendings s index (ms ++ ns) ≡ sendings s index ms ++ sendings s (index + length ms) ns
sendings-append s index [] ns = ap (λ n. sendings s n ns) (omega arith)
sendings-append s index (m ∷ ms) ns =
    let first = on_channels s.channels (red_text index (upper_of (rule_of s) m)) in
    ap (λ xs. first ++ xs) (sendings-append s (index + 1) ms ns
    ∙ ap (λ n. sendings s (index + 1) ms ++ sendings s n ns) (omega arith))
    ∙ sym (append_assoc first (sendings s (index + 1) ms) (sendings s (index + length (m ∷ ms)) ns))

-- more that was made is counted after what was made before
pub made-append : (ms ns : List Made) (c : MadeCounts) → with_made (ms ++ ns) c ≡ with_made ns (with_made ms c)
made-append [] ns c = refl
made-append (m ∷ ms) ns c = made-append ms ns (with_kind m.pdu.kind c)
