-- What callers need of a digest without its definition, and digests of RFC 1320, A.5, so that a wrong table or padding
-- in the definition fails the check.
use Rattle.std.proofs.Common.{◌≡◌, ◌+◌, ◌%◌, ◌≤◌, ℕ, List, [], ◌∷◌, length, take, codes, refl, arith, ◌-◌}
use Rattle.std.proofs.lemmas.List.{length-replicate, length-take-le}
use Rattle.md4.specs.declared.TheConstants.{INITIAL_VALUE}
use Rattle.md4.specs.Digest.{padding_octets, four_steps, after_round, after_block, digest}

-- a digest has 16 bytes
pub length-digest : (iv octets : List ℕ) → length (digest iv octets) ≡ 16
unfolding digest
length-digest iv octets = refl

-- a prefix of a digest, of at most 16 bytes, has the given length
pub length-take-digest : (size : ℕ) (iv octets : List ℕ) → size ≤ 16 → length (take size (digest iv octets)) ≡ size
length-take-digest size iv octets most = length-take-le size (digest iv octets) (rw (length-digest iv octets) most)

-- with its filling, a message has 56 bytes modulo 64 (3.1)
pub length-filling : (size : ℕ) → (size + length (padding_octets size)) % 64 ≡ 56
length-filling size =
    let zeros = length-replicate {A = ℕ} ((119 - size % 64) % 64) 0 in
    omega (arith, zeros)

pub digest_of_abc : digest INITIAL_VALUE (codes "abc") ≡ 0xa4 ∷ 0x48 ∷ 0x01 ∷ 0x7a ∷ 0xaf ∷ 0x21 ∷ 0xd8 ∷ 0x52 ∷ 0x5f ∷
    0xc1 ∷ 0x0a ∷ 0xe8 ∷ 0x7a ∷ 0xa6 ∷ 0x72 ∷ 0x9d ∷ []
unfolding four_steps after_round after_block digest
digest_of_abc = refl

-- 62 bytes, whose padding continues in a second block
pub digest_of_two_blocks : digest INITIAL_VALUE (codes "ABCDEFGHIJKLMNOPQRSTUVWXYZabcdefghijklmnopqrstuvwxyz0123456789")
    ≡ 0x04 ∷ 0x3f ∷ 0x85 ∷ 0x82 ∷ 0xf2 ∷ 0x41 ∷ 0xdb ∷ 0x35 ∷ 0x1c ∷ 0xe6 ∷ 0x27 ∷ 0xe1 ∷ 0x53 ∷ 0xe7 ∷ 0xf0 ∷ 0xe4 ∷ []
unfolding four_steps after_round after_block digest
digest_of_two_blocks = refl
