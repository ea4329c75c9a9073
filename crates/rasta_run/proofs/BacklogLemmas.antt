-- What is passed on is neither lost nor written twice.
use Rattle.std.proofs.Common.{◌≡◌, ◌+◌, ◌++◌, ℕ, Bool, List, Option, Some, None, ◌-◌, length, take, drop, ap, sym, subst, ◌∙◌, append_assoc, add-one, arith, length-drop, take_all}
use Rattle.std.proofs.lemmas.List.{take-append-drop, drop-drop}
use Rattle.std.proofs.Math.Seq.{take-add}
use Rattle.std.specs.Io.KnownBytes.{Appends, Keeps, append_known}
use Rattle.rasta_run.specs.Backlogs.{PassesManyTimes, GatedWriter, PassesOnce}
use Rattle.rasta_run.specs.declared.backlog.WriteOutcome.{WriteOutcome}
use Rattle.rasta_run.specs.declared.backlog.WriteOutcome.TheVariants.{On}
use Rattle.rasta_run.specs.declared.readiness.Stream.{Stream}

-- a write keeps together what the stream holds and what waits
pub keeps-write : (c d : Option (List ℕ)) (o p : List ℕ) (n : ℕ) → p ≡ drop n o → Appends c d (take n o)
    → Keeps (append_known c o) (append_known d p)
keeps-write None d o p n e a = tt
keeps-write (Some xs) None o p n e a = a
keeps-write (Some xs) (Some ys) o p n e a =
    ap (λ l. l ++ p) a ∙ append_assoc xs (take n o) p
    ∙ ap (λ l. xs ++ l) (ap (λ l. take n o ++ l) e ∙ take-append-drop n o)

-- what is appended in two steps
pub appends-trans : (a b c : Option (List ℕ)) (xs ys zs : List ℕ) → zs ≡ xs ++ ys → Appends a b xs → Appends b c ys
    → Appends a c zs
appends-trans None b c xs ys zs e h k = tt
appends-trans (Some u) None c xs ys zs e h k = absurd h
appends-trans (Some u) (Some v) None xs ys zs e h k = k
appends-trans (Some u) (Some v) (Some w) xs ys zs e h k =
    k ∙ ap (λ l. l ++ ys) h ∙ append_assoc u xs ys ∙ ap (λ l. u ++ l) (sym e)

-- the bytes from a place to the end
pub rest-all : (gone : ℕ) (octets : List ℕ) → take (length octets - gone) (drop gone octets) ≡ drop gone octets
rest-all gone octets = take_all (length octets - gone) (drop gone octets) (omega (arith, length-drop gone octets))

-- the next bytes are appended to those that are gone
pub whole-on : (a b c : Option (List ℕ)) (gone size : ℕ) (octets rest : List ℕ) → rest ≡ drop gone octets
    → Appends a b (take gone octets) → Appends b c (take size rest) → Appends a c (take (gone + size) octets)
whole-on a b c gone size octets rest e h k =
    appends-trans a b c (take gone octets) (take size rest) (take (gone + size) octets)
    (take-add gone size octets ∙ ap (λ l. take gone octets ++ take size l) (sym e)) h k

-- a step on the rest is a step on all bytes
pub step-at : {W G : Type 0} (contents : W → Option (List ℕ)) (asks : G → Stream → Bool → G
    → Type 0) (stream : Stream) (gone size : ℕ) (octets rest : List ℕ)
    (w v : W) (a b : G) (step other : WriteOutcome) → rest ≡ drop gone octets
    → PassesOnce contents asks stream (record { writer = w; octets = rest; gate = a }) step
    (record { writer = v; octets = drop size rest; gate = b })
    → step ≡ other
    → PassesOnce contents asks stream (record { writer = w; octets = drop gone octets; gate = a }) other
    (record { writer = v; octets = drop (gone + size) octets; gate = b })
step-at contents asks stream gone size octets rest w v a b step other e p is =
    let named : PassesOnce contents asks stream (record { writer = w; octets = rest; gate = a }) other
    (record { writer = v; octets = drop size rest; gate = b }) =
    subst (λ s. PassesOnce contents asks stream (record { writer = w; octets = rest; gate = a }) s
    (record { writer = v; octets = drop size rest; gate = b })) is p in
    let placed : PassesOnce contents asks stream (record { writer = w; octets = drop gone octets; gate = a }) other
    (record { writer = v; octets = drop size (drop gone octets); gate = b }) =
    subst (λ l. PassesOnce contents asks stream (record { writer = w; octets = l; gate = a }) other
    (record { writer = v; octets = drop size l; gate = b })) e named in
    subst (λ l. PassesOnce contents asks stream (record { writer = w; octets = drop gone octets; gate = a }) other
    (record { writer = v; octets = l; gate = b })) (drop-drop size gone octets) placed

-- one more step in which the writer took something
pub goes-on : {W G : Type 0} (contents : W → Option (List ℕ)) (asks : G → Stream → Bool → G
    → Type 0) (stream : Stream) (n : ℕ) (s mid t : GatedWriter W G)
    → PassesManyTimes contents asks stream n s mid → PassesOnce contents asks stream mid On t
    → PassesManyTimes contents asks stream (n + 1) s t
goes-on contents asks stream n s mid t h p =
    subst (λ k. PassesManyTimes contents asks stream k s t) (sym (add-one n)) (mid, h, p)
