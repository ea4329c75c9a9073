-- A piece after others, and the oldest before them.
use Rattle.std.proofs.Common.{◌≡◌, ℕ, ◌+◌, ◌-◌, ◌<◌, ◌≤◌, List, [], ◌∷◌, ◌++◌, length, take, drop, refl, ap, ◌∙◌, append-nil, arith}
use Rattle.std.proofs.lemmas.List.{length-append, length-drop, length-take, take-append-le, drop-append-le, drop_all}
use Rattle.std.proofs.Math.Seq.{take-length}
use Rattle.end_for_callers.specs.declared.queue.Head.{Head}
use Rattle.circular_buffer.specs.Buffer.{Buffer, buffer}
use Rattle.std.specs.Prelude.{Some, None, slice_get}
use Rattle.end_for_callers.specs.Pieces.{AreKept, pieces_in, size_of}
use Rattle.end_for_callers.specs.Queues.{bytes_of, empty_queue, IsTooLong, Queued, TookOldest, with_piece}

pub size-add : {T : Type 0} (hs : List (Head T)) (h : Head T) → size_of (hs ++ h ∷ []) ≡ size_of hs + h.size
size-add [] h = omega arith
size-add (k ∷ hs) h = omega (arith, size-add hs h)

pub pieces-add : {T : Type 0} (hs : List (Head T)) (h : Head T) (o more : List ℕ) → size_of hs ≡ length o
    → h.size ≡ length more → pieces_in (hs ++ h ∷ []) (o ++ more) ≡ pieces_in hs o ++ (h.tag, more) ∷ []
pieces-add [] h [] more all size = ap (λ t. (h.tag, t) ∷ []) (ap (λ n. take n more) size ∙ take-length more)
pieces-add [] h (x ∷ o) more all size = absurd (omega arith)
pieces-add (k ∷ hs) h o more all size =
    let within : k.size ≤ length o = omega arith in
    let rest : size_of hs ≡ length (drop k.size o) = omega (arith, length-drop k.size o) in
    ap (λ t. (k.tag, t) ∷ pieces_in (hs ++ h ∷ []) (drop k.size (o ++ more))) (take-append-le k.size o more within)
    ∙ (ap (λ d. (k.tag, take k.size o) ∷ pieces_in (hs ++ h ∷ []) d) (drop-append-le k.size o more within)
    ∙ ap (λ ps. (k.tag, take k.size o) ∷ ps) (pieces-add hs h (drop k.size o) more rest size))

pub pieces-length : {T : Type 0} (hs : List (Head T)) (o : List ℕ) → length (pieces_in hs o) ≡ length hs
pieces-length [] o = refl
pieces-length (h ∷ hs) o = omega (arith, pieces-length hs (drop h.size o))

-- the value of two rings
abbrev pub queued : {T : Type 0} → Buffer (Head T) → Buffer ℕ → Queued T
queued heads octets =
    record {
      waiting = pieces_in heads.items octets.items;
      places = heads.capacity - length heads.items;
      room = octets.capacity - length octets.items;
    }

whole : (n : ℕ) (o more : List ℕ) → n ≡ length more → o ++ take n more ≡ o ++ more
whole n o more is = ap (λ xs. o ++ xs) (ap (λ k. take k more) is ∙ take-length more)

-- a piece was added to both
pub record Pushed {T : Type 0} (heads : Buffer (Head T)) (octets : Buffer ℕ) (h : Head T) (n : ℕ) (more : List ℕ)
    (heads' : Buffer (Head T)) (octets' : Buffer ℕ) : Type 0 where
  pub kept : AreKept heads octets
  pub head : heads' ≡ buffer (heads.items ++ h ∷ []) heads.capacity
  pub piece : octets' ≡ buffer (octets.items ++ take n more) octets.capacity
  pub all : n ≡ length more
  pub size : h.size ≡ length more
  pub place : length heads.items + 1 ≤ heads.capacity
  pub room : length octets.items + length more ≤ octets.capacity

module _ {T : Type 0} (heads : Buffer (Head T)) (octets : Buffer ℕ) (h : Head T) (n : ℕ) (more : List ℕ)
    (heads' : Buffer (Head T)) (octets' : Buffer ℕ) (p : Pushed heads octets h n more heads' octets') where
  octets-is : octets' ≡ buffer (octets.items ++ more) octets.capacity
  octets-is = p.piece ∙ ap (λ xs. buffer xs octets.capacity) (whole n octets.items more p.all)

  pub push-keeps : AreKept heads' octets'
  push-keeps =
      let l : length (heads.items ++ h ∷ []) ≡ length heads.items + 1 = length-append heads.items (h ∷ []) in
      let m : length (octets.items ++ more) ≡ length octets.items + length more = length-append octets.items more in
      rw (p.head, octets-is)
      (record {
        sizes = omega (arith, size-add heads.items h, p.kept.sizes, p.size, m);
        places = omega (arith, l, p.place);
        room = omega (arith, m, p.room);
      })

  pub push-view : queued heads' octets' ≡ with_piece (h.tag, more) (queued heads octets)
  push-view =
      let w : pieces_in (heads.items ++ h ∷ []) (octets.items ++ more) ≡ pieces_in heads.items octets.items
      ++ (h.tag, more) ∷ [] = pieces-add heads.items h octets.items more p.kept.sizes p.size in
      let l : heads.capacity - length (heads.items ++ h ∷ [])
      ≡ heads.capacity - length heads.items - 1 = omega (arith, length-append heads.items (h ∷ [])) in
      let r : octets.capacity - length (octets.items ++ more)
      ≡ octets.capacity - length octets.items - length more = omega (arith, length-append octets.items more) in
      rw (p.head, octets-is) (λ i. record { waiting = w i; places = l i; room = r i })

-- the oldest piece
pub record IsFirst {T : Type 0} (hs : List (Head T)) (o : List ℕ) (h : Head T) : Type 0 where
  pub pieces : pieces_in hs o ≡ (h.tag, take h.size o) ∷ pieces_in (drop 1 hs) (drop h.size o)
  pub sizes : size_of hs ≡ h.size + size_of (drop 1 hs)
  pub count : length hs ≡ length (drop 1 hs) + 1

some-is : {X : Type 0} (x y : X) → Some x ≡ Some y → x ≡ y
some-is x y e = cc

pub is-first : {T : Type 0} (hs : List (Head T)) (o : List ℕ) (h : Head T) → Some h ≡ slice_get hs 0 → IsFirst hs o h
is-first [] o h e = absurd (cc)
is-first (k ∷ hs) o h e =
    rw (some-is h k e) (record { pieces = refl; sizes = refl; count = omega arith })

pub none-first : {T : Type 0} (hs : List (Head T)) (o : List ℕ) → None ≡ slice_get hs 0 → pieces_in hs o ≡ []
none-first [] o e = refl
none-first (k ∷ hs) o e = absurd (cc)

-- it was removed from both
pub record Taken {T : Type 0} (heads : Buffer (Head T)) (octets : Buffer ℕ) (h : Head T) (n : ℕ)
    (heads' : Buffer (Head T)) (octets' : Buffer ℕ) : Type 0 where
  pub kept : AreKept heads octets
  pub first : Some h ≡ slice_get heads.items 0
  pub head : heads' ≡ buffer (drop 1 heads.items) heads.capacity
  pub piece : octets' ≡ buffer (drop n octets.items) octets.capacity
  pub all : n ≡ h.size

module _ {T : Type 0} (heads : Buffer (Head T)) (octets : Buffer ℕ) (h : Head T) (n : ℕ) (heads' : Buffer (Head T))
    (octets' : Buffer ℕ) (p : Taken heads octets h n heads' octets') where
  octets-left : octets' ≡ buffer (drop h.size octets.items) octets.capacity
  octets-left = p.piece ∙ ap (λ k. buffer (drop k octets.items) octets.capacity) p.all

  first-is : IsFirst heads.items octets.items h
  first-is = is-first heads.items octets.items h p.first

  pub within : h.size ≤ length octets.items
  within = omega (arith, first-is.sizes, p.kept.sizes)

  pub take-keeps : AreKept heads' octets'
  take-keeps =
      let l : length (drop h.size octets.items) ≡ length octets.items - h.size = length-drop h.size octets.items in
      rw (p.head, octets-left)
      (record {
        sizes = omega (arith, first-is.sizes, p.kept.sizes, l);
        places = omega (arith, first-is.count, p.kept.places);
        room = omega (arith, l, p.kept.room);
      })

  pub take-oldest : (buffer-old after : List ℕ) → after ≡ take h.size octets.items ++ drop h.size buffer-old
      → TookOldest h.tag h.size (queued heads octets) buffer-old (queued heads' octets') after
  take-oldest old after written =
      let l : length (drop h.size octets.items) ≡ length octets.items - h.size = length-drop h.size octets.items in
      rw (p.head, octets-left)
      (record {
        piece = take h.size octets.items;
        oldest = first-is.pieces;
        whole = omega (arith, length-take h.size octets.items, within);
        written = written;
        places = omega (arith, first-is.count, p.kept.places);
        room = omega (arith, l, within, p.kept.room);
      })

pub too-long : {T : Type 0} (heads : Buffer (Head T)) (octets : Buffer ℕ) (h : Head T) (old : List ℕ)
    → AreKept heads octets → Some h ≡ slice_get heads.items 0 → length old < h.size
    → IsTooLong h.size (queued heads octets) old
too-long heads octets h old kept first short =
    let f = is-first heads.items octets.items h first in
    record {
      oldest = (h.tag, take h.size octets.items);
      others = pieces_in (drop 1 heads.items) (drop h.size octets.items);
      stands = f.pieces;
      size = omega (arith, length-take h.size octets.items, f.sizes, kept.sizes);
      short = short;
    }

pub first-within : {T : Type 0} (heads : Buffer (Head T)) (octets : Buffer ℕ) (h : Head T) → AreKept heads octets
    → Some h ≡ slice_get heads.items 0 → h.size ≤ length octets.items
first-within heads octets h kept first =
    let f = is-first heads.items octets.items h first in
    omega (arith, f.sizes, kept.sizes)

-- the bytes read fill the start of the buffer
pub read-whole : (n size : ℕ) (o old dst : List ℕ) → n ≡ size → dst ≡ take n o ++ drop n (take size old)
    → dst ++ drop size old ≡ take size o ++ drop size old
read-whole n size o old dst all read =
    let none : drop size (take size old) ≡ [] = drop_all size (take size old) (omega (arith, length-take size old)) in
    let dst-is : dst ≡ take size o = read ∙ (ap (λ k. take k o ++ drop k (take size old)) all
    ∙ (ap (λ xs. take size o ++ xs) none ∙ append-nil (take size o))) in
    ap (λ xs. xs ++ drop size old) dst-is

-- the bytes of the pieces are those that the heads say
bytes-are : {T : Type 0} (hs : List (Head T)) (o : List ℕ) → size_of hs ≤ length o
    → bytes_of (pieces_in hs o) ≡ size_of hs
bytes-are [] o h = refl
bytes-are (x ∷ hs) o h =
    omega (arith, length-take x.size o, h, bytes-are hs (drop x.size o) (omega (arith, h, length-drop x.size o)))

-- rings without items are the queue without its pieces
pub emptied-is : {T : Type 0} (heads heads' : Buffer (Head T)) (octets octets' : Buffer ℕ) → AreKept heads octets
    → heads' ≡ buffer [] heads.capacity
    → octets' ≡ buffer [] octets.capacity
    → queued heads' octets' ≡ empty_queue (queued heads octets)
emptied-is heads heads' octets octets' kept h o =
    let places : heads.capacity - 0 ≡ heads.capacity - length heads.items
    + length (pieces_in heads.items octets.items) =
    omega (arith, pieces-length heads.items octets.items, kept.places) in
    let room : octets.capacity - 0 ≡ octets.capacity - length octets.items
    + bytes_of (pieces_in heads.items octets.items) =
    omega (arith, bytes-are heads.items octets.items (omega (arith, kept.sizes)), kept.sizes, kept.room) in
    rw (h, o) (λ i. record { waiting = []; places = places i; room = room i })
