-- Datagrams posted and telegrams taken, by the lists that contracts name.
use Rattle.std.proofs.Common.{◌≡◌, ℕ, ◌+◌, ◌≤◌, ◌^◌, ◌%◌, Bool, true, false, not, ◌&&◌, Option, Some, None, List, [], ◌∷◌, ◌++◌, length, cond, refl, sym, ap, ◌∙◌, subst, append_assoc, append-nil, arith}
use Rattle.std.specs.Prelude.{option_map}
use Rattle.std.proofs.lemmas.Bool.{false≢true}
use Rattle.std.specs.List.{FoldsTo}
use Rattle.pdi_session.specs.SessionStep.{Item}
use Rattle.channels.specs.ChannelHistory.{SentDatagram, Sends, SendsOne, ChannelHistory}
use Rattle.std.specs.Global.{Global}
use Rattle.end_for_callers.specs.Boxes.{Came, TelegramQueue, DatagramQueue, Posted, OutboxValue, takes_of, told_in, told_of}
use Rattle.end_for_callers.specs.Queues.{has_place_for, with_piece}
use Rattle.end_for_callers.specs.declared.openings.Openings.{Openings}
use Rattle.end_for_callers.specs.Calls.{Does, StationValue, outbox_of, seen_end}
use Rattle.stack_end.specs.Ends.{Call, time_of}
use Rattle.stack_end.specs.EndValue.{EndTakesTurn, EndTakesTurnAlone, EndValue, channels_of, inside}
use Rattle.stack_end.specs.Turns.{Inside, Turn, turn}

-- Sends of which some failed: the count has grown by their number, and if none failed all are recorded.
record Counted (a : ChannelHistory) (xs : List SentDatagram) (b : ChannelHistory) : Type 0 where
  failed : ℕ
  few : failed ≤ length xs
  count : b.failed_sends % 2 ^ 64 ≡ (a.failed_sends + failed) % 2 ^ 64
  sent : failed ≡ 0 → b.sent ≡ option_map (λ ys. ys ++ xs) a.sent

map-nil : (o : Option (List SentDatagram)) → o ≡ option_map (λ ys. ys ++ []) o
map-nil None = refl
map-nil (Some ys) = ap Some (sym (append-nil ys))

map-one : (o : Option (List SentDatagram)) (x : SentDatagram) (xs : List SentDatagram)
    → option_map (λ ys. ys ++ xs) (option_map (λ ys. ys ++ x ∷ []) o) ≡ option_map (λ ys. ys ++ x ∷ xs) o
map-one None x xs = refl
map-one (Some ys) x xs = ap Some (append_assoc ys (x ∷ []) xs)

counted-one : (a m b : ChannelHistory) (x : SentDatagram) (xs : List SentDatagram) (went : Bool) → Sends went a x m
    → Counted m xs b → Counted a (x ∷ xs) b
counted-one a m b x xs true h k =
    record {
      failed = k.failed;
      few = omega (arith, k.few);
      count = k.count ∙ ap (λ n. (n + k.failed) % 2 ^ 64) h.failed;
      sent = λ none. k.sent none ∙ (ap (λ o. option_map (λ ys. ys ++ xs) o) h.sent ∙ map-one a.sent x xs);
    }
counted-one a m b x xs false h k =
    record {
      failed = k.failed + 1;
      few = omega (arith, k.few);
      count = let is : m.failed_sends ≡ (a.failed_sends + 1) % 2 ^ 64 = h.failed in omega (arith, k.count, is);
      sent = λ none. absurd (omega (arith, none));
    }

counted-all : (a : ChannelHistory) (xs : List SentDatagram) (b : ChannelHistory) → FoldsTo SendsOne a xs b
    → Counted a xs b
counted-all a [] b e =
    record {
      failed = 0;
      few = omega arith;
      count = let same : b.failed_sends ≡ a.failed_sends = ap (λ t. t.failed_sends) (sym e) in omega (arith, same);
      sent = λ _. ap (λ t. t.sent) (sym e) ∙ map-nil a.sent;
    }
counted-all a (x ∷ xs) b (m, (went, one), rest) = counted-one a m b x xs went one (counted-all m xs b rest)

some-is : {X : Type 0} (x y : X) → Some x ≡ Some y → x ≡ y
some-is x y e = cc

pub posted : (o : DatagramQueue) (xs : List SentDatagram) (p : DatagramQueue)
    → FoldsTo SendsOne (told_of o) xs (told_of p) → Posted o xs p
posted o xs p h =
    record {
      each = h;
      all = λ few same.
          let k = counted-all (told_of o) xs (told_of p) h in
          let none : k.failed ≡ 0 = omega (arith, few, same, k.few, k.count) in
          some-is p.queue.waiting (o.queue.waiting ++ xs) (k.sent none);
    }

-- after one without room none is added
lost-adds : (n : TelegramQueue) (items : List Item) (m : TelegramQueue) → n.lost ≡ true → FoldsTo takes_of n items m
    → (m.lost ≡ true) × (m.queue.waiting ≡ n.queue.waiting)
lost-adds n [] m lost e = (ap (λ k. k.lost) (sym e) ∙ lost, ap (λ k. k.queue.waiting) (sym e))
lost-adds n (i ∷ items) m lost (mid, one, rest) =
    let is : mid ≡ record n { lost = true } = one
    ∙ ap (λ l. cond (not l && has_place_for (length i.1) n.queue) (record n { queue = with_piece i n.queue })
    (record n { lost = true })) lost in
    let later = lost-adds mid items m (ap (λ k. k.lost) is) rest in
    (later.0, later.1 ∙ ap (λ k. k.queue.waiting) is)

came-one : (n mid m : TelegramQueue) (i : Item) (items : List Item) (room : Bool)
    → mid ≡ cond room (record n { queue = with_piece i n.queue }) (record n { lost = true })
    → FoldsTo takes_of mid items m → Came mid items m → Came n (i ∷ items) m
came-one n mid m i items true is rest k =
    record {
      stays = λ was. k.stays (ap (λ x. x.lost) is ∙ was);
      added = i ∷ k.added;
      waiting = k.waiting ∙ (ap (λ x. x.queue.waiting ++ k.added) is ∙ append_assoc n.queue.waiting (i ∷ []) k.added);
      beginning = (k.beginning.0, ap (λ xs. i ∷ xs) k.beginning.1);
      all = λ none. ap (λ xs. i ∷ xs) (k.all none);
    }
came-one n mid m i items false is rest k =
    let later = lost-adds mid items m (ap (λ x. x.lost) is) rest in
    record {
      stays = λ _. later.0;
      added = [];
      waiting = later.1 ∙ (ap (λ x. x.queue.waiting) is ∙ sym (append-nil n.queue.waiting));
      beginning = (i ∷ items, refl);
      all = λ none. absurd (false≢true (sym none ∙ later.0));
    }

pub came : (n : TelegramQueue) (items : List Item) (m : TelegramQueue) → FoldsTo takes_of n items m → Came n items m
came n [] m e =
    record {
      stays = λ was. ap (λ k. k.lost) (sym e) ∙ was;
      added = [];
      waiting = ap (λ k. k.queue.waiting) (sym e) ∙ sym (append-nil n.queue.waiting);
      beginning = ([], refl);
      all = λ _. refl;
    }
came n (i ∷ items) m (mid, one, rest) =
    came-one n mid m i items (not n.lost && has_place_for (length i.1) n.queue) one rest (came mid items m rest)

pub came-none : (n : TelegramQueue) → Came n [] n
came-none n = came n [] n refl

-- what is known without the places that are sure
abbrev pub roomless : ChannelHistory → ChannelHistory
roomless t = record t { room = λ _. 0 }

sends-roomless : (went : Bool) (a : ChannelHistory) (x : SentDatagram) (b : ChannelHistory) → Sends went a x b
    → Sends went (roomless a) x (roomless b)
sends-roomless went a x b s =
    record {
      sent = s.sent;
      failed = s.failed;
      sure = λ sure short. absurd (omega (arith, sure));
      left = λ k. omega arith;
      answers = s.answers;
      asked = s.asked;
      failed_receives = s.failed_receives;
    }

pub folds-roomless : (xs : List SentDatagram) (a b : ChannelHistory) → FoldsTo SendsOne a xs b
    → FoldsTo SendsOne (roomless a) xs (roomless b)
folds-roomless [] a b h = ap roomless h
folds-roomless (x ∷ xs) a b (m, (went, s), rest) =
    (roomless m, (went, sends-roomless went a x m s), folds-roomless xs m b rest)

-- the turn of an end, as a caller sees the end
pub seen-turns : (turn : Inside → Turn Inside) (e v w : EndValue OutboxValue Global) (a b : TelegramQueue)
    → seen_end v ≡ seen_end e
    → EndTakesTurn told_in takes_of turn v a w b → EndTakesTurn told_of takes_of turn (seen_end e) a (seen_end w) b
seen-turns turn e v w a b same h =
    subst (λ (u : EndValue DatagramQueue Global). EndTakesTurn told_of takes_of turn u a (seen_end w) b) same
    (record {
      left = h.left;
      sent = folds-roomless (turn (inside v)).sent (told_in (channels_of v))
          (told_in (channels_of w)) h.sent;
      taken = h.taken;
    })

pub seen-alone : (turn : Inside → Turn Inside) (e v w : EndValue OutboxValue Global) → seen_end v ≡ seen_end e
    → EndTakesTurnAlone told_in turn v w
    → EndTakesTurnAlone told_of turn (seen_end e) (seen_end w)
seen-alone turn e v w same h =
    subst (λ (u : EndValue DatagramQueue Global). EndTakesTurnAlone told_of turn u (seen_end w)) same
    (record {
      left = h.left;
      sent = folds-roomless (turn (inside v)).sent (told_in (channels_of v))
          (told_in (channels_of w)) h.sent;
      none = h.none;
    })

-- a call by its end
pub does-all : (c : Call) (s t : StationValue) → EndTakesTurn told_of takes_of (turn c) s.end s.inbox t.end t.inbox
    → t.end.time ≡ time_of c → t.reserve ≡ s.reserve → t.openings ≡ s.openings
    → Does c s t
does-all c s t h time reserve openings =
    record {
      reserve = reserve;
      openings = openings;
      left = h.left;
      time = time;
      datagrams = posted (outbox_of s) (turn c (inside s.end)).sent (outbox_of t) h.sent;
      telegrams = came s.inbox (turn c (inside s.end)).taken t.inbox h.taken;
    }

pub does-alone : (c : Call) (s t : StationValue) → EndTakesTurnAlone told_of (turn c) s.end t.end
    → t.end.time ≡ time_of c → t.inbox ≡ s.inbox → t.reserve ≡ s.reserve → t.openings ≡ s.openings
    → Does c s t
does-alone c s t h time same reserve openings =
    record {
      reserve = reserve;
      openings = openings;
      left = h.left;
      time = time;
      datagrams = posted (outbox_of s) (turn c (inside s.end)).sent (outbox_of t) h.sent;
      telegrams = subst (λ items. Came s.inbox items t.inbox) (sym h.none)
          (subst (λ i. Came s.inbox [] i) (sym same) (came-none s.inbox));
    }

-- what a station with this end does by a call, once places are set aside in the end: `v` is the end before the call,
-- `w` after it
pub does-after : (c : Call) (e v w : EndValue OutboxValue Global) (a b : TelegramQueue) (time now reserve : ℕ) (kept : Openings)
    → seen_end v ≡ seen_end e → EndTakesTurn told_in takes_of (turn c) v a w b → w.time ≡ time_of c
    → Does c (record { end = seen_end e; inbox = a; time = time; reserve = reserve; openings = kept })
    (record { end = seen_end w; inbox = b; time = now; reserve = reserve; openings = kept })
does-after c e v w a b time now reserve kept same h at =
    does-all c (record { end = seen_end e; inbox = a; time = time; reserve = reserve; openings = kept })
    (record { end = seen_end w; inbox = b; time = now; reserve = reserve; openings = kept }) (seen-turns (turn c) e v w a b same h) at
    refl refl

-- the same of a call by which nothing is taken
pub does-alone-after : (c : Call) (e v w : EndValue OutboxValue Global) (a : TelegramQueue) (time now reserve : ℕ) (kept : Openings)
    → seen_end v ≡ seen_end e → EndTakesTurnAlone told_in (turn c) v w → w.time ≡ time_of c
    → Does c (record { end = seen_end e; inbox = a; time = time; reserve = reserve; openings = kept })
    (record { end = seen_end w; inbox = a; time = now; reserve = reserve; openings = kept })
does-alone-after c e v w a time now reserve kept same h at =
    does-alone c (record { end = seen_end e; inbox = a; time = time; reserve = reserve; openings = kept })
    (record { end = seen_end w; inbox = a; time = now; reserve = reserve; openings = kept }) (seen-alone (turn c) e v w same h) at refl
    refl refl
