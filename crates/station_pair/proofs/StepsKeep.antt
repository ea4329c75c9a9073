-- After each call the stations of two programs still represent a pair.
use Rattle.std.proofs.Common.{◌≡◌, ℕ, ◌+◌, ◌≤◌, Bool, true, false, Option, Some, None, Ok, Err, List, [], ◌∷◌, ◌++◌, length, take, drop, refl, sym, ap, ◌∙◌, subst, append_assoc, append-nil, arith}
use Rattle.std.proofs.Math.Seq.{take-append_seam}
use Rattle.std.proofs.lemmas.Bool.{false≢true}
use Rattle.std.proofs.lemmas.Bool.Decides.{nat_tests}
use Rattle.std.specs.Prelude.{is_none, option_map, if◌then◌else◌}
use Rattle.octets.specs.Lists.{IsBeginning}
use Rattle.pdi_session.specs.SessionStep.{Item}
use Rattle.end_settings.specs.ConfigValue.{settings_of, side_of}
use Rattle.end_settings.specs.EndSettings.{EndSettings, are_fit, rule_of}
use Rattle.end_settings.specs.declared.EndConfig.{EndConfig}
use Rattle.end_settings.specs.declared.Side.{Side}
use Rattle.end_settings.specs.declared.Side.TheVariants.{Interlocking, FieldElement}
use Rattle.safe_machine.specs.World.Side.{Il, Fe}
use Rattle.stack_end.specs.Ends.{Call, EndState, opened_end, time_of}
use Rattle.stack_end.specs.Steps.{call}
use Rattle.stack_end.specs.EndValue.{EndRepresents, EndValue, channels_of, inside}
use Rattle.stack_end.specs.Fields.{LayersRepresent}
use Rattle.stack_end.specs.TurnLaws.{LeadsByTurn, TurnsLaw}
use Rattle.stack_end.specs.Turns.{Inside, turn}
use Rattle.channels.specs.ChannelHistory.{SentDatagram, Sends, SendsOne, ChannelHistory}
use Rattle.std.specs.List.{FoldsTo}
use Rattle.std.specs.Global.{Global}
use Rattle.red_layer.specs.pdu.RedText.{red_text}
use Rattle.safe_machine.specs.Made.{Made}
use Rattle.stack_end.specs.Datagrams.{on_channels, sendings, sent_at_opening, upper_of}
use Rattle.end_for_callers.proofs.Deliveries.{posted}
use Rattle.end_for_callers.specs.Boxes.{told_of, TelegramQueue, DatagramQueue, Posted}
use Rattle.end_for_callers.specs.Queues.{PopsInto, Queued}
use Rattle.end_for_callers.specs.declared.CallFault.{CallFault}
use Rattle.end_for_callers.specs.Calls.{outbox_of, StationValue, is_time, or_else, refusal_to_open}
use Rattle.end_for_callers.specs.declared.Outcome.{Outcome}
use Rattle.end_for_callers.specs.declared.station.Rooms.{Rooms}
use Rattle.stack_engine.specs.Headline.{put_at, taken_at}
use Rattle.stack_engine.specs.Incarnations.{puts_in}
use Rattle.stack_engine.specs.Pairs.Event.{Open, Calls}
use Rattle.stack_engine.specs.Pairs.{JoinedEnd, call_fe, call_il, change_world, ends_of, refusal, unless_refused, World, Event, accepted_events, call_refusal, apply_event, is_untimely, last_time, latest, open_refusal, run, session_refusal, start}
use Rattle.stack_engine.proofs.one.Sent.{call-put, put_in_by}
use Rattle.station_pair.specs.Stands.{AllStand, HeldStands, ProgramsStand, all_sent, nothing_sent, seen_by}
use Rattle.end_for_callers.specs.CallResults.{IsAnswered, Pop, IsAccepted, IsOpened, IsTaken, IsPulled, refusal_of}
use Rattle.station_pair.specs.Steps.{AllLater, AreSteps, AtLatest, Called, IsLater, IsStep, Opens, OpensLater, Pulls, Takes, after_call, new_held, event_of, popped_items, goes_on, Held, Programs, Step, events_of, held_after, no_programs, programs_after}
use Rattle.station_pair.specs.Law.{FollowsLaw}

-- an accepted call comes at a time that a pair takes
timely : (c : Call) (s : StationValue) → refusal_of c s ≡ None → is_time (time_of c) s ≡ true
timely c s h = grind (arith, nat_tests)

not-untimely : (now last : ℕ) (s : StationValue) → s.time ≡ last → is_time now s ≡ true → is_untimely last now ≡ false
not-untimely now last s same h = grind (arith, nat_tests)

-- after a lost telegram only a close is accepted, and it takes nothing
lost-takes : (c : Call) (s : StationValue) → refusal_of c s ≡ None → s.inbox.lost ≡ true
    → (turn c (inside s.end)).taken ≡ []
lost-takes c s h lost = grind (arith, nat_tests)

or-none : (a b : Option CallFault) → or_else a b ≡ None → b ≡ None
or-none None b h = h
or-none (Some a) b h = cc

map-none : {X Y : Type 0} (f : X → Y) (o : Option X) → option_map f o ≡ None → o ≡ None
map-none f o h = grind (arith, nat_tests)

-- the session of the pair's end takes what that of the station's does
session-none : (c : Call) (s : StationValue) (x : EndState) → LayersRepresent (inside s.end) x → refusal_of c s ≡ None
    → session_refusal c x ≡ None
session-none c s x h none = grind (arith, nat_tests, or-none, map-none)

put-in : (c : Call) (x : EndState) → session_refusal c x ≡ None → puts_in c ≡ put_in_by c x
put-in c x h = grind (arith, nat_tests, map-none)

pub call-accepted : (c : Call) (h : Held) (x : EndState) → HeldStands h x → refusal_of c h.station ≡ None
    → call_refusal c (Some x) ≡ None
call-accepted c h x stands none =
    rw (not-untimely (time_of c) x.time h.station stands.time (timely c h.station none))
    (session-none c h.station x stands.end.both none)

seen-after : (h : Held) (t : StationValue) (put added : List Item)
    → t.inbox.queue.waiting ≡ h.station.inbox.queue.waiting ++ added
    → seen_by (after_call t put [] [] h) ≡ seen_by h ++ added
seen-after h t put added e =
    ap (λ g. g ++ t.inbox.queue.waiting) (append-nil h.given)
    ∙ (ap (λ w. h.given ++ w) e ∙ sym (append_assoc h.given h.station.inbox.queue.waiting added))

nil-front : (a b : List Item) → a ++ b ≡ [] → a ≡ []
nil-front [] b h = refl
nil-front (x ∷ a) b h = cc

call-seen : (c : Call) (o : Outcome) (h : Held) (t : StationValue) (x : EndState) → HeldStands h x
    → IsAccepted c o h.station t
    → LeadsByTurn (turn c (inside h.station.end)) x (call c x) → (b : Bool) → h.station.inbox.lost ≡ b
    → IsBeginning (seen_by (after_call t (puts_in c) [] [] h)) (taken_at (call c x))
    × (t.inbox.lost ≡ false → seen_by (after_call t (puts_in c) [] [] h) ≡ taken_at (call c x))
call-seen c o h t x stands answer turned false was =
    let items = (turn c (inside h.station.end)).taken in
    let came = answer.does.telegrams in
    let added = came.added in
    let rest = came.beginning.0 in
    let seen : seen_by (after_call t (puts_in c) [] [] h) ≡ taken_at x ++ added =
    seen-after h t (puts_in c) added came.waiting ∙ ap (λ xs. xs ++ added) (stands.whole was) in
    let grown : taken_at (call c x) ≡ taken_at x ++ items = turned.grew.taken in (
      (
        rest,
        ap (λ xs. xs ++ rest) seen ∙ (append_assoc (taken_at x) added rest
            ∙ (ap (λ xs. taken_at x ++ xs) came.beginning.1 ∙ sym grown)),
      ),
      λ none. seen ∙ (ap (λ xs. taken_at x ++ xs) (came.all none) ∙ sym grown),
    )
call-seen c o h t x stands answer turned true was =
    let items = (turn c (inside h.station.end)).taken in
    let came = answer.does.telegrams in
    let added = came.added in
    let none : items ≡ [] = lost-takes c h.station answer.accepted was in
    let no_more : added ≡ [] = nil-front added came.beginning.0 (came.beginning.1 ∙ none) in
    let seen : seen_by (after_call t (puts_in c) [] [] h) ≡ seen_by h =
    seen-after h t (puts_in c) added came.waiting ∙ (ap (λ xs. seen_by h ++ xs) no_more ∙ append-nil (seen_by h)) in
    let same : taken_at x ≡ taken_at (call c x) = sym (turned.grew.taken
    ∙ (ap (λ xs. taken_at x ++ xs) none ∙ append-nil (taken_at x))) in (
      (stands.seen.0, ap (λ xs. xs ++ stands.seen.0) seen ∙ (stands.seen.1 ∙ same)),
      λ kept. absurd (false≢true (sym kept ∙ came.stays was)),
    )

abbrev told_as : List SentDatagram → ℕ → ChannelHistory
told_as xs n =
    record { sent = Some xs; answers = None; asked = None; failed_sends = n; failed_receives = 0; room = λ _. 0 }

-- what is known of everything sent depends on the list and on the count
told-same : (xs ys : List SentDatagram) (n m : ℕ) → xs ≡ ys → n ≡ m → told_as xs n ≡ told_as ys m
told-same xs ys n m e f = ap (λ (zs : List SentDatagram). told_as zs n) e ∙ ap (λ k. told_as ys k) f

-- Before what is known something else was sent.
abbrev behind : List SentDatagram → ChannelHistory → ChannelHistory
behind front t = record t { sent = option_map (λ xs. front ++ xs) t.sent }

behind-one : (front more : List SentDatagram) (o : Option (List SentDatagram))
    → option_map (λ xs. front ++ xs) (option_map (λ xs. xs ++ more) o)
    ≡ option_map (λ xs. xs ++ more) (option_map (λ xs. front ++ xs) o)
behind-one front more None = refl
behind-one front more (Some xs) = ap Some (sym (append_assoc front xs more))

behind-sends : (front : List SentDatagram) (went : Bool) (a b : ChannelHistory) (x : SentDatagram) → Sends went a x b
    → Sends went (behind front a) x (behind front b)
behind-sends front went a b x h =
    record {
      sent = ap (λ o. option_map (λ xs. front ++ xs) o) h.sent ∙ behind-one front (if went then x ∷ [] else []) a.sent;
      failed = h.failed;
      sure = h.sure;
      left = h.left;
      answers = h.answers;
      asked = h.asked;
      failed_receives = h.failed_receives;
    }

behind-all : (front : List SentDatagram) (a b : ChannelHistory) (xs : List SentDatagram) → FoldsTo SendsOne a xs b
    → FoldsTo SendsOne (behind front a) xs (behind front b)
behind-all front a b [] h = ap (behind front) h
behind-all front a b (x ∷ xs) (m, one, rest) =
    (behind front m, (one.0, behind-sends front one.0 a m x one.1), behind-all front m b xs rest)

folds-append : (a b c : ChannelHistory) (xs ys : List SentDatagram) → FoldsTo SendsOne a xs b → FoldsTo SendsOne b ys c
    → FoldsTo SendsOne a (xs ++ ys) c
folds-append a b c [] ys h k = subst (λ t. FoldsTo SendsOne t ys c) (sym h) k
folds-append a b c (x ∷ xs) ys (m, one, rest) k = (m, one, folds-append m b c xs ys rest k)

sendings-append : (s : EndSettings) (index : ℕ) (ms ns : List Made)
    → sendings s index (ms ++ ns) ≡ sendings s index ms ++ sendings s (index + length ms) ns
sendings-append s index [] ns = ap (λ n. sendings s n ns) (omega arith)
sendings-append s index (m ∷ ms) ns =
    let first = on_channels s.channels (red_text index (upper_of (rule_of s) m)) in
    ap (λ xs. first ++ xs) (sendings-append s (index + 1) ms ns
    ∙ ap (λ n. sendings s (index + 1) ms ++ sendings s n ns) (omega arith))
    ∙ sym (append_assoc first (sendings s (index + 1) ms) (sendings s (index + length (m ∷ ms)) ns))

call-sent : (c : Call) (o : Outcome) (h : Held) (t : StationValue) (x : EndState) → HeldStands h x
    → IsAccepted c o h.station t
    → LeadsByTurn (turn c (inside h.station.end)) x (call c x)
    → Posted nothing_sent (sendings (call c x).settings 0 (call c x).machine.made)
    (all_sent (after_call t (puts_in c) [] [] h))
call-sent c o h t x stands answer turned =
    let y = call c x in
    let s = x.settings in
    let g = turned.grew in
    let start : sendings y.settings 0 y.machine.made ≡ sendings s 0 x.machine.made ++ sendings s (length x.machine.made)
    g.more =
    ap (λ q. sendings q 0 y.machine.made) g.settings ∙ (ap (sendings s 0) g.made
    ∙ (sendings-append s 0 x.machine.made g.more
    ∙ ap (λ n. sendings s 0 x.machine.made ++ sendings s n g.more) (omega arith))) in
    let more = behind-all h.pulled (told_of (outbox_of h.station)) (told_of (outbox_of t))
    (turn c (inside h.station.end)).sent answer.does.datagrams.each in
    let more_sent = subst (λ xs. FoldsTo SendsOne (told_of (all_sent h)) xs (behind h.pulled (told_of (outbox_of t))))
    g.sent more in
    let same : behind h.pulled (told_of (outbox_of t)) ≡ told_of (all_sent (after_call t (puts_in c) [] [] h)) =
    told-same (h.pulled ++ (outbox_of t).queue.waiting) ((h.pulled ++ []) ++ (outbox_of t).queue.waiting)
    (outbox_of t).unsent (outbox_of t).unsent
    (ap (λ g. g ++ (outbox_of t).queue.waiting) (sym (append-nil h.pulled))) refl in
    let all = folds-append (told_of nothing_sent) (told_of (all_sent h)) (behind h.pulled (told_of (outbox_of t)))
    (sendings s 0 x.machine.made)
    (sendings s (length x.machine.made) g.more) stands.sent.each more_sent in
    posted nothing_sent (sendings y.settings 0 y.machine.made) (all_sent (after_call t (puts_in c) [] [] h))
    (subst (λ xs. FoldsTo SendsOne (told_of nothing_sent) xs (told_of (all_sent (after_call t (puts_in c) [] [] h))))
    (sym start)
    (subst (λ told. FoldsTo SendsOne (told_of nothing_sent)
    (sendings s 0 x.machine.made ++ sendings s (length x.machine.made) g.more) told) same all))

pub call-stands : TurnsLaw → (c : Call) (o : Outcome) (h : Held) (t : StationValue) (x : EndState) → HeldStands h x
    → IsAccepted c o h.station t
    → HeldStands (after_call t (puts_in c) [] [] h) (call c x)
call-stands turns c o h t x stands answer =
    let turned = turns c (inside h.station.end) x stands.end.both in
    let seen = call-seen c o h t x stands answer turned h.station.inbox.lost refl in
    record {
      end = record {
        both = subst (λ (v : Inside). LayersRepresent v (call c x)) (sym answer.does.left) turned.stands;
        time = answer.does.time;
      };
      time = answer.time;
      put =
          ap (λ (is : List Item). is ++ puts_in c) stands.put
          ∙ (ap (λ (is : List Item). put_at x ++ is)
          (put-in c x (session-none c h.station x stands.end.both answer.accepted)) ∙ sym (call-put c x));
      seen = seen.0;
      whole = seen.1;
      sent = call-sent c o h t x stands answer turned;
    }

-- changes that do not affect what a station represents
kept-stands : (h k : Held) (x : EndState) → EndRepresents told_of k.station.end x → k.station.time ≡ h.station.time
    → k.put ≡ h.put → seen_by k ≡ seen_by h
    → k.station.inbox.lost ≡ h.station.inbox.lost → told_of (all_sent k) ≡ told_of (all_sent h) → HeldStands h x
    → HeldStands k x
kept-stands h k x end time put seen lost sent stands =
    record {
      end = end;
      time = time ∙ stands.time;
      put = put ∙ stands.put;
      seen = (stands.seen.0, ap (λ xs. xs ++ stands.seen.0) seen ∙ stands.seen.1);
      whole = λ none. seen ∙ stands.whole (sym lost ∙ none);
      sent = let xs = sendings x.settings 0 x.machine.made in
          posted nothing_sent xs (all_sent k) (subst (λ told. FoldsTo SendsOne (told_of nothing_sent) xs told)
          (sym sent) stands.sent.each);
    }

-- a refused call
pub refused-stands : (h : Held) (t : StationValue) (x : EndState) → t ≡ h.station → HeldStands h x
    → HeldStands (after_call t [] [] [] h) x
refused-stands h t x same stands =
    kept-stands h (after_call t [] [] [] h) x
    (subst (λ (s : StationValue). EndRepresents told_of s.end x) (sym same) stands.end)
    (ap (λ (s : StationValue). s.time) same)
    (append-nil h.put)
    (ap (λ g. g ++ t.inbox.queue.waiting) (append-nil h.given)
    ∙ ap (λ (s : StationValue). h.given ++ s.inbox.queue.waiting) same)
    (ap (λ (s : StationValue). s.inbox.lost) same)
    (told-same ((h.pulled ++ []) ++ (outbox_of t).queue.waiting) (h.pulled ++ (outbox_of h.station).queue.waiting)
    (outbox_of t).unsent
    (outbox_of h.station).unsent
    (ap (λ g. g ++ (outbox_of t).queue.waiting) (append-nil h.pulled)
    ∙ ap (λ (s : StationValue). h.pulled ++ (outbox_of s).queue.waiting) same)
    (ap (λ (s : StationValue). (outbox_of s).unsent) same)) stands

-- what a pop gives, and then what waits, is what was given before, and then what waited
pop-same : (buffer : List ℕ) (answer : Pop) (left : List ℕ) (given : List (ℕ × List ℕ)) (q r : Queued ℕ)
    → PopsInto answer q buffer r left
    → (given ++ popped_items answer left) ++ r.waiting ≡ given ++ q.waiting
pop-same buffer (Ok None) left given q r p =
    ap (λ g. g ++ r.waiting) (append-nil given) ∙ ap (λ (k : Queued ℕ). given ++ k.waiting) p.1
pop-same buffer (Err short) left given q r p =
    ap (λ g. g ++ r.waiting) (append-nil given) ∙ ap (λ (k : Queued ℕ). given ++ k.waiting) p.1
pop-same buffer (Ok (Some (tag, size))) left given q r p =
    let front : take size left ≡ p.piece =
    ap (λ n. take n left) (sym p.whole) ∙ (ap (λ xs. take (length p.piece) xs) p.written
    ∙ take-append_seam p.piece (drop size buffer)) in
    append_assoc given ((tag, take size left) ∷ []) r.waiting
    ∙ (ap (λ xs. given ++ (tag, xs) ∷ r.waiting) front ∙ ap (λ xs. given ++ xs) (sym p.oldest))

-- `next_datagram`
pub pulled-stands : (buffer : List ℕ) (answer : Pop) (left : List ℕ) (h : Held) (t : StationValue) (x : EndState)
    → IsPulled buffer answer left h.station t
    → HeldStands h x → HeldStands (after_call t [] [] (popped_items answer left) h) x
pulled-stands buffer answer left h t x step stands =
    let same = step.same in
    kept-stands h (after_call t [] [] (popped_items answer left) h) x
    (record {
      both = subst (λ (v : Inside). LayersRepresent v x) (sym same.kept) stands.end.both;
      time = same.called
          ∙ stands.end.time;
    }) same.time
    (append-nil h.put)
    (ap (λ g. g ++ t.inbox.queue.waiting) (append-nil h.given)
    ∙ ap (λ (i : TelegramQueue). h.given ++ i.queue.waiting) same.inbox)
    (ap (λ (i : TelegramQueue). i.lost) same.inbox)
    (told-same ((h.pulled ++ popped_items answer left) ++ (outbox_of t).queue.waiting)
    (h.pulled ++ (outbox_of h.station).queue.waiting) (outbox_of t).unsent
    (outbox_of h.station).unsent (pop-same buffer answer left h.pulled (outbox_of h.station).queue (outbox_of t).queue
    step.popped) same.unsent) stands

-- `take`
pub taken-stands : (buffer : List ℕ) (answer : Pop) (left : List ℕ) (h : Held) (t : StationValue) (x : EndState)
    → IsTaken buffer answer left h.station t
    → HeldStands h x → HeldStands (after_call t [] (popped_items answer left) [] h) x
taken-stands buffer answer left h t x step stands =
    kept-stands h (after_call t [] (popped_items answer left) [] h) x
    (subst (λ e. EndRepresents told_of e x) (sym step.same.end) stands.end) step.same.time
    (append-nil h.put) (pop-same buffer answer left h.given h.station.inbox.queue t.inbox.queue step.popped)
    step.same.lost
    (told-same ((h.pulled ++ []) ++ (outbox_of t).queue.waiting) (h.pulled ++ (outbox_of h.station).queue.waiting)
    (outbox_of t).unsent
    (outbox_of h.station).unsent
    (ap (λ g. g ++ (outbox_of t).queue.waiting) (append-nil h.pulled)
    ∙ ap (λ (e : EndValue DatagramQueue Global). h.pulled ++ (channels_of e).queue.waiting) step.same.end)
    (ap (λ (e : EndValue DatagramQueue Global). (channels_of e).unsent) step.same.end)) stands

-- an opening
pub opened-stands : (side : Side) (config : EndConfig) (first_sn : ℕ) (rooms : Rooms) (now : ℕ) (s : StationValue)
    → IsOpened side config first_sn rooms now s
    → HeldStands (new_held s) (opened_end side config first_sn now)
opened-stands side config first_sn rooms now s h =
    let none : s.inbox.queue.waiting ≡ [] = ap (λ (i : TelegramQueue). i.queue.waiting) h.inbox in
    let sent = posted nothing_sent (sent_at_opening (opened_end side config first_sn now)) (all_sent (new_held s))
    h.sent.each in
    record {
      end = h.stands;
      time = h.time;
      put = refl;
      seen = ([], append-nil s.inbox.queue.waiting ∙ none);
      whole = λ _. none;
      sent = sent;
    }

-- Over the stations of one side, the latest first.
list-called : TurnsLaw → (c : Call) (o : Outcome) (t : StationValue) (hs : List Held) (xs : List EndState)
    → AllStand hs xs
    → AtLatest (λ s. IsAnswered c (Ok o) s t) hs → (call_refusal c (latest xs) ≡ None)
    × AllStand (goes_on t (puts_in c) [] [] hs) (call_il c xs)
list-called turns c o t [] xs stand step = absurd step
list-called turns c o t (h ∷ hs) [] stand step = absurd stand
list-called turns c o t (h ∷ hs) (x ∷ xs) stand step =
    (call-accepted c h x stand.0 step.accepted, (call-stands turns c o h t x stand.0 step, stand.1))

list-refused : (c : Call) (f : CallFault) (t : StationValue) (hs : List Held) (xs : List EndState) → AllStand hs xs
    → AtLatest (λ s. IsAnswered c (Err f) s t) hs → AllStand (goes_on t [] [] [] hs) xs
list-refused c f t [] xs stand step = absurd step
list-refused c f t (h ∷ hs) [] stand step = absurd stand
list-refused c f t (h ∷ hs) (x ∷ xs) stand step = (refused-stands h t x step.1 stand.0, stand.1)

list-taken : (buffer : List ℕ) (answer : Pop) (left : List ℕ) (t : StationValue) (hs : List Held) (xs : List EndState)
    → AllStand hs xs
    → AtLatest (λ s. IsTaken buffer answer left s t) hs → AllStand (goes_on t [] (popped_items answer left) [] hs) xs
list-taken buffer answer left t [] xs stand step = absurd step
list-taken buffer answer left t (h ∷ hs) [] stand step = absurd stand
list-taken buffer answer left t (h ∷ hs) (x ∷ xs) stand step =
    (taken-stands buffer answer left h t x step stand.0, stand.1)

list-pulled : (buffer : List ℕ) (answer : Pop) (left : List ℕ) (t : StationValue) (hs : List Held) (xs : List EndState)
    → AllStand hs xs
    → AtLatest (λ s. IsPulled buffer answer left s t) hs → AllStand (goes_on t [] [] (popped_items answer left) hs) xs
list-pulled buffer answer left t [] xs stand step = absurd step
list-pulled buffer answer left t (h ∷ hs) [] stand step = absurd stand
list-pulled buffer answer left t (h ∷ hs) (x ∷ xs) stand step =
    (pulled-stands buffer answer left h t x step stand.0, stand.1)

-- an opening at a time that the pair takes
last-before : (now : ℕ) (hs : List Held) (xs : List EndState) → AllStand hs xs → IsLater now hs
    → last_time (latest xs) ≤ now
last-before now [] [] stand later = omega arith
last-before now [] (x ∷ xs) stand later = absurd stand
last-before now (h ∷ hs) [] stand later = absurd stand
last-before now (h ∷ hs) (x ∷ xs) stand later = omega (arith, later, stand.0.time)

fits : (side : Side) (config : EndConfig) (rooms : Rooms) (now last : ℕ)
    → refusal_to_open side (settings_of config) rooms now ≡ None → last ≤ now
    → (are_fit (side_of side) (settings_of config) ≡ true) × (is_untimely last now ≡ false)
fits side config rooms now last h later = grind (arith, nat_tests)

pub list-opened : (side : Side) (config : EndConfig) (first_sn : ℕ) (rooms : Rooms) (now : ℕ) (s : StationValue)
    (hs : List Held) (xs : List EndState)
    → AllStand hs xs → IsOpened side config first_sn rooms now s → IsLater now hs
    → (open_refusal (side_of side) (settings_of config) now (latest xs) ≡ None)
    × AllStand (new_held s ∷ hs) (opened_end side config first_sn now ∷ xs)
list-opened side config first_sn rooms now s hs xs stand step later =
    let both = fits side config rooms now (last_time (latest xs)) step.answer (last-before now hs xs stand later) in
    (rw (both.0, both.1) refl, (opened-stands side config first_sn rooms now s step, stand))

-- Over both sides.
ends-call : (c : Call) (ils : List EndState) (fes : List JoinedEnd)
    → ends_of (call_fe c ils fes) ≡ call_il c (ends_of fes)
ends-call c ils [] = refl
ends-call c ils (f ∷ fes) = refl

record Done (x : Step) (p : Programs) (w : World) : Type 0 where
  accepted : accepted_events (event_of x) w ≡ event_of x
  stands : ProgramsStand (held_after x p) (run (event_of x) w)

done-one : (e : Event) (q : Programs) (w : World) → refusal e w ≡ None → ProgramsStand q (change_world e w)
    → (accepted_events (e ∷ []) w ≡ e ∷ []) × ProgramsStand q (run (e ∷ []) w)
done-one e q w none stands = (
  ap (λ r. if is_none r then e ∷ [] else []) none,
  subst (λ v. ProgramsStand q v) (sym (ap (λ r. unless_refused r w (change_world e w)) none)) stands,
)

step-done : TurnsLaw → (x : Step) (p : Programs) (w : World) → ProgramsStand p w → IsStep x p → OpensLater x p
    → Done x p w
step-done turns (Opens Interlocking config first_sn rooms now (Err f)) p w h step later =
    record { accepted = refl; stands = h }
step-done turns (Opens FieldElement config first_sn rooms now (Err f)) p w h step later =
    record { accepted = refl; stands = h }
step-done turns (Opens Interlocking config first_sn rooms now (Ok s)) p w h step later =
    let one = list-opened Interlocking config first_sn rooms now s p.ils w.ils h.ils step later in
    let q = held_after (Opens Interlocking config first_sn rooms now (Ok s)) p in
    let d = done-one (Open Il (settings_of config) first_sn now) q w one.0 (record { ils = one.1; fes = h.fes }) in
    record { accepted = d.0; stands = d.1 }
step-done turns (Opens FieldElement config first_sn rooms now (Ok s)) p w h step later =
    let one = list-opened FieldElement config first_sn rooms now s p.fes (ends_of w.fes) h.fes step later in
    let q = held_after (Opens FieldElement config first_sn rooms now (Ok s)) p in
    let d = done-one (Open Fe (settings_of config) first_sn now) q w one.0 (record { ils = h.ils; fes = one.1 }) in
    record { accepted = d.0; stands = d.1 }
step-done turns (Called Interlocking c (Ok o) t) p w h step later =
    let one = list-called turns c o t p.ils w.ils h.ils step in
    let d = done-one (Calls Il c) (held_after (Called Interlocking c (Ok o) t) p) w one.0
    (record { ils = one.1; fes = h.fes }) in
    record { accepted = d.0; stands = d.1 }
step-done turns (Called FieldElement c (Ok o) t) p w h step later =
    let one = list-called turns c o t p.fes (ends_of w.fes) h.fes step in
    let fes = subst (λ xs. AllStand (goes_on t (puts_in c) [] [] p.fes) xs) (sym (ends-call c w.ils w.fes)) one.1 in
    let d = done-one (Calls Fe c) (held_after (Called FieldElement c (Ok o) t) p) w one.0
    (record { ils = h.ils; fes = fes }) in
    record { accepted = d.0; stands = d.1 }
step-done turns (Called Interlocking c (Err f) t) p w h step later =
    record { accepted = refl; stands = record { ils = list-refused c f t p.ils w.ils h.ils step; fes = h.fes } }
step-done turns (Called FieldElement c (Err f) t) p w h step later =
    record {
      accepted = refl;
      stands = record { ils = h.ils; fes = list-refused c f t p.fes (ends_of w.fes) h.fes step };
    }
step-done turns (Takes Interlocking buffer answer left t) p w h step later =
    record {
      accepted = refl;
      stands = record {
        ils = list-taken buffer answer left t p.ils w.ils h.ils step;
        fes = h.fes;
      };
    }
step-done turns (Takes FieldElement buffer answer left t) p w h step later =
    record {
      accepted = refl;
      stands =
          record { ils = h.ils; fes = list-taken buffer answer left t p.fes (ends_of w.fes) h.fes step };
    }
step-done turns (Pulls Interlocking buffer answer left t) p w h step later =
    record {
      accepted = refl;
      stands = record {
        ils = list-pulled buffer answer left t p.ils w.ils h.ils step;
        fes = h.fes;
      };
    }
step-done turns (Pulls FieldElement buffer answer left t) p w h step later =
    record {
      accepted = refl;
      stands =
          record { ils = h.ils; fes = list-pulled buffer answer left t p.fes (ends_of w.fes) h.fes step };
    }

run-append : (es fs : List Event) (w : World) → run (es ++ fs) w ≡ run fs (run es w)
run-append [] fs w = refl
run-append (e ∷ es) fs w = run-append es fs (apply_event w e)

accepted-append : (es fs : List Event) (w : World)
    → accepted_events (es ++ fs) w ≡ accepted_events es w ++ accepted_events fs (run es w)
accepted-append [] fs w = refl
accepted-append (e ∷ es) fs w = grind (arith, accepted-append es fs (apply_event w e))

-- a list of steps
steps-done : TurnsLaw → (xs : List Step) (p : Programs) (w : World) → ProgramsStand p w → AreSteps xs p → AllLater xs p
    → (accepted_events (events_of xs) w ≡ events_of xs) × ProgramsStand (programs_after xs p) (run (events_of xs) w)
steps-done turns [] p w h steps later = (refl, h)
steps-done turns (x ∷ xs) p w h steps later =
    let one = step-done turns x p w h steps.0 later.0 in
    let more = steps-done turns xs (held_after x p) (run (event_of x) w) one.stands steps.1 later.1 in (
      accepted-append (event_of x) (events_of xs) w
          ∙ (ap (λ es. es ++ accepted_events (events_of xs) (run (event_of x) w)) one.accepted
          ∙ ap (λ es. event_of x ++ es) more.0),
      subst (λ v. ProgramsStand (programs_after xs (held_after x p)) v) (sym (run-append (event_of x) (events_of xs) w))
          more.1,
    )

pub follows : TurnsLaw → FollowsLaw
follows turns xs steps later =
    let both = steps-done turns xs no_programs start (record { ils = tt; fes = tt }) steps later in
    record { accepted = both.0; stands = both.1 }
