-- The ends of a pair that the stations of two programs represent.
use Rattle.std.specs.Prelude.{◌≡◌, false, List, [], ◌∷◌, ◌++◌}
use Rattle.octets.specs.Lists.{IsBeginning}
use Rattle.pdi_session.specs.SessionStep.{Item}
use Rattle.stack_end.specs.Datagrams.{sendings}
use Rattle.stack_end.specs.Ends.{EndState}
use Rattle.stack_end.specs.EndValue.{EndRepresents}
use Rattle.end_for_callers.specs.Boxes.{DatagramQueue, Posted, new_outgoing, told_of}
use Rattle.end_for_callers.specs.Calls.{outbox_of}
use Rattle.stack_engine.specs.Headline.{put_at, taken_at}
use Rattle.stack_engine.specs.Pairs.{World, ends_of}
use Rattle.station_pair.specs.Steps.{Held, Programs}

-- the telegrams that `take` returned, then those that wait for it
abbrev pub seen_by : Held → List Item
seen_by h = h.given ++ h.station.inbox.queue.waiting

-- nothing was sent
abbrev pub nothing_sent : DatagramQueue
nothing_sent = new_outgoing 0

-- everything sent, as if `next_datagram` had not removed it
abbrev pub all_sent : Held → DatagramQueue
all_sent h =
    let o = outbox_of h.station in
    record o { queue = record { waiting = h.pulled ++ o.queue.waiting; places = o.queue.places; room = o.queue.room } }

-- a station represents an end of a pair
pub record HeldStands (h : Held) (x : EndState) : Type 0 where
  -- its end represents that end
  pub end : EndRepresents told_of h.station.end x
  -- it has the time of that end
  pub time : h.station.time ≡ x.time
  -- its program put what was put there
  pub put : h.put ≡ put_at x
  -- its program was given, or waits for, a prefix of what was taken there
  pub seen : IsBeginning (seen_by h) (taken_at x)
  -- all of it, if no telegram was lost
  pub whole : h.station.inbox.lost ≡ false → seen_by h ≡ taken_at x
  -- `next_datagram` returned, or still has, the datagrams that the end sent, in order, except those that are counted as
  -- not sent
  pub sent : Posted nothing_sent (sendings x.settings 0 x.machine.made) (all_sent h)

-- each station represents its end
abbrev pub AllStand : List Held → List EndState → Type 0
AllStand [] [] = Unit {0}
AllStand [] (x ∷ xs) = ⊥
AllStand (h ∷ hs) [] = ⊥
AllStand (h ∷ hs) (x ∷ xs) = HeldStands h x × AllStand hs xs

-- the stations of two programs represent the ends of a world
pub record ProgramsStand (p : Programs) (w : World) : Type 0 where
  pub ils : AllStand p.ils w.ils  -- those of the interlocking
  pub fes : AllStand p.fes (ends_of w.fes)  -- those of the field element
