-- The report: what each incarnation put and took, and to which one it is joined.
use Rattle.std.specs.Prelude.{ℕ, ◌-◌, Option, Some, None, option_map, List, [], ◌∷◌, ◌++◌, map, reverse}
use Rattle.safe_machine.specs.World.{Side}
use Rattle.safe_machine.specs.World.Side.{Il, Fe}
use Rattle.pdi_session.specs.SessionStep.{Item}
use Rattle.stack_end.specs.EndValue.{channels_of}
use Rattle.stack_end.specs.Ends.{EndState}
use Rattle.stack_engine.specs.declared.incarnation.Incarnation.{Incarnation}
use Rattle.stack_engine.specs.declared.openings.Openings.{Openings}
use Rattle.stack_engine.specs.declared.past.Past.{Past}
use Rattle.stack_engine.specs.declared.report.Entry.{Entry as CodeEntry}
use Rattle.stack_engine.specs.Headline.{put_at, taken_at}
use Rattle.stack_engine.specs.Pairs.{World, JoinedEnd}

-- the entry of one incarnation
pub record Entry : Type 0 where
  pub put : List Item  -- the telegrams put, in order
  pub taken : List Item  -- the telegrams taken, in order
  pub joined : Option ℕ  -- the place, from 0, of the interlocking incarnation that it is joined to

-- places count from 0, numbers of incarnations from 1
abbrev pub place_of : Option ℕ → Option ℕ
place_of joined = option_map (λ number. number - 1) joined

-- the entry of an interlocking incarnation, which has no join of its own
abbrev pub il_entry : EndState → Entry
il_entry x = record { put = put_at x; taken = taken_at x; joined = None }

-- the entry of a field element incarnation
abbrev pub fe_entry : JoinedEnd → Entry
fe_entry f = record { put = put_at f.end; taken = taken_at f.end; joined = place_of f.joined }

-- the entries of a side, the first opened incarnation first
abbrev pub report_of : Side → World → List Entry
report_of Il w = reverse (map il_entry w.ils)
report_of Fe w = reverse (map fe_entry w.fes)

-- an entry of the code, without its place in memory
abbrev pub seen_entry : {A : Type 0} → CodeEntry A → Entry
seen_entry e = record { put = e.put.now.texts; taken = e.taken.now.texts; joined = e.joined }

-- the entry of an incarnation of the code, joined to this place
abbrev pub entry_of : {A : Type 0} → Option ℕ → Past A → Entry
entry_of joined p = record { put = p.put.texts; taken = p.taken.texts; joined = joined }

-- the entry of an incarnation of the code, with its own join
abbrev pub joined_entry : {A : Type 0} → Past A → Entry
joined_entry p = entry_of (place_of p.joined) p

-- what would be kept of an incarnation without its end
abbrev pub past_of : {A : Type 0} → Incarnation A → Past A
past_of i = record { keeper = channels_of i.end; put = i.put; taken = i.taken; joined = i.joined }

-- the present incarnation, if there is one
abbrev pub present_list : {A : Type 0} → Option (Incarnation A) → List (Past A)
present_list None = []
present_list (Some i) = past_of i ∷ []

-- all incarnations, without their ends, the first opened one first
abbrev pub incarnations_of : {A : Type 0} → Openings A → List (Past A)
incarnations_of o = o.before.items ++ present_list o.present
