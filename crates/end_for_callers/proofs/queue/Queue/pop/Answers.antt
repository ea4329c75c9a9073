use Rattle.std.proofs.Common.{◌≡◌, refl, arith}
use Rattle.std.proofs.lemmas.List.{length-take}
use Rattle.end_for_callers.proofs.Pieces.{first-within, none-first, read-whole, take-oldest, too-long}
use Rattle.end_for_callers.proofs.queue.Queue.pop.Goals as goal

pub returns-in_default : goal.returns-in_default
returns-in_default g c = (
  rw (← c.self.view_is) (none-first c.self.inside.heads.items c.self.inside.octets.items c.in_default.ensures),
  refl,
  refl,
)

pub returns-then-buffer-size : goal.returns-then-buffer-size
returns-then-buffer-size g c = (
  rw (← c.self.view_is) (too-long c.self.inside.heads c.self.inside.octets c.in-Some.field-0.now c.args.buffer.now
      c.self.invariant c.in-Some.ensures c.if-buffer-size.true),
  refl,
  refl,
)

pub returns : goal.returns
returns g c =
    let within = first-within c.self.inside.heads c.self.inside.octets c.in-Some.field-0.now c.self.invariant
    c.in-Some.ensures in
    let all : c.read_into-all.result ≡ c.in-Some.field-0.now.size =
    omega (
      arith,
      c.read_into-all.ensures.count,
      length-take c.in-Some.field-0.now.size c.args.buffer.now,
      within,
      c.if-buffer-size.false,
    ) in
    rw (← c.self.view_is)
    (take-oldest c.self.inside.heads c.self.inside.octets c.in-Some.field-0.now c.read_into-all.result
    c.pop_front-oldest.new.self c.read_into-all.new.self
    (record {
      kept = c.self.invariant;
      first = c.in-Some.ensures;
      head = c.pop_front-oldest.ensures.items;
      piece = c.read_into-all.ensures.items;
      all = all;
    })
    c.args.buffer.now _
    (read-whole c.read_into-all.result c.in-Some.field-0.now.size c.self.inside.octets.items c.args.buffer.now
    c.read_into-all.new.dst all c.read_into-all.ensures.read))
