use Rattle.std.proofs.Common.{◌≡◌, [], None, Some, length, refl, sym, ◌∙◌}
use Rattle.sg_stream.proofs.Removal.{any-without, without-none, latest}
use Rattle.sg_stream.proofs.memory.MemConnsConns.close.Goals as goal

pub invariant_of-self : goal.invariant_of-self
invariant_of-self c = (rw c.remove_pieces.ensures (any-without 255 c.args.conn c.self.inside.coming.items c.self.invariant.0), c.self.invariant.1, c.self.invariant.2)

pub returns-in-Some : goal.returns-in-Some
returns-in-Some c =
    let none = without-none 255 c.self.inside.coming.items c.self.invariant.0 in
    let open_one : c.self.inside.writer ≡ Some c.in-Some.writer = sym c.take.ensures.value ∙ c.in-Some.is in
    rw (← c.self.view_is, c.take.ensures.after, c.put_last.ensures.items, c.if-conn-ne-WRITER.false, open_one, none) (λ i. record {
      bound = c.self.inside.bound;
      traffic = record { coming = c.self.inside.coming.items; given = latest c.self.inside.closed.items c.in-Some.writer i; open_ones = [] };
      room = length c.self.inside.spare.items;
      plan = c.self.inside.plan;
      faults = c.self.inside.faults;
    })

pub returns-in_default : goal.returns-in_default
returns-in_default c =
    let none = without-none 255 c.self.inside.coming.items c.self.invariant.0 in
    let empty : c.self.inside.writer ≡ None = sym c.take.ensures.value ∙ c.in_default.is in
    rw (← c.self.view_is, c.take.ensures.after, c.if-conn-ne-WRITER.false, empty, none) refl
