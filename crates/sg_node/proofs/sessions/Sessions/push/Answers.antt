use Rattle.std.proofs.Common.{◌≡◌, ◌+◌, map, sym, subst, Contains, arith}
use Rattle.sg_node.specs.Slots.{HoldsTable, Slot, Table}
use Rattle.sg_node.proofs.Counts.{few_held, holds_last}
use Rattle.sg_node.proofs.sessions.Sessions.push.Goals as goal

pub overflow_add-self : goal.overflow_add-self
overflow_add-self c = grind (arith, c.self.invariant.count, few_held c.self.inside.slots.entries, c.len-len.ensures.len, c.len-len.ensures.small)

pub invariant_of-self : goal.invariant_of-self
invariant_of-self c =
    let same : c.role.inside.0 ≡ c.args.role = c.role.view_is in
    subst (λ e. HoldsTable e (c.self.inside.live + 1) (c.role.inside.0 + 1)) (sym c.put_last.ensures)
    (holds_last c.self.inside.slots.entries c.self.inside.live c.self.inside.bound c.self.invariant (c.args.sid, c.args.role) c.args.live (c.role.inside.0 + 1)
    (omega (arith, c.if-self-role.true)) (omega (arith, same)))

pub invariant_of-self-else-self-role : goal.invariant_of-self-else-self-role
invariant_of-self-else-self-role c =
    let same : c.role.inside.0 ≡ c.args.role = c.role.view_is in
    subst (λ e. HoldsTable e (c.self.inside.live + 1) c.self.inside.bound) (sym c.put_last.ensures)
    (holds_last c.self.inside.slots.entries c.self.inside.live c.self.inside.bound c.self.invariant (c.args.sid, c.args.role) c.args.live c.self.inside.bound
    (omega arith) (grind (arith, c.if-self-role.false, same)))

pub put_last-requires-clause-absent : goal.put_last-requires-clause-absent
put_last-requires-clause-absent c = subst (λ (t : Table). ¬ Contains (map (λ (s : Slot). s.0) t.slots) (c.args.sid, c.args.role)) (sym c.self.view_is) c.requires.absent
