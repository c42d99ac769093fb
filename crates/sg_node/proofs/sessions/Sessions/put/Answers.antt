use Rattle.std.proofs.Common.{◌≡◌, ◌+◌, ◌<◌, ◌∙◌, length, None, Some, sym, ap, subst, arith}
use Rattle.indexmap.specs.IndexMap.{set_value_at}
use Rattle.sg_node.specs.Slots.{Table, HoldsTable}
use Rattle.sg_node.proofs.Indices.{live_at}
use Rattle.sg_node.proofs.Counts.{few_held, holds_put}
use Rattle.sg_node.proofs.sessions.Sessions.put.Goals as goal

pub put_at-requires : goal.put_at-requires
put_at-requires c = subst (λ (t : Table). c.args.index < length t.slots) (sym c.self.view_is) c.requires.within

pub overflow_add-self : goal.overflow_add-self
overflow_add-self c = grind (arith, c.self.invariant.count, few_held c.self.inside.slots.entries, c.len-len.ensures.len, c.len-len.ensures.small)

pub invariant_of-self : goal.invariant_of-self
invariant_of-self c = subst (λ e. HoldsTable e (c.self.inside.live + 1) c.self.inside.bound) (sym c.put_at.ensures)
    (holds_put c.self.inside.slots.entries c.self.inside.live c.self.inside.bound c.self.invariant c.args.index c.args.live
    (subst (λ (t : Table). c.args.index < length t.slots) (sym c.self.view_is) c.requires.within)
    (subst (λ (t : Table). live_at t.slots c.args.index ≡ None) (sym c.self.view_is) c.requires.empty))

pub returns : goal.returns
returns c = record { slots = c.put_at.ensures ∙ ap (λ (t : Table). set_value_at t.slots c.args.index (Some c.args.live)) c.self.view_is }
