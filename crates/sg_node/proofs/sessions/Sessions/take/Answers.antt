use Rattle.std.proofs.Common.{◌∙◌, ◌-◌, ◌<◌, length, None, sym, ap, subst, option_and_then}
use Rattle.std.specs.Prelude.{slice_get}
use Rattle.indexmap.specs.IndexMap.{set_value_at}
use Rattle.sg_node.specs.Slots.{Slot, Table, HoldsTable}
use Rattle.sg_node.proofs.Counts.{holds_taken, holds_empty}
use Rattle.sg_node.proofs.sessions.Sessions.take.Goals as goal

pub take_at-requires : goal.take_at-requires
take_at-requires c = subst (λ (t : Table). c.args.index < length t.slots) (sym c.self.view_is) c.requires

pub overflow_sub-self : goal.overflow_sub-self
overflow_sub-self c = (holds_taken c.self.inside.slots.entries c.self.inside.live c.self.inside.bound c.self.invariant c.args.index c.in-Some.live (subst (λ (t : Table). c.args.index < length t.slots) (sym c.self.view_is) c.requires) (sym c.take_at.ensures.taken ∙ c.in-Some.is)).1

pub invariant_of-self : goal.invariant_of-self
invariant_of-self c = subst (λ e. HoldsTable e (c.self.inside.live - 1) c.self.inside.bound) (sym c.take_at.ensures.entries) (holds_taken c.self.inside.slots.entries c.self.inside.live c.self.inside.bound c.self.invariant c.args.index c.in-Some.live (subst (λ (t : Table). c.args.index < length t.slots) (sym c.self.view_is) c.requires) (sym c.take_at.ensures.taken ∙ c.in-Some.is)).0

pub invariant_of-self-in-None : goal.invariant_of-self-in-None
invariant_of-self-in-None c = subst (λ e. HoldsTable e c.self.inside.live c.self.inside.bound) (sym c.take_at.ensures.entries) (holds_empty c.self.inside.slots.entries c.self.inside.live c.self.inside.bound c.self.invariant c.args.index (subst (λ (t : Table). c.args.index < length t.slots) (sym c.self.view_is) c.requires) (sym c.take_at.ensures.taken ∙ c.in-None.is))

pub returns-in-Some-clause-taken : goal.returns-in-Some-clause-taken
returns-in-Some-clause-taken c = sym c.in-Some.is ∙ c.take_at.ensures.taken ∙ ap (λ (t : Table). option_and_then (λ (s : Slot). s.1) (slice_get t.slots c.args.index)) c.self.view_is

pub returns-in-Some-clause-slots : goal.returns-in-Some-clause-slots
returns-in-Some-clause-slots c = c.take_at.ensures.entries ∙ ap (λ (t : Table). set_value_at t.slots c.args.index None) c.self.view_is

pub returns-in-Some-clause-spare : goal.returns-in-Some-clause-spare
returns-in-Some-clause-spare c = c.take_at.ensures.spare ∙ ap (λ (t : Table). t.spare) c.self.view_is

pub returns-in-None-clause-taken : goal.returns-in-None-clause-taken
returns-in-None-clause-taken c = sym c.in-None.is ∙ c.take_at.ensures.taken ∙ ap (λ (t : Table). option_and_then (λ (s : Slot). s.1) (slice_get t.slots c.args.index)) c.self.view_is

pub returns-in-None-clause-slots : goal.returns-in-None-clause-slots
returns-in-None-clause-slots c = c.take_at.ensures.entries ∙ ap (λ (t : Table). set_value_at t.slots c.args.index None) c.self.view_is

pub returns-in-None-clause-spare : goal.returns-in-None-clause-spare
returns-in-None-clause-spare c = c.take_at.ensures.spare ∙ ap (λ (t : Table). t.spare) c.self.view_is
