use Rattle.std.proofs.Common.{◌≡◌, ◌&&◌, option_copied, drop}
use Rattle.std.specs.List.{list_all}
use Rattle.sg_sched.specs.Format.Faults.{rise, variables, tag_roles}
use Rattle.sg_sched.specs.Format.Items.{roles_of, variables_of}
use Rattle.sg_sched_text.proofs.rising.items_rise.Given as goal

abbrev pub invariant-loop-item : goal.invariant-loop-item
invariant-loop-item l =
    list_all (λ i. rise (variables i.delta) (variables_of (option_copied l.graph)) && rise (tag_roles i.tags) (roles_of (option_copied l.graph))) l.items
    ≡ list_all (λ i. rise (variables i.delta) (variables_of (option_copied l.graph)) && rise (tag_roles i.tags) (roles_of (option_copied l.graph))) (drop l.item-index l.items)
