use Rattle.std.proofs.Common.{◌≡◌, ◌≤◌, drop}
use Rattle.std.specs.Prelude.{option_copied, true}
use Rattle.sg_sched.specs.Format.Faults.{tag_roles}
use Rattle.sg_sched.specs.Format.Items.{roles_of}
use Rattle.sg_sched_text.specs.Crafting.{rise_on}
use Rattle.sg_sched_text.proofs.rising.roles_rise.Given as goal

abbrev pub invariant-loop-tag : goal.invariant-loop-tag
invariant-loop-tag l = record {
  same : rise_on true 0 (tag_roles l.list) (roles_of (option_copied l.graph)) ≡ rise_on l.rose l.least (tag_roles (drop l.tag-index l.list)) (roles_of (option_copied l.graph));
  few : l.least ≤ 256;
}
