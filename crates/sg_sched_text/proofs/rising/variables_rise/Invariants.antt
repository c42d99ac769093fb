use Rattle.std.proofs.Common.{◌≡◌, ◌≤◌, drop}
use Rattle.std.specs.Prelude.{option_copied, true}
use Rattle.sg_sched.specs.Format.Faults.{variables}
use Rattle.sg_sched.specs.Format.Items.{variables_of}
use Rattle.sg_sched_text.specs.Crafting.{rise_on}
use Rattle.sg_sched_text.proofs.rising.variables_rise.Given as goal

abbrev pub invariant-loop-committed : goal.invariant-loop-committed
invariant-loop-committed l = record {
  same : rise_on true 0 (variables l.list) (variables_of (option_copied l.graph)) ≡ rise_on l.rose l.least (variables (drop l.committed-index l.list)) (variables_of (option_copied l.graph));
  few : l.least ≤ 256;
}
