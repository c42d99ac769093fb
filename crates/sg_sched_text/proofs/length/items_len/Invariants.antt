use Rattle.std.proofs.Common.{◌≡◌, ◌≤◌, ◌+◌, drop}
use Rattle.sg_sched_text.specs.Crafting.{lens, item_len}
use Rattle.sg_sched_text.proofs.length.items_len.Given as goal

abbrev pub invariant-loop-item : goal.invariant-loop-item
invariant-loop-item l = record {
  sum : l.len + lens (item_len l.version) (drop l.item-index l.items) ≡ lens (item_len l.version) l.items;
  few : l.len ≤ 60000;
}
