use Rattle.std.proofs.Common.{◌≡◌, ◌≤◌, ◌+◌, drop}
use Rattle.sg_sched_text.specs.Crafting.{lens, opening_len}
use Rattle.sg_sched_text.proofs.length.openings_len.Given as goal

abbrev pub invariant-loop-committed : goal.invariant-loop-committed
invariant-loop-committed l = record {
  sum : l.len + lens opening_len (drop l.committed-index l.list) ≡ lens opening_len l.list;
  few : l.len ≤ 60000;
}
