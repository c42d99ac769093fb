use Rattle.std.proofs.Common.{◌≡◌, ◌≤◌, ◌+◌, drop}
use Rattle.sg_sched_text.specs.Crafting.{lens, name_len}
use Rattle.sg_sched_text.proofs.length.names_len.Given as goal

abbrev pub invariant-loop-name : goal.invariant-loop-name
invariant-loop-name l = record {
  sum : l.len + lens name_len (drop l.name-index l.names) ≡ lens name_len l.names;
  few : l.len ≤ 60000;
}
