use Rattle.std.proofs.Common.{◌≡◌, ◌++◌, true, drop, map}
use Rattle.sg_model.specs.Lists.{all_differ}
use Rattle.sg_sched_text.proofs.values.differ.Given as goal

abbrev pub invariant-loop-given : goal.invariant-loop-given
invariant-loop-given l = record {
  same : all_differ (map (λ v. v.variable) l.values) ≡ all_differ (l.names ++ map (λ v. v.variable) (drop l.given-index l.values));
  differ : all_differ l.names ≡ true;
}
