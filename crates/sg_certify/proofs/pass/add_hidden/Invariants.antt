use Rattle.std.proofs.Common.{◌≡◌, ℕ, ◌-◌, ◌<◌, ◌++◌, map, reverse, drop, length}
use Rattle.sg_protocol.specs.Explaining.{hidden_steps}
use Rattle.sg_walk.specs.Model.{step_of}
use Rattle.sg_certify.specs.Filling.{filled_by, unless_written, value_in}
use Rattle.sg_certify.proofs.pass.add_hidden.Given as goal

abbrev pub invariant-loop-back : goal.invariant-loop-back
invariant-loop-back l = record {
  added : map step_of l.steps.items ≡ map step_of l.initial.steps.items ++ reverse (filled_by (value_in l.initial.kept) (hidden_steps l.graph (drop (length l.labels - l.back) l.labels)));
  left : (x : ℕ) → x < 32 → value_in l.kept x ≡ unless_written (hidden_steps l.graph (drop (length l.labels - l.back) l.labels)) (value_in l.initial.kept) x;
}
