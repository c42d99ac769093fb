use Rattle.std.proofs.Common.{◌≡◌, ℕ, ◌-◌, ◌<◌, map, reverse, drop, length}
use Rattle.sg_model.specs.Lists.{is_in}
use Rattle.sg_walk.specs.Model.{step_of}
use Rattle.sg_certify.specs.Events.{pair_of}
use Rattle.sg_certify.specs.Filling.{added_by, given_by, value_in}
use Rattle.sg_certify.proofs.pass.explain.Given as goal

abbrev pub invariant-loop-back : goal.invariant-loop-back
invariant-loop-back l = record {
  added : map step_of l.steps.items ≡ reverse (added_by l.graph (λ r. is_in r l.fn.honest) (map pair_of (drop (length l.events - l.back) l.events)));
  left : (x : ℕ) → x < 32 → value_in l.kept x ≡ given_by l.graph (λ r. is_in r l.fn.honest) (map pair_of (drop (length l.events - l.back) l.events)) x;
}
