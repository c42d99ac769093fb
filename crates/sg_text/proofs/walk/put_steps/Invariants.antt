use Rattle.std.proofs.Common.{◌≡◌, ◌++◌, map, take}
use Rattle.std.specs.Prelude.{flat_map}
use Rattle.sg_model.specs.Lists.{is_in}
use Rattle.sg_walk.specs.Model.{step_of}
use Rattle.sg_text.specs.Walks.{step_text}
use Rattle.sg_text.proofs.walk.put_steps.Given as goal

abbrev pub invariant-steps : goal.invariant-steps
invariant-steps l = l.out ≡ l.initial.out ++ flat_map (step_text l.graph (λ r. is_in r l.honest)) (map step_of (take l.step-index l.steps))
