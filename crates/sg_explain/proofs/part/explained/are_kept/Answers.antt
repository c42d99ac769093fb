use Rattle.std.proofs.Common.{map}
use Rattle.sg_walk.specs.Model.{step_of}
use Rattle.sg_explain.proofs.Explained.{kept_keys}
use Rattle.sg_explain.proofs.part.explained.are_kept.Goals as goal

pub returns-else-has_keys : goal.returns-else-has_keys
returns-else-has_keys c = (
  λ t. (let f = c.if-has_keys.false in absurd (cc)),
  λ e. c.has_keys.ensures.1 (kept_keys (map step_of c.args.steps.now) c.args.indices.now c.args.vars c.args.values.now e),
)
