-- Origins of the program as those of the definitions.
use Rattle.std.specs.Prelude.{ℕ, Option, Some, None}
use Rattle.sg_vis.specs.declared.view.Origin.{Origin}
use Rattle.sg_vis.specs.declared.view.Origin.TheVariants.{Start, After}

-- the role's own last label, or None at the start
abbrev pub origin_of : Origin → Option ℕ
origin_of Start = None
origin_of (After label) = Some label
