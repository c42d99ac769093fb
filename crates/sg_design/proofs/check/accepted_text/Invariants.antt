use Rattle.std.proofs.Common.{◌≡◌, ◌++◌, take}
use Rattle.std.specs.Prelude.{flat_map}
use Rattle.sg_design.specs.Accepted.{accepted_line, views_line}
use Rattle.sg_design.proofs.check.accepted_text.Given as goal

abbrev pub invariant-loop-program : goal.invariant-loop-program
invariant-loop-program l = l.text ≡ accepted_line l.graph ++ flat_map views_line (take l.program-index l.programs)
