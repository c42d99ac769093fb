use Rattle.sg_drive.specs.Groups.{AreGrouped}
use Rattle.sg_drive.proofs.groups.generate.Given as goal

abbrev pub invariant-loop-group : goal.invariant-loop-group
invariant-loop-group l = AreGrouped l.group l.seed l.sessions l.graph l.programs l.generator
