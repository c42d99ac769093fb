use Rattle.std.proofs.Common.{◌≡◌, ◌+◌, ◌*◌}
use Rattle.sg_drive.specs.Budget.{HasBudget}
use Rattle.sg_drive.specs.Generated.{begin_all}
use Rattle.sg_drive.proofs.generator.Generator.begin_all.Given as goal

-- those before the index have begun, each of which brings at most 80 steps
abbrev pub invariant-loop-index : goal.invariant-loop-index
invariant-loop-index l = (l.self ≡ record (l.initial.self) { going = begin_all l.initial.self.seed l.initial.self.graph l.first l.index l.initial.self.going }) × HasBudget (80 * l.index) (l.first + l.index) l.self
