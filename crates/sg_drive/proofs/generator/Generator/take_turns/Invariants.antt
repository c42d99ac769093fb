use Rattle.std.proofs.Common.{◌≡◌, ◌-◌, ◌≤◌}
use Rattle.sg_drive.specs.Budget.{HasBudget}
use Rattle.sg_drive.specs.Generated.{turns}
use Rattle.sg_drive.proofs.generator.Generator.take_turns.Given as goal

-- so many turns were made, each of which used up at least one step
abbrev pub invariant-loop-turn : goal.invariant-loop-turn
invariant-loop-turn l = (l.self ≡ record (l.initial.self) { going = turns l._turn l.initial.self.seed l.initial.self.graph l.initial.self.going }) × (l._turn ≤ 1280) × HasBudget (1280 - l._turn) l.begun l.self
