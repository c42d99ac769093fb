use Rattle.std.proofs.Common.{◌≡◌, filter, length}
use Rattle.sg_model.specs.Lists.{below, is_in}
use Rattle.sg_walk.specs.Model.{values_of}
use Rattle.sg_drive.specs.Generated.{values_drawn}
use Rattle.sg_drive.specs.Going.{drawing}
use Rattle.sg_drive.proofs.generator.Generator.draw_values.Given as goal

-- the variables below the number that are written have values, one draw for each
abbrev pub invariant-loop-number : goal.invariant-loop-number
invariant-loop-number l =
    (l.self ≡ record (l.initial.self) { going = drawing (length (filter (λ x. is_in x l.writes) (below l.number))) l.initial.self.going })
    × (values_of l.values ≡ values_drawn l.initial.self.seed l.initial.self.going.draws l.initial.self.graph (filter (λ x. is_in x l.writes) (below l.number)))
