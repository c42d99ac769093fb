-- What a program keeps true.
use Rattle.std.specs.Prelude.{All}
use Rattle.sg_protocol.specs.IsSchedule.{IsProgram}
use Rattle.sg_protocol.specs.Texts.{real}
use Rattle.sg_vis.specs.Table.{Shows}
use Rattle.sg_program.specs.declared.program.Program.TheInside.{Inside}
use Rattle.sg_program.specs.Model.{program_of}

-- it is a program, and each walk of its table shows its view
pub record HoldsProgram (p : Inside) : Type 0 where
  pub program : IsProgram real (program_of p)
  pub shown : All (λ s. Shows p.graph p.role s.walk s.view) p.views
