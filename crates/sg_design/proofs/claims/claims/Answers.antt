use Rattle.std.proofs.Common.{inr}
use Rattle.sg_ending.specs.Model.{ending_held}
use Rattle.sg_design.proofs.Claiming.{on_later}
use Rattle.sg_design.proofs.claims.claims.Goals as goal

pub returns-in-Ok-clause-ends : goal.returns-in-Ok-clause-ends
returns-in-Ok-clause-ends g c =
    inr (
      c.in-Ok.graph,
      c.in-Ok.ensures.holds,
      on_later c.in-Ok.graph c.args.claims.now (g.F.Files.held c.args.files.now) (g.F.Files.held c.accepted_graph.new.files) (g.F.Files.faults c.args.files.now) (g.F.Files.faults c.accepted_graph.new.files) (g.F.Files.faults c.on_claims.new.files)
          (record { bytes = g.O.Sink.written c.args.out.now; faults = g.O.Sink.faults c.args.out.now }) (record { bytes = g.O.Sink.written c.on_claims.new.out; faults = g.O.Sink.faults c.on_claims.new.out }) (ending_held c.on_claims.result)
          c.accepted_graph.ensures.kept c.in-Ok.ensures.no_fault c.on_claims.ensures.on,
    )
