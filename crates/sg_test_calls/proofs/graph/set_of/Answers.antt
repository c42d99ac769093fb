use Rattle.std.proofs.Common.{length, subst, sym}
use Rattle.sg_protocol.specs.Graph.{AreNumbers}
use Rattle.sg_graph.proofs.Sets.{AreNumbers-none, AreNumbers-with_member}
use Rattle.sg_test_calls.proofs.graph.set_of.Goals as goal

pub returns : goal.returns
returns c =
    let n = length c.args.graph.now.roles in
    subst (AreNumbers n) (sym c.with.ensures)
    (AreNumbers-with_member 16 n c.args.role c.empty.result (subst (AreNumbers n) (sym c.empty.ensures) (AreNumbers-none n)) c.requires.there)
