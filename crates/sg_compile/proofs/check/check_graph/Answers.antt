use Rattle.std.proofs.Common.{refl}
use Rattle.sg_compile.proofs.Accepting.{accepted_from}
use Rattle.sg_compile.proofs.check.check_graph.Goals as goal

pub returns-clause-accepted : goal.returns-clause-accepted
returns-clause-accepted c =
    accepted_from c.args.graph.now c.requires (c.in_default.ensures.ok.0 refl) c.in_default-check_reads.ensures.ok (c.in_default-check_blinding.ensures.ok.0 refl)
