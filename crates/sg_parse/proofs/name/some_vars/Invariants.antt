use Rattle.std.proofs.Common.{◌≡◌, length, []}
use Rattle.sg_protocol.specs.Graph.{AreNumbers}
use Rattle.sg_graph.specs.Parts.{variable_names}
use Rattle.sg_parse.specs.Reading.{more_names}
use Rattle.sg_parse.proofs.name.some_vars.Given as goal

abbrev pub decreases-vars : goal.decreases-vars
decreases-vars l = length l.scanner

abbrev pub invariant-vars : goal.invariant-vars
invariant-vars l = (AreNumbers (length l.graph.variables) l.vars)
    × (more_names 32 (variable_names l.graph) l.vars l.scanner ≡ more_names 32 (variable_names l.graph) [] l.fn.scanner)
