use Rattle.std.proofs.Common.{◌≡◌, ◌<◌, length, []}
use Rattle.sg_protocol.specs.Graph.{AreNumbers}
use Rattle.sg_parse.specs.Reading.{more_names}
use Rattle.sg_parse.proofs.name.some_roles.Given as goal

abbrev pub decreases-roles : goal.decreases-roles
decreases-roles l = length l.scanner

abbrev pub invariant-roles : goal.invariant-roles
invariant-roles l = (AreNumbers (length l.graph.roles) l.roles) × (0 < length l.roles)
    × (more_names 16 l.graph.roles l.roles l.scanner ≡ more_names 16 l.graph.roles [] l.fn.scanner)
