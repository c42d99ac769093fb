use Rattle.std.proofs.Common.{◌≡◌, length, []}
use Rattle.sg_parse.specs.PartsReading.{more_indices}
use Rattle.sg_parse.specs.Tokens.{is_named}
use Rattle.sg_parse.proofs.uses.some_roles.Given as goal

abbrev pub decreases-roles : goal.decreases-roles
decreases-roles l = length l.scanner

abbrev pub invariant-roles : goal.invariant-roles
invariant-roles l = more_indices is_named l.graph.roles l.roles l.scanner ≡ more_indices is_named l.graph.roles [] l.fn.scanner
