use Rattle.std.proofs.Common.{◌≡◌, ◌&&◌, bytes_eq, drop, false}
use Rattle.std.specs.List.{find}
use Rattle.std.specs.Option.{option_map_or}
use Rattle.sg_protocol.specs.Node.{program_for, starter, starts}
use Rattle.sg_node.proofs.cast.first_starter.Given as goal

-- the first starter is among the programs that are left
abbrev pub invariant-loop-program : goal.invariant-loop-program
invariant-loop-program l = starter l.programs l.digest ≡ find (λ p. bytes_eq p.digest l.digest && option_map_or starts (program_for l.programs l.digest p.role) false) (drop l.program-index l.program-items)
