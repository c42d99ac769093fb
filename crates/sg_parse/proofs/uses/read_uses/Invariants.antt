use Rattle.std.proofs.Common.{◌≡◌, ◌-◌, []}
use Rattle.sg_parse.specs.Parts.{part_names}
use Rattle.sg_parse.specs.PartsReading.{read_use, repeat}
use Rattle.sg_parse.specs.Tokens.{is_use}
use Rattle.sg_parse.proofs.uses.read_uses.Given as goal

abbrev pub invariant-uses : goal.invariant-uses
invariant-uses l = repeat (l.bytes - l.counter) is_use (read_use (part_names l.parts) l.graph) l.uses l.scanner
    ≡ repeat l.bytes is_use (read_use (part_names l.parts) l.graph) [] l.fn.scanner
