use Rattle.std.proofs.Common.{◌≡◌, ◌++◌, take}
use Rattle.std.specs.Prelude.{flat_map}
use Rattle.sg_ending.specs.Ending.{shown_byte}
use Rattle.sg_ending.proofs.ending.put_arg.Given as goal

abbrev pub invariant-loop-byte : goal.invariant-loop-byte
invariant-loop-byte l = l.out ≡ l.initial.out ++ flat_map shown_byte (take l.byte-index l.arg)
