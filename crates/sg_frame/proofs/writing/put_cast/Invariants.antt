use Rattle.std.proofs.Common.{◌≡◌, ◌++◌, take}
use Rattle.std.specs.List.{flat_map}
use Rattle.sg_protocol.specs.Spelling.{short_text}
use Rattle.sg_frame.proofs.writing.put_cast.Given as goal

abbrev pub invariant-names : goal.invariant-names
invariant-names l = l.out ≡ l.initial.out ++ flat_map short_text (take l.name-index l.name-items)
