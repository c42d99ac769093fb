use Rattle.std.proofs.Common.{◌≡◌, ◌++◌, take}
use Rattle.std.specs.List.{flat_map}
use Rattle.sg_protocol.specs.Spelling.{opening_bytes}
use Rattle.sg_frame.proofs.writing.put_openings.Given as goal

abbrev pub invariant-openings : goal.invariant-openings
invariant-openings l = l.out ≡ l.initial.out ++ flat_map opening_bytes (take l.opening-index l.openings)
