use Rattle.std.proofs.Common.{◌≡◌, ◌++◌, take}
use Rattle.std.specs.List.{flat_map}
use Rattle.sg_protocol.specs.Spelling.{pair_bytes}
use Rattle.sg_frame.proofs.writing.put_delta.Given as goal

abbrev pub invariant-delta : goal.invariant-delta
invariant-delta l = l.out ≡ l.initial.out ++ flat_map (pair_bytes (λ c. c)) (take l.var-index l.delta)
