use Rattle.std.proofs.Common.{◌≡◌, ◌∷◌, map, take, codes, string_bytes}
use Rattle.sg_args.proofs.parsed.CommandLine.new.Given as goal

abbrev pub invariant-loop-arg : goal.invariant-loop-arg
invariant-loop-arg l = map (λ s. s.now) l.all.items ≡ codes "sessiongraph" ∷ codes "--" ∷ map string_bytes (take l.arg-index l.args)
