use Rattle.std.proofs.Common.{◌≡◌, false, map, take}
use Rattle.std.specs.List.{list_any}
use Rattle.sg_args.specs.Command.{is_option}
use Rattle.sg_args.proofs.command.has_option.Given as goal

abbrev pub invariant-loop-arg : goal.invariant-loop-arg
invariant-loop-arg l = list_any is_option (map (λ s. s.now) (take l.arg-index l.args)) ≡ false
