use Rattle.std.proofs.Common.{◌≡◌, take}
use Rattle.sg_craft.proofs.keys.PairKeys.new.Given as goal

abbrev pub invariant-loop-key : goal.invariant-loop-key
invariant-loop-key l = l.kept ≡ take l.key-index l.keys
