use Rattle.std.proofs.Common.{ℕ, List, ◌++◌, take}
use Rattle.sg_certify.specs.Collisions.{Keeps}
use Rattle.sg_certify.proofs.collision.add_all.Given as goal

abbrev pub invariant-loop-text : goal.invariant-loop-text
invariant-loop-text l = (before : List (List ℕ)) → Keeps before l.initial.firsts → Keeps (before ++ take l.text-index l.texts) l.firsts
