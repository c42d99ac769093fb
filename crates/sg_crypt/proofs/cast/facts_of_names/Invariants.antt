use Rattle.std.proofs.Common.{take, IsTrue}
use Rattle.std.specs.List.{AllByRecursion}
use Rattle.sg_model.specs.Names.{is_name}
use Rattle.sg_crypt.proofs.cast.facts_of_names.Given as goal

abbrev pub invariant-loop-name : goal.invariant-loop-name
invariant-loop-name l = AllByRecursion (λ n. IsTrue (is_name n)) (take l.name-index l.names)
