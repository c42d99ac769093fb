use Rattle.std.proofs.Common.{◌≡◌, ℕ, List, ◌++◌, true, take, drop, option_map}
use Rattle.sg_compile.specs.Loading.{at_table}
use Rattle.sg_compile.proofs.loader.table_at.Given as goal

abbrev pub invariant-loop-at : goal.invariant-loop-at
invariant-loop-at l = at_table true l.text ≡ option_map (λ (s : List ℕ × List ℕ). (take l.at l.text ++ s.0, s.1)) (at_table l.begins (drop l.at l.text))
