use Rattle.std.proofs.Common.{◌≡◌, ℕ, List, Some, length, drop}
use Rattle.sg_play.specs.Played.{next_confounders}
use Rattle.sg_play.proofs.confounders.draw.Given as goal

abbrev pub invariant-loop-at : goal.invariant-loop-at
invariant-loop-at g l = record {
  count : length l.confounders.items ≡ l._at;
  reported : (all : List (List ℕ)) → g.R.Fresh.random l.initial.fresh ≡ Some all → (l.confounders.items ≡ next_confounders l._at all) × (g.R.Fresh.random l.fresh ≡ Some (drop l._at all));
}
