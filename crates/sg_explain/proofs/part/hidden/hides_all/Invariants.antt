use Rattle.std.proofs.Common.{◌≡◌, nat_lt, true, false, not, ◌&&◌, drop, get_or}
use Rattle.std.specs.Prelude.{is_none}
use Rattle.std.specs.Bool.{beq}
use Rattle.std.specs.List.{list_all}
use Rattle.sg_model.specs.Lists.{keys_of}
use Rattle.sg_walk.specs.Model.{writes_of}
use Rattle.sg_explain.proofs.part.hidden.hides_all.Given as goal

abbrev pub invariant-loop-write : goal.invariant-loop-write
invariant-loop-write l = record {
  small : list_all (λ x. nat_lt x 32) (keys_of (drop l.write-index l.write-items)) ≡ true;
  tested : list_all (λ w. beq (is_none w.1) (not l.honest && not (get_or l.carried w.0 false))) (writes_of l.step.writes)
      ≡ list_all (λ w. beq (is_none w.1) (not l.honest && not (get_or l.carried w.0 false))) (writes_of (drop l.write-index l.write-items));
}
