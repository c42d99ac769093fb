use Rattle.std.proofs.Common.{◌≡◌, ◌↔◌, nat_lt, true, map, drop}
use Rattle.std.specs.List.{list_all}
use Rattle.sg_protocol.specs.Walk.{shown}
use Rattle.sg_explain.specs.Matching.{kept}
use Rattle.sg_walk.specs.Model.{step_of, values_of}
use Rattle.sg_explain.proofs.part.explained.hold.Given as goal

abbrev pub invariant-loop-value : goal.invariant-loop-value
invariant-loop-value l = record {
  small : list_all (λ x. nat_lt x 32) (map (λ w. w.0) (drop l.value-index l.values)) ≡ true;
  rest : (shown (values_of l.values) ≡ kept (map step_of l.steps) l.indices (map (λ w. w.0) l.values))
      ↔ (shown (values_of (drop l.value-index l.values)) ≡ kept (map step_of l.steps) l.indices (map (λ w. w.0) (drop l.value-index l.values)));
}
