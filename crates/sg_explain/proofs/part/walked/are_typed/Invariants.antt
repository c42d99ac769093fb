use Rattle.std.proofs.Common.{◌≡◌, true, length, drop, map, nat_lt}
use Rattle.std.specs.List.{list_all}
use Rattle.sg_protocol.specs.Walk.{is_typed_or_hidden}
use Rattle.sg_walk.specs.Model.{writes_of}
use Rattle.sg_explain.proofs.part.walked.are_typed.Given as goal

abbrev pub invariant-loop-write : goal.invariant-loop-write
invariant-loop-write l = record {
  typed : list_all (is_typed_or_hidden l.graph) (writes_of l.writes) ≡ list_all (is_typed_or_hidden l.graph) (writes_of (drop l.write-index l.writes));
  there : list_all (λ x. nat_lt x (length l.graph.variables)) (map (λ w. w.0) (drop l.write-index l.writes)) ≡ true;
}
