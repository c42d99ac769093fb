use Rattle.std.proofs.Common.{◌≡◌, map, take}
use Rattle.sg_protocol.specs.Texts.{real, graph_digest}
use Rattle.sg_sched_text.proofs.whole.digests.Given as goal

abbrev pub invariant-loop-graph : goal.invariant-loop-graph
invariant-loop-graph l = l.found ≡ map (graph_digest real) (take l.graph-index l.graphs)
