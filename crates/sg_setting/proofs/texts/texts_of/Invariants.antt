use Rattle.std.proofs.Common.{◌≡◌, map, take}
use Rattle.sg_protocol.specs.Texts.{graph_text_of}
use Rattle.sg_setting.proofs.texts.texts_of.Given as goal

-- the texts so far
abbrev pub invariant-loop-graph : goal.invariant-loop-graph
invariant-loop-graph l = l.texts.items ≡ map graph_text_of (take l.graph-index l.graphs)
