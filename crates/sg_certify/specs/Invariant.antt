-- What a trace keeps true.
use Rattle.std.specs.Prelude.{◌<◌, All, length}
use Rattle.sg_certify.specs.declared.trace.Trace.TheInside.{Inside as TraceInside}

-- each walk is along edges of the graph
abbrev pub HoldsTrace : TraceInside → Type 0
HoldsTrace c = All (λ s. All (λ e. e < length c.graph.now.edges) s.walk.now) c.shown.items
