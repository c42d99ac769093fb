-- The text for a graph that isn't compiled, by its names.
use Rattle.std.specs.Prelude.{ℕ, List, codes}
use Rattle.sg_protocol.specs.Graph.{Graph}
use Rattle.sg_check.specs.FaultText.{shape_text, blinding_text}
use Rattle.sg_know.specs.FaultText.{reads_text}
use Rattle.sg_views.specs.FaultText.{views_text}
use Rattle.sg_compile.specs.declared.check.CompileFault.{CompileFault}
use Rattle.sg_compile.specs.declared.check.CompileFault.TheVariants.{Shape, Reads, Blinding, Views, OutOfMemory}

-- why the graph isn't compiled
abbrev pub refusal_text : Graph → CompileFault → List ℕ
refusal_text g (Shape fault) = shape_text g fault
refusal_text g (Reads fault) = reads_text g fault
refusal_text g (Blinding fault) = blinding_text g fault
refusal_text g (Views r fault) = views_text g r fault
refusal_text g OutOfMemory = codes "out of memory"
