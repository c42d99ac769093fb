-- Why a graph is refused: by its shape, otherwise by what it writes and reads, otherwise for blinding.
use Rattle.std.specs.Prelude.{◌≢◌, ⊤}
use Rattle.sg_check.specs.Blind.{IsBlindFault}
use Rattle.sg_check.specs.Shaped.{HasShape, IsShapeFault}
use Rattle.sg_check.specs.declared.blinding.BlindFault.{BlindFault}
use Rattle.sg_check.specs.declared.blinding.BlindFault.TheVariants.{OutOfMemory as BlindMemory}
use Rattle.sg_know.specs.Reads.{AcceptedReads, IsFirstFault}
use Rattle.sg_know.specs.declared.fault.ReadFault.{ReadFault}
use Rattle.sg_know.specs.declared.fault.ReadFault.TheVariants.{OutOfMemory as ReadMemory}
use Rattle.sg_protocol.specs.Graph.{Graph, shape}
use Rattle.sg_compile.specs.declared.check.CompileFault.{CompileFault}
use Rattle.sg_compile.specs.declared.check.CompileFault.TheVariants.{Shape, Reads, Blinding, Views, OutOfMemory}

-- the graph's first refusal. `OutOfMemory` is never within another fault
abbrev pub IsRefusal : Graph → CompileFault → Type 0
IsRefusal g (Shape f) = IsShapeFault g f
IsRefusal g (Reads f) = HasShape g × IsFirstFault g f × (f ≢ ReadMemory)
IsRefusal g (Blinding f) = HasShape g × AcceptedReads g × IsBlindFault (shape g) f × (f ≢ BlindMemory)
IsRefusal g (Views r f) = ⊥
IsRefusal g OutOfMemory = ⊤

-- a fault of the second kind, with `OutOfMemory` outside
abbrev pub reads_fault : ReadFault → CompileFault
reads_fault ReadMemory = OutOfMemory
reads_fault f = Reads f

-- a fault of the third kind, with `OutOfMemory` outside
abbrev pub blind_fault : BlindFault → CompileFault
blind_fault BlindMemory = OutOfMemory
blind_fault f = Blinding f
