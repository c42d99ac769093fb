-- Whose fault it was that a run over connections ended with a failed link.
use Rattle.std.specs.Prelude.{ℕ, List, Option, Some, ⊤}
use Rattle.sg_args.specs.Command.{Command, Stream, command_of}
use Rattle.sg_ending.specs.Output.{Output}
use Rattle.sg_stream.specs.Counts.{OneRose}
use Rattle.sg_stream.specs.Link.{StreamHeld}
use Rattle.sg_stream.specs.declared.conns.Conns as Conns
use Rattle.sg_top.specs.Outside.{Outside, Reports, stream_of}
use Rattle.sg_top.specs.Top.{Ends}

-- the command plays over connections
abbrev pub IsOverStream : Option Command → Type 0
IsOverStream (Some (Stream keys script most programs)) = ⊤
IsOverStream other = ⊥

-- If the program ends with 7 after a run over connections, a call of these failed, or so many pieces made no message whole: one of these counts rose
abbrev pub StreamFailsByACall : {F O E L R D C P I : Type 0} → Conns.Ghosts C → Reports F O L R D (StreamHeld C) P I → (err : E → Output) → Type 0
StreamFailsByACall {F} {O} {E} {L} {R} {D} {C} {P} {I} g reports err =
    (args : List (List ℕ)) (old new : Outside F O E L R D (StreamHeld C) P I) → IsOverStream (command_of args) → Ends (record reports { stream = stream_of g }) err args old new 7
    → OneRose (g.faults ((old.objects).stream).conns) (g.faults ((new.objects).stream).conns) ((old.objects).stream).faults ((new.objects).stream).faults
