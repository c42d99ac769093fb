-- How notes and traces are kept.
use Rattle.std.specs.Prelude.{List, map}
use Rattle.sg_protocol.specs.Notes.{Note}
use Rattle.sg_certify.specs.declared.tagged_texts.TaggedText.{TaggedText}
use Rattle.sg_certify.specs.declared.tagged_texts.TaggedTexts.TheInside.{Inside as TaggedInside}
use Rattle.sg_certify.specs.Events.{pair_of}
use Rattle.sg_certify.specs.Traces.{Trace, Traces}
use Rattle.sg_certify.specs.declared.trace.Trace.TheInside.{Inside as TraceInside}
use Rattle.sg_certify.specs.declared.traces.Traces.TheInside.{Inside as TracesInside}

-- the note that is kept
abbrev pub note_kept : TaggedText → Note
note_kept s = record { one = s.one.now; two = s.two.now; text = s.text.now }

-- the notes that are kept
abbrev pub notes_kept : TaggedInside → List Note
notes_kept m = map note_kept m.notes.keys

-- the trace that is kept
abbrev pub trace_of : TraceInside → Trace
trace_of c = record { graph = c.graph.now; honest = c.honest; shown = map pair_of c.shown.items }

-- the traces that are kept
abbrev pub traces_of : TracesInside → Traces
traces_of c = c.table.entries
