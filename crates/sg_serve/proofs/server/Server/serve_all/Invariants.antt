use Rattle.std.proofs.Common.{◌≡◌, ◌≤◌, ◌-◌, take, List, Some, Ok}
use Rattle.std.specs.Prelude.{IsNone, is_some}
use Rattle.sg_input.specs.Lines.{Line, lines_left}
use Rattle.sg_serve.specs.Faults.{CountsFaults}
use Rattle.sg_serve.specs.Lines.{Run, most_lines}
use Rattle.sg_serve.specs.Served.{Agrees}
use Rattle.sg_serve.specs.Representation.{HoldsJoins, Serves, RepresentsServing}
use Rattle.sg_serve.proofs.server.Server.serve_all.Given as goal

abbrev pub invariant-loop-line : goal.invariant-loop-line
invariant-loop-line g l = record {
  link_bound : g.L.Link.bound l.link ≡ g.L.Link.bound l.initial.link;
  disk_bound : g.D.Disk.bound l.disk ≡ g.D.Disk.bound l.initial.disk;
  faults : CountsFaults (record { link = g.L.Link.faults l.initial.link; out = g.O.Sink.faults l.initial.out; disk = g.D.Disk.faults l.initial.disk }) (record { link = g.L.Link.faults l.link; out = g.O.Sink.faults l.out; disk = g.D.Disk.faults l.disk }) (Ok (tt {0}));
  input_falls : g.I.Input.faults l.initial.input ≤ g.I.Input.faults l.input;
  same : is_some l.self.ledger ≡ is_some l.initial.self.ledger;
  untouched : IsNone l.initial.self.ledger → l.disk ≡ l.initial.disk;
  holds : HoldsJoins l.self (g.D.Disk.may_leave l.disk);
  served : (r : Run) (lines : List Line) → RepresentsServing l.initial.self r.serving → lines_left l.initial.reader.unread (g.I.Input.coming l.initial.input) ≡ Some lines
      → Agrees (record { written = g.O.Sink.written l.initial.out; sent = g.L.Link.sent l.initial.link; coming = g.L.TimedLink.coming l.initial.link; failed = g.L.Link.faults l.initial.link })
      (record { written = g.O.Sink.written l.initial.out; sent = g.L.Link.sent l.initial.link; coming = g.L.TimedLink.coming l.initial.link; failed = g.L.Link.faults l.initial.link }) (g.R.Fresh.random l.initial.fresh) r
      → (left : List Line) × (lines_left l.reader.unread (g.I.Input.coming l.input) ≡ Some left)
      × Serves (record { written = g.O.Sink.written l.initial.out; sent = g.L.Link.sent l.initial.link; coming = g.L.TimedLink.coming l.initial.link; failed = g.L.Link.faults l.initial.link })
      (record { written = g.O.Sink.written l.out; sent = g.L.Link.sent l.link; coming = g.L.TimedLink.coming l.link; failed = g.L.Link.faults l.link }) (g.R.Fresh.random l.fresh) l.self r lines (take (most_lines - l._line) left);
}
