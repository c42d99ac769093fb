use Rattle.std.proofs.Common.{◌≡◌, ◌≤◌, []}
use Rattle.sg_input.specs.Lines.{lines_left}
use Rattle.sg_input.proofs.reader.LineReader.next.Given as goal

-- the lines that are left are the same, and none is found
abbrev pub invariant-loop : goal.invariant-loop
invariant-loop g l = record {
  never_falls : g.I.Input.faults l.fn.input ≤ g.I.Input.faults l.input;
  same : lines_left l.self.unread (g.I.Input.coming l.input) ≡ lines_left l.fn.self.unread (g.I.Input.coming l.fn.input);
  none : l.self.line ≡ [];
}
