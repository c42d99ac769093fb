use Rattle.sg_input.specs.Lines.{Whole, TooLong, lines_left}
use Rattle.sg_input.proofs.Left.{left_taken}
use Rattle.sg_input.proofs.reader.LineReader.next.Goals as goal

pub returns-in-Some-clause-line : goal.returns-in-Some-clause-line
returns-in-Some-clause-line g c =
    λ is. left_taken c.loop.self.unread c.take_line.new.self.unread (Whole c.take_line.new.self.line) (g.I.Input.coming c.loop.input) (lines_left c.args.self.now.unread (g.I.Input.coming c.args.input.now)) c.loop.invariant.same (c.take_line.ensures.line (cc))

pub returns-in-Some-clause-too_long : goal.returns-in-Some-clause-too_long
returns-in-Some-clause-too_long g c =
    λ is. left_taken c.loop.self.unread c.take_line.new.self.unread TooLong (g.I.Input.coming c.loop.input) (lines_left c.args.self.now.unread (g.I.Input.coming c.args.input.now)) c.loop.invariant.same (c.take_line.ensures.too_long (cc))
