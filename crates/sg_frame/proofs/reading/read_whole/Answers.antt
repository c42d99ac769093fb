use Rattle.std.proofs.Common.{◌+◌, ◌≤◌, length, sym, ◌∙◌}
use Rattle.sg_frame.proofs.Fields.{none_left, some_left}
use Rattle.sg_frame.proofs.reading.read_whole.Goals as goal

pub returns-then-is_ok-clause-ends : goal.returns-then-is_ok-clause-ends
returns-then-is_ok-clause-ends c =
    let read = rw c.new-input.ensures at c.in_ok-frame.ensures.reads in
    let more = c.u8.ensures.moves.found.0 (sym c.is_ok.ensures.value ∙ c.if-is_ok.true) in
    rw (read, c.at-at.ensures) (some_left c.in_ok-frame.frame c.read_frame.new.input more)

pub returns-clause-ends : goal.returns-clause-ends
returns-clause-ends c =
    let read = rw c.new-input.ensures at c.in_ok-frame.ensures.reads in
    let end : c.read_frame.new.input.at + 1 ≤ length c.read_frame.new.input.bytes → ⊥ =
    λ more. let found = c.u8.ensures.moves.found.1 more in let is = c.is_ok.ensures.value in let no = c.if-is_ok.false in cc in
    rw read (none_left c.in_ok-frame.frame c.read_frame.new.input end)
