use Rattle.std.proofs.Common.{◌≡◌, ◌-◌}
use Rattle.sg_protocol.specs.Reading.{rising_times, read_opening}
use Rattle.sg_frame.specs.Reads.{left}
use Rattle.sg_frame.proofs.Loops.{with_prefix}
use Rattle.sg_frame.proofs.opening.read_openings.Given as goal

abbrev pub invariant-openings : goal.invariant-openings
invariant-openings l =
    with_prefix l.openings (rising_times (λ o. o.variable) (l.count - l.counter) l.least read_opening l.input.at (left l.input))
    ≡ rising_times (λ o. o.variable) l.count 0 read_opening l.fn.input.at (left l.fn.input)
