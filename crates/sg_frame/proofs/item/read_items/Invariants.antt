use Rattle.std.proofs.Common.{◌≡◌, ◌-◌}
use Rattle.sg_protocol.specs.Reading.{times, read_item}
use Rattle.sg_frame.specs.Reads.{left}
use Rattle.sg_frame.proofs.Loops.{with_prefix}
use Rattle.sg_frame.proofs.item.read_items.Given as goal

abbrev pub invariant-items : goal.invariant-items
invariant-items l =
    with_prefix l.items (times (l.count - l.counter) (read_item l.version) l.input.at (left l.input)) ≡ times l.count (read_item l.version) l.fn.input.at (left l.fn.input)
