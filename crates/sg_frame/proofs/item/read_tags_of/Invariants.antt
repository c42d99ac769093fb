use Rattle.std.proofs.Common.{◌≡◌, ◌-◌, ℕ, List}
use Rattle.sg_protocol.specs.Reading.{rising_times, read_pair, read_tag}
use Rattle.sg_frame.specs.Reads.{left}
use Rattle.sg_frame.proofs.Loops.{with_prefix}
use Rattle.sg_frame.proofs.item.read_tags_of.Given as goal

abbrev pub invariant-tags : goal.invariant-tags
invariant-tags l =
    with_prefix l.tags (rising_times (λ (p : ℕ × List ℕ). p.0) (l.count - l.counter) l.least (read_pair 15 (read_tag l.version)) l.input.at (left l.input))
    ≡ rising_times (λ (p : ℕ × List ℕ). p.0) l.count 0 (read_pair 15 (read_tag l.version)) l.fn.input.at (left l.fn.input)
