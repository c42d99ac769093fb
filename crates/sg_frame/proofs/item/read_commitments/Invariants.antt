use Rattle.std.proofs.Common.{◌≡◌, ◌-◌, ℕ, List}
use Rattle.sg_protocol.specs.Reading.{rising_times, read_pair, any_bytes}
use Rattle.sg_frame.specs.Reads.{left}
use Rattle.sg_frame.proofs.Loops.{with_prefix}
use Rattle.sg_frame.proofs.item.read_commitments.Given as goal

abbrev pub invariant-commitments : goal.invariant-commitments
invariant-commitments l =
    with_prefix l.delta (rising_times (λ (p : ℕ × List ℕ). p.0) (l.count - l.counter) l.least (read_pair 31 (any_bytes 32)) l.input.at (left l.input))
    ≡ rising_times (λ (p : ℕ × List ℕ). p.0) l.count 0 (read_pair 31 (any_bytes 32)) l.fn.input.at (left l.fn.input)
