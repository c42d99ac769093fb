use Rattle.std.proofs.Common.{◌≡◌, ◌-◌, vec_len}
use Rattle.sg_protocol.specs.Reading.{times, read_name}
use Rattle.sg_frame.specs.Reads.{left}
use Rattle.sg_frame.proofs.Loops.{with_prefix}
use Rattle.sg_frame.proofs.cast.read_names.Given as goal

abbrev pub invariant-names : goal.invariant-names
invariant-names l = record {
  so_far : with_prefix l.names.items (times (l.count - l.counter) read_name l.input.at (left l.input)) ≡ times l.count read_name l.fn.input.at (left l.fn.input);
  many : vec_len l.names ≡ l.counter;
}
