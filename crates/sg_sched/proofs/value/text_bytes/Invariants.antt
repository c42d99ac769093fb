use Rattle.std.proofs.Common.{◌≡◌, length}
use Rattle.sg_sched.specs.Format.Values.{text_bytes}
use Rattle.sg_sched.proofs.ValueLaws.{with_prefix}
use Rattle.sg_sched.proofs.value.text_bytes.Given as goal

abbrev pub invariant-bytes : goal.invariant-bytes
invariant-bytes l = text_bytes l.text ≡ with_prefix l.bytes.items (text_bytes l.left)

abbrev pub decreases-bytes : goal.decreases-bytes
decreases-bytes l = length l.left
