use Rattle.std.proofs.Common.{◌≡◌, [], replicate}
use Rattle.sg_stream.proofs.incoming.empty_readers.Given as goal

abbrev pub invariant-loop : goal.invariant-loop
invariant-loop l = l.readers.items ≡ replicate l.counter []
