use Rattle.std.proofs.Common.{ℕ, List, [], arith}
use Rattle.std.proofs.lemmas.List.{length-replicate}
use Rattle.sg_stream.proofs.Steps.{none_part, empty_there}
use Rattle.sg_stream.proofs.incoming.Incoming.new.Goals as goal

pub invariant_of-result : goal.invariant_of-result
invariant_of-result c =
    (rw (c.in_ok-empty_readers.ensures) (length-replicate {A = List ℕ} 256 []), omega arith, (λ conn differs. rw (c.in_ok-empty_readers.ensures, empty_there 256 conn) none_part), (λ some. rw (c.in_ok-empty_readers.ensures, empty_there 256 0) none_part))
