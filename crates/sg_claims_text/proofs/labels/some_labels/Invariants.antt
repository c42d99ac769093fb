use Rattle.std.proofs.Common.{◌≡◌, length, []}
use Rattle.sg_claims_text.specs.Reading.{more_labels}
use Rattle.sg_claims_text.proofs.labels.some_labels.Given as goal

abbrev pub decreases-labels : goal.decreases-labels
decreases-labels l = length l.scanner

abbrev pub invariant-labels : goal.invariant-labels
invariant-labels l = more_labels l.names l.labels l.scanner ≡ more_labels l.names [] l.fn.scanner
