use Rattle.std.proofs.Common.{◌≡◌, ◌==◌, true, length}
use Rattle.std.specs.List.{slice_split}
use Rattle.sg_model.specs.Lists.{all_differ}
use Rattle.sg_sched.specs.Words.{names}
use Rattle.sg_sched.proofs.NamesLaws.{names_with}
use Rattle.sg_sched.proofs.names.read_names.Given as goal

abbrev pub invariant-parts : goal.invariant-parts
invariant-parts l = record {
  left : names l.word ≡ names_with l.found (slice_split (λ b. b == 44) l.left);
  differ : all_differ l.found ≡ true;
}

abbrev pub decreases-parts : goal.decreases-parts
decreases-parts l = length l.left
