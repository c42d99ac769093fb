use Rattle.std.proofs.Common.{◌≡◌, ℕ, ◌<◌, nat_lt, true, false, if◌then◌else◌, drop, get_or, length}
use Rattle.std.specs.List.{list_all}
use Rattle.sg_model.specs.Lists.{is_in, keys_of}
use Rattle.sg_explain.proofs.part.hidden.drop_written.Given as goal

abbrev pub invariant-loop-write : goal.invariant-loop-write
invariant-loop-write l = record {
  wide : length l.carried ≡ 32;
  small : list_all (λ x. nat_lt x 32) (keys_of (drop l.write-index l.write-items)) ≡ true;
  dropped : (x : ℕ) → x < 32 → (if is_in x (keys_of (drop l.write-index l.write-items)) then false else get_or l.carried x false)
      ≡ (if is_in x (keys_of l.step.writes) then false else get_or l.initial.carried x false);
}
