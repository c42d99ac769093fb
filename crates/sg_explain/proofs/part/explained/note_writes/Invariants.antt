use Rattle.std.proofs.Common.{◌≡◌, ℕ, ◌<◌, nat_lt, true, if◌then◌else◌, drop, get_or, length}
use Rattle.std.specs.Prelude.{Some, None}
use Rattle.std.specs.List.{list_all}
use Rattle.sg_model.specs.Lists.{is_in, keys_of}
use Rattle.sg_explain.proofs.part.explained.note_writes.Given as goal

abbrev pub invariant-loop-write : goal.invariant-loop-write
invariant-loop-write l = record {
  wide : length l.indices ≡ 32;
  small : list_all (λ x. nat_lt x 32) (keys_of (drop l.write-index l.write-items)) ≡ true;
  noted : (x : ℕ) → x < 32 → (if is_in x (keys_of (drop l.write-index l.write-items)) then Some l.number else get_or l.indices x None)
      ≡ (if is_in x (keys_of l.step.writes) then Some l.number else get_or l.initial.indices x None);
}
