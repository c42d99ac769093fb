-- How calls of a disk go on, one after another.
use Rattle.std.proofs.Common.{inl, inr, ⊎_elim, ℕ, ◌≤◌, List, arith}
use Rattle.sg_ledger.specs.Disk.{Elapses, LeavesOnly}

module _ {D : Type 0} (moment : D → ℕ) (left_since : D → ℕ → List ℕ → Type 0) where
  -- before the first call
  pub started : (old : D) (P : List ℕ → Type 0) → ((image : List ℕ) → left_since old (moment old) image → P image) → LeavesOnly moment left_since old old P
  started old P here = record { later = omega arith; each = here; before = λ t image le left. inl left }

  -- one call more, after which a crash leaves what has P
  pub goes_on : (old mid new : D) (P may_leave : List ℕ → Type 0) → LeavesOnly moment left_since old mid P
      → Elapses (moment mid) (moment new) (left_since mid) (left_since new) may_leave
      → ((image : List ℕ) → may_leave image → P image) → LeavesOnly moment left_since old new P
  goes_on old mid new P may_leave so_far time here = record {
    later = omega (arith, so_far.later, time.later);
    each = λ image left. ⊎_elim (so_far.each image) (here image) (time.nothing_else (moment old) image so_far.later left);
    before = λ t image le left.
        ⊎_elim (so_far.before t image le) (λ now. inr (here image now)) (time.nothing_else t image (omega (arith, le, so_far.later)) left);
  }

  -- one run of calls after another
  pub chained : (old mid new : D) (P Q R : List ℕ → Type 0) → LeavesOnly moment left_since old mid P → LeavesOnly moment left_since mid new Q
      → ((image : List ℕ) → P image → R image) → ((image : List ℕ) → Q image → R image) → LeavesOnly moment left_since old new R
  chained old mid new P Q R first second in_first in_second = record {
    later = omega (arith, first.later, second.later);
    each = λ image left.
        ⊎_elim (λ was. in_first image (first.each image was)) (in_second image) (second.before (moment old) image first.later left);
    before = λ t image le left. ⊎_elim
        (λ was. ⊎_elim (λ older. inl older) (λ now. inr (in_first image now)) (first.before t image le was))
        (λ now. inr (in_second image now))
        (second.before t image (omega (arith, le, first.later)) left);
  }

  -- what is said of each image may be said in other words
  pub weakened : (old new : D) (P Q : List ℕ → Type 0) → LeavesOnly moment left_since old new P → ((image : List ℕ) → P image → Q image) → LeavesOnly moment left_since old new Q
  weakened old new P Q only implies = record {
    later = only.later;
    each = λ image left. implies image (only.each image left);
    before = λ t image le left. ⊎_elim (λ older. inl older) (λ now. inr (implies image now)) (only.before t image le left);
  }
