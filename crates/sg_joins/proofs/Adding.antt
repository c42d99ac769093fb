-- A join that is added to a ledger, of the outcome of a call.
use Rattle.std.proofs.Common.{◌≡◌, ℕ, List, [], ◌∷◌, ◌++◌, Option, Some, None, IfSome, false, inl, sym, ap, ◌∙◌, subst}
use Rattle.sg_ledger.specs.Disk.{LeavesOnly}
use Rattle.sg_ledger.specs.Format.{Join, OpenLedger}
use Rattle.sg_ledger.proofs.Moments.{started}
use Rattle.sg_joins.specs.Images.{AllRepresent, RepresentsEither}
use Rattle.sg_joins.specs.Joins.{IsNew, with_join}

-- an opened ledger that works, with these joins
abbrev pub working : List Join → OpenLedger
working joins = record { joins = joins; failed = false }

module _ (joins : List Join) (o r : Option Join) (e : r ≡ o) where
  -- it is new
  pub new_of : (j : Join) → r ≡ Some j → IfSome o (IsNew joins) → IsNew joins j
  new_of j is h = subst (λ (x : Option Join). IfSome x (IsNew joins)) (sym e ∙ is) h

  -- the joins with it
  pub with_one : (j : Join) → r ≡ Some j → joins ++ j ∷ [] ≡ with_join joins o
  with_one j is = ap (with_join joins) (sym is ∙ e)

  -- or if there is none
  pub with_none : r ≡ None → joins ≡ with_join joins o
  with_none is = ap (with_join joins) (sym is ∙ e)

-- what a crash may leave of a disk that was not asked
pub not_asked : {D : Type 0} (moment : D → ℕ) (left_since : D → ℕ → List ℕ → Type 0) (disk : D) (may_leave : List ℕ → Type 0) → ((image : List ℕ) → left_since disk (moment disk) image → may_leave image)
    → (joins after : List Join) → AllRepresent may_leave joins → LeavesOnly moment left_since disk disk (RepresentsEither joins after)
not_asked moment left_since disk may_leave only_now joins after all = started moment left_since disk (RepresentsEither joins after) (λ image left. inl (all image (only_now image left)))
