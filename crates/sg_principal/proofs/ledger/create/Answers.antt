use Rattle.std.proofs.Common.{◌≡◌, ◌≢◌, ◌∙◌, List, ℕ, Bool, true, false, Err, inl, inr, length, refl, sym, ap, arith, true≢false}
use Rattle.sg_ledger.specs.declared.ledger.CreateFault.{CreateFault}
use Rattle.sg_ledger.specs.declared.ledger.CreateFault.TheVariants.{NotEmpty, Failed, OutOfMemory}
use Rattle.sg_play.proofs.Counting.{no_fault, other_fault}
use Rattle.sg_ending.proofs.Files.{rises}
use Rattle.sg_principal.proofs.ledger.create.Goals as goal

abbrev is_failed : CreateFault → Bool
is_failed (NotEmpty size) = false
is_failed Failed = true
is_failed OutOfMemory = false

other : (e f : CreateFault) → e ≡ f → is_failed f ≡ false → e ≢ Failed
other e f is not_failed failed = true≢false (sym (ap is_failed failed) ∙ ap is_failed is ∙ not_failed)

pub returns-in-Ok-create-clause-made : goal.returns-in-Ok-create-clause-made
returns-in-Ok-create-clause-made g c = (
  λ file seen. c.in-Ok-create.ensures.empty file (c.open.ensures.kept ∙ seen),
  c.in-Ok-create.ensures.made,
  c.in-Ok-create.ensures.no_fault (no_fault _) ∙ c.in-Ok.ensures.no_fault,
)

pub returns-in-Err-clause-not_made : goal.returns-in-Err-clause-not_made
returns-in-Err-clause-not_made g c = (c.in-Err.ensures.failed, λ file seen some. (c.open.ensures.kept, c.open.ensures.images))

pub returns-in-Err-NotEmpty-clause-not_made : goal.returns-in-Err-NotEmpty-clause-not_made
returns-in-Err-NotEmpty-clause-not_made g c =
    let alone = c.in-Err-NotEmpty.ensures.refused (other _ _ c.in-Err-NotEmpty.field-0-is refl) in (
      λ file seen empty.
          let h = c.in-Err-NotEmpty.ensures.not_empty c.in-Err-NotEmpty.field-0-0 c.in-Err-NotEmpty.field-0-is in
          let some = h.0 in
          let long = h.1 file (c.open.ensures.kept ∙ seen) in
          let none = ap (λ (bytes : List ℕ). length bytes) empty in
          omega (arith, some, long, none),
      (alone.kept ∙ c.open.ensures.kept, λ image left. c.open.ensures.images image (alone.keeps image left)),
      c.create.ensures.no_fault (other_fault c.in-Err-NotEmpty.is (other _ _ c.in-Err-NotEmpty.field-0-is refl)) ∙ c.in-Ok.ensures.no_fault,
    )

pub returns-in-Err-Failed-clause-not_made : goal.returns-in-Err-Failed-clause-not_made
returns-in-Err-Failed-clause-not_made g c = (
  rises (g.D.Disk.faults c.args.disk.now) (g.D.Disk.faults c.open.new.self) (g.D.Disk.faults c.create.new.disk) c.open.ensures.never_falls c.create.ensures.never_falls
      (c.create.ensures.failed (c.in-Err-Failed.is ∙ ap (λ (f : CreateFault). Err f) c.in-Err-Failed.field-0-is)),
  λ file seen some.
      let alone = c.create.ensures.used file (c.open.ensures.kept ∙ seen) some in
      (alone.kept ∙ c.open.ensures.kept, λ image left. c.open.ensures.images image (alone.keeps image left)),
)

pub returns-in-Err-OutOfMemory-clause-not_made : goal.returns-in-Err-OutOfMemory-clause-not_made
returns-in-Err-OutOfMemory-clause-not_made g c =
    let alone = c.in-Err-OutOfMemory.ensures.refused (other _ _ c.in-Err-OutOfMemory.field-0-is refl) in (
      (alone.kept ∙ c.open.ensures.kept, λ image left. c.open.ensures.images image (alone.keeps image left)),
      c.create.ensures.no_fault (other_fault c.in-Err-OutOfMemory.is (other _ _ c.in-Err-OutOfMemory.field-0-is refl)) ∙ c.in-Ok.ensures.no_fault,
    )

pub returns-in-Err-clause-tried : goal.returns-in-Err-clause-tried
returns-in-Err-clause-tried g c = inr (refl, c.in-Err.ensures.failed, c.in-Err.ensures.kept_bound, (c.open.ensures.kept, c.open.ensures.images))

pub returns-in-Err-NotEmpty-clause-tried : goal.returns-in-Err-NotEmpty-clause-tried
returns-in-Err-NotEmpty-clause-tried g c = inl (c.create.ensures.kept_bound ∙ c.in-Ok.ensures.binds)

pub returns-in-Err-Failed-clause-tried : goal.returns-in-Err-Failed-clause-tried
returns-in-Err-Failed-clause-tried g c = inl (c.create.ensures.kept_bound ∙ c.in-Ok.ensures.binds)

pub returns-in-Err-OutOfMemory-clause-tried : goal.returns-in-Err-OutOfMemory-clause-tried
returns-in-Err-OutOfMemory-clause-tried g c = inl (c.create.ensures.kept_bound ∙ c.in-Ok.ensures.binds)
