-- What the calls of a disk in memory do to its images.
use Rattle.std.proofs.Common.{◌≡◌, ◌⊎◌, inl, inr, ⊎_elim, ℕ, ◌≤◌, List, [], ◌∷◌, ◌++◌, length, take, refl, sym, ◌∙◌, ap, subst, arith}
use Rattle.std.proofs.lemmas.List.{take_all}
use Rattle.sg_ledger.specs.Disk.{overlaid, Torn, Follows}
use Rattle.sg_ledger.specs.Memory.{Platter, after_call, Leaves, IsImage}
use Rattle.sg_ledger.specs.declared.medium.DiskCall.TheVariants.{Kept, Wrote, Tore, Synced}
use Rattle.sg_ledger.proofs.Tears.{torn_not, torn_whole}

-- the last of the torn writes
leaves_last : (from : List ℕ) (tears : List (ℕ × ℕ)) (at count : ℕ) (image : List ℕ) → Leaves from (tears ++ (at, count) ∷ []) image
    → (mid : List ℕ) × Leaves from tears mid × Torn at count mid image
leaves_last from [] at count image left = (from, refl, subst (Torn at count from) (sym left.2) left.1)
leaves_last from (tear ∷ tears) at count image left =
    let rest = leaves_last left.0 tears at count image left.2 in
    (rest.0, (left.0, left.1, rest.1), rest.2)

-- a write makes torn images of the images
pub wrote_follows : (p : Platter) (at : ℕ) (bytes : List ℕ) → at ≤ length p.seen
    → Follows (Torn at (length bytes)) (IsImage p) (IsImage (after_call p (Wrote at (length bytes)) bytes))
wrote_follows p at bytes begins image (inl is) =
    (p.seen, inl refl, subst (Torn at (length bytes) p.seen) (sym (is ∙ ap (overlaid p.seen at) (take_all (length bytes) bytes (omega arith)))) (torn_whole p.seen at bytes begins))
wrote_follows p at bytes begins image (inr left) =
    let last = leaves_last p.synced p.tears at (length bytes) image left in
    (last.0, inr last.1, last.2)

-- and so does one that fails
pub tore_follows : (p : Platter) (at count : ℕ) → Follows (Torn at count) (IsImage p) (IsImage (after_call p (Tore at count) []))
tore_follows p at count image (inl is) = (p.seen, inl refl, subst (Torn at count p.seen) (sym is) (torn_not at count p.seen))
tore_follows p at count image (inr left) =
    let last = leaves_last p.synced p.tears at count image left in
    (last.0, inr last.1, last.2)
