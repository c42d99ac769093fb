-- A name that is not in a set goes last.
use Rattle.std.proofs.Common.{◌≡◌, ℕ, false, List, [], ◌∷◌, ◌++◌, ap, ◌∙◌, if◌then◌else◌}
use Rattle.std.specs.List.{list_any}
use Rattle.indexmap.specs.IndexSet.{insert_key}
use Rattle.sg_base.proofs.SameName.{same, any_same}
use Rattle.sg_model.specs.Lists.{has_text}

pub insert_new : (names : List (List ℕ)) (a : List ℕ) → has_text a names ≡ false → insert_key same names a ≡ names ++ a ∷ []
insert_new names a absent =
    let e : list_any (same a) names ≡ false = any_same a names ∙ absent in
    ap (λ b. if b then names else names ++ a ∷ []) e
