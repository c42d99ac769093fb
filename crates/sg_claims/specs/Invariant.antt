-- What different labels keep true.
use Rattle.std.specs.Prelude.{◌≡◌, ℕ, Bool, false, List, length, get_or, IsTrue}
use Rattle.sg_model.specs.Lists.{is_in}
use Rattle.sg_claims.specs.Labels.{are_once}

-- the labels differ, and the table says which are there
pub record HoldsLabels (labels : List ℕ) (table : List Bool) : Type 0 where
  pub once : IsTrue (are_once labels)
  pub size : length table ≡ 512
  pub entries : (l : ℕ) → get_or table l false ≡ is_in l labels
