-- What a crash may leave of a ledger.
use Rattle.std.specs.Prelude.{◌⊎◌, ℕ, List}
use Rattle.sg_ledger.specs.Format.{Join, Represents}

-- each image, what a crash may leave of the disk, represents these joins
abbrev pub AllRepresent : (may_leave : List ℕ → Type 0) → List Join → Type 0
AllRepresent may_leave joins = (image : List ℕ) → may_leave image → Represents image joins

-- a file represents the joins from before a call, or those from after it
abbrev pub RepresentsEither : (before after : List Join) → (image : List ℕ) → Type 0
RepresentsEither before after image = Represents image before ⊎ Represents image after
