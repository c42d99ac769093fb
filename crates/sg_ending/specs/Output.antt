-- What is written to, and what is left of it if a text is written.
use Rattle.std.specs.Prelude.{◌≡◌, ℕ, List, Option}
use Rattle.sg_base.specs.Outside.{HasRisen, Appends, AppendsPrefix}
use Rattle.sg_ending.specs.Ending.{Ending, Written, WriteFailed}

-- what is written to: its bytes, if they are known, and its count of faults
pub record Output : Type 0 where
  pub bytes : Option (List ℕ)
  pub faults : ℕ

-- the text is written whole, and no write failed, or a prefix of it if one did, which the count of faults shows
abbrev pub Writes : (old new : Output) → List ℕ → Ending → Type 0
Writes old new text Written = Appends old.bytes new.bytes text × (new.faults ≡ old.faults)
Writes old new text WriteFailed = AppendsPrefix old.bytes new.bytes text × HasRisen old.faults new.faults
Writes old new text ending = ⊥
