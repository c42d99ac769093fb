-- The derived `==` of keys with a role compares their parts.
use Rattle.std.proofs.Common.{◌≡◌, ℕ, List, refl}
use Rattle.sg_program.specs.Together.{is_key}
use Rattle.sg_program.specs.contracts.programs.ProgramKeyPartialEq.TheImpl.{eq-value as same_key}

pub same_key_is : (d : List ℕ) (r : ℕ) → same_key.it (record { digest = d; role = r }) ≡ is_key d r
same_key_is d r = refl
