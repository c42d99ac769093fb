-- A name with which a line ends.
use Rattle.std.proofs.Common.{◌≡◌, ◌==◌, length, refl, inl, inr}
use Rattle.std.specs.Prelude.{Option, Some, None, option_map, option_and_then}
use Rattle.std.proofs.lemmas.Bool.{cases_Bool}
use Rattle.sg_model.specs.Names.{Name}
use Rattle.sg_sched.specs.Format.Reading.{WordsLeft, ended}

-- what is said of the name is said if the line ends
pub said : {A : Type 0} (f : Name → A) (o : Option (Name × WordsLeft))
    → option_map f (option_and_then (λ (p : Name × WordsLeft). ended (Some p.0) p.1) o) ≡ option_and_then (λ (p : Name × WordsLeft). ended (Some (f p.0)) p.1) o
said f None = refl
said f (Some (n, ws)) = elim (cases_Bool (length ws == 0)) [ inl y ↦ rw y refl | inr z ↦ rw z refl ]
