-- Which setup the files hold, or why they hold none, is theirs to say: one answer, and always one, unless the outside fails.
use Rattle.std.specs.Prelude.{◌≡◌, ◌⊎◌, ℕ, false, List, Some}
use Rattle.sg_base.specs.Outside.{FileFaults}
use Rattle.sg_compile.specs.Laws.{Surely}
use Rattle.sg_ending.specs.Ending.{Ending}
use Rattle.sg_ending.specs.Laws.{IsAsked, asked, is_of_outside}
use Rattle.sg_setup.specs.Setup.{RunFiles, HasPrincipal, HasSetup, LacksPrincipal, LacksSetup}

-- there is one such thing, or there is none for one cause, unless the outside fails
pub record OneOrNone {A : Type 0} (Has : A → Type 0) (Lacks : (faults faults' : FileFaults) → Ending → Type 0) : Type 0 where
  pub one : (a b : A) → Has a → Has b → a ≡ b
  pub apart : (a : A) (m m' : FileFaults) (e : Ending) → Has a → Lacks m m' e → is_of_outside e ≡ false → ⊥
  pub cause : (m m' n n' : FileFaults) (d e : Ending) → Lacks m m' d → Lacks n n' e → is_of_outside d ≡ false → is_of_outside e ≡ false → asked d ≡ asked e

-- The same files hold one principal, or none for one cause
abbrev pub PrincipalsAreOne : Type 0
PrincipalsAreOne = (files : List (List ℕ × List ℕ)) (keys : List ℕ) (programs : List (List ℕ)) → OneOrNone (HasPrincipal (Some files) keys programs) (λ m m' e. LacksPrincipal (Some files) m m' keys programs e)

-- The same files hold one setup, or none for one cause
abbrev pub SetupsAreOne : Type 0
SetupsAreOne = (files : List (List ℕ × List ℕ)) (named : RunFiles) → OneOrNone (HasSetup (Some files) named) (λ m m' e. LacksSetup (Some files) m m' named e)

-- there is such a thing, or there is none for a cause that isn't the outside's: it can't be that neither is so
abbrev pub SomeOrNone : {A : Type 0} (Has : A → Type 0) (Lacks : (faults faults' : FileFaults) → Ending → Type 0) → Type 0
SomeOrNone {A} Has Lacks = (n : FileFaults) → Surely (((a : A) × Has a) ⊎ ((ending : Ending) × IsAsked ending × Lacks n n ending))

-- Files hold a principal, or there is a cause for which they hold none
abbrev pub PrincipalsAreThereOrNot : Type 0
PrincipalsAreThereOrNot = (files : List (List ℕ × List ℕ)) (keys : List ℕ) (programs : List (List ℕ)) → SomeOrNone (HasPrincipal (Some files) keys programs) (λ m m' e. LacksPrincipal (Some files) m m' keys programs e)

-- Files hold a setup, or there is a cause for which they hold none
abbrev pub SetupsAreThereOrNot : Type 0
SetupsAreThereOrNot = (files : List (List ℕ × List ℕ)) (named : RunFiles) → SomeOrNone (HasSetup (Some files) named) (λ m m' e. LacksSetup (Some files) m m' named e)
