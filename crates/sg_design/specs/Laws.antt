-- What the command `claims` does is what its two files ask for: one ending, and always one, unless the outside fails.
use Rattle.std.specs.Prelude.{◌≡◌, ℕ, ◌⊎◌, false, List, Some}
use Rattle.sg_base.specs.Outside.{FileFaults}
use Rattle.sg_ending.specs.Ending.{Ending, ClaimFails, WriteFailed}
use Rattle.sg_ending.specs.Laws.{SomeEnding, asked, is_of_outside}
use Rattle.sg_ending.specs.Output.{Output}
use Rattle.sg_design.specs.Claimed.{DecidesClaims}

-- one of the same answers wasn't written whole, and by the other a claim fails
abbrev pub IsCutOff : (cut whole : Ending) → Type 0
IsCutOff cut whole = (cut ≡ WriteFailed) × (whole ≡ ClaimFails)

-- Whatever the outside does, the same files ask for the same ending
abbrev pub ClaimsEndOnce : Type 0
ClaimsEndOnce = (files : List (List ℕ × List ℕ)) (graph claims : List ℕ) (m m' n n' : FileFaults) (a a' b b' : Output) (x y : Ending)
    → DecidesClaims graph claims (Some files) m m' a a' x → DecidesClaims graph claims (Some files) n n' b b' y
    → is_of_outside x ≡ false → is_of_outside y ≡ false → (asked x ≡ asked y) ⊎ IsCutOff x y ⊎ IsCutOff y x

-- Whatever the files hold, `claims` may end without the outside's failing
abbrev pub ClaimsEndAlways : Type 0
ClaimsEndAlways = (files : List (List ℕ × List ℕ)) (graph claims : List ℕ) (n : FileFaults) (old : Output) → SomeEnding (λ new ending. DecidesClaims graph claims (Some files) n n old new ending)
