-- What a command on one file does is what its file asks for: one ending, and always one, unless the outside fails.
use Rattle.std.specs.Prelude.{◌≡◌, ◌≢◌, ℕ, Bool, true, false, List, Some}
use Rattle.sg_base.specs.Outside.{FileFaults}
use Rattle.sg_compile.specs.Laws.{Surely}
use Rattle.sg_compile.specs.declared.check.CompileFault.TheVariants.{OutOfMemory}
use Rattle.sg_ending.specs.Ending.{Ending, Written, GraphRefused, FileFailed, WriteFailed, NoMemory}
use Rattle.sg_ending.specs.Files.{OnFile}
use Rattle.sg_ending.specs.Output.{Output}

-- the ending is the outside's: a file failed, or memory ran out
abbrev pub is_of_outside : Ending → Bool
is_of_outside (FileFailed file) = true
is_of_outside NoMemory = true
is_of_outside ending = false

-- what is asked for, if it ends so: that the text is written, also if a write failed; and of a graph that is refused, which one it is
abbrev pub asked : Ending → Ending
asked WriteFailed = Written
asked (GraphRefused g fault) = GraphRefused g OutOfMemory
asked ending = ending

-- Whatever the outside does, the same files ask for the same ending
abbrev pub EndsOnce : (Does : List ℕ → (old new : Output) → Ending → Type 0) → (most : ℕ) → Type 0
EndsOnce Does most = (files : List (List ℕ × List ℕ)) (file : List ℕ) (m m' n n' : FileFaults) (a a' b b' : Output) (x y : Ending)
    → OnFile Does most file (Some files) m m' a a' x → OnFile Does most file (Some files) n n' b b' y
    → is_of_outside x ≡ false → is_of_outside y ≡ false → asked x ≡ asked y

-- files can ask for this ending: it is neither the outside's nor that of a failed write
abbrev pub IsAsked : Ending → Type 0
IsAsked ending = (is_of_outside ending ≡ false) × (ending ≢ WriteFailed)

-- a command may end so that files ask for it: it can't be that no such ending applies
abbrev pub SomeEnding : (Ends : (new : Output) → Ending → Type 0) → Type 0
SomeEnding Ends = Surely ((new : Output) × (ending : Ending) × IsAsked ending × Ends new ending)

-- Whatever files hold, a command on one file may end without the outside's failing
abbrev pub EndsAlways : (Does : List ℕ → (old new : Output) → Ending → Type 0) → (most : ℕ) → Type 0
EndsAlways Does most = (files : List (List ℕ × List ℕ)) (file : List ℕ) (n : FileFaults) (old : Output) → SomeEnding (λ new ending. OnFile Does most file (Some files) n n old new ending)
