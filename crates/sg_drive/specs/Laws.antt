-- What holds of every generated run.
use Rattle.std.specs.Prelude.{◌≡◌, ℕ, ◌≤◌, ◌*◌, List, [], ◌∷◌, length}
use Rattle.sg_model.specs.Limits.{most_driven}
use Rattle.sg_protocol.specs.Graph.{Graph}
use Rattle.sg_protocol.specs.IsSchedule.{AreCompiled}
use Rattle.sg_protocol.specs.Keyring.{Program}
use Rattle.sg_protocol.specs.Texts.{real}
use Rattle.sg_drive.specs.Generated.{Generated}
use Rattle.sg_drive.specs.Going.{Going}

-- There is one generated run for a seed, a number of sessions and a graph
abbrev pub GeneratedIsOne : Type 0
GeneratedIsOne = (seed sessions : ℕ) (g : Graph) (programs : List Program) (x y : Going) → Generated seed sessions g programs x → Generated seed sessions g programs y → x ≡ y

-- The generator ends
abbrev pub GeneratorEnds : Type 0
GeneratorEnds = (seed sessions : ℕ) (g : Graph) (programs : List Program) → AreCompiled real (g ∷ []) programs → 2 ≤ length g.roles → sessions ≤ most_driven → (x : Going) × Generated seed sessions g programs x

-- A generated run has at most 82 steps for each session: its start, sixteen frames that are sent and delivered up to four times each, and the end of it
abbrev pub GeneratedAreShort : Type 0
GeneratedAreShort = (seed sessions : ℕ) (g : Graph) (programs : List Program) (x : Going) → AreCompiled real (g ∷ []) programs → 2 ≤ length g.roles → sessions ≤ most_driven → Generated seed sessions g programs x → length x.replay.schedule.steps ≤ 82 * sessions
