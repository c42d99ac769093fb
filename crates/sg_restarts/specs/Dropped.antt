-- What restarts drop.
use Rattle.std.specs.Prelude.{ℕ, ◌<◌, ◌+◌, ◌⊎◌, ◌↔◌, List, [], ◌∷◌, ◌++◌, map, length, All, Contains}
use Rattle.sg_model.specs.Names.{Name}
use Rattle.sg_protocol.specs.Frame.{Cast}
use Rattle.sg_protocol.specs.Texts.{Hash}
use Rattle.sg_protocol.specs.Keyring.{Program}
use Rattle.sg_protocol.specs.Session.{principal}
use Rattle.sg_protocol.specs.Calls.{Abandon, Abandoned}
use Rattle.sg_protocol.specs.Schedule.{Schedule}
use Rattle.sg_protocol.specs.World.{World, new_world}
use Rattle.sg_protocol.specs.Run.{world_after, run}
use Rattle.sg_protocol.specs.IsSchedule.{AreCompiled, IsSchedule}
use Rattle.sg_protocol.specs.Completeness.{HadAnswer}
use Rattle.sg_protocol.specs.Restarts.{StepOrRestart, Stepped, Restarted, live_of, world_restarted, run_with_restarts, IsStepOrRestart, without_restarts}

-- what restarts drop, from a world on: each principal that restarts, with the sid of each session that is live then
abbrev pub drops : Hash → Schedule → World → ℕ → List StepOrRestart → List (Name × List ℕ)
drops sha s w k [] = []
drops sha s w k (Stepped x ∷ xs) = drops sha s (world_after sha s w k x) (k + 1) xs
drops sha s w k (Restarted who ∷ xs) = map (λ x. (who, x.sid)) (live_of w who) ++ drops sha s (world_restarted w who) (k + length (live_of w who)) xs

-- a restart of the principal dropped the session
abbrev pub WasDropped : Hash → List Program → Schedule → List StepOrRestart → Name → List ℕ → Type 0
WasDropped sha programs s xs who sid = Contains (drops sha s (new_world programs s) 1 xs) (who, sid)

-- a restart of a principal of the cast dropped the session
abbrev pub WasDroppedByOne : Hash → List Program → Schedule → List StepOrRestart → Cast → List ℕ → Type 0
WasDroppedByOne sha programs s xs cast sid = (r : ℕ) × (r < length cast.names) × WasDropped sha programs s xs (principal cast r) sid

-- In the run without restarts a principal abandons exactly the sessions that it abandons in the run with them, and those that restarts of its dropped
abbrev pub DropsAreAbandonments : Hash → Type 0
DropsAreAbandonments sha = (programs : List Program) (s : Schedule) (xs : List StepOrRestart) → AreCompiled sha s.graphs programs → IsSchedule sha s → All (IsStepOrRestart sha s) xs → (who : Name) (sid : List ℕ) →
    HadAnswer (run sha programs (without_restarts sha programs s xs)).log who (Abandon sid) Abandoned ↔ (HadAnswer (run_with_restarts sha programs s xs).log who (Abandon sid) Abandoned ⊎ WasDropped sha programs s xs who sid)
