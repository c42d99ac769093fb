-- What is done with one file.
use Rattle.std.specs.Prelude.{ℕ, ◌≤◌, List, ⊤}
use Rattle.sg_model.specs.Limits.{most_driven, most_graph_file, most_logs_file, most_schedule_file}
use Rattle.sg_args.specs.Command as Asked
use Rattle.sg_ending.specs.Ending.{Ending}
use Rattle.sg_ending.specs.Output.{Output}
use Rattle.sg_design.specs.Claimed.{Suggests}
use Rattle.sg_design.specs.Ends.{Checks, Compiles, Composes}
use Rattle.sg_replay.specs.Ends.{Audits, Drives, Replays}
use Rattle.sg_top.specs.declared.file.Task.{Task}
use Rattle.sg_top.specs.declared.file.Task.TheVariants.{Check, Compile, Replay, Drive, Audit, Compose, Suggest}

-- what is done with its bytes
abbrev pub done : Task → List ℕ → (old new : Output) → Ending → Type 0
done Check = Checks
done (Compile role) = Compiles role.now
done Replay = Replays
done (Drive seed sessions) = Drives seed sessions
done Audit = Audits
done Compose = Composes
done Suggest = Suggests

-- it has at most so many bytes
abbrev pub most_of : Task → ℕ
most_of Replay = most_schedule_file
most_of Audit = most_logs_file
most_of task = most_graph_file

-- a run is driven in 1 to 2,000 sessions
abbrev pub CanBeDone : Task → Type 0
CanBeDone (Drive seed sessions) = (1 ≤ sessions) × (sessions ≤ most_driven)
CanBeDone task = ⊤

-- the command that asks for it, on this file
abbrev pub asking : Task → (file : List ℕ) → Asked.Command
asking Check file = Asked.Check file
asking (Compile role) file = Asked.Compile file role.now
asking Replay file = Asked.Replay file
asking (Drive seed sessions) file = Asked.Drive seed sessions file
asking Audit file = Asked.Audit file
asking Compose file = Asked.Compose file
asking Suggest file = Asked.Suggest file

-- a command is about more than one file
abbrev pub IsAboutMore : Asked.Command → Type 0
IsAboutMore (Asked.Run keys script deliveries programs) = ⊤
IsAboutMore (Asked.Keep file keys script deliveries programs) = ⊤
IsAboutMore (Asked.Stream keys script deliveries programs) = ⊤
IsAboutMore (Asked.Serve over_tcp ledger keys programs) = ⊤
IsAboutMore (Asked.Ledger file) = ⊤
IsAboutMore (Asked.Claims graph claims) = ⊤
IsAboutMore command = ⊥
