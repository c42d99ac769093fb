-- What the program leaves, and how it says why it ends.
use Rattle.std.specs.Prelude.{◌≡◌, ℕ, ◌⊎◌, true, false, List, Option, Some, None}
use Rattle.sg_model.specs.Limits.{most_graph_file, most_logs_file, most_schedule_file}
use Rattle.sg_args.specs.Command.{Command, Check, Compile, Run, Replay, Drive, Ledger, Keep, Stream, Audit, Compose, Suggest, Claims, Serve, command_of}
use Rattle.sg_ending.specs.Ending.{Ending, NoCommand, NoMemory}
use Rattle.sg_ending.specs.Files.{OnFile}
use Rattle.sg_ending.specs.Output.{Output}
use Rattle.sg_ending.specs.Says.{Says}
use Rattle.sg_design.specs.Claimed.{DecidesClaims, Suggests}
use Rattle.sg_design.specs.Ends.{Checks, Compiles, Composes}
use Rattle.sg_replay.specs.Ends.{Replays, Drives, Audits}
use Rattle.sg_principal.specs.Ledgers.{CanHaveKept, KeepsRun, Makes}
use Rattle.sg_principal.specs.Outside.{IsKept}
use Rattle.sg_principal.specs.Runs.{CanHavePlayed, Runs}
use Rattle.sg_principal.specs.Serves.{CanHaveServed, ServesRun}
use Rattle.sg_top.specs.Outside.{Objects, Outside, Reported, Reports, application, over_link, over_stream, reported}

-- ---- what is done

-- what is done with a file of at most `most` bytes ends so
abbrev pub OnNamed : (List ℕ → (old new : Output) → Ending → Type 0) → (most : ℕ) → (file : List ℕ) → (old new : Reported) → Ending → Type 0
OnNamed Does most file old new ending = OnFile Does most file (old.files).held (old.files).faults (new.files).faults old.out new.out ending

-- the work that a command asks for ends so; what the command isn't about is untouched, as `untouched_by` says
abbrev pub Works : Option Command → (old new : Reported) → Ending → Type 0
Works None old new ending = ending ≡ NoCommand
Works (Some (Check file)) old new ending = OnNamed Checks most_graph_file file old new ending
Works (Some (Compile file role)) old new ending = OnNamed (Compiles role) most_graph_file file old new ending
Works (Some (Run keys script most programs)) old new ending = Runs (record { keys = keys; programs = programs; script = script }) most old.files new.files (over_link old) (over_link new) ending
Works (Some (Replay file)) old new ending = OnNamed Replays most_schedule_file file old new ending
Works (Some (Drive seed sessions file)) old new ending = OnNamed (Drives seed sessions) most_graph_file file old new ending
Works (Some (Ledger file)) old new ending = Makes file old.out new.out old.disk new.disk ending
Works (Some (Keep file keys script most programs)) old new ending = KeepsRun file (record { keys = keys; programs = programs; script = script }) most old.files new.files (over_link old) (over_link new) old.disk new.disk ending
Works (Some (Stream keys script most programs)) old new ending = Runs (record { keys = keys; programs = programs; script = script }) most old.files new.files (over_stream old) (over_stream new) ending
Works (Some (Audit file)) old new ending = OnNamed Audits most_logs_file file old new ending
Works (Some (Compose file)) old new ending = OnNamed Composes most_graph_file file old new ending
Works (Some (Suggest file)) old new ending = OnNamed Suggests most_graph_file file old new ending
Works (Some (Claims graph claims)) old new ending = DecidesClaims graph claims (old.files).held (old.files).faults (new.files).faults old.out new.out ending
Works (Some (Serve over_tcp ledger keys programs)) old new ending = ServesRun (record { keys = keys; programs = programs; ledger = ledger }) old.files new.files (application over_tcp old) (application over_tcp new) old.disk new.disk ending

-- the work that the arguments ask for ends so, or memory ran out before they were read, and nothing is touched
abbrev pub Does : {F O L R D S P I : Type 0} → Reports F O L R D S P I → (args : List (List ℕ)) → (old new : Objects F O L R D S P I) → Ending → Type 0
Does reports args old new ending = Works (command_of args) (reported reports old) (reported reports new) ending ⊎ ((new ≡ old) × (ending ≡ NoMemory))

-- ---- what is untouched

-- the objects of before, but for those that a command is about: the files if it reads some, standard output, the link that it is over with the random bytes, a ledger's disk, and standard input if it serves
abbrev pub untouched_by : {F O L R D S P I : Type 0} → Option Command → (old new : Objects F O L R D S P I) → Objects F O L R D S P I
untouched_by None old new = old
untouched_by (Some (Check file)) old new = record old { files = new.files; out = new.out }
untouched_by (Some (Compile file role)) old new = record old { files = new.files; out = new.out }
untouched_by (Some (Run keys script most programs)) old new = record old { files = new.files; out = new.out; link = new.link; fresh = new.fresh }
untouched_by (Some (Replay file)) old new = record old { files = new.files; out = new.out }
untouched_by (Some (Drive seed sessions file)) old new = record old { files = new.files; out = new.out }
untouched_by (Some (Ledger file)) old new = record old { out = new.out; disk = new.disk }
untouched_by (Some (Keep file keys script most programs)) old new = record old { files = new.files; out = new.out; link = new.link; fresh = new.fresh; disk = new.disk }
untouched_by (Some (Stream keys script most programs)) old new = record old { files = new.files; out = new.out; stream = new.stream; fresh = new.fresh }
untouched_by (Some (Audit file)) old new = record old { files = new.files; out = new.out }
untouched_by (Some (Compose file)) old new = record old { files = new.files; out = new.out }
untouched_by (Some (Suggest file)) old new = record old { files = new.files; out = new.out }
untouched_by (Some (Claims graph claims)) old new = record old { files = new.files; out = new.out }
untouched_by (Some (Serve false None keys programs)) old new = record old { files = new.files; out = new.out; link = new.link; fresh = new.fresh; input = new.input }
untouched_by (Some (Serve false (Some file) keys programs)) old new = record old { files = new.files; out = new.out; link = new.link; fresh = new.fresh; input = new.input; disk = new.disk }
untouched_by (Some (Serve true None keys programs)) old new = record old { files = new.files; out = new.out; port = new.port; fresh = new.fresh; input = new.input }
untouched_by (Some (Serve true (Some file) keys programs)) old new = record old { files = new.files; out = new.out; port = new.port; fresh = new.fresh; input = new.input; disk = new.disk }

-- the objects of before, but for files, standard output and a ledger's disk: nothing was asked of a link, of the random bytes or of the input
abbrev pub unplayed : {F O L R D S P I : Type 0} → (old new : Objects F O L R D S P I) → Objects F O L R D S P I
unplayed old new = record old { files = new.files; out = new.out; disk = new.disk }

-- one of the statuses of a run that may have played
abbrev pub IsOfPlay : ℕ → Type 0
IsOfPlay status = (status ≡ 0) ⊎ (status ≡ 6) ⊎ (status ≡ 7) ⊎ (status ≡ 8)

-- or of one over a ledger
abbrev pub IsOfKeep : ℕ → Type 0
IsOfKeep status = IsOfPlay status ⊎ (status ≡ 11)

-- or of one for an application
abbrev pub IsOfServe : ℕ → Type 0
IsOfServe status = IsOfKeep status ⊎ (status ≡ 14)

-- the work of a command that ends so may have played
abbrev pub HasPlayed : Option Command → Ending → Type 0
HasPlayed (Some (Run keys script most programs)) ending = CanHavePlayed ending
HasPlayed (Some (Keep file keys script most programs)) ending = CanHaveKept ending
HasPlayed (Some (Stream keys script most programs)) ending = CanHavePlayed ending
HasPlayed (Some (Serve over_tcp ledger keys programs)) ending = CanHaveServed ending
HasPlayed other ending = ⊥

-- a command that ends with this status may have played
abbrev pub PlaysWith : Option Command → (status : ℕ) → Type 0
PlaysWith (Some (Run keys script most programs)) status = IsOfPlay status
PlaysWith (Some (Keep file keys script most programs)) status = IsOfKeep status
PlaysWith (Some (Stream keys script most programs)) status = IsOfPlay status
PlaysWith (Some (Serve over_tcp ledger keys programs)) status = IsOfServe status
PlaysWith other status = ⊥

-- a run may have begun to play: the arguments ask for one, and the status is 0, 6, 7 or 8, over a ledger or for an application 11 too, and for an application 14
abbrev pub MayPlay : (args : List (List ℕ)) → (status : ℕ) → Type 0
MayPlay args status = PlaysWith (command_of args) status

-- ---- all of it

-- the program ended with this status: its work ended in some way, and so it says. No command changes the files; if no run began, nothing was asked of a link, of the random bytes or of the input; and what the arguments aren't about is untouched
pub record Ends {F O E L R D S P I : Type 0} (reports : Reports F O L R D S P I) (err : E → Output) (args : List (List ℕ)) (old new : Outside F O E L R D S P I) (status : ℕ) : Type 0 where
  pub work : Ending
  pub does : Does reports args old.objects new.objects work
  pub says : Says work (err old.err) (err new.err) status
  pub kept : IsKept (reports.files (old.objects).files) (reports.files (new.objects).files)
  pub as_before : MayPlay args status ⊎ (new.objects ≡ unplayed old.objects new.objects)
  pub untouched : new.objects ≡ untouched_by (command_of args) old.objects new.objects
