-- What is done with a file is the work of the command that asks for it.
use Rattle.std.proofs.Common.{ℕ, List, Some}
use Rattle.sg_ending.specs.Ending.{Ending}
use Rattle.sg_ending.specs.Files.{OnFile}
use Rattle.sg_top.specs.File.{asking, done, most_of}
use Rattle.sg_top.specs.Outside.{Reported}
use Rattle.sg_top.specs.Top.{Works}
use Rattle.sg_top.specs.declared.file.Task.{Task}
use Rattle.sg_top.specs.declared.file.Task.TheVariants as Of

-- by cases of what is done
pub works_on_file : (task : Task) (file : List ℕ) (old new : Reported) (ending : Ending)
    → OnFile (done task) (most_of task) file (old.files).held (old.files).faults (new.files).faults old.out new.out ending → Works (Some (asking task file)) old new ending
works_on_file Of.Check file old new ending h = h
works_on_file (Of.Compile role) file old new ending h = h
works_on_file Of.Replay file old new ending h = h
works_on_file (Of.Drive seed sessions) file old new ending h = h
works_on_file Of.Audit file old new ending h = h
works_on_file Of.Compose file old new ending h = h
works_on_file Of.Suggest file old new ending h = h
