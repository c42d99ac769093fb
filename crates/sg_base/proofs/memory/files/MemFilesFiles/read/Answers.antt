use Rattle.sg_base.proofs.memory.files.MemFilesFiles.read.Goals as goal
use Rattle.sg_base.proofs.memory.files.MemFilesFiles.read.Goals.{in-Ok, in-Err}

pub returns-clause-whole : goal.returns-clause-whole
returns-clause-whole c =
    elim c.match-copied.branch [
      | in-Ok w ↦ rw w.result-is (rw (w.in-Ok.ensures, ← c.self.view_is) (cc (c.in-Some.ensures, c.deref.ensures.value)))
      | in-Err w ↦ rw w.result-is tt
    ]
