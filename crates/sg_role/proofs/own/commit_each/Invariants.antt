use Rattle.std.proofs.Common.{◌≡◌, ◌++◌, take, map}
use Rattle.sg_protocol.specs.Texts.{commitment_text_of}
use Rattle.sg_role.specs.Stepping.{delta_of}
use Rattle.sg_role.proofs.own.commit_each.Given as goal

abbrev pub invariant-loop-at : goal.invariant-loop-at
invariant-loop-at l = (l.delta.items ≡ delta_of l.sid (take l.at l.written)) × (l.notes ≡ record (l.initial.notes) { hashed = l.initial.notes.hashed ++ map (commitment_text_of l.sid) (take l.at l.written) })
