use Rattle.std.proofs.Common.{◌≡◌, find, take, None}
use Rattle.sg_certify.specs.Forged.{is_unmade}
use Rattle.sg_certify.proofs.forged.first_unmade.Given as goal

abbrev pub invariant-loop-note : goal.invariant-loop-note
invariant-loop-note g l = find (is_unmade (g.H.Honest.names l.honest) l.made) (take l.note-index l.found) ≡ None
