use Rattle.std.proofs.Common.{◌≡◌, ◌++◌, take}
use Rattle.std.specs.List.{list_any}
use Rattle.sg_protocol.specs.Broken.{same_note}
use Rattle.sg_protocol.specs.Notes.{Note}
use Rattle.sg_certify.proofs.forged.add_all.Given as goal

abbrev pub invariant-loop-note : goal.invariant-loop-note
invariant-loop-note l = (n : Note) → list_any (same_note n) l.made ≡ list_any (same_note n) (l.initial.made ++ take l.note-index l.notes)
