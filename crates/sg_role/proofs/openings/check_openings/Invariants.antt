use Rattle.std.proofs.Common.{◌≡◌, ◌++◌, drop, map}
use Rattle.sg_protocol.specs.Texts.{commitment_text_of}
use Rattle.sg_role.specs.Looking.{opening_row, hashed_from, KeepsNotes}
use Rattle.sg_role.proofs.openings.check_openings.Given as goal

abbrev pub invariant-loop-at : goal.invariant-loop-at
invariant-loop-at l =
    (opening_row l.graph l.sid l.commitments l.openings ≡ opening_row l.graph l.sid l.commitments (drop l.at l.openings))
    × (l.notes.hashed ++ map (commitment_text_of l.sid) (hashed_from l.graph l.sid l.commitments (drop l.at l.openings)) ≡ l.initial.notes.hashed ++ map (commitment_text_of l.sid) (hashed_from l.graph l.sid l.commitments l.openings))
    × (l.notes.made ≡ l.initial.notes.made) × (l.notes.found ≡ l.initial.notes.found) × KeepsNotes l.initial.notes l.notes
