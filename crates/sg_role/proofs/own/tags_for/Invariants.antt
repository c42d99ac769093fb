use Rattle.std.proofs.Common.{◌≡◌, ◌++◌, map, take}
use Rattle.sg_protocol.specs.Notes.{note_of}
use Rattle.sg_protocol.specs.Sending.{tag_for}
use Rattle.sg_protocol.specs.Session.{principal}
use Rattle.sg_protocol.specs.Texts.{real}
use Rattle.sg_role.specs.Model.{state_of}
use Rattle.sg_role.specs.Stepping.{own_text}
use Rattle.sg_role.proofs.own.tags_for.Given as goal

abbrev pub invariant-loop-at : goal.invariant-loop-at
invariant-loop-at l = (l.tags.items ≡ map (λ t. (t, tag_for real l.keys l.kept.cast t (own_text (state_of l.kept).held l.label l.commitments t))) (take l.at l.targets))
    × (l.notes ≡ record (l.initial.notes) { made = l.initial.notes.made ++ map (λ t. note_of l.keys.me (principal l.kept.cast t) (own_text (state_of l.kept).held l.label l.commitments t)) (take l.at l.targets) })
