use Rattle.std.proofs.Common.{◌∙◌, ap, map, ◌||◌}
use Rattle.std.specs.List.{list_any}
use Rattle.sg_protocol.specs.Broken.{same_note}
use Rattle.sg_certify.specs.Model.{note_kept}
use Rattle.sg_certify.proofs.TaggedLaws.{any_added}
use Rattle.sg_certify.proofs.tagged_texts.TaggedTexts.add.Goals as goal
use Rattle.sg_certify.proofs.tagged_texts.TaggedTexts.add.Goals.{in-Ok, in-Err}

pub returns : goal.returns
returns c = elim c.match-insert.branch [
  | in-Ok w ↦ rw w.result-is (λ n.
      ap (λ ks. list_any (same_note n) (map note_kept ks)) w.in-Ok.ensures.keys
      ∙ any_added n c.self.inside.notes.keys c.kept.result
      ∙ (λ i. list_any (same_note n) (c.self.view_is i) || same_note n (c.kept.ensures i)))
  | in-Err w ↦ rw w.result-is tt
]
