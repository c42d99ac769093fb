use Rattle.std.proofs.Common.{◌∙◌}
use Rattle.std.specs.List.{list_any}
use Rattle.sg_protocol.specs.Broken.{same_note}
use Rattle.sg_certify.proofs.TaggedLaws.{any_kept}
use Rattle.sg_certify.proofs.tagged_texts.TaggedTexts.has.Goals as goal

pub returns : goal.returns
returns c = c.contains.ensures ∙ any_kept c.kept.result c.self.inside.notes.keys ∙ (λ i. list_any (same_note (c.kept.ensures i)) (c.self.view_is i))
