use Rattle.std.proofs.Common.{◌∙◌, ◌∷◌, false, ap, arith, take, drop}
use Rattle.sg_audit.specs.Reading.{part_end}
use Rattle.sg_audit.proofs.Parts.{first_part, behind_none, behind_some}
use Rattle.sg_audit.proofs.step.split_part.Goals as goal

pub returns-in-empty-clause-split : goal.returns-in-empty-clause-split
returns-in-empty-clause-split c =
    rw (c.split_at.ensures.front, c.part_end.ensures.index)
    (first_part false c.args.bytes.now ∙ ap (λ ws. take (part_end false c.args.bytes.now) c.args.bytes.now ∷ ws) (behind_none (drop (part_end false c.args.bytes.now) c.args.bytes.now) (let h = rw (c.split_at.ensures.back, c.part_end.ensures.index) at c.in-empty.len_below in omega (arith, h))))

pub returns-in-len1-up-clause-split : goal.returns-in-len1-up-clause-split
returns-in-len1-up-clause-split c =
    rw (c.split_at.ensures.front, c.split_at.ensures.back, c.part_end.ensures.index)
    (first_part false c.args.bytes.now ∙ ap (λ ws. take (part_end false c.args.bytes.now) c.args.bytes.now ∷ ws) (behind_some (drop (part_end false c.args.bytes.now) c.args.bytes.now) (rw (c.split_at.ensures.back, c.part_end.ensures.index) at c.in-len1-up.len_at_least)))
