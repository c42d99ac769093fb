use Rattle.std.proofs.Common.{◌≡◌, length, sym, subst, ap, ◌∙◌}
use Rattle.sg_parse.specs.Parts.{IsPart}
use Rattle.sg_compose.proofs.Steps.{part-there}
use Rattle.sg_compose.proofs.expansion.expand_all.Goals as goal

pub expand_part-requires : goal.expand_part-requires
expand_part-requires c =
    let count : length c.as_slice.result.now ≡ c.loop-part.part-index = ap length c.as_slice.ensures ∙ c.loop-part.invariant.count in
    subst (λ n. IsPart n c.part-item.result) (sym count) (part-there c.args.parts.now c.loop-part.part-index c.part-item.result c.requires c.loop-part-test.true c.part-item.is)
