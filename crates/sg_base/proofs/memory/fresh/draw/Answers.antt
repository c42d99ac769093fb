use Rattle.std.proofs.Common.{ap, ◌∙◌}
use Rattle.sg_base.proofs.Seeded.{next_four}
use Rattle.sg_base.proofs.memory.fresh.draw.Goals as goal

pub returns-clause-drawn : goal.returns-clause-drawn
returns-clause-drawn c = ap (λ p. p.0) (c.fill_bytes_via_u32.ensures ∙ next_four _ c.requires)

pub returns-clause-position : goal.returns-clause-position
returns-clause-position c = ap (λ p. p.1) (c.fill_bytes_via_u32.ensures ∙ next_four _ c.requires)
